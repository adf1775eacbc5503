-- A hex digit's value, of either case. The raw form of compare/README.md. What a reader must believe.
use Rattle.std.specs.Prelude.{Option, Some, None, ◌&&◌, ℕ, ◌-◌, leb}
use Rattle.cases.specs.Pick.{pick}

abbrev pub hex_of : ℕ → Option ℕ
hex_of b =
    pick (leb 0x30 b && leb b 0x39) (Some (b - 0x30))
    (pick (leb 0x61 b && leb b 0x66) (Some (b - 0x57))
    (pick (leb 0x41 b && leb b 0x46) (Some (b - 0x37))
    None))
