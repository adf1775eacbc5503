-- Document 01, "Curve, zero and tare": the zeros' bands, the first zeroing and tracking. What a reader must believe.
use Rattle.std.specs.Prelude.{Bool, ◌&&◌, ℕ, ◌*◌, leb, ltb, eqb, pos, nat_abs, ◌+ℤ◌, ◌-ℤ◌}
use Rattle.std.specs.Int.Signed.{lt_z}
use Rattle.cases.specs.Pick.{pick}
use Rattle.weight.specs.declared.Tenths.{Tenths}
use Rattle.weight.specs.declared.Digits.{Digits}
use Rattle.weight.specs.Weight.{as_tenths, less, in_tenths}
use Rattle.weight.specs.Display.{by_tas}

-- |z| is at most p % of NOV, which is 10·NOV in tenths; the percentage is not rounded (reading 15, docs/DECISIONS.md)
unfoldable pub within_share : ℕ → ℕ → Tenths → Bool
within_share p nov z = leb (nat_abs z.0 * 100) (p * (10 * nov))

-- how far from 0 CDL may put its zero, in percent of NOV: 20 where LFT is 0, 2 where it is not
abbrev pub later_share : ℕ → ℕ
later_share lft = pick (eqb lft 0) 20 2

-- CDL's zero, which its band is for: v less z0 (reading 11, docs/DECISIONS.md)
abbrev pub cleared : Tenths → Tenths → Tenths
cleared v z0 = less v z0

-- the first zeroing's share by ZSE: 2, 5, 10, 20 % at 1 to 4
abbrev pub first_share : ℕ → ℕ
first_share zse = pick (eqb zse 0) 0 (pick (eqb zse 1) 2 (pick (eqb zse 2) 5 (pick (eqb zse 3) 10 20)))

-- its zero: v within that share, else 0
unfoldable pub first_zero : ℕ → ℕ → Tenths → Tenths
first_zero zse nov v = pick (within_share (first_share zse) nov v) v (as_tenths (pos 0))

-- the value that is tracked, what is shown but not yet rounded: g, or g less 10·tare where net is shown (reading 16, docs/DECISIONS.md)
abbrev pub tracked_value : ℕ → Tenths → Digits → Tenths
tracked_value tas g tare = by_tas tas (less g (in_tenths tare)) g

-- it is tracked where it is off 0 by less than half a step, that is 5·RSN tenths
unfoldable pub tracks : ℕ → Tenths → Bool
tracks rsn s = ltb 0 (nat_abs s.0) && ltb (nat_abs s.0) (5 * rsn)

-- z1 a tenth higher where that value is above 0, a tenth lower where it is below
unfoldable pub moved : Tenths → Tenths → Tenths
moved z1 s = pick (lt_z (pos 0) s.0) (as_tenths (z1.0 +ℤ pos 1)) (pick (lt_z s.0 (pos 0)) (as_tenths (z1.0 -ℤ pos 1)) z1)

-- neither before the move nor after it is z1 further from 0 than 2 % of NOV (reading 12, docs/DECISIONS.md)
abbrev pub stays : ℕ → Tenths → Tenths → Bool
stays nov z1 z = within_share 2 nov z1 && within_share 2 nov z

unfoldable pub tracked : ℕ → ℕ → Tenths → Tenths → Tenths
tracked rsn nov z1 s = pick (tracks rsn s && stays nov z1 (moved z1 s)) (moved z1 s) z1
