use Rattle.std.proofs.Common.{◌≡◌, refl, arith, Bool, true, false, ℤ}
use Rattle.std.specs.Int.Signed.{lt_z}
use Rattle.cases.specs.Pick.{pick}
use Rattle.whole.specs.Bits.{same_eq}
use Rattle.weight.specs.declared.Digits.{Digits}
use Rattle.weight.specs.declared.Place.TheVariants.{Within, Over, Under}
use Rattle.weight.specs.Display.{place_by, shown_at, as_figure, figure_by, two_of}
use Rattle.weight.proofs.display.two_of.Goals as goal

-- what a number reads as by where it stands
by_tests : (a b : Bool) (x y : ℤ) (n : Digits) → figure_by x y (shown_at (pick a Over (pick b Under Within)) n) ≡ pick a (as_figure x) (pick b (as_figure y) (as_figure n.0))
by_tests true b x y n = refl
by_tests false true x y n = refl
by_tests false false x y n = refl

by_limits : (lo hi x y : ℤ) (n : Digits) → figure_by x y (shown_at (place_by lo hi n.0) n) ≡ pick (lt_z hi n.0) (as_figure x) (pick (lt_z n.0 lo) (as_figure y) (as_figure n.0))
unfolding place_by
by_limits lo hi x y n = by_tests (lt_z hi n.0) (lt_z n.0 lo) x y n

pub returns : goal.returns
unfolding two_of
returns c = rw (c.figure_by.ensures, c.shown_at-s.ensures, c.place_by.ensures, same_eq c.args.n.0 (omega arith), by_limits)
