-- Document 01, "Commands", "Weight" and, for the span, "Curve, zero and tare": the sets that the scale's values and tares are taken from. What a reader must believe.
use Rattle.std.specs.Prelude.{Bool, List, [], ◌∷◌, ℕ, eqb, pos}
use Rattle.std.specs.Int.Signed.{le_z}
use Rattle.cases.specs.Pick.{pick}
use Rattle.cases.specs.Tests.{all_of}
use Rattle.whole.specs.Sets.{Range, Between, Among, Sized, inside}
use Rattle.weight.specs.declared.Curve.{Curve}
use Rattle.weight.specs.declared.Scale.{Scale}
use Rattle.weight.specs.Weight.{span_of}

-- GCA, GDE
abbrev pub gravities : Range
gravities = Between 970000 990000

-- CWT
abbrev pub loads : Range
loads = Between 200000 1200000

-- what a cell gives that is neither over nor under; LDW and LWT
abbrev pub cells : Range
cells = Sized 1599999

-- NOV
abbrev pub nominals : Range
nominals = Between 100 100000

-- RSN
abbrev pub steps : Range
steps = Among (1 ∷ 2 ∷ 5 ∷ 10 ∷ 20 ∷ 50 ∷ [])

-- a tare ("Weight"): no further from 0 than NOV, and below 0 at LFT 0 alone
abbrev pub tares : ℕ → ℕ → Range
tares lft nov = pick (eqb lft 0) (Sized nov) (Between 0 nov)

-- the least W - L
unfoldable pub spans : Curve → Bool
spans k = le_z (pos 10000) (span_of k)

-- a curve and a scale within these sets
abbrev pub point_tests : Curve → List Bool
point_tests k = inside cells k.l.0 ∷ inside cells k.w.0 ∷ inside loads (pos k.c) ∷ []

abbrev pub curve_tests : Curve → List Bool
curve_tests k = all_of (point_tests k) ∷ spans k ∷ []

abbrev pub scale_tests : Scale → List Bool
scale_tests s =
    all_of (curve_tests s.curve) ∷ inside gravities (pos s.gca) ∷ inside gravities (pos s.gde) ∷ inside nominals (pos s.nov) ∷ inside steps (pos s.rsn) ∷ []

unfoldable pub scale_in : Scale → Bool
scale_in s = all_of (scale_tests s)
