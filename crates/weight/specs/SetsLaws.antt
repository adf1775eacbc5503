-- Laws of the sets: the tests that the code makes, and a scale's values as facts. Assumes nothing.
use Rattle.std.specs.Prelude.{◌≡◌, refl, Bool, true, false, ◌&&◌, ◌||◌, [], ◌∷◌, ℕ, ◌≤◌, T, leb, pos, nat_abs, ◌≤ℤ◌}
use Rattle.std.proofs.Common.{sym, subst, lit≤}
use Rattle.std.proofs.Math.Dec.{leb-zero}
use Rattle.std.specs.Int.Signed.{le_z_yes}
use Rattle.cases.specs.Pick.{pick}
use Rattle.cases.specs.Tests.{all_of}
use Rattle.cases.specs.TestsLaws.{all_yes}
use Rattle.whole.specs.Sets.{Between, Sized, has, inside}
use Rattle.whole.specs.SetsLaws.{between_yes, sized_yes, among_yes}
use Rattle.weight.specs.declared.Curve.{Curve}
use Rattle.weight.specs.declared.Scale.{Scale}
use Rattle.weight.specs.Weight.{span_of}
use Rattle.weight.specs.Sets.{spans, point_tests, curve_tests, scale_tests, scale_in, steps}
use Rattle.weight.specs.Ranges.{ScaleIn}

-- the tare's test: any sign, or none below zero; and its size
pub tare_either : (either plus : Bool) (n nov : ℕ) → ((either || plus) && leb n nov) ≡ has (pick either (Sized nov) (Between 0 nov)) plus n
tare_either true plus n nov = refl
tare_either false true n nov = rw (leb-zero n)
tare_either false false n nov = refl

-- ---- what a scale within the sets has
step_in : (n : ℕ) → inside steps (pos n) ≡ true → (1 ≤ n) × (n ≤ 50)
step_in n e =
    among_yes (λ m. (1 ≤ m) × (m ≤ 50)) n 1 (2 ∷ 5 ∷ 10 ∷ 20 ∷ 50 ∷ []) (lit≤ tt, lit≤ tt)
    ((lit≤ tt, lit≤ tt), ((lit≤ tt, lit≤ tt), ((lit≤ tt, lit≤ tt), ((lit≤ tt, lit≤ tt), ((lit≤ tt, lit≤ tt), tt))))) e

span_yes : (k : Curve) → spans k ≡ true → pos 10000 ≤ℤ span_of k
unfolding spans
span_yes k e = le_z_yes (subst T (sym e) tt)

pub points_yes : (k : Curve) → all_of (point_tests k) ≡ true → (nat_abs k.l.0 ≤ 1599999) × (nat_abs k.w.0 ≤ 1599999)
points_yes k e = let h = all_yes (point_tests k) e in (sized_yes k.l.0 1599999 h.0, sized_yes k.w.0 1599999 h.1.0)

pub scale_in_lem : (s : Scale) → scale_in s ≡ true → ScaleIn s
unfolding scale_in
scale_in_lem s e =
    let h = all_yes (scale_tests s) e in
    let k = all_yes (curve_tests s.curve) h.0 in
    let p = points_yes s.curve k.0 in
    let c = between_yes s.curve.c 200000 1200000 (all_yes (point_tests s.curve) k.0).1.1.0 in
    let a = between_yes s.gca 970000 990000 h.1.0 in
    let d = between_yes s.gde 970000 990000 h.1.1.0 in
    let n = between_yes s.nov 100 100000 h.1.1.1.0 in
    let t = step_in s.rsn h.1.1.1.1.0 in
    record {
      l_to = p.0;
      w_to = p.1;
      span_from = span_yes s.curve k.1.0;
      c_from = c.0;
      c_to = c.1;
      gca_from = a.0;
      gca_to = a.1;
      gde_from = d.0;
      gde_to = d.1;
      nov_from = n.0;
      nov_to = n.1;
      rsn_from = t.0;
      rsn_to = t.1;
    }
