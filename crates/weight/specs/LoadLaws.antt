-- What the calibration load weighs: at W, with C a million and GCA as GDE, v is NOV in tenths. Assumes nothing.
use Rattle.std.specs.Prelude.{◌≡◌, ℕ, ◌*◌, ◌<◌}
use Rattle.std.proofs.Common.{sym, ◌∙◌, arith, mul_comm, mul_assoc}
use Rattle.std.proofs.Math.Path.{ap}
use Rattle.std.proofs.Math.IntN.{pos}
use Rattle.whole.proofs.RoundLaws.{round_exact, round_div_mul, round_div_exact}
use Rattle.weight.specs.declared.Scale.{Scale}
use Rattle.weight.specs.Weight.{as_tenths, corrected, span_of, tenths}

module _ (s : Scale) (m : ℕ) (some : 0 < m) (span : span_of s.curve ≡ pos m) (there : 0 < s.gde) (same : s.gca ≡ s.gde) where
  load_corrected : (corrected s s.curve.w).0 ≡ pos m
  unfolding corrected
  load_corrected = rw same (round_div_exact (span_of s.curve) s.gde there) ∙ span

  product : m * (10 * s.nov * 1000000) ≡ 10 * s.nov * (m * 1000000)
  product = sym (mul_assoc m (10 * s.nov) 1000000) ∙ ap (◌* 1000000) (mul_comm m (10 * s.nov)) ∙ mul_assoc (10 * s.nov) m 1000000

  pub full_load : s.curve.c ≡ 1000000 → tenths s s.curve.w ≡ as_tenths (pos (10 * s.nov))
  unfolding tenths
  full_load c =
      ap as_tenths (rw (load_corrected, c, span) (round_div_mul (pos m) (10 * s.nov * 1000000) (m * 1000000) (omega arith) ∙ ap pos (rw product (round_exact (10 * s.nov) (m * 1000000) (omega arith)))))
