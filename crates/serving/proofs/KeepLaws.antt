-- What a run keeps: the ranges, and soundness. Assumes nothing.
use Rattle.std.specs.Prelude.{true, false, ◌≡◌, ℕ, ◌-◌, ltb}
use Rattle.std.proofs.Common.{⊎_elim, ltb-true, ltb-false}
use mathlib.Core.List.{List, [], ◌∷◌}
use Rattle.std.proofs.Math.ListN.{length}
use Rattle.cases.specs.PickLaws.{bool_cases}
use Rattle.cases.specs.Run.{run_of}
use Rattle.cases.specs.RunLaws.{run_full, run_byte}
use Rattle.state.specs.declared.Unit.{Unit as TheUnit}
use Rattle.state.specs.RangedLaws.{Ranged}
use Rattle.state.specs.Sound.{sound_of}
use Rattle.serving.specs.Machine.{machine}
use Rattle.serving.proofs.TurnLaws.{step_ranged, step_sound}

-- ---- a run keeps what each byte keeps
module _ (P : TheUnit → Type 0) (kept : (u : TheUnit) (b : ℕ) → P u → P (machine.next u b)) where
  step_keeps : (u : TheUnit) (f b : ℕ) (t : List ℕ) → P u → P (run_of machine (machine.next u b) (f - length (machine.text u b)) t).next → P (run_of machine u f (b ∷ t)).next
  step_keeps u f b t h k = ⊎_elim full more (bool_cases (ltb f 17))
    where
      full : ltb f 17 ≡ true → P (run_of machine u f (b ∷ t)).next
      full e = rw (run_full machine u f (b ∷ t) (ltb-true f 17 e)) h

      more : ltb f 17 ≡ false → P (run_of machine u f (b ∷ t)).next
      more e = rw (run_byte machine u f b t (ltb-false f 17 e)) k

  run_keeps : (s : List ℕ) (u : TheUnit) (f : ℕ) → P u → P (run_of machine u f s).next
  unfolding run_of
  run_keeps [] u f h = h
  run_keeps (b ∷ t) u f h = step_keeps u f b t h (run_keeps t (machine.next u b) (f - length (machine.text u b)) (kept u b h))

pub run_ranged : (s : List ℕ) (u : TheUnit) (f : ℕ) → Ranged u → Ranged (run_of machine u f s).next
run_ranged = run_keeps Ranged step_ranged

pub run_sound : (s : List ℕ) (u : TheUnit) (f : ℕ) → sound_of u ≡ true → sound_of (run_of machine u f s).next ≡ true
run_sound = run_keeps (λ (u : TheUnit). sound_of u ≡ true) step_sound
