-- A run is its taken bytes one by one, and it stops only where the bytes end or the room is short. Assumes nothing.
use Rattle.std.specs.Prelude.{true, false, ◌≡◌, refl, List, [], ◌∷◌, ◌++◌, ltb, take}
use Rattle.std.proofs.Common.{sym, ap, ◌∙◌, ⊎_elim, append_assoc, one-add, ltb-true, ltb-false}
use Prim.Native.Nat.{ℕ, zero, suc, ◌+◌, ◌-◌, ◌≤◌, ◌<◌}
use native.Mathlib.Omega.{arith}
use Rattle.std.proofs.Math.ListN.{length, length-append}
use Rattle.cases.specs.PickLaws.{bool_cases}
use Rattle.cases.specs.Run.{Run, Machine, stop, after, run_of}
use Rattle.cases.specs.RunLaws.{run_full, run_byte}
use Rattle.cases.specs.Each.{next_by, text_by}

-- what a run of these bytes comes to, and why it stopped
pub record Stopped {S : Type 0} (M : Machine S) (u : S) (f : ℕ) (t : List ℕ) (r : Run S) : Type 0 where
  pub next : r.next ≡ next_by M u (take r.taken t)
  pub out : r.out ≡ text_by M u (take r.taken t)
  pub most : r.taken ≤ length t
  pub short : r.taken < length t → f - length r.out < M.need
  pub enough : (k : ℕ) → k < r.taken → M.need ≤ f - length (text_by M u (take k t))

module _ {S : Type 0} (M : Machine S) (u : S) (f b : ℕ) (t : List ℕ) where
  each_full : f < M.need → Stopped M u f (b ∷ t) (stop u)
  unfolding next_by text_by
  each_full h = record { next = refl; out = refl; most = omega arith; short = λ _. omega arith; enough = λ k l. absurd (omega arith) }

  each_enough : (r : Run S) → M.need ≤ f → ((k : ℕ) → k < r.taken → M.need ≤ f - length (M.text u b) - length (text_by M (M.next u b) (take k t))) →
      (k : ℕ) → k < 1 + r.taken → M.need ≤ f - length (text_by M u (take k (b ∷ t)))
  unfolding text_by
  each_enough r h e zero l = omega arith
  each_enough r h e (suc k) l = let n = e k (omega arith) in simp length-append (omega (arith, n))

  each_more : (r : Run S) → M.need ≤ f → Stopped M (M.next u b) (f - length (M.text u b)) t r → Stopped M u f (b ∷ t) (after 1 (M.text u b) r)
  unfolding next_by text_by
  each_more r h k = record {
    next = rw (one-add r.taken) k.next;
    out = rw (one-add r.taken) (ap (M.text u b ++◌) k.out);
    most = omega (arith, k.most);
    short = λ l. let s : f - length (M.text u b) - length r.out < M.need = k.short (omega arith) in simp length-append (omega arith);
    enough = each_enough r h k.enough;
  }

  each_step : Stopped M (M.next u b) (f - length (M.text u b)) t (run_of M (M.next u b) (f - length (M.text u b)) t) → Stopped M u f (b ∷ t) (run_of M u f (b ∷ t))
  each_step k = ⊎_elim full more (bool_cases (ltb f M.need))
    where
      full : ltb f M.need ≡ true → Stopped M u f (b ∷ t) (run_of M u f (b ∷ t))
      full e = rw (run_full M u f (b ∷ t) (ltb-true f M.need e)) (each_full (ltb-true f M.need e))

      more : ltb f M.need ≡ false → Stopped M u f (b ∷ t) (run_of M u f (b ∷ t))
      more e = rw (run_byte M u f b t (ltb-false f M.need e)) (each_more (run_of M (M.next u b) (f - length (M.text u b)) t) (ltb-false f M.need e) k)

pub run_each : {S : Type 0} (M : Machine S) (t : List ℕ) (u : S) (f : ℕ) → Stopped M u f t (run_of M u f t)
unfolding run_of next_by text_by
run_each M [] u f = record { next = refl; out = refl; most = omega arith; short = λ l. absurd (omega arith); enough = λ k l. absurd (omega arith) }
run_each M (b ∷ t) u f = each_step M u f b t (run_each M t (M.next u b) (f - length (M.text u b)))

-- some bytes and then others
pub next_append : {S : Type 0} (M : Machine S) (s t : List ℕ) (u : S) → next_by M u (s ++ t) ≡ next_by M (next_by M u s) t
unfolding next_by
next_append M [] t u = refl
next_append M (b ∷ s) t u = next_append M s t (M.next u b)

pub text_append : {S : Type 0} (M : Machine S) (s t : List ℕ) (u : S) → text_by M u (s ++ t) ≡ text_by M u s ++ text_by M (next_by M u s) t
unfolding next_by text_by
text_append M [] t u = refl
text_append M (b ∷ s) t u = ap (M.text u b ++◌) (text_append M s t (M.next u b)) ∙ sym (append_assoc (M.text u b) (text_by M (M.next u b) s) (text_by M (next_by M (M.next u b) s) t))
