-- Laws of the machine over bytes, and the invariant of the loop that runs it. Assumes nothing.
use Rattle.std.specs.Prelude.{true, false, ◌≡◌, refl, List, [], ◌∷◌, ◌++◌, ℕ, suc, ◌+◌, ◌-◌, ◌≤◌, ◌<◌, length, get_or, take, drop, ltb}
use Rattle.std.proofs.Common.{sym, ap, ◌∙◌, ⊎_elim, append_assoc, append-nil, arith, add-zero, zero-add, add_assoc, add-one, one-add, length-append, length-drop, take-append-drop, drop_of_length-le, take_all, drop-cons, length-take-le, take_at, drop_at, drop-drop, lt-ltb, le-ltb, ltb-true, ltb-false}
use Rattle.cases.specs.PickLaws.{bool_cases}
use Rattle.cases.specs.Run.{Run, stop, after, room_of, Machine, run_of}

pub after_after : {S : Type 0} (i j : ℕ) (o p : List ℕ) (r : Run S) → after i o (after j p r) ≡ after (i + j) (o ++ p) r
after_after i j o p r = simp (append_assoc, add_assoc)

pub after_none : {S : Type 0} (r : Run S) → after 0 [] r ≡ r
after_none r = simp zero-add

-- a reply written into the part of the room from `at` on, as the loan of that part comes back
pub part_put : (room s : List ℕ) (at : ℕ) → at ≤ length room →
    take at room ++ ((s ++ drop (length s) (take (length room - at) (drop at room))) ++ drop (length room - at) (drop at room)) ≡ (take at room ++ s) ++ drop (length s) (drop at room)
part_put room s at h =
    let k : length (drop at room) ≤ length room - at = simp length-drop (omega arith) in
    simp (take_all (length room - at) (drop at room) k, drop_of_length-le (drop at room) k, append-nil, append_assoc)

run_nil : {S : Type 0} (M : Machine S) (u : S) (f : ℕ) → run_of M u f [] ≡ stop u
unfolding run_of
run_nil M u f = refl

pub run_full : {S : Type 0} (M : Machine S) (u : S) (f : ℕ) (t : List ℕ) → f < M.need → run_of M u f t ≡ stop u
unfolding run_of
run_full M u f [] h = refl
run_full M u f (b ∷ t) h = simp (lt-ltb f M.need h)

pub run_byte : {S : Type 0} (M : Machine S) (u : S) (f b : ℕ) (t : List ℕ) → M.need ≤ f →
    run_of M u f (b ∷ t) ≡ after 1 (M.text u b) (run_of M (M.next u b) (f - length (M.text u b)) t)
unfolding run_of
run_byte M u f b t h = simp (le-ltb f M.need h)

pub run_turn : {S : Type 0} (M : Machine S) (u : S) (f : ℕ) (s : List ℕ) (i : ℕ) → i < length s → M.need ≤ f →
    run_of M u f (drop i s) ≡ after 1 (M.text u (get_or s i 0)) (run_of M (M.next u (get_or s i 0)) (f - length (M.text u (get_or s i 0))) (drop (i + 1) s))
run_turn M u f s i h k = rw (add-one, drop-cons s i 0 h) (run_byte M u f (get_or s i 0) (drop (suc i) s) k)

-- the loop's invariant: the first `i` bytes are taken, the first `at` bytes of the room written
-- (`small` is in reach of `omega` here, however long the loop's body is)
pub record Going {S : Type 0} (M : Machine S) (u : S) (bytes room₀ room : List ℕ) (v : S) (i at : ℕ) : Type 0 where
  pub long : length room ≡ length room₀
  pub small : length room₀ < 18446744073709551616
  pub fits : at ≤ length room₀
  pub count : i ≤ length bytes
  pub rest : drop at room ≡ drop at room₀
  pub run : run_of M u (length room₀) bytes ≡ after i (take at room) (run_of M v (length room₀ - at) (drop i bytes))

pub going_start : {S : Type 0} (M : Machine S) (u : S) (bytes room : List ℕ) → length room < 18446744073709551616 → Going M u bytes room room u 0 0
going_start M u bytes room small =
    let e : length room - 0 ≡ length room = omega arith in
    record { long = refl; small = small; fits = omega arith; count = omega arith; rest = refl; run = rw e (sym (after_none (run_of M u (length room) bytes))) }

module _ {S : Type 0} (M : Machine S) (u : S) (bytes room₀ room : List ℕ) (v : S) (i at : ℕ) (g : Going M u bytes room₀ room v i at) where
  -- a turn
  pub going_on : (s room' : List ℕ) (w : S) → i < length bytes → M.need ≤ length room₀ - at → s ≡ M.text v (get_or bytes i 0) → w ≡ M.next v (get_or bytes i 0) →
      room' ≡ (take at room ++ s) ++ drop (length s) (drop at room) → Going M u bytes room₀ room' w (i + 1) (at + length s)
  going_on s room' w h k es ew er =
      let b = get_or bytes i 0 in
      let short : length s ≤ M.need = rw es (M.short v (get_or bytes i 0)) in
      let front : length (take at room) ≡ at = length-take-le at room (omega (arith, g.fits, g.long)) in
      let n : length (take at room ++ s) ≡ at + length s = length-append (take at room) s ∙ ap (◌+ length s) front in
      let t : take (at + length s) room' ≡ take at room ++ s = rw er (take_at (take at room ++ s) (drop (length s) (drop at room)) (at + length s) n) in
      let d : drop (at + length s) room' ≡ drop (length s) (drop at room) = rw er (drop_at (take at room ++ s) (drop (length s) (drop at room)) (at + length s) n) in
      let f : length room₀ - at - length s ≡ length room₀ - (at + length s) = omega arith in
      record {
        long = ap length er ∙ simp (length-append, length-drop, front) (omega (arith, g.fits, g.long));
        small = g.small;
        fits = omega (arith, g.fits);
        count = omega arith;
        rest = d ∙ ap (drop (length s)) g.rest ∙ drop-drop (length s) at room₀;
        run =
            g.run
            ∙ ap (after i (take at room)) (run_turn M v (length room₀ - at) bytes i h k)
            ∙ after_after i 1 (take at room) (M.text v b) (run_of M (M.next v b) (length room₀ - at - length (M.text v b)) (drop (i + 1) bytes))
            ∙ rw (t, ← f, ew, es);
      }

  -- the loop is left: what the run was, and the room
  done : run_of M v (length room₀ - at) (drop i bytes) ≡ stop v →
      (run_of M u (length room₀) bytes ≡ record { next = v; taken = i; out = take at room }) × (length (take at room) ≡ at) × (room ≡ room_of (run_of M u (length room₀) bytes) room₀)
  done e =
      let front : length (take at room) ≡ at = length-take-le at room (omega (arith, g.fits, g.long)) in
      let r : run_of M u (length room₀) bytes ≡ record { next = v; taken = i; out = take at room } = g.run ∙ rw e (simp (append-nil, add-zero)) in
      (r, front, rw (r, front) (sym (take-append-drop at room) ∙ ap (take at room ++◌) g.rest))

  pub going_full : length room₀ - at < M.need →
      (run_of M u (length room₀) bytes ≡ record { next = v; taken = i; out = take at room }) × (length (take at room) ≡ at) × (room ≡ room_of (run_of M u (length room₀) bytes) room₀)
  going_full h = done (run_full M v _ _ h)

  pub going_end : length bytes ≤ i →
      (run_of M u (length room₀) bytes ≡ record { next = v; taken = i; out = take at room }) × (length (take at room) ≡ at) × (room ≡ room_of (run_of M u (length room₀) bytes) room₀)
  going_end h = done (rw (drop_of_length-le bytes h) (run_nil M v _))

-- what is written fits the room
module _ {S : Type 0} (M : Machine S) (u : S) (f b : ℕ) (t : List ℕ) where
  out_step : length (run_of M (M.next u b) (f - length (M.text u b)) t).out ≤ f - length (M.text u b) → length (run_of M u f (b ∷ t)).out ≤ f
  out_step k = ⊎_elim full more (bool_cases (ltb f M.need))
    where
      full : ltb f M.need ≡ true → length (run_of M u f (b ∷ t)).out ≤ f
      full e = rw (run_full M u f (b ∷ t) (ltb-true f M.need e)) (omega arith)

      more : ltb f M.need ≡ false → length (run_of M u f (b ∷ t)).out ≤ f
      more e = rw (run_byte M u f b t (ltb-false f M.need e)) (simp length-append (omega (arith, M.short u b, ltb-false f M.need e)))

pub out_fits : {S : Type 0} (M : Machine S) (t : List ℕ) (u : S) (f : ℕ) → length (run_of M u f t).out ≤ f
unfolding run_of
out_fits M [] u f = omega arith
out_fits M (b ∷ t) u f = out_step M u f b t (out_fits M t (M.next u b) (f - length (M.text u b)))

-- a block that is taken whole, and then another
abbrev Both : {S : Type 0} → Machine S → List ℕ → List ℕ → S → ℕ → Type 0
Both M a b u f = (run_of M u f a).taken ≡ length a → run_of M u f (a ++ b) ≡ after (length a) (run_of M u f a).out (run_of M (run_of M u f a).next (f - length (run_of M u f a).out) b)

module _ {S : Type 0} (M : Machine S) (x : ℕ) (a b : List ℕ) (u : S) (f : ℕ) (k : Both M a b (M.next u x) (f - length (M.text u x))) where
  append_step : Both M (x ∷ a) b u f
  append_step h = ⊎_elim full more (bool_cases (ltb f M.need))
    where
      full : ltb f M.need ≡ true → run_of M u f (x ∷ a ++ b) ≡ after (suc (length a)) (run_of M u f (x ∷ a)).out (run_of M (run_of M u f (x ∷ a)).next (f - length (run_of M u f (x ∷ a)).out) b)
      full e = absurd (omega (arith, rw (run_full M u f (x ∷ a) (ltb-true f M.need e)) at h))

      more : ltb f M.need ≡ false → run_of M u f (x ∷ a ++ b) ≡ after (suc (length a)) (run_of M u f (x ∷ a)).out (run_of M (run_of M u f (x ∷ a)).next (f - length (run_of M u f (x ∷ a)).out) b)
      more e =
          let room : M.need ≤ f = ltb-false f M.need e in
          let s = M.text u x in
          let r = run_of M (M.next u x) (f - length s) a in
          let h' : 1 + r.taken ≡ suc (length a) = rw (run_byte M u f x a room) at h in
          let n : f - length (s ++ r.out) ≡ f - length s - length r.out = simp length-append (omega arith) in
          rw (run_byte M u f x (a ++ b) room, run_byte M u f x a room, n, k (omega arith), ← one-add (length a)) (after_after 1 (length a) s r.out (run_of M r.next (f - length s - length r.out) b))

pub run_append : {S : Type 0} (M : Machine S) (a b : List ℕ) (u : S) (f : ℕ) → Both M a b u f
unfolding run_of
run_append M [] b u f h = let e : f - 0 ≡ f = omega arith in rw e (sym (after_none (run_of M u f b)))
run_append M (x ∷ a) b u f h = append_step M x a b u f (run_append M a b (M.next u x) (f - length (M.text u x))) h

-- a turn that writes nothing
pub going_quiet : {S : Type 0} (M : Machine S) (u : S) (bytes room₀ room : List ℕ) (v : S) (i at : ℕ) → Going M u bytes room₀ room v i at →
    (w : S) → i < length bytes → M.need ≤ length room₀ - at → M.text v (get_or bytes i 0) ≡ [] → w ≡ M.next v (get_or bytes i 0) → Going M u bytes room₀ room w (i + 1) at
going_quiet M u bytes room₀ room v i at g w h k es ew =
    let same : room ≡ (take at room ++ []) ++ drop 0 (drop at room) = rw (append-nil (take at room)) (sym (take-append-drop at room)) in
    let e : at + 0 ≡ at = add-zero at in
    rw e at (going_on M u bytes room₀ room v i at g [] room w h k (sym es) ew same)
