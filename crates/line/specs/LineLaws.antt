-- A line so far is the list of its counted bytes and its quotes: every such pair has one encoding. Assumes nothing.
use Rattle.std.specs.Prelude.{Bool, true, false, ◌≡◌, List, [], ◌∷◌, ◌++◌, take, leb, ltb}
use Rattle.std.proofs.Math.Path.{refl, sym, ap}
use Rattle.std.proofs.Common.{◌∙◌, ⊎_elim, length-append, take_at, lt-ltb, le-ltb, le-leb, leb-true, leb-false, ltb-true}
use Prim.Native.Nat.{ℕ, suc, ◌+◌, ◌-◌, ◌≤◌, ◌<◌}
use native.Mathlib.Omega.{arith}
use Rattle.std.proofs.Math.ListN.{length, set, replicate}
use Rattle.std.proofs.lemmas.List.{set_at}
use Rattle.std.proofs.Math.Seq.{append_snoc}
use Rattle.std.proofs.lemmas.Bool.{lt-leb}
use Rattle.cases.specs.PickLaws.{bool_cases}
use Rattle.line.specs.declared.cut.Pos.{Pos}
use Rattle.line.specs.declared.cut.Act.TheVariants as act
use Rattle.line.specs.declared.cut.Moved.{Moved}
use Rattle.line.specs.Line.{most, none_kept, fresh_pos, quoted_of, counted_of, is_end, Within, stored_of}
use Rattle.line.specs.Cut.{Kept, kept_at, pos_at, line_of, found_of}

pub kept_fresh : none_kept ≡ kept_at []
unfolding kept_at
kept_fresh = refl

pub pos_fresh : fresh_pos ≡ pos_at [] false
unfolding pos_at
pos_fresh = refl

kept_short : (s : List ℕ) → length s ≤ most → kept_at s ≡ s ++ replicate (most - length s) 0
unfolding kept_at
kept_short s h = simp (le-leb _ _ h)

kept_long : (s : List ℕ) → most < length s → kept_at s ≡ none_kept
unfolding kept_at
kept_long s h = simp (lt-leb _ _ h)

pub pos_short : (s : List ℕ) (q : Bool) → length s ≤ most → pos_at s q ≡ record { len = length s; quoted = q; long = false }
unfolding pos_at
pos_short s q h = simp (le-leb _ _ h)

pub pos_long : (s : List ℕ) (q : Bool) → most < length s → pos_at s q ≡ record { len = most; quoted = q; long = true }
unfolding pos_at
pos_long s q h = simp (lt-leb _ _ h)

-- a line is short or too long
module _ (s : List ℕ) where
  sized : {P : Type 0} → (length s ≤ most → P) → (most < length s → P) → P
  sized f g = ⊎_elim (λ e. f (leb-true (length s) most e)) (λ e. g (leb-false (length s) most e)) (bool_cases (leb (length s) most))

-- the list of the kept bytes
pub kept_list : (s : List ℕ) (q : Bool) → length s ≤ most → take (pos_at s q).len (kept_at s) ≡ s
kept_list s q h = rw (pos_short s q h, kept_short s h) (take_at s (replicate (most - length s) 0) (length s) refl)

-- two lines that fit are held alike only if they counted the same bytes
pub one_encoding : (s t : List ℕ) (q r : Bool) → length s ≤ most → length t ≤ most → kept_at s ≡ kept_at t → pos_at s q ≡ pos_at t r → s ≡ t
one_encoding s t q r h k e p = sym (kept_list s q h) ∙ rw (e, p) (kept_list t r k)

-- what its holder finds at the end mark
pub found_line : (s : List ℕ) (q : Bool) → found_of (kept_at s) (pos_at s q) ≡ line_of s
unfolding found_of line_of
found_line s q =
    sized s
    (λ h. rw (pos_short s q h, le-leb (length s) most h) (ap Kept (rw (pos_short s q h) at (kept_list s q h))))
    (λ h. rw (pos_long s q h, lt-leb (length s) most h))

pub pos_quoted : (s : List ℕ) (q : Bool) → (pos_at s q).quoted ≡ q
pos_quoted s q = sized s (λ h. rw (pos_short s q h)) (λ h. rw (pos_long s q h))

pos_full : (s : List ℕ) (q : Bool) → most ≤ length s → (pos_at s q).len ≡ most
pos_full s q h = sized s (λ k. rw (pos_short s q k) (omega arith)) (λ k. rw (pos_long s q k))

-- a counted byte is kept within the line, or not at all
pub counted_within : (p : Pos) (b : ℕ) → Within (counted_of p b).act
unfolding counted_of
counted_within p b = ⊎_elim (λ y. rw y (ltb-true p.len most y)) (λ n. rw n tt) (bool_cases (ltb p.len most))

-- a counted byte
module _ (s : List ℕ) (q : Bool) (b : ℕ) where
  more : length (s ++ (b ∷ [])) ≡ length s + 1
  more = length-append s (b ∷ [])

  count_room : length s < most → counted_of (pos_at s q) b ≡ record { pos = pos_at (s ++ (b ∷ [])) (quoted_of q b); act = act.Keeps (length s) }
  unfolding counted_of
  count_room h = rw (pos_short s q (omega arith), pos_short (s ++ (b ∷ [])) (quoted_of q b) (omega (arith, more))) (simp (lt-ltb (length s) most h, more))

  count_full : most ≤ length s → counted_of (pos_at s q) b ≡ record { pos = pos_at (s ++ (b ∷ [])) (quoted_of q b); act = act.Drops }
  unfolding counted_of
  count_full h =
      let no : most ≤ (pos_at s q).len = rw (pos_full s q h) (omega arith) in
      simp (le-ltb _ _ no, pos_quoted s q, pos_long (s ++ (b ∷ [])) (quoted_of q b) (omega (arith, more)))

  abbrev Counted : Type 0
  Counted =
      (is_end (counted_of (pos_at s q) b).act ≡ false)
      × ((counted_of (pos_at s q) b).pos ≡ pos_at (s ++ (b ∷ [])) (quoted_of q b))
      × (stored_of (kept_at s) (counted_of (pos_at s q) b) b ≡ kept_at (s ++ (b ∷ [])))

  room : length s < most → Counted
  unfolding stored_of
  room h =
      let m : most - length s ≡ suc (most - (length s + 1)) = omega arith in
      let e : set (s ++ replicate (most - length s) 0) (length s) b ≡ (s ++ (b ∷ [])) ++ replicate (most - (length s + 1)) 0 =
      rw m (set_at s 0 (replicate (most - (length s + 1)) 0) b (length s) refl ∙ sym (append_snoc s b (replicate (most - (length s + 1)) 0))) in (
        ap (λ (x : Moved). is_end x.act) (count_room h),
        ap (λ (x : Moved). x.pos) (count_room h),
        rw (count_room h, kept_short s (omega arith), kept_short (s ++ (b ∷ [])) (omega (arith, more))) (simp (lt-ltb (length s) most h, more, e)),
      )

  full : most ≤ length s → Counted
  unfolding stored_of
  full h = (
    ap (λ (x : Moved). is_end x.act) (count_full h),
    ap (λ (x : Moved). x.pos) (count_full h),
    rw (count_full h, kept_long (s ++ (b ∷ [])) (omega (arith, more)), pos_long (s ++ (b ∷ [])) (quoted_of q b) (omega (arith, more))),
  )

  pub counted : Counted
  counted = ⊎_elim (λ e. room (omega (arith, leb-true (length s + 1) most e))) (λ e. full (omega (arith, leb-false (length s + 1) most e))) (bool_cases (leb (length s + 1) most))

  -- a byte that is dropped: the line stands
  pub dropped : stored_of (kept_at s) (record { pos = pos_at s q; act = act.Drops }) b ≡ kept_at s
  unfolding stored_of
  dropped = sized s (λ h. rw (pos_short s q h)) (λ h. rw (pos_long s q h, kept_long s h))
