-- A line with a text, sent as it is written, is cut as it is written: blanks and ";" within the quotes belong to it. Assumes nothing.
use Rattle.std.proofs.Math.Bool.{true, not}
use Rattle.std.specs.Prelude.{false, ◌&&◌, ◌≡◌, refl, List, [], ◌∷◌, ◌++◌, ℕ, ◌≤◌, eqb}
use Rattle.std.proofs.Math.Logic.{⊎_elim}
use Rattle.std.proofs.Common.{arith}
use Rattle.std.proofs.Math.Dec.{leb}
use borrow.Author.Tests.{leb-true, ne_eqb, not-true, lt-leb}
use Rattle.cases.specs.PickLaws.{bool_cases}
use Rattle.line.specs.Line.{ends_of, drops_of, quoted_of}
use Rattle.line.specs.Cut.{ended_at, cut_of}
use Rattle.line.specs.CutLaws.{Whole, whole_none, whole_one, whole_append, whole_line}
use Rattle.line.specs.Shape.{all_of, is_letter, is_plain}
use Rattle.line.specs.ReadLaws.{and_first, and_second}
use Rattle.line.specs.Written.{between}

-- a byte of a text is counted inside quotes and leaves them
module _ (b : ℕ) (p : is_plain b ≡ true) where
  plain_low : 0x20 ≤ b
  unfolding is_plain
  plain_low = leb-true 0x20 b (and_first (leb 0x20 b) (leb b 0x7e && not (eqb b 0x22)) p)

  plain_quote : eqb b 0x22 ≡ false
  unfolding is_plain
  plain_quote = not-true (eqb b 0x22) (and_second (leb b 0x7e) (not (eqb b 0x22)) (and_second (leb 0x20 b) (leb b 0x7e && not (eqb b 0x22)) p))

  plain_stays : ends_of true b ≡ false
  unfolding ends_of
  plain_stays = let l = plain_low in rw (ne_eqb b 0x0a (λ e. omega arith))

  plain_keeps : quoted_of true b ≡ true
  unfolding quoted_of
  plain_keeps = rw plain_quote

  plain_one : Whole true (b ∷ []) true
  unfolding drops_of
  plain_one = rw plain_keeps at (whole_one true b plain_stays refl)

pub plain_whole : (t : List ℕ) → all_of is_plain t ≡ true → Whole true t true
unfolding all_of
plain_whole [] h = whole_none true
plain_whole (b ∷ t) h = whole_append true true true (b ∷ []) t (plain_one b (and_first (is_plain b) (all_of is_plain t) h)) (plain_whole t (and_second (is_plain b) (all_of is_plain t) h))

-- a text between quotes
pub between_whole : (t : List ℕ) → all_of is_plain t ≡ true → Whole false (between t) false
unfolding drops_of ends_of quoted_of
between_whole t h =
    whole_append false true false (0x22 ∷ []) (t ++ (0x22 ∷ [])) (whole_one false 0x22 refl refl)
    (whole_append true true false t (0x22 ∷ []) (plain_whole t h) (whole_one true 0x22 refl refl))

-- a letter is counted outside quotes and leaves them
module _ (b : ℕ) (u : is_letter b ≡ true) where
  letter_low : 0x41 ≤ b
  unfolding is_letter
  letter_low =
      ⊎_elim
      (λ e. leb-true 0x41 b e)
      (λ e. let k : (leb 0x61 b && leb b 0x7a) ≡ true = rw e at u in omega (arith, leb-true 0x61 b (and_first (leb 0x61 b) (leb b 0x7a) k)))
      (bool_cases (leb 0x41 b))

  letter_stays : ends_of false b ≡ false
  unfolding ends_of
  letter_stays = let l = letter_low in simp (ne_eqb b 0x0a (λ e. omega arith), ne_eqb b 0x3b (λ e. omega arith))

  letter_counts : drops_of false b ≡ false
  unfolding drops_of
  letter_counts = let l = letter_low in simp (lt-leb b 0x20 (omega arith))

  letter_keeps : quoted_of false b ≡ false
  unfolding quoted_of
  letter_keeps = let l = letter_low in simp (ne_eqb b 0x22 (λ e. omega arith))

  letter_one : Whole false (b ∷ []) false
  letter_one = rw letter_keeps at (whole_one false b letter_stays letter_counts)

-- three letters and a text, sent with ";" after them, are one line as they stand
pub text_sent : (a b c : ℕ) (t : List ℕ) → is_letter a ≡ true → is_letter b ≡ true → is_letter c ≡ true → all_of is_plain t ≡ true →
    cut_of ((a ∷ b ∷ c ∷ between t) ++ (0x3b ∷ [])) ≡ ended_at (a ∷ b ∷ c ∷ between t) (cut_of [])
unfolding ends_of
text_sent a b c t i j k h =
    whole_line (a ∷ b ∷ c ∷ between t) [] false 0x3b
    (whole_append false false false (a ∷ []) (b ∷ c ∷ between t) (letter_one a i)
    (whole_append false false false (b ∷ []) (c ∷ between t) (letter_one b j)
    (whole_append false false false (c ∷ []) (between t) (letter_one c k) (between_whole t h))))
    refl
