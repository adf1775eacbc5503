-- How a whole byte string is cut into lines, and that feeding it byte by byte holds exactly these lines. Assumes nothing.
use Rattle.std.specs.Prelude.{Bool, true, false, not, ◌≡◌, refl, List, [], ◌∷◌, ◌++◌, ℕ, eqb}
use Rattle.std.proofs.Common.{sym, ap, ◌∙◌, ⊎_elim, append-nil, append_assoc, eqb-true}
use Rattle.cases.specs.Pick.{pick}
use Rattle.cases.specs.PickLaws.{bool_cases, not_both}
use Rattle.line.specs.declared.cut.Act.TheVariants as act
use Rattle.line.specs.Line.{ends_of, drops_of, quoted_of, counted_of, moved_of, is_end, stored_of}
use Rattle.line.specs.Cut.{one_of, counts_of, quotes_of, inside_of, ended_at, cut_from, cut_of, found_at, fed_from, fed_of, held_of, kept_at, pos_at, line_of, Every, Again}
use Rattle.line.specs.LineLaws.{kept_fresh, pos_fresh, found_line, pos_quoted, counted, dropped}

-- a quote is never dropped, so that a dropped byte leaves the quotes
quote_stays : (q : Bool) → drops_of q 0x22 ≡ false
unfolding drops_of
quote_stays true = refl
quote_stays false = refl

pub drop_quote : (q : Bool) (b : ℕ) → drops_of q b ≡ true → quoted_of q b ≡ q
unfolding quoted_of
drop_quote q b e = ⊎_elim yes' no' (bool_cases (eqb b 0x22))
  where
    yes' : eqb b 0x22 ≡ true → pick (eqb b 0x22) (not q) q ≡ q
    yes' y = absurd (not_both (drops_of q b) e (rw (eqb-true b 0x22 y) (quote_stays q)))

    no' : eqb b 0x22 ≡ false → pick (eqb b 0x22) (not q) q ≡ q
    no' n = simp n

-- what a byte does to the line that has counted the bytes `s`
module _ (s : List ℕ) (q : Bool) (b : ℕ) where
  abbrev pub Inside : Type 0
  Inside =
      (is_end (moved_of (pos_at s q) b).act ≡ false)
      × ((moved_of (pos_at s q) b).pos ≡ pos_at (s ++ one_of q b) (quoted_of q b))
      × (stored_of (kept_at s) (moved_of (pos_at s q) b) b ≡ kept_at (s ++ one_of q b))

  drop_is : ends_of q b ≡ false → drops_of q b ≡ true → moved_of (pos_at s q) b ≡ record { pos = pos_at s q; act = act.Drops }
  unfolding moved_of
  drop_is n d = simp (pos_quoted s q, n, d)

  count_is : ends_of q b ≡ false → drops_of q b ≡ false → moved_of (pos_at s q) b ≡ counted_of (pos_at s q) b
  unfolding moved_of
  count_is n d = simp (pos_quoted s q, n, d)

  one_none : drops_of q b ≡ true → s ++ one_of q b ≡ s
  unfolding one_of
  one_none d = simp (d, append-nil)

  one_more : drops_of q b ≡ false → s ++ one_of q b ≡ s ++ (b ∷ [])
  unfolding one_of
  one_more d = simp d

  inside_drop : ends_of q b ≡ false → drops_of q b ≡ true → Inside
  inside_drop n d = rw (drop_is n d, one_none d, drop_quote q b d) (refl, refl, dropped s q b)

  inside_count : ends_of q b ≡ false → drops_of q b ≡ false → Inside
  inside_count n d = rw (count_is n d, one_more d) (counted s q b)

  pub inside : ends_of q b ≡ false → Inside
  inside n = ⊎_elim (inside_drop n) (inside_count n) (bool_cases (drops_of q b))

  pub ended : ends_of q b ≡ true → is_end (moved_of (pos_at s q) b).act ≡ true
  unfolding moved_of
  ended y = simp (pos_quoted s q, y)

-- feeding a string, from any line on, holds exactly the lines that it is cut into
module _ (b : ℕ) (t s : List ℕ) (q : Bool) where
  cut_end : ends_of q b ≡ true → cut_from s q (b ∷ t) ≡ ended_at s (cut_of t)
  unfolding cut_from
  cut_end y = simp y

  cut_on : ends_of q b ≡ false → cut_from s q (b ∷ t) ≡ cut_from (s ++ one_of q b) (quoted_of q b) t
  unfolding cut_from
  cut_on n = simp n

  fed_end : ends_of q b ≡ true → fed_from (kept_at s) (pos_at s q) (b ∷ t) ≡ found_at (line_of s) (fed_from (kept_at []) (pos_at [] false) t)
  unfolding fed_from
  fed_end y = simp (ended s q b y, found_line s q) (rw (← kept_fresh, ← pos_fresh))

  fed_on : ends_of q b ≡ false → fed_from (kept_at s) (pos_at s q) (b ∷ t) ≡ fed_from (kept_at (s ++ one_of q b)) (pos_at (s ++ one_of q b) (quoted_of q b)) t
  unfolding fed_from
  fed_on n = let i = inside s q b n in simp i.0 (rw (i.2, i.1))

  fed_step : ((r : List ℕ) (p : Bool) → fed_from (kept_at r) (pos_at r p) t ≡ held_of (cut_from r p t)) → fed_from (kept_at s) (pos_at s q) (b ∷ t) ≡ held_of (cut_from s q (b ∷ t))
  fed_step k =
      ⊎_elim
      (λ y. fed_end y ∙ ap (found_at (line_of s)) (k [] false) ∙ sym (ap held_of (cut_end y)))
      (λ n. fed_on n ∙ k (s ++ one_of q b) (quoted_of q b) ∙ sym (ap held_of (cut_on n)))
      (bool_cases (ends_of q b))

pub fed_from_lem : (t s : List ℕ) (q : Bool) → fed_from (kept_at s) (pos_at s q) t ≡ held_of (cut_from s q t)
unfolding fed_from cut_from
fed_from_lem [] s q = refl
fed_from_lem (b ∷ t) s q = fed_step b t s q (fed_from_lem t)

-- from a fresh line on
pub fed_cut : (t : List ℕ) → fed_of t ≡ held_of (cut_of t)
fed_cut t = rw (kept_fresh, pos_fresh) (fed_from_lem t [] false)

pub inside_first : (q : Bool) (b : ℕ) (t : List ℕ) → inside_of q (b ∷ t) ≡ true → ends_of q b ≡ false
unfolding inside_of
inside_first q b t h = ⊎_elim (λ y. let k : false ≡ true = rw y at h in absurd (not_both true refl (sym k))) (λ n. n) (bool_cases (ends_of q b))

pub inside_rest : (q : Bool) (b : ℕ) (t : List ℕ) → inside_of q (b ∷ t) ≡ true → inside_of (quoted_of q b) t ≡ true
unfolding inside_of
inside_rest q b t h = rw (inside_first q b t h) at h

-- bytes without an end mark belong to the line: its counted ones are added, whatever follows
pub cut_inside : (a t s : List ℕ) (q : Bool) → inside_of q a ≡ true → cut_from s q (a ++ t) ≡ cut_from (s ++ counts_of q a) (quotes_of q a) t
unfolding counts_of quotes_of
cut_inside [] t s q h = rw (append-nil s)
cut_inside (b ∷ a) t s q h =
    cut_on b (a ++ t) s q (inside_first q b a h)
    ∙ cut_inside a t (s ++ one_of q b) (quoted_of q b) (inside_rest q b a h)
    ∙ rw (append_assoc s (one_of q b) (counts_of (quoted_of q b) a))

-- bytes without an end mark, then an end mark: one line, of the counted ones among them, and the rest of the string is cut by itself
pub cut_line : (a t : List ℕ) (e : ℕ) → inside_of false a ≡ true → ends_of (quotes_of false a) e ≡ true → cut_of (a ++ (e ∷ t)) ≡ ended_at (counts_of false a) (cut_of t)
cut_line a t e h y = cut_inside a (e ∷ t) [] false h ∙ cut_end e t (counts_of false a) (quotes_of false a) y

pub counts_append : (q : Bool) (a b : List ℕ) → counts_of q (a ++ b) ≡ counts_of q a ++ counts_of (quotes_of q a) b
unfolding counts_of quotes_of
counts_append q [] b = refl
counts_append q (x ∷ a) b = rw (counts_append (quoted_of q x) a b, append_assoc (one_of q x) (counts_of (quoted_of q x) a) (counts_of (quotes_of (quoted_of q x) a) b))

pub quotes_append : (q : Bool) (a b : List ℕ) → quotes_of q (a ++ b) ≡ quotes_of (quotes_of q a) b
unfolding quotes_of
quotes_append q [] b = refl
quotes_append q (x ∷ a) b = quotes_append (quoted_of q x) a b

pub inside_append : (q : Bool) (a b : List ℕ) → inside_of q a ≡ true → inside_of (quotes_of q a) b ≡ true → inside_of q (a ++ b) ≡ true
unfolding inside_of quotes_of
inside_append q [] b h k = k
inside_append q (x ∷ a) b h k = simp (inside_first q x a h) (inside_append (quoted_of q x) a b (inside_rest q x a h) k)

-- bytes that are counted all, end nothing, and take the quotes from `q` to `r`
pub record Whole (q : Bool) (s : List ℕ) (r : Bool) : Type 0 where
  pub counts : counts_of q s ≡ s
  pub inner : inside_of q s ≡ true
  pub quotes : quotes_of q s ≡ r

pub whole_none : (q : Bool) → Whole q [] q
unfolding counts_of inside_of quotes_of
whole_none q = record { counts = refl; inner = refl; quotes = refl }

pub whole_one : (q : Bool) (b : ℕ) → ends_of q b ≡ false → drops_of q b ≡ false → Whole q (b ∷ []) (quoted_of q b)
unfolding counts_of inside_of quotes_of one_of
whole_one q b n d = record { counts = simp d; inner = simp n; quotes = refl }

pub whole_append : (q r p : Bool) (a b : List ℕ) → Whole q a r → Whole r b p → Whole q (a ++ b) p
whole_append q r p a b v w = record {
  counts = counts_append q a b ∙ rw (v.counts, v.quotes, w.counts);
  inner = inside_append q a b v.inner (rw v.quotes w.inner);
  quotes = quotes_append q a b ∙ rw (v.quotes, w.quotes);
}

-- such bytes and an end mark are a line of just these bytes
pub whole_line : (s t : List ℕ) (r : Bool) (e : ℕ) → Whole false s r → ends_of r e ≡ true → cut_of (s ++ (e ∷ t)) ≡ ended_at s (cut_of t)
whole_line s t r e w y = let k = cut_line s t e w.inner (rw w.quotes y) in rw w.counts at k

-- what a line has counted is such bytes
module _ (s : List ℕ) (q : Bool) (b : ℕ) (w : Whole false s q) (n : ends_of q b ≡ false) where
  whole_on : Whole false (s ++ one_of q b) (quoted_of q b)
  whole_on =
      ⊎_elim
      (λ d. rw (one_none s q b d, drop_quote q b d) w)
      (λ d. rw (one_more s q b d) (whole_append false q (quoted_of q b) s (b ∷ []) w (whole_one q b n d)))
      (bool_cases (drops_of q b))

-- LF ends a line always
feed_ends : (q : Bool) → ends_of q 0x0a ≡ true
unfolding ends_of
feed_ends q = refl

module _ (b : ℕ) (t s : List ℕ) (q : Bool) (w : Whole false s q) (k : (r : List ℕ) (p : Bool) → Whole false r p → Every Again (cut_from r p t).lines) where
  again_step : Every Again (cut_from s q (b ∷ t)).lines
  again_step =
      ⊎_elim
      (λ y. rw (cut_end b t s q y) (whole_line s [] q 0x0a w (feed_ends q), k [] false (whole_none false)))
      (λ n. rw (cut_on b t s q n) (k (s ++ one_of q b) (quoted_of q b) (whole_on s q b w n)))
      (bool_cases (ends_of q b))

again_from : (t s : List ℕ) (q : Bool) → Whole false s q → Every Again (cut_from s q t).lines
unfolding cut_from
again_from [] s q w = tt
again_from (b ∷ t) s q w = again_step b t s q w (again_from t)

pub again : (t : List ℕ) → Every Again (cut_of t).lines
again t = again_from t [] false (whole_none false)

-- and so it is when it is fed
pub again_fed : (s : List ℕ) → Again s → fed_of (s ++ (0x0a ∷ [])) ≡ found_at (line_of s) (fed_of [])
again_fed s e = fed_cut (s ++ (0x0a ∷ [])) ∙ ap held_of e ∙ ap (found_at (line_of s)) (sym (fed_cut []))
