-- A walk over a line that lies in a buffer: what was read so far, and which bytes of it are the command's. Assumes nothing.
use Rattle.std.specs.Prelude.{true, false, ◌≡◌, refl, List, [], ◌∷◌, ◌++◌, ℕ, suc, ◌+◌, ◌-◌, ◌≤◌, ◌<◌, ltb, length, get_or, take, drop}
use Rattle.std.proofs.Common.{sym, ap, ◌∙◌, arith, ltb-true, ltb-false, length-drop, take-suc, get_or-drop}
use Rattle.cases.specs.Pick.{pick}
use Rattle.cases.specs.PickLaws.{split, never, not_both}
use Rattle.session.specs.declared.State.{State}
use Rattle.session.specs.declared.State.TheVariants as state
use Rattle.session.specs.declared.Stepped.{Stepped}
use Rattle.session.specs.Reader.{next_of, pass_of, stepped_of, state_after, handed_on}

-- the bytes from one place to another
abbrev pub stretch : ℕ → ℕ → List ℕ → List ℕ
stretch from to s = take (to - from) (drop from s)

-- ---- one byte more
after_more : (t : List ℕ) (s : State) (b : ℕ) → state_after s (t ++ (b ∷ [])) ≡ next_of (state_after s t) b
unfolding state_after
after_more [] s b = refl
after_more (c ∷ t) s b = after_more t (next_of s c) b

handed_more : (t : List ℕ) (s : State) (b : ℕ) → handed_on s (t ++ (b ∷ [])) ≡ handed_on s t ++ pick (pass_of (state_after s t)) (b ∷ []) []
unfolding state_after handed_on
handed_more [] s b = refl
handed_more (c ∷ t) s b =
    let h = handed_more t (next_of s c) b in
    split (λ p. pick p (c ∷ handed_on (next_of s c) (t ++ (b ∷ []))) (handed_on (next_of s c) (t ++ (b ∷ []))) ≡ pick p (c ∷ handed_on (next_of s c) t) (handed_on (next_of s c) t) ++ pick (pass_of (state_after (next_of s c) t)) (b ∷ []) [])
    (pass_of s) (λ _. ap (c ∷◌) h) (λ _. h)

stretch_more : (s : List ℕ) (from i : ℕ) → from ≤ i → i < length s → stretch from (i + 1) s ≡ stretch from i s ++ (get_or s i 0 ∷ [])
stretch_more s from i h k =
    let n : (i + 1) - from ≡ suc (i - from) = omega arith in
    let l : i - from < length (drop from s) = rw (length-drop from s) (omega arith) in
    let g : get_or (drop from s) (i - from) 0 ≡ get_or s i 0 = get_or-drop from s (i - from) 0 ∙ ap (λ (j : ℕ). get_or s j 0) (omega arith) in
    rw n (take-suc (drop from s) (i - from) 0 l ∙ ap (λ (b : ℕ). stretch from i s ++ (b ∷ [])) g)

-- a command's bytes go on to the line's end
pass_stays : (s : State) (b : ℕ) → pass_of s ≡ true → pass_of (next_of s b) ≡ true
pass_stays state.Command b h = refl
pass_stays _ b h = absurd (never (sym h))

-- ---- where a walk from `at` stands at `i`: the state is that of the bytes between, none of them is LF, and those from `from` on are handed on
pub record Walked (s : State) (buf : List ℕ) (at : ℕ) (now : State) (from i : ℕ) : Type 0 where
  pub first : at ≤ from
  pub order : from ≤ i
  pub last : i ≤ length buf
  pub read : now ≡ state_after s (stretch at i buf)
  pub handed : stretch from i buf ≡ handed_on s (stretch at i buf)
  pub within : (k : ℕ) → at ≤ k → k < i → get_or buf k 0 ≡ 0x0a → ⊥
  pub none : pass_of now ≡ false → from ≡ i

nothing : (i : ℕ) (s : List ℕ) → stretch i i s ≡ []
nothing i s = let n : i - i ≡ 0 = omega arith in rw n

pub walk_start : (s : State) (buf : List ℕ) (at : ℕ) → at ≤ length buf → Walked s buf at s at at
unfolding state_after handed_on
walk_start s buf at h =
    record {
      first = omega arith;
      order = omega arith;
      last = h;
      read = rw (nothing at buf);
      handed = rw (nothing at buf);
      within = λ k a b _. omega (arith, a, b);
      none = λ _. refl;
    }

-- one step: a byte that is the command's, and one that is not
module _ (s : State) (buf : List ℕ) (at : ℕ) (now : State) (from i : ℕ) (w : Walked s buf at now from i) (t : Stepped) (e : t ≡ stepped_of now (get_or buf i 0)) (h : i < length buf) (l : get_or buf i 0 ≡ 0x0a → ⊥) where
  on : stretch at (i + 1) buf ≡ stretch at i buf ++ (get_or buf i 0 ∷ [])
  on = stretch_more buf at i (omega (arith, w.first, w.order)) h

  reads : t.next ≡ state_after s (stretch at (i + 1) buf)
  reads = rw on (ap (λ (x : Stepped). x.next) e ∙ ap (λ (n : State). next_of n (get_or buf i 0)) w.read ∙ sym (after_more (stretch at i buf) s (get_or buf i 0)))

  passes : pass_of (state_after s (stretch at i buf)) ≡ t.pass
  passes = ap pass_of (sym w.read) ∙ sym (ap (λ (x : Stepped). x.pass) e)

  hands : handed_on s (stretch at (i + 1) buf) ≡ stretch from i buf ++ pick t.pass (get_or buf i 0 ∷ []) []
  hands = rw on (handed_more (stretch at i buf) s (get_or buf i 0) ∙ rw (passes, ← w.handed))

  free : (k : ℕ) → at ≤ k → k < i + 1 → get_or buf k 0 ≡ 0x0a → ⊥
  free k a b f = split (λ x. ltb k i ≡ x → ⊥) (ltb k i) (λ y _. w.within k a (ltb-true k i y) f) (λ n _. l (ap (λ (j : ℕ). get_or buf j 0) (omega (arith, b, ltb-false k i n)) ∙ f)) refl

  pub walk_pass : t.pass ≡ true → Walked s buf at t.next from (i + 1)
  walk_pass p =
      record {
        first = w.first;
        order = omega (arith, w.order);
        last = omega (arith, h);
        read = reads;
        handed = stretch_more buf from i w.order h ∙ sym (rw p at hands);
        within = free;
        none = λ q. absurd (not_both _ (pass_stays now (get_or buf i 0) (sym (ap (λ (x : Stepped). x.pass) e) ∙ p)) (ap (λ (x : Stepped). pass_of x.next) (sym e) ∙ q));
      }

  pub walk_skip : t.pass ≡ false → Walked s buf at t.next (i + 1) (i + 1)
  walk_skip p =
      let gone : stretch from i buf ≡ [] = rw (w.none (sym (ap (λ (x : Stepped). x.pass) e) ∙ p)) (nothing i buf) in
      record {
        first = omega (arith, w.first, w.order);
        order = omega arith;
        last = omega (arith, h);
        read = reads;
        handed = nothing (i + 1) buf ∙ sym (hands ∙ rw (p, gone));
        within = free;
        none = λ _. refl;
      }
