-- A reply that grows holds what was pushed. Assumes nothing.
use Rattle.std.specs.Prelude.{◌≡◌, refl, List, [], ◌∷◌, ◌++◌, ℕ, suc, ◌+◌, ◌-◌, ◌/◌, ◌≤◌, ◌<◌, ◌%◌, length, get_or, set, take, drop, map, replicate}
use Rattle.std.proofs.Common.{sym, ap, lit≤, ◌∙◌, append-nil, append_assoc, arith, length-append, length-set, lt-ltb, le-ltb, take-append-drop, drop-set-lt, drop-cons}
use Rattle.std.proofs.lemmas.List.{set_at, drop-set, map-append}
use Rattle.std.proofs.Math.Seq.{append_snoc, take-suc-set}
use Rattle.reply.specs.declared.Reply.{Reply}
use Rattle.reply.specs.Reply.{ROOM, places_of, reply_of}
use Rattle.reply.specs.Push.{laid, pushes}

more : (s : List ℕ) (b : ℕ) → length (s ++ (b ∷ [])) ≡ length s + 1
more s b = length-append s (b ∷ [])

-- bytes laid over the zeros behind s
laid_is : (t s : List ℕ) (k : ℕ) → laid (s ++ replicate (length t + k) 0) (length s) t ≡ (s ++ t) ++ replicate k 0
laid_is [] s k = let e : 0 + k ≡ k = omega arith in rw (e, append-nil s)
laid_is (b ∷ t) s k =
    let m : suc (length t) + k ≡ suc (length t + k) = omega arith in
    let e : set (s ++ replicate (suc (length t + k)) 0) (length s) b ≡ (s ++ (b ∷ [])) ++ replicate (length t + k) 0 =
    set_at s 0 (replicate (length t + k) 0) b (length s) refl ∙ sym (append_snoc s b (replicate (length t + k) 0)) in
    rw (m, e, ← more s b, laid_is t (s ++ (b ∷ [])) k, append_snoc s b t)

-- laid byte by byte is laid as a whole
laid_whole : (s l : List ℕ) (i : ℕ) → i + length s ≤ length l → laid l i s ≡ take i l ++ (s ++ drop (length s) (drop i l))
laid_whole [] l i h = sym (take-append-drop i l)
laid_whole (b ∷ s) l i h =
    let e : i + 1 ≡ suc i = omega arith in
    laid_whole s (set l i b) (i + 1) (omega (arith, length-set l i b)) ∙
    rw (e, take-suc-set l i b (omega arith), drop-set-lt (suc i) l i b (omega arith), append_snoc (take i l) b (s ++ drop (length s) (drop (suc i) l)), drop-cons l i 0 (omega arith)) refl

-- what the code gives where there is no room, and what it writes where there is, as a whole too
pub full : (q : Reply) (s : List ℕ) → ROOM - length s < q.len → q ≡ pushes q s
unfolding pushes
full q s h = simp (lt-ltb (ROOM - length s) q.len h)

pub there : (q r : Reply) (s : List ℕ) → q.len ≤ ROOM - length s → r ≡ record { bytes = laid q.bytes q.len s; len = q.len + length s } → r ≡ pushes q s
unfolding pushes
there q r s h e = rw (le-ltb (ROOM - length s) q.len h) e

pub copied : (q : Reply) (s : List ℕ) (n : ℕ) → length q.bytes ≡ ROOM → length s ≤ ROOM → q.len ≤ ROOM - length s → n ≡ length s →
    record { bytes = take q.len q.bytes ++ (s ++ drop n (drop q.len q.bytes)); len = q.len + length s } ≡ pushes q s
copied q s n l k h e = there q _ s h (rw (e, laid_whole s q.bytes q.len (omega (arith, l))) refl)

-- a reply of the bytes s, and t behind them
pub onto : (q r : Reply) (s t : List ℕ) → q ≡ reply_of s → r ≡ pushes q t → length s + length t ≤ ROOM → r ≡ reply_of (s ++ t)
unfolding pushes reply_of
onto q r s t e f k =
    let m : ROOM - length s ≡ length t + (ROOM - (length s + length t)) = omega arith in
    f ∙ rw (e, le-ltb (ROOM - length t) (length s) (omega arith), m, laid_is t s (ROOM - (length s + length t)), ← length-append s t)

-- a place more: the digit goes in front of those that stand
pub digit_on : (nought i n : ℕ) (s : List ℕ) → i < length s →
    map (nought +◌) (places_of 10 (suc i) n) ++ drop (suc i) s ≡ map (nought +◌) (places_of 10 i (n / 10)) ++ drop i (set s i (nought + n % 10))
unfolding places_of
digit_on nought i n s h =
    let e : suc i ≡ i + 1 = omega arith in
    rw (map-append (nought +◌) (places_of 10 i (n / 10)) ((n % 10) ∷ []), drop-set s i (nought + n % 10) h, e)
    (append_assoc (map (nought +◌) (places_of 10 i (n / 10))) ((nought + n % 10) ∷ []) (drop (i + 1) s))

-- a list of three, pushed as its three bytes
three : (s : List ℕ) → length s ≡ 3 → get_or s 0 0 ∷ get_or s 1 0 ∷ get_or s 2 0 ∷ [] ≡ s
three [] e = absurd (omega arith)
three (a ∷ []) e = absurd (omega arith)
three (a ∷ b ∷ []) e = absurd (omega arith)
three (a ∷ b ∷ c ∷ []) e = refl
three (a ∷ b ∷ c ∷ d ∷ s) e = absurd (omega arith)

pub onto_three : (q r : Reply) (s : List ℕ) → length s ≡ 3 → q ≡ reply_of [] → r ≡ pushes q (get_or s 0 0 ∷ get_or s 1 0 ∷ get_or s 2 0 ∷ []) → r ≡ reply_of s
onto_three q r s h e f = onto q r [] (get_or s 0 0 ∷ get_or s 1 0 ∷ get_or s 2 0 ∷ []) e f (lit≤ tt) ∙ ap reply_of (three s h)

-- three digits down
pub thousands : (n : ℕ) → n / 1000 ≡ n / 10 / 10 / 10
thousands n = omega arith
