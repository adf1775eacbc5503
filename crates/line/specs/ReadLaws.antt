-- What the reading functions' proofs cite: the library's tests, conjunctions, a loop over bytes, room for ten digits, a size with its sign. Assumes nothing.
use Rattle.std.specs.Prelude.{Bool, true, false, ◌&&◌, ◌≡◌, refl, ℕ, zero, suc, ◌+◌, ◌-◌, ◌*◌, ◌^◌, ◌≤◌, ◌<◌, pos, neg_ℤ, ◌-ℤ◌, not, eqb, leb, ltb, length, get_or, take, drop, Option, Some, None, Result, Ok, Err}
use Rattle.std.proofs.Math.Path.{sym, ap}
use Rattle.std.proofs.Math.Bool.{and_assoc}
use Rattle.std.proofs.Common.{◌∙◌, arith, pow-suc, add-one, lit<, length-drop, drop_of_length-le, drop-cons, take_all, SFits, ⊎_elim, ltb-true, ltb-false, le-leb, eq-eqb, ne_eqb}
use Rattle.std.proofs.lemmas.Bool.{lt-leb}
use mathlib.Core.List.{List, [], ◌∷◌}
use Rattle.std.proofs.Math.Nat.{pow-le-pow_right}
use Rattle.std.proofs.Math.IntN.{+ℤ_idl}
use Rattle.std.specs.Int.{w64}
use Rattle.std.specs.Char.{to_ascii_uppercase}
use Rattle.std.specs.Bool.{then_some}
use Rattle.std.specs.List.{list_all}
use Rattle.cases.specs.Pick.{pick}
use Rattle.cases.specs.PickLaws.{bool_cases, never}
use Rattle.line.specs.declared.names.Letters.{Letters}
use Rattle.line.specs.declared.names.Name.{Name}
use Rattle.line.specs.declared.shape.Param.{Param}
use Rattle.line.specs.declared.shape.Param.TheVariants as param
use Rattle.line.specs.declared.shape.Command.{Command}
use Rattle.line.specs.declared.shape.Fault.{Fault}
use Rattle.line.specs.declared.shape.Fault.TheVariants as fault
use Rattle.line.specs.Names.{letters, called_of}
use Rattle.line.specs.Shape.{all_of, fold_of, is_digit, is_plain, value_from, is_digits, digits_of, text_of, number_of, param_of, command, command_of}

-- the library's upper case, and its test of every element
pub upper_fold : (b : ℕ) → to_ascii_uppercase b ≡ fold_of b
unfolding fold_of
upper_fold b =
    ⊎_elim
    (λ y. let l : b < 0x61 = ltb-true b 0x61 y in rw (y, lt-leb 0x61 b l))
    (λ n. let l : 0x61 ≤ b = ltb-false b 0x61 n in
    ⊎_elim
    (λ y. let m : b < 0x7b = ltb-true b 0x7b y in rw (n, y, le-leb 0x61 b l, le-leb b 0x7a (omega arith)))
    (λ z. let m : 0x7b ≤ b = ltb-false b 0x7b z in rw (n, z, le-leb 0x61 b l, lt-leb b 0x7a (omega arith)))
    (bool_cases (ltb b 0x7b)))
    (bool_cases (ltb b 0x61))

pub list_all_of : (f : ℕ → Bool) (s : List ℕ) → list_all f s ≡ all_of f s
unfolding all_of
list_all_of f [] = refl
list_all_of f (b ∷ t) = rw (list_all_of f t)

-- a conjunction of two tests
pub both : (a b : Bool) → a ≡ true → b ≡ true → (a && b) ≡ true
both a b e h = rw e h

pub not_first : (a b : Bool) → a ≡ false → (a && b) ≡ false
not_first a b e = rw e

pub not_second : (a b : Bool) → b ≡ false → (a && b) ≡ false
not_second true b e = e
not_second false b e = refl

pub ruleset ands = (both, not_first, not_second)

pub and_first : (a b : Bool) → (a && b) ≡ true → a ≡ true
and_first true b e = refl
and_first false b e = e

pub and_second : (a b : Bool) → (a && b) ≡ true → b ≡ true
and_second true b e = e
and_second false b e = absurd (never (sym e))

-- the byte of a text and the number of digits, where the program tests both their ends at once
module _ (b : ℕ) where
  pub plain_yes : (leb 0x20 b && leb b 0x7e) ≡ true → not (eqb b 0x22) ≡ is_plain b
  unfolding is_plain
  plain_yes e = rw (and_first (leb 0x20 b) (leb b 0x7e) e, and_second (leb 0x20 b) (leb b 0x7e) e)

  pub plain_no : (leb 0x20 b && leb b 0x7e) ≡ false → false ≡ is_plain b
  unfolding is_plain
  plain_no e = sym (rw (and_assoc (leb 0x20 b) (leb b 0x7e) (not (eqb b 0x22))) at (not_first (leb 0x20 b && leb b 0x7e) (not (eqb b 0x22)) e))

module _ (s : List ℕ) where
  pub digits_yes : (leb 1 (length s) && leb (length s) 10) ≡ true → all_of is_digit s ≡ true → Some (value_from 0 s) ≡ digits_of s
  unfolding digits_of
  digits_yes e a = rw (and_first (leb 1 (length s)) (leb (length s) 10) e, and_second (leb 1 (length s)) (leb (length s) 10) e, a)

  pub digits_no : (leb 1 (length s) && leb (length s) 10) ≡ false → None ≡ digits_of s
  unfolding digits_of
  digits_no e =
      let n : is_digits s ≡ false = rw (and_assoc (leb 1 (length s)) (leb (length s) 10) (all_of is_digit s)) at (not_first (leb 1 (length s) && leb (length s) 10) (all_of is_digit s) e) in
      rw n

  pub digits_other : (leb 1 (length s) && leb (length s) 10) ≡ true → all_of is_digit s ≡ false → None ≡ digits_of s
  unfolding digits_of
  digits_other e a = rw (and_first (leb 1 (length s)) (leb (length s) 10) e, and_second (leb 1 (length s)) (leb (length s) 10) e, a)

-- a part to the end, as a loan of it is written
pub rest_is : (s : List ℕ) (k : ℕ) → take (length s - k) (drop k s) ≡ drop k s
rest_is s k = take_all (length s - k) (drop k s) (simp length-drop (omega arith))

drop_next : (s : List ℕ) (i : ℕ) → i < length s → drop i s ≡ get_or s i 0 ∷ drop (i + 1) s
drop_next s i h = rw (add-one, drop-cons s i 0 h)

-- a test of every byte, by a loop that stands at `i`
module _ (f : ℕ → Bool) (s : List ℕ) (i : ℕ) (e : all_of f (drop i s) ≡ all_of f s) where
  turn : i < length s → (f (get_or s i 0) && all_of f (drop (i + 1) s)) ≡ all_of f s
  unfolding all_of
  turn h = rw (drop_next s i h) at e

  pub all_no : i < length s → f (get_or s i 0) ≡ false → all_of f s ≡ false
  all_no h n = sym (turn h) ∙ not_first (f (get_or s i 0)) (all_of f (drop (i + 1) s)) n

  pub all_on : i < length s → f (get_or s i 0) ≡ true → all_of f (drop (i + 1) s) ≡ all_of f s
  all_on h y = let k : (true && all_of f (drop (i + 1) s)) ≡ all_of f s = rw y at (turn h) in k

  pub all_end : length s ≤ i → all_of f s ≡ true
  unfolding all_of
  all_end h = sym e ∙ rw (drop_of_length-le s h)

-- the value of digits, by a loop that stands at `i`
module _ (s : List ℕ) (i v : ℕ) (e : value_from v (drop i s) ≡ value_from 0 s) where
  pub value_on : i < length s → value_from (v * 10 + (get_or s i 0 - 0x30)) (drop (i + 1) s) ≡ value_from 0 s
  unfolding value_from
  value_on h = rw (drop_next s i h) at e

  pub value_end : length s ≤ i → Some v ≡ Some (value_from 0 s)
  unfolding value_from
  value_end h = let k : value_from v [] ≡ value_from 0 s = rw (drop_of_length-le s h) at e in ap Some k

-- one digit more
pub digit_room : (i v d : ℕ) → v < 10 ^ i → d < 10 → v * 10 + d < 10 ^ (i + 1)
digit_room i v d h k = rw (add-one, pow-suc) (omega arith)

-- `i` digits are at most `k`
pub room : (i k v : ℕ) → v < 10 ^ i → i ≤ k → v < 10 ^ k
room i k v h l = omega (arith, pow-le-pow_right {n = 10} (lit< tt) l)

-- a negated size
pub zero_sub : (n : ℕ) → pos 0 -ℤ pos n ≡ neg_ℤ (pos n)
zero_sub n = +ℤ_idl (neg_ℤ (pos n))

pub pos_fits : (n : ℕ) → n < 2 ^ 63 → SFits w64 (pos n)
pos_fits n h = record { sfits = h }

pub neg_fits : (n : ℕ) → n < 2 ^ 63 → SFits w64 (neg_ℤ (pos n))
neg_fits zero h = record { sfits = lit< tt }
neg_fits (suc n) h = record { sfits = omega arith }

-- a query, alone after the letters
pub query_part : (t : List ℕ) → 1 ≤ length t → then_some (eqb (length (take (length t - 1) (drop 1 t))) 0) param.Query ≡ pick (ltb 1 (length t)) None (Some param.Query)
query_part t h =
    let k : length (take (length t - 1) (drop 1 t)) ≡ length t - 1 = rw (rest_is t 1) (length-drop 1 t) in
    rw k
    (⊎_elim
    (λ y. let l : 1 < length t = ltb-true 1 (length t) y in rw (y, ne_eqb (length t - 1) 0 (λ e. omega arith)))
    (λ n. let l : length t ≤ 1 = ltb-false 1 (length t) n in rw (n, eq-eqb (length t - 1) 0 (omega arith)))
    (bool_cases (ltb 1 (length t))))

-- what a part that was lent reads as
pub text_part : (t : List ℕ) (r : Option Param) → r ≡ text_of (take (length t - 1) (drop 1 t)) → r ≡ text_of (drop 1 t)
text_part t r h = rw (rest_is t 1) at h

pub number_part : (t : List ℕ) (n : Bool) (r : Option Param) → r ≡ number_of n (take (length t - 1) (drop 1 t)) → r ≡ number_of n (drop 1 t)
number_part t n r h = rw (rest_is t 1) at h

pub command_part : (s : List ℕ) (a b c x y z : ℕ) (r : Option Param) (t : Result Command Fault) → a ≡ x → b ≡ y → c ≡ z → r ≡ param_of (take (length s - 3) (drop 3 s)) →
    t ≡ command_of (letters a b c) r → t ≡ command_of (letters x y z) (param_of (drop 3 s))
command_part s a b c x y z r t i j k h e = e ∙ rw (h, i, j, k, rest_is s 3)

-- three tests, by their names
pub three_via : (a b c x y z t : Bool) → a ≡ x → b ≡ y → c ≡ z → (a && (b && c)) ≡ t → (x && (y && z)) ≡ t
three_via a b c x y z t i j k e = rw (i, j, k) at e

-- the three ends of a line that is well-formed or not
pub command_bad : (n : Letters) (x : Option Param) → x ≡ None → Err fault.Malformed ≡ command_of n x
unfolding command_of
command_bad n x e = rw e

module _ (n : Letters) (x : Option Param) (p : Param) (k : Option Name) (e : x ≡ Some p) (h : k ≡ called_of n) where
  pub command_unknown : k ≡ None → Err fault.Unknown ≡ command_of n x
  unfolding command_of
  command_unknown u = rw (e, ← h, u)

  pub command_known : (m : Name) → k ≡ Some m → Ok (command m p) ≡ command_of n x
  unfolding command_of
  command_known m u = rw (e, ← h, u)
