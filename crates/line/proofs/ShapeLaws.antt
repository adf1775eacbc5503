-- What is written as document 01 says is read as what it is: no reader that refuses well-formed lines meets `shape_of`. Assumes nothing.
use Rattle.std.specs.Prelude.{Bool, ◌&&◌, ◌≡◌, ℕ, zero, suc, ◌+◌, ◌-◌, ◌*◌, ◌/◌, ◌%◌, ◌^◌, ◌≤◌, ◌<◌, pos, neg_ℤ, get_or, leb, Option, Some, None}
use Rattle.std.proofs.Math.Bool.{true, false}
use Rattle.std.proofs.Math.Path.{refl}
use Rattle.std.proofs.Common.{sym, ap, ◌∙◌, pow-suc, add-mul, mul_assoc, mul_comm, mod-lt, div-add-mod', add-one, lit<}
use mathlib.Core.List.{List, [], ◌∷◌, ◌++◌, map}
use native.Mathlib.Omega.{arith}
use Rattle.std.proofs.Math.ListN.{length, length-append}
use Rattle.std.proofs.Math.Seq.{take_at, get_or_at}
use borrow.Author.Tests.{ne_eqb, le-ltb, le-leb, lt-leb, leb-true}
use Rattle.cases.specs.PickLaws.{never}
use Rattle.line.specs.declared.names.Letters.{Letters}
use Rattle.line.specs.declared.shape.Param.TheVariants as param
use Rattle.line.specs.declared.names.Name.{Name}
use Rattle.line.specs.Cut.{Every}
use Rattle.line.specs.Names.{Entry, letters, names, same_of, look_of, called_of}
use Rattle.line.specs.Param.{number, text_in}
use Rattle.line.specs.Shape.{all_of, is_letter, fold_of, is_digit, value_from, is_digits, digits_of, signed_of, number_of, is_plain, text_of, param_of, known_of, command_of, shape_of}
use Rattle.line.specs.ReadLaws.{and_first, and_second}
use Rattle.line.specs.Written.{decimal, between, is_upper, upper_of, cased, letters_of, Reads}

-- nothing, and a query
pub nothing_reads : param_of [] ≡ Some param.Nothing
unfolding param_of
nothing_reads = refl

pub query_reads : param_of (0x3f ∷ []) ≡ Some param.Query
unfolding param_of
query_reads = refl

-- digits are read by their places: the first one counts a power of ten for each that follows
value_more : (t : List ℕ) (v : ℕ) → value_from v t ≡ v * 10 ^ length t + value_from 0 t
unfolding value_from
value_more [] v = omega arith
value_more (b ∷ t) v =
    let d = b - 0x30 in
    let z : 0 * 10 + (b - 0x30) ≡ b - 0x30 = omega arith in
    value_more t (v * 10 + (b - 0x30))
    ∙ rw (z, value_more t (b - 0x30), pow-suc 10 (length t), add-mul (v * 10) (b - 0x30) (10 ^ length t), mul_assoc v 10 (10 ^ length t), mul_comm 10 (10 ^ length t)) (omega arith)

pub value_first : (b : ℕ) (t : List ℕ) → value_from 0 (b ∷ t) ≡ (b - 0x30) * 10 ^ length t + value_from 0 t
unfolding value_from
value_first b t = let z : 0 * 10 + (b - 0x30) ≡ b - 0x30 = omega arith in rw z (value_more t (b - 0x30))

-- a number of `k` digits
value_append : (a b : List ℕ) (v : ℕ) → value_from v (a ++ b) ≡ value_from (value_from v a) b
unfolding value_from
value_append [] b v = refl
value_append (x ∷ a) b v = value_append a b (v * 10 + (x - 0x30))

all_append : (f : ℕ → Bool) (a b : List ℕ) → all_of f a ≡ true → all_of f b ≡ true → all_of f (a ++ b) ≡ true
unfolding all_of
all_append f [] b h k = k
all_append f (x ∷ a) b h k = rw (and_first (f x) (all_of f a) h) (all_append f a b (and_second (f x) (all_of f a) h) k)

decimal_length : (k n : ℕ) → length (decimal k n) ≡ k
unfolding decimal
decimal_length zero n = refl
decimal_length (suc k) n = length-append (decimal k (n / 10)) ((0x30 + n % 10) ∷ []) ∙ rw (decimal_length k (n / 10)) (add-one k)

last_digit : (n : ℕ) → all_of is_digit ((0x30 + n % 10) ∷ []) ≡ true
unfolding all_of is_digit
last_digit n = let h : n % 10 < 10 = mod-lt n (lit< tt) in simp (le-leb 0x30 (0x30 + n % 10) (omega arith), le-leb (0x30 + n % 10) 0x39 (omega arith))

decimal_all : (k n : ℕ) → all_of is_digit (decimal k n) ≡ true
unfolding decimal all_of
decimal_all zero n = refl
decimal_all (suc k) n = all_append is_digit (decimal k (n / 10)) ((0x30 + n % 10) ∷ []) (decimal_all k (n / 10)) (last_digit n)

pub decimal_digits : (k n : ℕ) → 1 ≤ k → k ≤ 10 → is_digits (decimal k n) ≡ true
decimal_digits k n h l = rw (decimal_length k n, decimal_all k n, le-leb 1 k h, le-leb k 10 l)

pub decimal_value : (k n : ℕ) → n < 10 ^ k → value_from 0 (decimal k n) ≡ n
unfolding decimal value_from
decimal_value zero n h = omega arith
decimal_value (suc k) n h =
    let p : n < 10 ^ k * 10 = rw (pow-suc 10 k) at h in
    let q : n / 10 * 10 + n % 10 ≡ n = div-add-mod' n 10 in
    value_append (decimal k (n / 10)) ((0x30 + n % 10) ∷ []) 0 ∙ rw (decimal_value k (n / 10) (omega arith)) (omega arith)

-- 1 to 10 digits read as their value, with no sign, with "+" and with "-"
module _ (s : List ℕ) (d : is_digits s ≡ true) where
  digits_read : digits_of s ≡ Some (value_from 0 s)
  unfolding digits_of
  digits_read = rw d

  pub plus_reads : param_of (0x2b ∷ s) ≡ Some (param.Number (number (pos (value_from 0 s))))
  unfolding param_of number_of signed_of
  plus_reads = simp (le-ltb (suc (length s)) 1 (omega arith), digits_read)

  pub minus_reads : param_of (0x2d ∷ s) ≡ Some (param.Number (number (neg_ℤ (pos (value_from 0 s)))))
  unfolding param_of number_of signed_of
  minus_reads = simp (le-ltb (suc (length s)) 1 (omega arith), digits_read)

-- the first digit is no mark of another kind
module _ (b : ℕ) (t : List ℕ) (d : is_digits (b ∷ t) ≡ true) where
  first_digit : is_digit b ≡ true
  unfolding all_of
  first_digit = and_first (is_digit b) (all_of is_digit t) (and_second (leb (suc (length t)) 10) (is_digit b && all_of is_digit t) (and_second (leb 1 (suc (length t))) (leb (suc (length t)) 10 && (is_digit b && all_of is_digit t)) d))

  bare : param_of (b ∷ t) ≡ Some (param.Number (number (pos (value_from 0 (b ∷ t)))))
  unfolding param_of number_of signed_of is_digit
  bare =
      let lo : 0x30 ≤ b = leb-true 0x30 b (and_first (leb 0x30 b) (leb b 0x39) first_digit) in
      let hi : b ≤ 0x39 = leb-true b 0x39 (and_second (leb 0x30 b) (leb b 0x39) first_digit) in
      simp (le-ltb (suc (length t)) 1 (omega arith), ne_eqb b 0x3f (λ e. omega arith), ne_eqb b 0x22 (λ e. omega arith), ne_eqb b 0x2d (λ e. omega arith), ne_eqb b 0x2b (λ e. omega arith), digits_read (b ∷ t) d)

pub bare_reads : (s : List ℕ) → is_digits s ≡ true → param_of s ≡ Some (param.Number (number (pos (value_from 0 s))))
bare_reads [] d = absurd (never (sym d))
bare_reads (b ∷ t) d = bare b t d

-- so every number of 1 to 10 digits is read back
module _ (k n : ℕ) (h : n < 10 ^ k) (l : 1 ≤ k) (m : k ≤ 10) where
  pub number_reads : param_of (decimal k n) ≡ Some (param.Number (number (pos n)))
  number_reads = bare_reads (decimal k n) (decimal_digits k n l m) ∙ rw (decimal_value k n h)

  pub number_plus_reads : param_of (0x2b ∷ decimal k n) ≡ Some (param.Number (number (pos n)))
  number_plus_reads = plus_reads (decimal k n) (decimal_digits k n l m) ∙ rw (decimal_value k n h)

  pub number_minus_reads : param_of (0x2d ∷ decimal k n) ≡ Some (param.Number (number (neg_ℤ (pos n))))
  number_minus_reads = minus_reads (decimal k n) (decimal_digits k n l m) ∙ rw (decimal_value k n h)

-- a text between quotes reads as itself
module _ (t : List ℕ) (p : all_of is_plain t ≡ true) where
  pub text_reads : param_of (between t) ≡ Some (param.Text 4 (length t))
  unfolding param_of text_of
  text_reads =
      let more : length (t ++ (0x22 ∷ [])) ≡ length t + 1 = length-append t (0x22 ∷ []) in
      let less : length t + 1 - 1 ≡ length t = omega arith in
      rw (le-ltb (suc (length (t ++ (0x22 ∷ [])))) 1 (omega arith))
      (simp (more, less, le-leb 1 (length t + 1) (omega arith), get_or_at t 0x22 [] 0 (length t) refl, take_at t (0x22 ∷ []) (length t) refl, p))

pub text_is : (a b c : ℕ) (t : List ℕ) → text_in (param.Text 4 (length t)) (a ∷ b ∷ c ∷ between t) ≡ t
text_is a b c t = take_at t (0x22 ∷ []) (length t) refl

-- letters of either case stand for the upper-case ones
module _ (b : ℕ) (u : is_upper b ≡ true) where
  upper_low : 0x41 ≤ b
  unfolding is_upper
  upper_low = leb-true 0x41 b (and_first (leb 0x41 b) (leb b 0x5a) u)

  upper_high : b ≤ 0x5a
  unfolding is_upper
  upper_high = leb-true b 0x5a (and_second (leb 0x41 b) (leb b 0x5a) u)

  pub cased_letter : (lower : Bool) → is_letter (cased lower b) ≡ true
  unfolding is_letter cased
  cased_letter true =
      let lo = upper_low in
      let hi = upper_high in
      simp (le-leb 0x41 (b + 0x20) (omega arith), lt-leb (b + 0x20) 0x5a (omega arith), le-leb 0x61 (b + 0x20) (omega arith), le-leb (b + 0x20) 0x7a (omega arith))
  cased_letter false = simp (le-leb 0x41 b upper_low, le-leb b 0x5a upper_high)

  pub cased_fold : (lower : Bool) → fold_of (cased lower b) ≡ b
  unfolding fold_of cased
  cased_fold true =
      let lo = upper_low in
      let hi = upper_high in
      let back : b + 0x20 - 0x20 ≡ b = omega arith in
      simp (le-leb 0x61 (b + 0x20) (omega arith), le-leb (b + 0x20) 0x7a (omega arith), back)
  cased_fold false = let hi = upper_high in simp (lt-leb 0x61 b (omega arith))

-- three letters, then what is well-formed or not
pub letters_read : (a b c : ℕ) (t : List ℕ) → is_letter a ≡ true → is_letter b ≡ true → is_letter c ≡ true →
    shape_of (a ∷ b ∷ c ∷ t) ≡ command_of (letters (fold_of a) (fold_of b) (fold_of c)) (param_of t)
unfolding shape_of
letters_read a b c t i j k = simp (le-ltb (suc (suc (suc (length t)))) 3 (omega arith), i, j, k)

-- every name's letters, upper-case ones, call that name, and letters that are no name's call none
pub names_called : map (λ (e : Entry). called_of (letters_of e)) names ≡ map (λ (e : Entry). Some e.name) names
unfolding same_of
names_called = refl

names_upper : map upper_of names ≡ map (λ (e : Entry). true) names
unfolding is_upper
names_upper = refl

pub look_none : (l : List Entry) (n : Letters) → Every (λ e. same_of n e.letters ≡ false) l → look_of l n ≡ None
look_none [] n h = refl
look_none (e ∷ l) n h = rw h.0 (look_none l n h.1)

entry_reads : (e : Entry) → called_of (letters_of e) ≡ Some e.name → upper_of e ≡ true → Reads e
unfolding command_of
entry_reads e h u x y z t p k =
    let a = get_or e.letters 0 0 in
    let b = get_or e.letters 1 0 in
    let c = get_or e.letters 2 0 in
    let ua : is_upper (get_or e.letters 0 0) ≡ true = and_first (is_upper a) (is_upper b && is_upper c) u in
    let ub : is_upper (get_or e.letters 1 0) ≡ true = and_first (is_upper b) (is_upper c) (and_second (is_upper a) (is_upper b && is_upper c) u) in
    let uc : is_upper (get_or e.letters 2 0) ≡ true = and_second (is_upper b) (is_upper c) (and_second (is_upper a) (is_upper b && is_upper c) u) in
    letters_read (cased x a) (cased y b) (cased z c) t (cased_letter a ua x) (cased_letter b ub y) (cased_letter c uc z)
    ∙ rw (cased_fold a ua x, cased_fold b ub y, cased_fold c uc z, k) (ap (λ (m : Option Name). known_of m p) h)

all_read : (l : List Entry) → map (λ (e : Entry). called_of (letters_of e)) l ≡ map (λ (e : Entry). Some e.name) l → map upper_of l ≡ map (λ (e : Entry). true) l → Every Reads l
all_read [] h u = tt
all_read (e ∷ l) h u = (entry_reads e (cc) (cc), all_read l (cc) (cc))

pub names_read : Every Reads names
names_read = all_read names names_called names_upper
