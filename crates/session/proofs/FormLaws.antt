-- What is written as the bench form says is read as what it is, for every x and with any count of leading zeros; and nothing else is. Assumes nothing.
use Rattle.std.specs.Prelude.{Bool, Option, Some, None, ◌&&◌, ◌||◌, ◌≡◌, List, [], ◌∷◌, ◌++◌, ℕ, zero, suc, ◌+◌, ◌-◌, ◌*◌, ◌/◌, ◌%◌, ◌^◌, ◌≤◌, ◌<◌, ℤ, pos, negsuc, neg_ℤ, nat_abs, leb, eqb}
use Rattle.std.proofs.Math.Bool.{true, false}
use Rattle.std.proofs.Math.Path.{refl}
use Rattle.std.proofs.Common.{sym, ap, ◌∙◌, ⊎_elim, arith, pow-suc, mod-lt, div-add-mod', lit<, ne_eqb, le-leb, leb-true, eqb-true, SFits}
use Rattle.std.proofs.lemmas.Option.{none-some}
use Rattle.std.specs.Int.{w32}
use Rattle.cases.specs.Pick.{pick}
use Rattle.cases.specs.PickLaws.{never, split, bool_cases}
use Rattle.cases.specs.TestsLaws.{both_yes}
use Rattle.session.specs.declared.Event.{Event}
use Rattle.session.specs.declared.Event.TheVariants as event
use Rattle.session.specs.Form.{words_of, is_byte, is_digit, all_digits, is_digits, value_from, has_minus, size_in, signed_of, in_range, sample_of, sample_in, is_command, event_of, command_of}
use Rattle.session.proofs.SampleLaws.{minus_some, plus_some, digit_low}
use Rattle.session.specs.Written.{decimal_in, text_in, sample_line, IsSample, joined}

-- ---- read back
-- a command, whatever its bytes; a restart
pub command_reads : (t : List ℕ) → (event_of (0x63 ∷ 0x20 ∷ t) ≡ Some event.Command) × (command_of (0x63 ∷ 0x20 ∷ t) ≡ t)
unfolding event_of command_of
command_reads t = (refl, refl)

pub restart_reads : event_of (0x72 ∷ []) ≡ Some event.Restart
unfolding event_of
restart_reads = refl

-- a number of `k` digits
value_append : (a b : List ℕ) (v : ℕ) → value_from v (a ++ b) ≡ value_from (value_from v a) b
unfolding value_from
value_append [] b v = refl
value_append (x ∷ a) b v = value_append a b (v * 10 + (x - 0x30))

all_append : (a b : List ℕ) → all_digits a ≡ true → all_digits b ≡ true → all_digits (a ++ b) ≡ true
unfolding all_digits
all_append [] b h k = k
all_append (x ∷ a) b h k = let p = both_yes (is_digit x) (all_digits a) h in rw p.0 (all_append a b p.1 k)

last_digit : (n : ℕ) → all_digits ((0x30 + n % 10) ∷ []) ≡ true
unfolding all_digits is_digit
last_digit n = let h : n % 10 < 10 = mod-lt n (lit< tt) in simp (le-leb 0x30 (0x30 + n % 10) (omega arith), le-leb (0x30 + n % 10) 0x39 (omega arith))

decimal_all : (k n : ℕ) → all_digits (decimal_in k n) ≡ true
unfolding decimal_in all_digits
decimal_all zero n = refl
decimal_all (suc k) n = all_append (decimal_in k (n / 10)) ((0x30 + n % 10) ∷ []) (decimal_all k (n / 10)) (last_digit n)

decimal_value : (k n : ℕ) → n < 10 ^ k → value_from 0 (decimal_in k n) ≡ n
unfolding decimal_in value_from
decimal_value zero n h = omega arith
decimal_value (suc k) n h =
    let p : n < 10 ^ k * 10 = rw (pow-suc 10 k) at h in
    let q : n / 10 * 10 + n % 10 ≡ n = div-add-mod' n 10 in
    value_append (decimal_in k (n / 10)) ((0x30 + n % 10) ∷ []) 0 ∙ rw (decimal_value k (n / 10) (omega arith)) (omega arith)

some_digits : (s : List ℕ) (a : ℕ) → all_digits (s ++ (a ∷ [])) ≡ true → is_digits (s ++ (a ∷ [])) ≡ true
some_digits [] a h = h
some_digits (b ∷ s) a h = h

decimal_digits : (k n : ℕ) → 1 ≤ k → is_digits (decimal_in k n) ≡ true
unfolding decimal_in
decimal_digits zero n h = absurd (omega arith)
decimal_digits (suc k) n h = some_digits (decimal_in k (n / 10)) (0x30 + n % 10) (decimal_all (suc k) n)

-- digits are one word, and their first is no minus
digit_not : (a k : ℕ) → is_digit a ≡ true → k < 0x30 → eqb a k ≡ false
digit_not a k d h = ne_eqb a k (λ e. omega (arith, digit_low a d))

digits_word : (x t : List ℕ) → all_digits x ≡ true → words_of (x ++ (0x20 ∷ t)) ≡ record { first = x; others = (words_of t).first ∷ (words_of t).others }
unfolding words_of all_digits
digits_word [] t d = refl
digits_word (a ∷ x) t d = let p = both_yes (is_digit a) (all_digits x) d in rw (digit_not a 0x20 p.0 (lit< tt), digits_word x t p.1)

no_minus : (s : List ℕ) → is_digits s ≡ true → (has_minus s ≡ false) × (size_in s ≡ s)
unfolding all_digits
no_minus [] d = absurd (never (sym d))
no_minus (a ∷ s) d = let e = digit_not a 0x2d (both_yes (is_digit a) (all_digits s) d).0 (lit< tt) in (e, rw e)

all_of : (s : List ℕ) → is_digits s ≡ true → all_digits s ≡ true
all_of [] d = absurd (never (sym d))
all_of (a ∷ s) d = d

-- a word that says x, and the flag after it
sample_in_lem : (x y : List ℕ) (n still : Bool) → has_minus x ≡ n → size_in x ≡ y → is_digits y ≡ true →
    sample_in (0x73 ∷ []) (x ∷ (pick still 0x31 0x30 ∷ []) ∷ []) ≡ sample_of (signed_of n (value_from 0 y)) still
unfolding sample_in
sample_in_lem x [] n still p q d = absurd (never (sym d))
sample_in_lem x (a ∷ y) n true p q d = rw (p, q, d)
sample_in_lem x (a ∷ y) n false p q d = rw (p, q, d)

one_word : (still : Bool) → words_of (pick still 0x31 0x30 ∷ []) ≡ record { first = pick still 0x31 0x30 ∷ []; others = [] }
unfolding words_of
one_word true = refl
one_word false = refl

-- digits without a minus and with one
module _ (s : List ℕ) (d : is_digits s ≡ true) (still : Bool) where
  words : words_of (s ++ (0x20 ∷ pick still 0x31 0x30 ∷ [])) ≡ record { first = s; others = (pick still 0x31 0x30 ∷ []) ∷ [] }
  words = digits_word s (pick still 0x31 0x30 ∷ []) (all_of s d) ∙ rw (one_word still)

  pub digits_read : event_of (sample_line s still) ≡ sample_of (signed_of false (value_from 0 s)) still
  unfolding event_of words_of
  digits_read = rw words (sample_in_lem s s false still (no_minus s d).0 (no_minus s d).1 d)

  pub minus_digits_read : event_of (sample_line (0x2d ∷ s) still) ≡ sample_of (signed_of true (value_from 0 s)) still
  unfolding event_of words_of
  minus_digits_read = rw words (sample_in_lem (0x2d ∷ s) s true still refl refl d)

module _ (k n : ℕ) (still : Bool) (h : n < 10 ^ k) (l : 1 ≤ k) where
  pub plus_reads : n ≤ 2147483647 → event_of (sample_line (decimal_in k n) still) ≡ Some (event.Sample (pos n) still)
  plus_reads m = digits_read (decimal_in k n) (decimal_digits k n l) still ∙ rw (decimal_value k n h) (sym (plus_some false n still refl m))

  -- -0 among them
  pub minus_reads : n ≤ 2147483648 → event_of (sample_line (0x2d ∷ decimal_in k n) still) ≡ Some (event.Sample (neg_ℤ (pos n)) still)
  minus_reads m = minus_digits_read (decimal_in k n) (decimal_digits k n l) still ∙ rw (decimal_value k n h) (sym (minus_some true n still refl m))

-- every x of signed 32 bits, in any count of digits that it has room in
pub sample_reads : (x : ℤ) (k : ℕ) (still : Bool) → SFits w32 x → nat_abs x < 10 ^ k → 1 ≤ k → event_of (sample_line (text_in k x) still) ≡ Some (event.Sample x still)
sample_reads (pos n) k still f h l = let g : n < 2147483648 = f.sfits in plus_reads k n still h l (omega arith)
sample_reads (negsuc n) k still f h l = let g : n < 2147483648 = f.sfits in minus_reads k (suc n) still h l (omega arith)

-- ---- and nothing else
-- a line is its words with one blank between each and the next
joined_more : (a : ℕ) (w : List ℕ) (t : List (List ℕ)) → joined (a ∷ w) t ≡ a ∷ joined w t
unfolding joined
joined_more a w [] = refl
joined_more a w (v ∷ t) = refl

pub joined_words : (line : List ℕ) → joined (words_of line).first (words_of line).others ≡ line
unfolding words_of joined
joined_words [] = refl
joined_words (a ∷ t) =
    ⊎_elim (λ e. rw e (ap (0x20 ∷◌) (joined_words t) ∙ ap (◌∷ t) (sym (eqb-true a 0x20 e)))) (λ e. rw e (joined_more a (words_of t).first (words_of t).others ∙ ap (a ∷◌) (joined_words t))) (bool_cases (eqb a 0x20))

byte_is : (k : ℕ) (s : List ℕ) → is_byte k s ≡ true → s ≡ k ∷ []
byte_is k [] e = absurd (never (sym e))
byte_is k (a ∷ []) e = rw (eqb-true a k e)
byte_is k (a ∷ b ∷ t) e = absurd (never (sym e))

flag_is : (f : List ℕ) (still : Bool) → (is_byte 0x31 f || is_byte 0x30 f) ≡ true → is_byte 0x31 f ≡ still → f ≡ pick still 0x31 0x30 ∷ []
flag_is f true e h = byte_is 0x31 f h
flag_is f false e h = byte_is 0x30 f (rw h at e)

in_range_lem : (z : ℤ) → in_range z ≡ true → SFits w32 z
unfolding in_range
in_range_lem (pos n) e = record { sfits = let h : n ≤ 2147483647 = leb-true n 2147483647 e in omega arith }
in_range_lem (negsuc n) e = record { sfits = let h : n ≤ 2147483647 = leb-true n 2147483647 (both_yes (leb n 2147483647) true e).0 in omega arith }

sample_is : (z x : ℤ) (f still : Bool) → sample_of z f ≡ Some (event.Sample x still) → (z ≡ x) × (f ≡ still) × SFits w32 x
unfolding sample_of
sample_is z x f still =
    split (λ b. pick b (Some (event.Sample z f)) None ≡ Some (event.Sample x still) → (z ≡ x) × (f ≡ still) × SFits w32 x) (in_range z)
    (λ e h. let k : z ≡ x = cc in (k, (cc), rw k at (in_range_lem z e)))
    (λ e h. absurd (none-some _ h))

-- three words that are read as a sample
module _ (s w f : List ℕ) (x : ℤ) (still : Bool) where
  three : (is_byte 0x73 s && (is_digits (size_in w) && (is_byte 0x31 f || is_byte 0x30 f))) ≡ true →
      sample_of (signed_of (has_minus w) (value_from 0 (size_in w))) (is_byte 0x31 f) ≡ Some (event.Sample x still) → IsSample (joined s (w ∷ f ∷ [])) x still
  unfolding joined
  three e h =
      let p = both_yes (is_byte 0x73 s) (is_digits (size_in w) && (is_byte 0x31 f || is_byte 0x30 f)) e in
      let q = both_yes (is_digits (size_in w)) (is_byte 0x31 f || is_byte 0x30 f) p.1 in
      let k = sample_is (signed_of (has_minus w) (value_from 0 (size_in w))) x (is_byte 0x31 f) still h in
      record { text = w; digits = q.0; value = k.0; range = k.2; whole = rw (byte_is 0x73 s p.0, flag_is f still q.1 k.1) }

words_only : (s : List ℕ) (t : List (List ℕ)) (x : ℤ) (still : Bool) → sample_in s t ≡ Some (event.Sample x still) → IsSample (joined s t) x still
unfolding sample_in
words_only s [] x still h = absurd (none-some _ h)
words_only s (w ∷ []) x still h = absurd (none-some _ h)
words_only s (w ∷ f ∷ []) x still h =
    split
    (λ b. (is_byte 0x73 s && (is_digits (size_in w) && (is_byte 0x31 f || is_byte 0x30 f))) ≡ b → pick b (sample_of (signed_of (has_minus w) (value_from 0 (size_in w))) (is_byte 0x31 f)) None ≡ Some (event.Sample x still) → IsSample (joined s (w ∷ f ∷ [])) x still)
    (is_byte 0x73 s && (is_digits (size_in w) && (is_byte 0x31 f || is_byte 0x30 f)))
    (λ _ e k. three s w f x still e k)
    (λ _ e k. absurd (none-some _ k))
    refl
    h
words_only s (w ∷ f ∷ v ∷ t) x still h = absurd (none-some _ h)

-- a line that is read as a sample is one, with that x and that flag
pub sample_only : (line : List ℕ) (x : ℤ) (still : Bool) → event_of line ≡ Some (event.Sample x still) → IsSample line x still
unfolding event_of
sample_only line x still =
    split (λ b. pick b (Some event.Command) (pick (is_byte 0x72 line) (Some event.Restart) (sample_in (words_of line).first (words_of line).others)) ≡ Some (event.Sample x still) → IsSample line x still) (is_command line)
    (λ e h. let n : ◌≡◌ {A = ℕ} 0 1 = cc in absurd (omega arith))
    (λ e. split (λ b. pick b (Some event.Restart) (sample_in (words_of line).first (words_of line).others) ≡ Some (event.Sample x still) → IsSample line x still) (is_byte 0x72 line)
    (λ k h. let n : ◌≡◌ {A = ℕ} 0 1 = cc in absurd (omega arith))
    (λ k h. rw (joined_words line) at (words_only (words_of line).first (words_of line).others x still h)))

-- words alone make no command and no restart
abbrev weighs : Option Event → Bool
weighs None = true
weighs (Some event.Command) = false
weighs (Some (event.Sample x still)) = true
weighs (Some event.Restart) = false

pick_weighs : (b : Bool) (e : Option Event) → weighs e ≡ true → weighs (pick b e None) ≡ true
pick_weighs true e h = h
pick_weighs false e h = refl

sample_weighs : (z : ℤ) (f : Bool) → weighs (sample_of z f) ≡ true
unfolding sample_of
sample_weighs z f = pick_weighs (in_range z) (Some (event.Sample z f)) refl

words_weigh : (s : List ℕ) (t : List (List ℕ)) → weighs (sample_in s t) ≡ true
unfolding sample_in
words_weigh s [] = refl
words_weigh s (w ∷ []) = refl
words_weigh s (w ∷ f ∷ []) =
    pick_weighs (is_byte 0x73 s && (is_digits (size_in w) && (is_byte 0x31 f || is_byte 0x30 f))) (sample_of (signed_of (has_minus w) (value_from 0 (size_in w))) (is_byte 0x31 f)) (sample_weighs (signed_of (has_minus w) (value_from 0 (size_in w))) (is_byte 0x31 f))
words_weigh s (w ∷ f ∷ v ∷ t) = refl

-- what a line is, by what its event is
module _ (c r : Bool) (e : Option Event) (w : weighs e ≡ true) where
  command_test : pick c (Some event.Command) (pick r (Some event.Restart) e) ≡ Some event.Command → c ≡ true
  command_test = split (λ b. pick b (Some event.Command) (pick r (Some event.Restart) e) ≡ Some event.Command → b ≡ true) c (λ k h. refl)
      (λ k. split (λ b. pick b (Some event.Restart) e ≡ Some event.Command → false ≡ true) r (λ l h. cc) (λ l h. sym (ap weighs h) ∙ w))

  restart_test : pick c (Some event.Command) (pick r (Some event.Restart) e) ≡ Some event.Restart → r ≡ true
  restart_test = split (λ b. pick b (Some event.Command) (pick r (Some event.Restart) e) ≡ Some event.Restart → r ≡ true) c (λ k h. cc)
      (λ k. split (λ b. pick b (Some event.Restart) e ≡ Some event.Restart → b ≡ true) r (λ l h. refl) (λ l h. sym (ap weighs h) ∙ w))

command_is : (line : List ℕ) → is_command line ≡ true → line ≡ 0x63 ∷ 0x20 ∷ command_of line
unfolding command_of
command_is [] e = absurd (never (sym e))
command_is (a ∷ []) e = absurd (never (sym e))
command_is (a ∷ b ∷ t) e = let p = both_yes (eqb a 0x63) (eqb b 0x20) e in rw (eqb-true a 0x63 p.0, eqb-true b 0x20 p.1)

pub command_only : (line : List ℕ) → event_of line ≡ Some event.Command → line ≡ 0x63 ∷ 0x20 ∷ command_of line
unfolding event_of
command_only line h = command_is line (command_test (is_command line) (is_byte 0x72 line) (sample_in (words_of line).first (words_of line).others) (words_weigh (words_of line).first (words_of line).others) h)

pub restart_only : (line : List ℕ) → event_of line ≡ Some event.Restart → line ≡ 0x72 ∷ []
unfolding event_of
restart_only line h = byte_is 0x72 line (restart_test (is_command line) (is_byte 0x72 line) (sample_in (words_of line).first (words_of line).others) (words_weigh (words_of line).first (words_of line).others) h)
