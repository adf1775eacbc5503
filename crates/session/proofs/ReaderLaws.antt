-- The reader makes of a line what `Form` says of the line (`line_made`), and hands on the bytes of a command and no others (`line_handed`). Assumes nothing.
use Rattle.std.specs.Prelude.{Bool, Option, Some, None, ◌&&◌, ◌||◌, ◌≡◌, ◌⊎◌, ℕ, ◌+◌, ◌-◌, ◌*◌, ◌<◌, eqb, ltb}
use Rattle.std.proofs.Math.Bool.{true, false}
use Rattle.std.proofs.Math.Path.{refl, sym, ap}
use Rattle.std.proofs.Common.{◌∙◌, inl, inr, ⊎_elim, arith, ltb-true, lt-ltb, eqb-true}
use mathlib.Core.List.{List, [], ◌∷◌}
use Rattle.cases.specs.Pick.{pick}
use Rattle.cases.specs.PickLaws.{bool_cases, never}
use Rattle.session.specs.declared.Decimal.{Decimal}
use Rattle.session.specs.declared.State.{State}
use Rattle.session.specs.declared.State.TheVariants as state
use Rattle.session.specs.declared.Event.{Event}
use Rattle.session.specs.declared.Event.TheVariants as event
use Rattle.session.specs.Form.{words_of, is_byte, is_digit, all_digits, value_from, has_minus, size_in, signed_of, sample_of, sample_in, event_of, command_of}
use Rattle.session.specs.Reader.{decimal, grown_of, digit_of, on_of, first_of, sign_of, more_of, flag_of, next_of, pass_of, ended_of, state_after, handed_on}
use Rattle.session.proofs.SampleLaws.{beyond}

-- both ways of a test
either : {A : Type 0} (t : Bool) → (t ≡ true → A) → (t ≡ false → A) → A
either t f g = ⊎_elim f g (bool_cases t)

-- what is made of the bytes `t` from a state on
abbrev pub made : State → List ℕ → Option Event
made s t = ended_of (state_after s t)

hopeless : (t : List ℕ) → made state.Hopeless t ≡ None
unfolding state_after
hopeless [] = refl
hopeless (b ∷ t) = hopeless t

-- ---- sizes: one that the reader holds, and the one that the digits say
abbrev Agree : ℕ → ℕ → Type 0
Agree v w = (v ≡ w) ⊎ ((2147483648 < v) × (2147483648 < w))

agree_on : (v w d : ℕ) → Agree v w → Agree (grown_of v d) (w * 10 + d)
unfolding grown_of
agree_on v w d h = ⊎_elim same great h
  where
    same : v ≡ w → Agree (grown_of v d) (w * 10 + d)
    same e =
        either (ltb 2147483648 v)
        (λ t. let g : 2147483648 < v = ltb-true 2147483648 v t in inr (rw t g, omega arith))
        (λ t. inl (rw (t, e)))

    great : (2147483648 < v) × (2147483648 < w) → Agree (grown_of v d) (w * 10 + d)
    great p = inr (rw (lt-ltb 2147483648 v p.0) p.0, omega (arith, p.1))

agree_sample : (n : Bool) (v w : ℕ) (f : Bool) → Agree v w → sample_of (signed_of n v) f ≡ sample_of (signed_of n w) f
agree_sample n v w f h = ⊎_elim (λ e. rw e) (λ p. sym (beyond n v f p.0) ∙ beyond n w f p.1) h

-- ---- what is left of a sample's words: after x and its blank, and after a minus or none and digits whose value is `w`
abbrev flag_in : Bool → ℕ → List ℕ → List (List ℕ) → Option Event
flag_in n w f [] = pick (is_byte 0x31 f || is_byte 0x30 f) (sample_of (signed_of n w) (is_byte 0x31 f)) None
flag_in n w f (v ∷ t) = None

abbrev number_in : Bool → ℕ → List ℕ → List (List ℕ) → Option Event
number_in n w x [] = None
number_in n w x (f ∷ t) = pick (all_digits x) (flag_in n (value_from w x) f t) None

abbrev sized_in : Bool → List ℕ → List (List ℕ) → Option Event
sized_in n [] t = None
sized_in n (a ∷ x) t = number_in n 0 (a ∷ x) t

-- ---- the flag
flag_two : (n : Bool) (w a b : ℕ) (f : List ℕ) (t : List (List ℕ)) → flag_in n w (a ∷ b ∷ f) t ≡ None
flag_two n w a b f [] = refl
flag_two n w a b f (v ∷ t) = refl

flag_long : (n : Bool) (w a b : ℕ) (t : List ℕ) → flag_in n w (words_of (a ∷ b ∷ t)).first (words_of (a ∷ b ∷ t)).others ≡ None
unfolding words_of
flag_long n w a b t =
    either (eqb a 0x20)
    (λ e. rw e)
    (λ e. either (eqb b 0x20) (λ k. rw (e, k)) (λ k. rw (e, k) (flag_two n w a b (words_of t).first (words_of t).others)))

flag_last : (d : Decimal) (a b : ℕ) → next_of (flag_of d a) b ≡ state.Hopeless
unfolding flag_of
flag_last d a b = either (eqb a 0x31) (λ e. rw e) (λ e. either (eqb a 0x30) (λ k. rw (e, k)) (λ k. rw (e, k)))

-- the sign that a state holds
sign_back : (n : Bool) → eqb (pick n 1 0) 1 ≡ n
sign_back true = refl
sign_back false = refl

module _ (n : Bool) (v w : ℕ) (h : Agree v w) where
  flag_one : (a : ℕ) → ended_of (flag_of (decimal n v) a) ≡ pick (eqb a 0x31 || eqb a 0x30) (sample_of (signed_of n w) (eqb a 0x31)) None
  unfolding flag_of
  flag_one a =
      either (eqb a 0x31)
      (λ e. rw (e, sign_back n) (agree_sample n v w true h))
      (λ e. either (eqb a 0x30) (λ k. rw (e, k, sign_back n) (agree_sample n v w false h)) (λ k. rw (e, k)))

  flag_made : (t : List ℕ) → made (state.Blank (decimal n v)) t ≡ flag_in n w (words_of t).first (words_of t).others
  unfolding state_after words_of flag_of
  flag_made [] = refl
  flag_made (a ∷ []) = either (eqb a 0x20) (λ e. flag_blank a (eqb-true a 0x20 e)) (λ e. rw e (flag_one a))
    where
      flag_blank : (a : ℕ) → a ≡ 0x20 → made (state.Blank (decimal n v)) (a ∷ []) ≡ flag_in n w (words_of (a ∷ [])).first (words_of (a ∷ [])).others
      flag_blank a e = rw e
  flag_made (a ∷ b ∷ t) = ap (λ s. made s t) (flag_last (decimal n v) a b) ∙ hopeless t ∙ sym (flag_long n w a b t)

-- ---- the digits
digit_in : (n : Bool) (w a : ℕ) (x : List ℕ) (t : List (List ℕ)) → is_digit a ≡ true → number_in n w (a ∷ x) t ≡ number_in n (w * 10 + (a - 0x30)) x t
unfolding all_digits value_from
digit_in n w a x [] e = refl
digit_in n w a x (f ∷ t) e = rw e

digit_out : (n : Bool) (w a : ℕ) (x : List ℕ) (t : List (List ℕ)) → is_digit a ≡ false → number_in n w (a ∷ x) t ≡ None
unfolding all_digits
digit_out n w a x [] e = refl
digit_out n w a x (f ∷ t) e = rw e

-- from digits on, whatever their value
abbrev Goes : Bool → List ℕ → Type 0
Goes n t = (v w : ℕ) → Agree v w → made (state.Digits (decimal n v)) t ≡ number_in n w (words_of t).first (words_of t).others

digit_made : (n : Bool) (a : ℕ) (t : List ℕ) (v w : ℕ) → Agree v w → Goes n t → made (digit_of (decimal n v) a) t ≡ number_in n w (a ∷ (words_of t).first) (words_of t).others
unfolding digit_of
digit_made n a t v w h go =
    either (is_digit a)
    (λ e. rw e (go (grown_of v (a - 0x30)) (w * 10 + (a - 0x30)) (agree_on v w (a - 0x30) h) ∙ sym (digit_in n w a (words_of t).first (words_of t).others e)))
    (λ e. rw e (hopeless t ∙ sym (digit_out n w a (words_of t).first (words_of t).others e)))

number_made : (n : Bool) (t : List ℕ) → Goes n t
unfolding state_after words_of more_of all_digits value_from
number_made n [] v w h = refl
number_made n (a ∷ t) v w h = either (eqb a 0x20) (λ e. rw e (flag_made n v w h t)) (λ e. rw e (digit_made n a t v w h (number_made n t)))

-- ---- x, from its first byte on
start_made : (n : Bool) (a : ℕ) (t : List ℕ) → made (digit_of (decimal n 0) a) t ≡ sized_in n (words_of (a ∷ t)).first (words_of (a ∷ t)).others
unfolding words_of digit_of is_digit
start_made n a t = either (eqb a 0x20) (λ e. blank (eqb-true a 0x20 e)) (λ e. rw e (digit_made n a t 0 0 (inl refl) (number_made n t)))
  where
    blank : a ≡ 0x20 → made (digit_of (decimal n 0) a) t ≡ sized_in n (words_of (a ∷ t)).first (words_of (a ∷ t)).others
    blank e = rw e (hopeless t)

minus_made : (t : List ℕ) → made state.Minus t ≡ sized_in true (words_of t).first (words_of t).others
unfolding state_after words_of
minus_made [] = refl
minus_made (a ∷ t) = start_made true a t

pick_and : {A : Type 0} (a b : Bool) (x y : A) → pick (a && b) x y ≡ pick a (pick b x y) y
pick_and true b x y = refl
pick_and false b x y = refl

pick_same : {A : Type 0} (a : Bool) (x : A) → pick a x x ≡ x
pick_same true x = refl
pick_same false x = refl

sample_sized : (n : Bool) (x y : List ℕ) (t : List (List ℕ)) → has_minus x ≡ n → size_in x ≡ y → sample_in (0x73 ∷ []) (x ∷ t) ≡ sized_in n y t
unfolding sample_in
sample_sized n x [] [] p q = refl
sample_sized n x (a ∷ y) [] p q = refl
sample_sized n x [] (f ∷ []) p q = rw q
sample_sized n x (a ∷ y) (f ∷ []) p q = rw (p, q) (pick_and (all_digits (a ∷ y)) (is_byte 0x31 f || is_byte 0x30 f) (sample_of (signed_of n (value_from 0 (a ∷ y))) (is_byte 0x31 f)) None)
sample_sized n x [] (f ∷ g ∷ t) p q = refl
sample_sized n x (a ∷ y) (f ∷ g ∷ t) p q = sym (pick_same (all_digits (a ∷ y)) None)

no_minus : (a : ℕ) (t : List ℕ) → eqb a 0x2d ≡ false →
    sample_in (0x73 ∷ []) ((words_of (a ∷ t)).first ∷ (words_of (a ∷ t)).others) ≡ sized_in false (words_of (a ∷ t)).first (words_of (a ∷ t)).others
unfolding words_of
no_minus a t e =
    either (eqb a 0x20)
    (λ k. rw k (sample_sized false [] [] ((words_of t).first ∷ (words_of t).others) refl refl))
    (λ k. rw k (sample_sized false (a ∷ (words_of t).first) (a ∷ (words_of t).first) (words_of t).others e (rw e)))

x_made : (t : List ℕ) → made state.X t ≡ sample_in (0x73 ∷ []) ((words_of t).first ∷ (words_of t).others)
unfolding state_after words_of sample_in sign_of
x_made [] = refl
x_made (a ∷ t) = either (eqb a 0x2d) (λ e. minus (eqb-true a 0x2d e)) plus
  where
    minus : a ≡ 0x2d → made (sign_of a) t ≡ sample_in (0x73 ∷ []) ((words_of (a ∷ t)).first ∷ (words_of (a ∷ t)).others)
    minus e = rw e (minus_made t ∙ sym (sample_sized true (0x2d ∷ (words_of t).first) (words_of t).first (words_of t).others refl refl))

    plus : eqb a 0x2d ≡ false → made (sign_of a) t ≡ sample_in (0x73 ∷ []) ((words_of (a ∷ t)).first ∷ (words_of (a ∷ t)).others)
    plus e = rw e (start_made false a t ∙ sym (no_minus a t e))

-- ---- the first letter
not_sample : (s : List ℕ) (t : List (List ℕ)) → is_byte 0x73 s ≡ false → sample_in s t ≡ None
unfolding sample_in
not_sample s [] e = refl
not_sample s (x ∷ []) e = refl
not_sample s (x ∷ f ∷ []) e = rw e
not_sample s (x ∷ f ∷ w ∷ t) e = refl

not_byte : (k a : ℕ) (t : List ℕ) → eqb a k ≡ false → is_byte k (a ∷ t) ≡ false
not_byte k a [] e = e
not_byte k a (b ∷ t) e = refl

other_letter : (a : ℕ) (t : List ℕ) → eqb a 0x73 ≡ false → sample_in (words_of (a ∷ t)).first (words_of (a ∷ t)).others ≡ None
unfolding words_of
other_letter a t e =
    either (eqb a 0x20)
    (λ k. rw k (not_sample [] ((words_of t).first ∷ (words_of t).others) refl))
    (λ k. rw k (not_sample (a ∷ (words_of t).first) (words_of t).others (not_byte 0x73 a (words_of t).first e)))

command_made : (t : List ℕ) → made state.Command t ≡ Some event.Command
unfolding state_after
command_made [] = refl
command_made (b ∷ t) = command_made t

r_last : (a b : ℕ) → next_of (on_of a 0x72 state.R) b ≡ state.Hopeless
r_last a b = either (eqb a 0x72) (λ e. rw e) (λ e. rw e)

-- a line of one byte
module _ (a : ℕ) where
  one_is : ended_of (first_of a) ≡ pick (eqb a 0x72) (Some event.Restart) None
  unfolding first_of
  one_is =
      either (eqb a 0x63) (λ e. rw (eqb-true a 0x63 e)) (λ e. either (eqb a 0x73) (λ k. rw (eqb-true a 0x73 k)) (λ k. rw (e, k) (ends (eqb a 0x72))))
    where
      ends : (t : Bool) → ended_of (pick t state.R state.Hopeless) ≡ pick t (Some event.Restart) None
      ends true = refl
      ends false = refl

  one_word : sample_in (words_of (a ∷ [])).first (words_of (a ∷ [])).others ≡ None
  unfolding words_of sample_in
  one_word = either (eqb a 0x20) (λ e. rw e) (λ e. rw e)

-- a line of two bytes or more
module _ (a b : ℕ) (t : List ℕ) where
  abbrev Made : Type 0
  Made = made (next_of (first_of a) b) t ≡ event_of (a ∷ b ∷ t)

  from_c : a ≡ 0x63 → Made
  unfolding event_of first_of words_of
  from_c e = rw e (either (eqb b 0x20) (λ k. rw k (command_made t)) (λ k. rw k (hopeless t ∙ sym (not_sample (0x63 ∷ b ∷ (words_of t).first) (words_of t).others refl))))

  from_s : a ≡ 0x73 → Made
  unfolding event_of first_of words_of
  from_s e = rw e (either (eqb b 0x20) (λ k. rw k (x_made t)) (λ k. rw k (hopeless t ∙ sym (not_sample (0x73 ∷ b ∷ (words_of t).first) (words_of t).others refl))))

  from_other : eqb a 0x63 ≡ false → eqb a 0x73 ≡ false → Made
  unfolding event_of first_of
  from_other e k = rw (e, k, r_last a b) (hopeless t ∙ sym (other_letter a (b ∷ t) k))

-- every line is read as what it is
pub line_made : (line : List ℕ) → made state.Start line ≡ event_of line
unfolding state_after event_of words_of sample_in
line_made [] = refl
line_made (a ∷ []) = one_is a ∙ ap (λ e. pick (eqb a 0x72) (Some event.Restart) e) (sym (one_word a))
line_made (a ∷ b ∷ t) =
    either (eqb a 0x63) (λ e. from_c a b t (eqb-true a 0x63 e)) (λ e. either (eqb a 0x73) (λ k. from_s a b t (eqb-true a 0x73 k)) (from_other a b t e))

-- ---- the bytes that are handed on
handed_all : (t : List ℕ) → handed_on state.Command t ≡ t
unfolding handed_on
handed_all [] = refl
handed_all (b ∷ t) = ap (b ∷◌) (handed_all t)

-- states after which no byte is
abbrev quiet : State → Bool
quiet state.Start = false
quiet state.C = false
quiet state.Command = false
quiet _ = true

quiet_pick : (t : Bool) (a b : State) → quiet a ≡ true → quiet b ≡ true → quiet (pick t a b) ≡ true
quiet_pick true a b h k = h
quiet_pick false a b h k = k

quiet_digit : (d : Decimal) (b : ℕ) → quiet (digit_of d b) ≡ true
unfolding digit_of
quiet_digit d b = quiet_pick (is_digit b) (state.Digits (record { minus = d.minus; size = grown_of d.size (b - 0x30) })) state.Hopeless refl refl

quiet_next : (s : State) (b : ℕ) → quiet s ≡ true → quiet (next_of s b) ≡ true
unfolding sign_of more_of flag_of
quiet_next state.S b h = quiet_pick (eqb b 0x20) state.X state.Hopeless refl refl
quiet_next state.X b h = quiet_pick (eqb b 0x2d) state.Minus (digit_of (decimal false 0) b) refl (quiet_digit (decimal false 0) b)
quiet_next state.Minus b h = quiet_digit (decimal true 0) b
quiet_next (state.Digits d) b h = quiet_pick (eqb b 0x20) (state.Blank d) (digit_of d b) refl (quiet_digit d b)
quiet_next (state.Blank d) b h = quiet_pick (eqb b 0x31) (state.Flag d true) (on_of b 0x30 (state.Flag d false)) refl (quiet_pick (eqb b 0x30) (state.Flag d false) state.Hopeless refl refl)
quiet_next (state.Flag d f) b h = refl
quiet_next state.R b h = refl
quiet_next state.Hopeless b h = refl
quiet_next _ b h = absurd (never (sym h))

quiet_pass : (s : State) → quiet s ≡ true → pass_of s ≡ false
quiet_pass state.Command h = sym h
quiet_pass _ h = refl

quiet_none : (t : List ℕ) (s : State) → quiet s ≡ true → handed_on s t ≡ []
unfolding handed_on
quiet_none [] s h = refl
quiet_none (b ∷ t) s h = rw (quiet_pass s h) (quiet_none t (next_of s b) (quiet_next s b h))

-- of every line the command's bytes are handed on, and nothing else
pub line_handed : (line : List ℕ) → handed_on state.Start line ≡ command_of line
unfolding handed_on command_of first_of
line_handed [] = refl
line_handed (a ∷ []) = refl
line_handed (a ∷ b ∷ t) =
    either (eqb a 0x63)
    (λ e. either (eqb b 0x20) (λ k. rw (e, k) (handed_all t)) (λ k. rw (e, k) (quiet_none t state.Hopeless refl)))
    (λ e. rw e (quiet_none (b ∷ t) (pick (eqb a 0x73) state.S (on_of a 0x72 state.R)) (quiet_pick (eqb a 0x73) state.S (on_of a 0x72 state.R) refl (quiet_pick (eqb a 0x72) state.R state.Hopeless refl refl))))
