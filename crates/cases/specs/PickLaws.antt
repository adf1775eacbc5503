-- Laws of `pick`, by which `search cases` walks through nested tests, and `split`, which takes a test both ways. Assumes nothing.
use Rattle.std.specs.Prelude.{Bool, true, false, ◌≡◌, refl, ◌⊎◌, ℕ, eqb}
use Rattle.std.proofs.Common.{sym, ap, ◌∙◌, inl, inr, arith, eq-eqb, ne_eqb, lt-ltb, le-ltb, le-leb}
use Rattle.std.proofs.lemmas.Bool.{lt-leb}
use Rattle.cases.specs.Pick.{pick}

pub pick_yes : {A : Type 0} (t : Bool) (r a b : A) → t ≡ true → r ≡ a → r ≡ pick t a b
pick_yes t r a b e h = rw e h

pub pick_no : {A : Type 0} (t : Bool) (r a b : A) → t ≡ false → r ≡ b → r ≡ pick t a b
pick_no t r a b e h = rw e h

pub ruleset cases = (pick_yes, pick_no, eq-eqb, ne_eqb, lt-ltb, le-ltb, le-leb, lt-leb)

-- a test of a value that another one names
pub is_via : (a b k : ℕ) → a ≡ b → a ≡ k → eqb b k ≡ true
is_via a b k e h = eq-eqb b k (sym e ∙ h)

pub not_via : (a b k : ℕ) → a ≡ b → (a ≡ k → ⊥) → eqb b k ≡ false
not_via a b k e h = ne_eqb b k (λ q. h (e ∙ q))

pub yes_via : (r t : Bool) → r ≡ t → r ≡ true → t ≡ true
yes_via r t e h = sym e ∙ h

pub no_via : (r t : Bool) → r ≡ t → r ≡ false → t ≡ false
no_via r t e h = sym e ∙ h

pub ruleset named = (is_via, not_via, yes_via, no_via)

-- a test is one of two
pub bool_cases : (t : Bool) → (t ≡ true) ⊎ (t ≡ false)
bool_cases true = inl refl
bool_cases false = inr refl

-- what holds both ways of a test holds: `P` marks where the test stands
pub split : (P : Bool → Type 0) (b : Bool) → (b ≡ true → P true) → (b ≡ false → P false) → P b
split P true f g = f refl
split P false f g = g refl

-- no test is both
pub never : true ≡ false → ⊥
never e = let z : ◌≡◌ {A = ℕ} 1 0 = ap (λ (b : Bool). pick {A = ℕ} b 1 0) e in omega arith

pub not_both : (t : Bool) → t ≡ true → t ≡ false → ⊥
not_both t e h = never (sym e ∙ h)
