-- What the `else` of a `let .. else` on a parameter knows, as a fact of the parameter's kind. One law for each kind, for every command. Assumes nothing.
use Rattle.std.proofs.Common.{◌≡◌, refl, ℕ, false}
use Rattle.line.specs.Param.{is_nothing, is_query, is_number, is_text}
use Rattle.line.specs.declared.shape.Number.{Number}
use Rattle.line.specs.declared.shape.Param.{Param}
use Rattle.line.specs.declared.shape.Param.TheVariants as param

pub not_nothing : (p : Param) → (p ≡ param.Nothing → ⊥) → is_nothing p ≡ false
not_nothing param.Nothing h = absurd (h refl)
not_nothing param.Query h = refl
not_nothing (param.Number x) h = refl
not_nothing (param.Text a k) h = refl

pub not_query : (p : Param) → (p ≡ param.Query → ⊥) → is_query p ≡ false
not_query param.Nothing h = refl
not_query param.Query h = absurd (h refl)
not_query (param.Number x) h = refl
not_query (param.Text a k) h = refl

pub not_number : (p : Param) → ((x : Number) → p ≡ param.Number x → ⊥) → is_number p ≡ false
not_number param.Nothing h = refl
not_number param.Query h = refl
not_number (param.Number x) h = absurd (h x refl)
not_number (param.Text a k) h = refl

pub not_text : (p : Param) → ((a k : ℕ) → p ≡ param.Text a k → ⊥) → is_text p ≡ false
not_text param.Nothing h = refl
not_text param.Query h = refl
not_text (param.Number x) h = refl
not_text (param.Text a k) h = absurd (h a k refl)
