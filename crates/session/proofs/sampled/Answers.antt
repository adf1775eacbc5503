use Rattle.std.specs.Prelude.{Result, Ok, Err, Some, None, OkIff, Bool, true, false, pos, ℤ, ◌-ℤ◌, ◌<◌, ℕ}
use Rattle.std.specs.Result.{result_ok}
use Rattle.std.proofs.Common.{sym, ap, ◌∙◌, ◌≡◌, arith, w32, w64, SFits, to_z, of_z}
use Rattle.std.proofs.lemmas.Option.{none-some}
use Rattle.std.proofs.lemmas.Int.{to_z_pos, to_z-of_z}
use Rattle.whole.specs.Bits.{nat, neg_is}
use Rattle.session.specs.declared.Event.TheVariants as event
use Rattle.session.specs.Form.{sample_of, signed_of}
use Rattle.session.proofs.SampleLaws.{beyond, some_of, none_of}
use Rattle.session.proofs.sampled.Goals as goal
use Rattle.session.proofs.sampled.Goals.{then-minus, else-minus}

-- what a result was, by what became of it
of_ok : {E : Type 0} (r : Result ℤ E) (P : Type 0) (v y : ℤ) → OkIff r P v → Some y ≡ result_ok r → P × (y ≡ v)
of_ok (Ok x) P v y h e = let k : y ≡ x = cc in (h.0, k ∙ h.1)
of_ok (Err d) P v y h e = absurd (none-some _ (sym e))

of_err : {E : Type 0} (r : Result ℤ E) (P : Type 0) (v : ℤ) → OkIff r P v → None ≡ result_ok r → P → ⊥
of_err (Ok x) P v h e = absurd (none-some _ e)
of_err (Err d) P v h e = h

-- x with its sign
module _ (minus : Bool) (size : ℕ) (z x : ℤ) (p : SFits w64 (pos size) × (z ≡ pos size)) where
  far : size < 9223372036854775808
  far = p.0.sfits

  below : minus ≡ true → x ≡ to_z w64 (of_z w64 (pos 0 -ℤ to_z w64 (of_z w64 z))) → x ≡ signed_of minus size
  unfolding signed_of
  below m e = rw m (e ∙ rw p.1 (neg_is (nat size far) far).value)

  above : minus ≡ false → x ≡ to_z w64 (of_z w64 z) → x ≡ signed_of minus size
  unfolding signed_of
  above m e = rw m (e ∙ rw p.1 (to_z_pos w64 size far))

pub returns-in_err-size : goal.returns-in_err-size
returns-in_err-size c =
    let far : c.args.digits < 2147483649 → ⊥ = λ l. of_err _ _ _ c.try_from.ensures c.in_err-size.ensures.value (record { sfits = omega (arith, l) }) in
    c.from_residual.ensures ∙ beyond c.args.minus c.args.digits c.args.still (omega (arith, far))

pub returns-in_err-ok : goal.returns-in_err-ok
returns-in_err-ok c =
    let p = of_ok _ _ _ _ c.try_from.ensures c.in_ok-size.ensures.value in
    let x : to_z w64 c.if-minus.x-bits ≡ signed_of c.args.minus c.args.digits = elim c.if-minus.branch [ then-minus w ↦ below _ _ _ _ p w.if-minus.true w.x-is | else-minus w ↦ above _ _ _ _ p w.if-minus.false w.x-is ] in
    c.from_residual-in_err-ok.ensures ∙ none_of _ c.args.still (of_err _ _ _ c.try_from-2.ensures c.in_err-ok.ensures.value) ∙ ap (λ z. sample_of z c.args.still) x

pub returns : goal.returns
returns c =
    let p = of_ok _ _ _ _ c.try_from.ensures c.in_ok-size.ensures.value in
    let x : to_z w64 c.if-minus.x-bits ≡ signed_of c.args.minus c.args.digits = elim c.if-minus.branch [ then-minus w ↦ below _ _ _ _ p w.if-minus.true w.x-is | else-minus w ↦ above _ _ _ _ p w.if-minus.false w.x-is ] in
    let q = of_ok _ _ _ _ c.try_from-2.ensures c.in_ok-ok.ensures.value in
    ap (λ z. Some (event.Sample z c.args.still)) (to_z-of_z w32 c.in_ok-ok.field-0 (rw q.1 q.0) ∙ q.1) ∙ some_of _ c.args.still q.0 ∙ ap (λ z. sample_of z c.args.still) x
