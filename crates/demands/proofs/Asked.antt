-- What a host reads off by queries is what the unit holds: reason, counter, weight. Assumes nothing.
use mathlib.Core.Path.{◌≡◌, ap, ◌∙◌}
use Rattle.line.specs.Shape.{calls}
use mathlib.Core.Bool.{true, false}
use mathlib.Core.List.{List}
use Prim.Native.Nat.{ℕ, min}
use Rattle.line.specs.declared.names.Name.{Name}
use Rattle.line.specs.declared.names.Name.TheVariants as name
use Rattle.line.specs.declared.shape.Param.TheVariants as param
use Rattle.line.specs.Line.{none_kept, fresh_pos}
use Rattle.reply.specs.Reply.{digits_text, signed_text, status_text, word4_text, word2_text}
use Rattle.weight.specs.Display.{in_decimal, in_four, in_two}
use Rattle.state.specs.declared.Unit.{Unit as TheUnit}
use Rattle.state.specs.Changes.{lined}
use Rattle.weighing.specs.Reading.{sampled_of, shown_now}
use Rattle.plans.specs.Queries.{address, status_now, msv_text, query_plan}
use Rattle.plans.specs.Obey.{Outcome, AllHold}
use Rattle.plans.specs.JudgeLaws.{obeyed, all_done}
use Rattle.demands.specs.Host.{New, Event, byte, next, reply, after, ends, shape}
use Rattle.demands.specs.History.{changes}
use Rattle.demands.proofs.Reached.{end_text, end_unit}
use Rattle.demands.proofs.Demand3.{counter_counts}

-- a query whose needs hold, at its end mark
module _ (u : TheUnit) (b : ℕ) (n : Name) (e : ends u b ≡ true) (l : u.pos.long ≡ false) (s : shape u ≡ calls n param.Query) where
  pub asked : AllHold (query_plan u n).needs → (reply u (byte b) ≡ (query_plan u n).text) × (next u (byte b) ≡ lined (query_plan u n).done none_kept fresh_pos)
  asked h =
      let o = obeyed u u.kept u.pos n param.Query l s ∙ all_done u (query_plan u n) h in
      (end_text u b e ∙ ap (λ (x : Outcome). x.text) o, end_unit u b e ∙ ap (λ (x : Outcome). lined x.next none_kept fresh_pos) o)

module _ (u : TheUnit) (b : ℕ) (e : ends u b ≡ true) (l : u.pos.long ≡ false) where
  -- ESR? gives the number of the last refusal, and clears it
  pub esr_says : shape u ≡ calls name.Esr param.Query → (reply u (byte b) ≡ digits_text 2 u.reason) × ((next u (byte b)).reason ≡ 0)
  esr_says s = let k = asked u b name.Esr e l s tt in (k.0, ap (λ (v : TheUnit). v.reason) k.1)

  -- MSV? gives what is shown, in the form of COF
  pub msv_says : shape u ≡ calls name.Msv param.Query → sampled_of u.seen ≡ true →
      (u.used.free.cof ≡ 0 → reply u (byte b) ≡ word4_text (in_four (shown_now u)).0) ×
      ((u.used.free.cof ≡ 2 → reply u (byte b) ≡ word2_text (in_two (shown_now u)).0) ×
      ((u.used.free.cof ≡ 3 → reply u (byte b) ≡ signed_text (in_decimal (shown_now u)).0) ×
      (u.used.free.cof ≡ 9 → reply u (byte b) ≡ status_text (in_decimal (shown_now u)).0 address (status_now u))))
  unfolding msv_text
  msv_says s h =
      let k = (asked u b name.Msv e l s (h, tt)).0 in
      ((λ z. k ∙ rw z), ((λ z. k ∙ rw z), ((λ z. k ∙ rw z), (λ z. k ∙ rw z))))

-- TCR? gives the number of trade-mode changes accepted since the unit was new
pub tcr_says : (u : TheUnit) → New u → (es : List Event) (b : ℕ) → ends (after u es) b ≡ true → (after u es).pos.long ≡ false → shape (after u es) ≡ calls name.Tcr param.Query →
    reply (after u es) (byte b) ≡ digits_text 7 (min (changes u es) 9999999)
tcr_says u n es b e l s = (asked (after u es) b name.Tcr e l s tt).0 ∙ ap (digits_text 7) (counter_counts u n es)
