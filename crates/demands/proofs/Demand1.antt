-- Demand 1: a refused command answers `?` with its numbered reason, changes no setting and touches no reply byte beyond its own. Assumes nothing.
-- That each operation ends, takes everything and needs nothing beforehand is in the contracts of crate `wire`: none has a condition.
use mathlib.Core.Path.{◌≡◌, refl, sym, ap, subst, ◌∙◌}
use Rattle.line.specs.Shape.{calls, ill_formed, unnamed}
use mathlib.Core.Logic.{⊎_elim}
use mathlib.Core.Bool.{Bool, true, false}
use Prim.Native.Nat.{ℕ}
use Rattle.line.specs.declared.names.Name.{Name}
use Rattle.line.specs.declared.names.Name.TheVariants as name
use Rattle.line.specs.declared.shape.Param.{Param}
use Rattle.line.specs.declared.shape.Param.TheVariants as param
use Rattle.line.specs.Param.{is_query, text_in}
use Rattle.reply.specs.Reply.{refused_text, done_text}
use Rattle.state.specs.declared.Unit.{Unit as TheUnit}
use Rattle.cases.specs.Pick.{pick}
use Rattle.plans.specs.Plans.{Plan, word_of, same_word, command_plan}
use Rattle.plans.specs.Queries.{query_plan}
use Rattle.plans.specs.Obey.{Outcome, judge, shape_plan, line_plan, obey_of}
use Rattle.plans.specs.JudgeLaws.{why, obeyed, judged_line}
use Rattle.plans.specs.Order.{InOrder, in_order}
use Rattle.plans.specs.LockLaws.{BySpw, eleven_by_spw}
use Rattle.plans.specs.Answers.{refused_first, done_other}
use Rattle.plans.proofs.ReasonLaws.{reason_stays}
use Rattle.demands.specs.Host.{byte, next, reply, ends, line, shape, plan}
use Rattle.demands.specs.Words.{Refused, Ended}
use Rattle.demands.specs.Words as ended
use Rattle.demands.proofs.Reached.{end_text, end_unit}

module _ (u : TheUnit) (b : ℕ) (e : ends u b ≡ true) where
  -- a line that is refused: the first failed need gives the number, and nothing else differs but that 11 locks
  pub refused : reply u (byte b) ≡ refused_text → Refused u (next u (byte b))
  refused r =
      let w = refused_first u u.kept u.pos (sym (end_text u b e) ∙ r) in
      rw (end_unit u b e, w.outcome) (record {
        first = w;
        number = refl;
        lock = refl;
        used = refl;
        saved = refl;
        zero = refl;
        seen = refl;
        point = refl;
        password = refl;
        counter = refl;
        kept = refl;
        pos = refl;
      })

  -- each line that kept something is done, with all its needs holding and another reply than `?`, or refused: one of the two
  pub done_or_refused : (u.pos.len ≡ 0 → ⊥) → Ended u b
  done_or_refused d =
      let o = judged_line u u.kept u.pos d in
      ⊎_elim
      (λ h. let t : reply u (byte b) ≡ (plan u).text = end_text u b e ∙ ap (λ (o : Outcome). o.text) (o ∙ h.1) in
      ended.done h.0 (end_unit u b e ∙ rw (o, h.1)) t (λ r. done_other u (line u) u.pos.long h.0 (sym t ∙ r)))
      (λ w. let r : reply u (byte b) ≡ refused_text = end_text u b e ∙ ap (λ (o : Outcome). o.text) (o ∙ w.outcome) in ended.refused r (refused r))
      (why u (plan u))

  -- the order of the needs is that of document 01's table: too long, malformed, unknown; then the command's own, with two exceptions (`tdd_order`, `lwt_order` of plans)
  pub too_long : (u.pos.len ≡ 0 → ⊥) → u.pos.long ≡ true → (reply u (byte b) ≡ refused_text) × ((next u (byte b)).reason ≡ 10)
  unfolding judge
  too_long d l = let o = judged_line u u.kept u.pos d in (end_text u b e ∙ rw (o, l), ap (λ (v : TheUnit). v.reason) (end_unit u b e) ∙ rw (o, l))

  pub malformed : (u.pos.len ≡ 0 → ⊥) → u.pos.long ≡ false → shape u ≡ ill_formed → (reply u (byte b) ≡ refused_text) × ((next u (byte b)).reason ≡ 2)
  unfolding judge
  malformed d l s = let o = judged_line u u.kept u.pos d in (end_text u b e ∙ rw (o, l, s), ap (λ (v : TheUnit). v.reason) (end_unit u b e) ∙ rw (o, l, s))

  pub unknown : (u.pos.len ≡ 0 → ⊥) → u.pos.long ≡ false → shape u ≡ unnamed → (reply u (byte b) ≡ refused_text) × ((next u (byte b)).reason ≡ 1)
  unfolding judge
  unknown d l s = let o = judged_line u u.kept u.pos d in (end_text u b e ∙ rw (o, l, s), ap (λ (v : TheUnit). v.reason) (end_unit u b e) ∙ rw (o, l, s))

  pub in_table_order : (n : Name) (q : Param) → u.pos.long ≡ false → shape u ≡ calls n q → is_query q ≡ false → (n ≡ name.Tdd → ⊥) → (n ≡ name.Lwt → ⊥) → InOrder (plan u).needs
  in_table_order n q l s a t w =
      let p : plan u ≡ command_plan u (line u) n q =
      ap (line_plan u (line u)) l ∙ ap (shape_plan u (line u)) s ∙ ap (λ (x : Bool). pick x (query_plan u n) (command_plan u (line u) n q)) a in
      subst (λ (x : Plan). InOrder x.needs) (sym p) (in_order u (line u) n q t w)

  -- a wrong password locks and is refused with 11, the right one opens, and no other line is refused with 11
  pub wrong_password : (a k : ℕ) → u.pos.long ≡ false → shape u ≡ calls name.Spw (param.Text a k) → same_word (word_of (text_in (param.Text a k) (line u))) u.password ≡ false →
      (reply u (byte b) ≡ refused_text) × (((next u (byte b)).reason ≡ 11) × ((next u (byte b)).unlocked ≡ false))
  unfolding judge
  wrong_password a k l s w =
      let o = obeyed u u.kept u.pos name.Spw (param.Text a k) l s in
      (end_text u b e ∙ rw (o, w), (ap (λ (v : TheUnit). v.reason) (end_unit u b e) ∙ rw (o, w), ap (λ (v : TheUnit). v.unlocked) (end_unit u b e) ∙ rw (o, w)))

  pub right_password : (a k : ℕ) → u.pos.long ≡ false → shape u ≡ calls name.Spw (param.Text a k) → same_word (word_of (text_in (param.Text a k) (line u))) u.password ≡ true →
      (reply u (byte b) ≡ done_text) × ((next u (byte b)).unlocked ≡ true)
  unfolding judge
  right_password a k l s w =
      let o = obeyed u u.kept u.pos name.Spw (param.Text a k) l s in
      (end_text u b e ∙ rw (o, w), ap (λ (v : TheUnit). v.unlocked) (end_unit u b e) ∙ rw (o, w))

  pub locks_by_password : reply u (byte b) ≡ refused_text → (next u (byte b)).reason ≡ 11 → BySpw (shape u)
  locks_by_password r z = let k = refused r in eleven_by_spw u (line u) u.pos.long (obey_of u u.kept u.pos) k.first (sym k.number ∙ z)

  -- a line that is done leaves the reason, but for ESR?, which gives and clears it, and RES, which restarts
  pub reason_left : (reply u (byte b) ≡ refused_text → ⊥) → ((q : Param) → shape u ≡ calls name.Esr q → ⊥) → ((q : Param) → shape u ≡ calls name.Res q → ⊥) →
      (next u (byte b)).reason ≡ u.reason
  reason_left d p q = ap (λ (v : TheUnit). v.reason) (end_unit u b e) ∙ reason_stays u u.kept u.pos (λ t. d (end_text u b e ∙ t)) p q
