-- The words of demands 1 and 2: a line done or refused, how a byte is replied to, what a reading displays. What a reader must believe.
use Rattle.std.specs.Prelude.{◌≡◌, ◌⊎◌, true, false, not, ◌&&◌, List, [], ◌∷◌, ℕ, eqb, ◌+ℤ◌}
use Rattle.line.specs.Shape.{calls}
use Rattle.line.specs.declared.names.Name.TheVariants as name
use Rattle.line.specs.declared.shape.Param.TheVariants as param
use Rattle.line.specs.Line.{none_kept, fresh_pos}
use Rattle.reply.specs.Reply.{refused_text}
use Rattle.weight.specs.declared.Place.TheVariants as place
use Rattle.weight.specs.declared.Shown.{Shown}
use Rattle.weight.specs.declared.Shown.TheVariants as shown
use Rattle.state.specs.declared.Unit.{Unit as TheUnit}
use Rattle.state.specs.Reasons.{number_of}
use Rattle.state.specs.Changes.{lined, restarted_of}
use Rattle.weighing.specs.declared.Reading.{Reading}
use Rattle.weighing.specs.declared.Reading.TheVariants as reading
use Rattle.weighing.specs.Reading.{sampled_of, steady_of, gross_now, net_now, value_now, place_now}
use Rattle.plans.specs.Needs.{reason_of}
use Rattle.plans.specs.Obey.{AllHold, FirstFails, obey_of}
use Rattle.plans.specs.Forms.{Form}
use Rattle.demands.specs.Host.{byte, next, reply, ends, shape, plan}

-- ---- a refused line, and the unit v after it
pub record Refused (u v : TheUnit) : Type 0 where
  -- the first of the line's needs, in their order, that does not hold
  pub first : FirstFails u (plan u).needs (obey_of u u.kept u.pos)
  -- its number is the reason's
  pub number : v.reason ≡ number_of (reason_of first.failing)
  -- the lock closes at 11, and stands else
  pub lock : v.unlocked ≡ (not (eqb v.reason 11) && u.unlocked)
  -- nothing else differs
  pub used : v.used ≡ u.used
  pub saved : v.saved ≡ u.saved
  pub zero : v.zeros ≡ u.zeros
  pub seen : v.seen ≡ u.seen
  pub point : v.point ≡ u.point
  pub password : v.password ≡ u.password
  pub counter : v.counter ≡ u.counter
  -- and a new line begins
  pub kept : v.kept ≡ none_kept
  pub pos : v.pos ≡ fresh_pos

-- ---- the end mark of a line that kept something: it is done, with all its needs holding, or refused
pub data Ended (u : TheUnit) (b : ℕ) : Type 0 where
  done : AllHold (plan u).needs → next u (byte b) ≡ lined (plan u).done none_kept fresh_pos → reply u (byte b) ≡ (plan u).text → (reply u (byte b) ≡ refused_text → ⊥) → Ended u b
  refused : reply u (byte b) ≡ refused_text → Refused u (next u (byte b)) → Ended u b

-- ---- how a byte is replied to
pub data Replied (u : TheUnit) (b : ℕ) : Type 0 where
  -- within a line, not at all
  within : ends u b ≡ false → reply u (byte b) ≡ [] → Replied u b
  -- at the end of a line that kept nothing, not at all
  empty : ends u b ≡ true → u.pos.len ≡ 0 → reply u (byte b) ≡ [] → Replied u b
  -- at the end of a done RES, not at all
  restart : ends u b ≡ true → u.pos.long ≡ false → shape u ≡ calls name.Res param.Nothing → next u (byte b) ≡ restarted_of u → reply u (byte b) ≡ [] → Replied u b
  -- at the end of any other line by one reply: `?`, or one of the forms that a done line's reply has
  one : ends u b ≡ true → (u.pos.len ≡ 0 → ⊥) → (reply u (byte b) ≡ refused_text) ⊎ Form (reply u (byte b)) → Replied u b

-- ---- the one thing that a reading displays: nothing where there is no sample, over, under, or a weight, net at TAS 0 and gross at TAS 1
pub data Displayed (u : TheUnit) : Reading → Type 0 where
  nothing : sampled_of u.seen ≡ false → Displayed u reading.Nothing
  over : sampled_of u.seen ≡ true → place_now u ≡ place.Over → Displayed u (reading.Over (steady_of u.seen))
  under : sampled_of u.seen ≡ true → place_now u ≡ place.Under → Displayed u (reading.Under (steady_of u.seen))
  -- net and tare are gross, to the digit
  weight : sampled_of u.seen ≡ true → place_now u ≡ place.Within → (net_now u).0 +ℤ u.used.free.tare.0 ≡ (gross_now u).0 →
      (u.used.free.tas ≡ 0 → value_now u ≡ net_now u) → (u.used.free.tas ≡ 1 → value_now u ≡ gross_now u) →
      Displayed u (reading.Weight (gross_now u) (net_now u) (value_now u) (steady_of u.seen))

-- the weight that a reading displays, as MSV? would give it: none where there is no sample, else one; `in_decimal`, `in_four` and `in_two` of weight/specs/Display have its values at each COF
abbrev pub displayed : Reading → List Shown
displayed reading.Nothing = []
displayed (reading.Over s) = shown.Over ∷ []
displayed (reading.Under s) = shown.Under ∷ []
displayed (reading.Weight g n v s) = shown.Number v ∷ []
