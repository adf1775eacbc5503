-- Demand 2: replies, weights, zeros and tares are exactly those of document 01. Assumes nothing.
use mathlib.Core.Path.{◌≡◌, refl, ◌∙◌}
use Rattle.line.specs.Shape.{calls}
use mathlib.Core.Logic.{◌⊎◌, inl, inr}
use mathlib.Core.Bool.{Bool, true, false}
use mathlib.Core.List.{List, [], ◌∷◌, ◌++◌}
use Prim.Native.Nat.{ℕ}
use borrow.Author.Tests.{eq-eqb}
use lib.IntN.{ℤ}
use Rattle.cases.specs.Pick.{pick}
use Rattle.cases.specs.PickLaws.{split}
use Rattle.line.specs.declared.names.Name.TheVariants as name
use Rattle.line.specs.declared.shape.Param.TheVariants as param
use Rattle.weight.specs.declared.Cell.{Cell}
use Rattle.weight.specs.declared.Place.{Place}
use Rattle.weight.specs.declared.Place.TheVariants as place
use Rattle.weight.specs.declared.Tenths.{Tenths}
use Rattle.weight.specs.Weight.{as_cell}
use Rattle.weight.specs.Display.{cell_place, shown_at}
use Rattle.weight.specs.Zero.{within_share}
use Rattle.weight.proofs.ZeroLaws.{tracked_cases}
use Rattle.state.specs.declared.Unit.{Unit as TheUnit}
use Rattle.state.specs.Changes.{restarted_of}
use Rattle.state.specs.RangedLaws.{yes_ranged}
use Rattle.state.specs.Sound.{BandedOf}
use Rattle.state.proofs.SoundLaws.{sound_yes}
use Rattle.weighing.specs.Reading.{seen_at, sampled_of, steady_of, gross_now, net_now, value_now, place_now, shown_now, read_at, read_by, reading_of}
use Rattle.weighing.specs.SampleLaws.{net_now_lem}
use Rattle.weighing.specs.Samples.{seeing, tracks_now, tracked_now}
use Rattle.plans.specs.Obey.{judge, obey_of}
use Rattle.plans.specs.JudgeLaws.{obeyed}
use Rattle.plans.specs.Answers.{Answered, answered}
use Rattle.plans.specs.Answers as answer
use Rattle.wire.specs.Wire.{read}
use Rattle.demands.specs.Host.{New, Event, byte, sample, next, reply, after, ends, shape, Call, Calls, last, all_events, AllServed}
use Rattle.demands.specs.Words.{Replied, within, empty, restart, one, Displayed, nothing, over, under, weight, displayed}
use Rattle.demands.proofs.Served.{all_served}
use Rattle.demands.proofs.Reached.{after_append, within_text, end_text, end_unit, sound_new, reached}

-- ---- any results that the contracts allow, of any list of calls from a new unit, are those of the machine
pub calls_are_the_machine : (u : TheUnit) → New u → (cs : List Call) → Calls u cs → AllServed u cs
calls_are_the_machine u n cs k = (all_served cs u (sound_new u n) k).0

-- the unit that the last call handed back is the one after all their events
pub calls_after : (u : TheUnit) → New u → (cs : List Call) → Calls u cs → last u cs ≡ after u (all_events cs)
calls_after u n cs k = (all_served cs u (sound_new u n) k).1

-- ---- each command line that kept something, but a done RES, has exactly one reply; they stand in the order of the lines, as `replies` has them
at_end : (u : TheUnit) (b : ℕ) → ends u b ≡ true → Answered u u.pos (shape u) (obey_of u u.kept u.pos) → Replied u b
at_end u b e (answer.empty z t) = empty e z (end_text u b e ∙ t)
at_end u b e (answer.restart l x v t) = restart e l x (end_unit u b e ∙ rw v) (end_text u b e ∙ t)
at_end u b e (answer.one d c) = one e d (rw (end_text u b e) c)

pub one_reply : (u : TheUnit) (b : ℕ) → Replied u b
one_reply u b = split (λ t. ends u b ≡ t → Replied u b) (ends u b) (λ e _. at_end u b e (answered u u.kept u.pos)) (λ e _. within e (within_text u b e)) refl

-- a line that kept nothing is not answered, and a RES neither
pub empty_quiet : (u : TheUnit) (b : ℕ) → ends u b ≡ true → u.pos.len ≡ 0 → reply u (byte b) ≡ []
unfolding obey_of
empty_quiet u b e z = end_text u b e ∙ rw (eq-eqb u.pos.len 0 z)

pub res_quiet : (u : TheUnit) (b : ℕ) → ends u b ≡ true → u.pos.long ≡ false → shape u ≡ calls name.Res param.Nothing → (reply u (byte b) ≡ []) × (next u (byte b) ≡ restarted_of u)
unfolding judge
res_quiet u b e l x =
    let o = obeyed u u.kept u.pos name.Res param.Nothing l x in
    (end_text u b e ∙ rw o, end_unit u b e ∙ rw o)

-- ---- each reading displays exactly one thing, and after a sample that is a weight, over or under; net is gross less tare to the digit
at_place : (v : TheUnit) (p : Place) → sampled_of v.seen ≡ true → place_now v ≡ p → Displayed v (read_at p (gross_now v) (net_now v) (value_now v) (steady_of v.seen))
at_place v place.Within s e = weight s e (net_now_lem v) (λ z. rw z) (λ z. rw z)
at_place v place.Over s e = over s e
at_place v place.Under s e = under s e

displays : (v : TheUnit) → Displayed v (reading_of v)
displays v =
    split (λ t. sampled_of v.seen ≡ t → Displayed v (read_by t (read_at (place_now v) (gross_now v) (net_now v) (value_now v) (steady_of v.seen)))) (sampled_of v.seen)
    (λ e _. at_place v (place_now v) e refl) (λ e _. nothing e) refl

pub one_weight : (u : TheUnit) → New u → (es : List Event) → Displayed (after u es) (read (after u es))
one_weight u n es = rw (yes_ranged (sound_yes _ (reached u n es)).0) (displays (after u es))

-- it is the weight that MSV? gives (`msv_says`)
as_shown : (v : TheUnit) (p : Place) → displayed (read_at p (gross_now v) (net_now v) (value_now v) (steady_of v.seen)) ≡ shown_at p (value_now v) ∷ []
as_shown v place.Within = refl
as_shown v place.Over = refl
as_shown v place.Under = refl

pub same_weight : (u : TheUnit) → New u → (es : List Event) → sampled_of (after u es).seen ≡ true → displayed (read (after u es)) ≡ shown_now (after u es) ∷ []
same_weight u n es h = rw (yes_ranged (sound_yes _ (reached u n es)).0, h) (as_shown (after u es) (place_now (after u es)))

seen_there : (p : Place) (x : Cell) (still : Bool) → sampled_of (seen_at p x still) ≡ true
seen_there place.Within x still = refl
seen_there place.Over x still = refl
seen_there place.Under x still = refl

pub after_sample : (u : TheUnit) (es : List Event) (x : ℤ) (still : Bool) → sampled_of (after u (es ++ (sample x still ∷ []))).seen ≡ true
unfolding after
after_sample u es x still = rw (after_append es (sample x still ∷ []) u) (seen_there (cell_place x) (as_cell x) still)

-- ---- no zero or tare of a reached unit lies outside its band
pub in_bands : (u : TheUnit) → New u → (es : List Event) → BandedOf (after u es)
in_bands u n es = (sound_yes (after u es) (reached u n es)).1

-- and a sample that moves z1 leaves it within 2 %
pub tracked_in : (u : TheUnit) (x : ℤ) (still : Bool) →
    ((next u (sample x still)).zeros.z1 ≡ u.zeros.z1) ⊎ (within_share 2 u.used.sealed.scale.nov (next u (sample x still)).zeros.z1 ≡ true)
unfolding tracked_now
tracked_in u x still =
    let v = seeing u x still in
    let P : Tenths → Type 0 = λ z. (z ≡ u.zeros.z1) ⊎ (within_share 2 u.used.sealed.scale.nov z ≡ true) in
    split (λ t. P (pick t (tracked_now v) u.zeros.z1)) (tracks_now v) (λ _. tracked_cases P _ _ _ _ (inl refl) (λ a b c. inr c)) (λ _. inl refl)
