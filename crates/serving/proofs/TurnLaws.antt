-- Each way through the loop of `serve` is one turn of the machine, and keeps the unit in range. Assumes nothing.
use Rattle.std.proofs.Math.Bool.{true, false}
use Rattle.std.specs.Prelude.{◌≡◌, refl, Bool, List, [], ◌++◌, ℕ, ◌+◌, ◌-◌, ◌≤◌, ◌<◌, ltb, length, get_or, set, take, drop}
use Rattle.std.proofs.Common.{sym, ap, ◌∙◌, arith, Fits, length-take, length-drop, ltb-false}
use Rattle.std.specs.Int.{w64}
use Rattle.cases.specs.Pick.{pick}
use Rattle.cases.specs.PickLaws.{split}
use Rattle.cases.specs.Run.{run_of, room_of}
use Rattle.cases.specs.RunLaws.{Going, going_start, going_on, going_quiet, going_full, going_end, part_put}
use Rattle.line.specs.declared.cut.Pos.{Pos}
use Rattle.line.specs.declared.cut.Moved.{Moved}
use Rattle.line.specs.declared.cut.Act.{Act}
use Rattle.line.specs.declared.cut.Act.TheVariants as act
use Rattle.line.specs.Line.{none_kept, fresh_pos, is_end, moved_of, kept_by, stored_of}
use Rattle.reply.specs.Reply.{fitting, over, reply_of}
use Rattle.reply.proofs.ReadLaws.{fits}
use Rattle.state.specs.declared.Unit.{Unit as TheUnit}
use Rattle.state.specs.Changes.{lined}
use Rattle.state.specs.Parts.{changed_by}
use Rattle.state.specs.RangedLaws.{Ranged}
use Rattle.state.specs.Sound.{sound_of}
use Rattle.state.proofs.SoundLaws.{sound_yes, yes_sound}
use Rattle.plans.specs.declared.Obeyed.{Obeyed}
use Rattle.plans.specs.Obey.{obey_of}
use Rattle.plans.specs.ObeyLaws.{Answer, answer_of, obeyed_as}
use Rattle.plans.proofs.Keeps.{obey_ranged}
use Rattle.plans.proofs.Bands.{obey_sound}
use Rattle.serving.specs.Step.{ended_unit, step_next, step_text}
use Rattle.serving.specs.StepLaws.{obey_short}
use Rattle.serving.specs.Machine.{machine, taken_of}

-- the ranges say nothing of the line
pub lined_ranged : (u : TheUnit) (kept : List ℕ) (p : Pos) → Ranged u → Ranged (lined u kept p)
lined_ranged u kept p h =
    record { used_in = h.used_in; saved_in = h.saved_in; zeros_ok = h.zeros_ok; point_ok = h.point_ok; seen_ok = h.seen_ok; lock_ok = h.lock_ok }

-- a byte within a line, and one that ends it
module _ (v : TheUnit) (b : ℕ) (f : Moved) (e : f ≡ moved_of v.pos b) where
  pub step_quiet : is_end f.act ≡ false → step_text v b ≡ []
  unfolding step_text
  step_quiet t = let t' : is_end (moved_of v.pos b).act ≡ false = rw e at t in simp t'

  pub step_moved : is_end f.act ≡ false → lined v (stored_of v.kept f b) f.pos ≡ step_next v b
  unfolding step_next
  step_moved t = let t' : is_end (moved_of v.pos b).act ≡ false = rw e at t in simp (t', e)

  pub step_ended_text : is_end f.act ≡ true → step_text v b ≡ (obey_of v v.kept v.pos).text
  unfolding step_text
  step_ended_text t = let t' : is_end (moved_of v.pos b).act ≡ true = rw e at t in simp t'

  pub step_ended : is_end f.act ≡ true → step_next v b ≡ ended_unit v
  unfolding step_next
  step_ended t = let t' : is_end (moved_of v.pos b).act ≡ true = rw e at t in simp t'

-- a byte keeps the ranges
pub step_ranged : (u : TheUnit) (b : ℕ) → Ranged u → Ranged (step_next u b)
unfolding step_next
step_ranged u b h =
    let m = moved_of u.pos b in
    split (λ t. Ranged (pick t (ended_unit u) (lined u (stored_of u.kept m b) m.pos))) (is_end m.act)
    (λ _. lined_ranged _ none_kept fresh_pos (obey_ranged u u.kept u.pos h)) (λ _. lined_ranged u _ _ h)

-- and a unit sound
lined_sound : (u : TheUnit) (kept : List ℕ) (p : Pos) → sound_of u ≡ true → sound_of (lined u kept p) ≡ true
lined_sound u kept p e = let h = sound_yes u e in yes_sound (lined u kept p) (lined_ranged u kept p h.0) h.1

pub step_sound : (u : TheUnit) (b : ℕ) → sound_of u ≡ true → sound_of (step_next u b) ≡ true
unfolding step_next
step_sound u b h =
    let m = moved_of u.pos b in
    split (λ t. sound_of (pick t (ended_unit u) (lined u (stored_of u.kept m b) m.pos)) ≡ true) (is_end m.act)
    (λ _. lined_sound _ none_kept fresh_pos (obey_sound u u.kept u.pos h)) (λ _. lined_sound u _ _ h)

-- what a byte leaves of the kept bytes: it is kept at its place, or it is not, and then a line that is too long keeps none
stored_kept : (kept : List ℕ) (f : Moved) (k b : ℕ) → f.act ≡ act.Keeps k → stored_of kept f b ≡ set kept k b
unfolding stored_of
stored_kept kept f k b h = rw h

not_kept : (kept : List ℕ) (a : Act) (long : Bool) (b : ℕ) → ((k : ℕ) → a ≡ act.Keeps k → ⊥) → kept_by kept a long b ≡ pick long none_kept kept
not_kept kept act.Ends long b h = refl
not_kept kept (act.Keeps k) long b h = absurd (h k refl)
not_kept kept act.Drops long b h = refl

stored_long : (kept : List ℕ) (f : Moved) (b : ℕ) → ((k : ℕ) → f.act ≡ act.Keeps k → ⊥) → f.pos.long ≡ true → stored_of kept f b ≡ none_kept
unfolding stored_of
stored_long kept f b h l = not_kept kept f.act f.pos.long b h ∙ ap (λ (x : Bool). pick x none_kept kept) l

stored_same : (kept : List ℕ) (f : Moved) (b : ℕ) → ((k : ℕ) → f.act ≡ act.Keeps k → ⊥) → f.pos.long ≡ false → stored_of kept f b ≡ kept
unfolding stored_of
stored_same kept f b h l = not_kept kept f.act f.pos.long b h ∙ ap (λ (x : Bool). pick x none_kept kept) l

-- the loop's invariant: the machine goes on, and the unit is in range
pub record Serving (u : TheUnit) (bytes room₀ room : List ℕ) (v : TheUnit) (i at : ℕ) : Type 0 where
  pub going : Going machine u bytes room₀ room v i at
  pub ranged : Ranged v

pub serving_start : (u : TheUnit) (bytes room : List ℕ) → length room < 18446744073709551616 → Ranged u → Serving u bytes room room u 0 0
serving_start u bytes room small h = record { going = going_start machine u bytes room small; ranged = h }

-- the ways through the loop
module _ (u : TheUnit) (bytes room₀ room : List ℕ) (v : TheUnit) (i at : ℕ) (g : Serving u bytes room₀ room v i at) where
  -- what is put stays within the part that is lent, so that the next place is a number of the machine
  pub turn_adds : (w : ℕ) (s : List ℕ) → w ≡ length (pick (ltb (length (take (length room - at) (drop at room))) (length s)) [] s) → Fits w64 (at + w)
  turn_adds w s e =
      let lent = take (length room - at) (drop at room) in
      let n : length lent ≤ length room - at = simp (length-take, length-drop) (omega arith) in
      let k : length (pick (ltb (length lent) (length s)) [] s) ≤ length lent =
      split (λ t. length (pick t [] s) ≤ length lent) (ltb (length lent) (length s)) (λ _. omega arith) (λ l. ltb-false (length lent) (length s) l) in
      omega (arith, g.going.fits, g.going.long, g.going.small)

  module _ (f : Moved) (h : i < length bytes) (k : 17 ≤ length room₀ - at) (e : f ≡ moved_of v.pos (get_or bytes i 0)) where
    quiet : (kept : List ℕ) → is_end f.act ≡ false → stored_of v.kept f (get_or bytes i 0) ≡ kept → Serving u bytes room₀ room (lined v kept f.pos) (i + 1) at
    quiet kept t s =
        record { going = going_quiet machine u bytes room₀ room v i at g.going _ h k (step_quiet v _ f e t) (rw (← s) (step_moved v _ f e t)); ranged = lined_ranged v kept f.pos g.ranged }

    pub turn_kept : (k : ℕ) → f.act ≡ act.Keeps k → Serving u bytes room₀ room (lined v (set v.kept k (get_or bytes i 0)) f.pos) (i + 1) at
    unfolding stored_of
    turn_kept k t = quiet _ (rw t) (rw t)

    pub turn_long : f.act ≡ act.Drops → f.pos.long ≡ true → Serving u bytes room₀ room (lined v none_kept f.pos) (i + 1) at
    unfolding stored_of
    turn_long t l = quiet _ (rw t) (rw (t, l))

    pub turn_same : f.act ≡ act.Drops → f.pos.long ≡ false → Serving u bytes room₀ room (lined v v.kept f.pos) (i + 1) at
    unfolding stored_of
    turn_same t l = quiet _ (rw t) (rw (t, l))

    pub turn_ended : (a : Obeyed) (x : TheUnit) (p : Pos) (w : ℕ) (part : List ℕ) → is_end f.act ≡ true → obeyed_as v a ≡ answer_of (obey_of v v.kept v.pos) →
        (w ≡ length (fitting (take (length room - at) (drop at room)) a.reply)) × (part ≡ over (fitting (take (length room - at) (drop at room)) a.reply) (take (length room - at) (drop at room))) →
        x ≡ changed_by v a.change →
        p ≡ fresh_pos →
        Serving u bytes room₀ (take at room ++ (part ++ drop (length room - at) (drop at room))) (lined x none_kept p) (i + 1) (at + w)
    turn_ended a x p w part t y q c z =
        let o = obey_of v v.kept v.pos in
        let s = o.text in
        let said : a.reply ≡ reply_of s = ap (λ (r : Answer). r.reply) y in
        let made : x ≡ o.next = c ∙ ap (λ (r : Answer). r.unit) y in
        let lent = take (length room - at) (drop at room) in
        let free : length lent ≡ length room - at = simp (length-take, length-drop) (omega arith) in
        let all : fitting lent a.reply ≡ s = rw said (fits lent s (omega (arith, obey_short v v.kept v.pos, g.going.long))) in
        let n : w ≡ length s = q.0 ∙ ap length all in
        let parted : part ≡ over s lent = q.1 ∙ rw all in
        let next : lined x none_kept p ≡ step_next v (get_or bytes i 0) = rw (z, made) (sym (step_ended v _ f e t)) in
        record {
          going =
              rw n (going_on machine u bytes room₀ room v i at g.going s _ _ h k (sym (step_ended_text v _ f e t)) next (rw parted (part_put room s at (omega (arith, g.going.fits, g.going.long)))));
          ranged = lined_ranged x none_kept p (rw made (obey_ranged v v.kept v.pos g.ranged));
        }

  pub leave_full : length room₀ - at < 17 → (record { next = v; taken = i; written = at } ≡ taken_of (run_of machine u (length room₀) bytes)) × (room ≡ room_of (run_of machine u (length room₀) bytes) room₀)
  leave_full h = let d = going_full machine u bytes room₀ room v i at g.going h in (rw (d.0, d.1), d.2)

  pub leave_end : length bytes ≤ i → (record { next = v; taken = i; written = at } ≡ taken_of (run_of machine u (length room₀) bytes)) × (room ≡ room_of (run_of machine u (length room₀) bytes) room₀)
  leave_end h = let d = going_end machine u bytes room₀ room v i at g.going h in (rw (d.0, d.1), d.2)
