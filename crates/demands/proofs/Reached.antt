-- The machine over events: one run after another, a block's bytes, and that a sound unit stays sound. Assumes nothing.
use mathlib.Core.Path.{◌≡◌, refl, sym, ap, ◌∙◌}
use mathlib.Core.Bool.{Bool, true, false}
use mathlib.Core.List.{List, [], ◌∷◌, ◌++◌, append_assoc}
use Prim.Native.Nat.{ℕ, ◌≤◌}
use lib.ListN.{length}
use Rattle.cases.specs.Pick.{pick}
use Rattle.cases.specs.PickLaws.{split}
use Rattle.cases.specs.Each.{next_by, text_by}
use Rattle.line.specs.Line.{none_kept, fresh_pos, moved_of, stored_of}
use Rattle.line.specs.Cut.{Fed, cut_of, found_at, found_of, fed_from, held_of}
use Rattle.line.specs.CutLaws.{fed_cut}
use Rattle.line.specs.LineLaws.{kept_list}
use Rattle.state.specs.declared.Unit.{Unit as TheUnit}
use Rattle.state.specs.Sound.{sound_of}
use Rattle.state.proofs.SoundLaws.{new_sound, restarted_sound}
use Rattle.weighing.specs.SampleLaws.{sampled_sound}
use Rattle.plans.specs.Obey.{obey_of}
use Rattle.serving.specs.Step.{ended_unit, moved_unit, step_next, step_text}
use Rattle.serving.specs.Machine.{machine}
use Rattle.serving.proofs.TurnLaws.{step_sound}
use Rattle.demands.specs.Host.{New, Event, byte, sample, power, next, reply, after, replies, bytes, ends, line}

-- ---- some events and then others
pub after_append : (xs ys : List Event) (u : TheUnit) → after u (xs ++ ys) ≡ after (after u xs) ys
unfolding after
after_append [] ys u = refl
after_append (x ∷ xs) ys u = after_append xs ys (next u x)

pub replies_append : (xs ys : List Event) (u : TheUnit) → replies u (xs ++ ys) ≡ replies u xs ++ replies (after u xs) ys
unfolding after replies
replies_append [] ys u = refl
replies_append (x ∷ xs) ys u = ap (reply u x ++◌) (replies_append xs ys (next u x)) ∙ sym (append_assoc (reply u x) (replies (next u x) xs) (replies (after (next u x) xs) ys))

-- ---- a block's bytes are events
pub bytes_of : (xs ys : List ℕ) → bytes (xs ++ ys) ≡ bytes xs ++ bytes ys
bytes_of [] ys = refl
bytes_of (x ∷ xs) ys = ap (byte x ∷◌) (bytes_of xs ys)

pub after_bytes : (s : List ℕ) (u : TheUnit) → after u (bytes s) ≡ next_by machine u s
unfolding after next_by
after_bytes [] u = refl
after_bytes (b ∷ s) u = after_bytes s (step_next u b)

pub replies_bytes : (s : List ℕ) (u : TheUnit) → replies u (bytes s) ≡ text_by machine u s
unfolding replies text_by
replies_bytes [] u = refl
replies_bytes (b ∷ s) u = ap (reply u (byte b) ++◌) (replies_bytes s (step_next u b))

-- ---- a byte within a line, and one that ends it
pub within_text : (u : TheUnit) (b : ℕ) → ends u b ≡ false → reply u (byte b) ≡ []
unfolding step_text
within_text u b e = simp e

pub within_unit : (u : TheUnit) (b : ℕ) → ends u b ≡ false → next u (byte b) ≡ moved_unit u (moved_of u.pos b) b
unfolding step_next
within_unit u b e = simp e

pub end_text : (u : TheUnit) (b : ℕ) → ends u b ≡ true → reply u (byte b) ≡ (obey_of u u.kept u.pos).text
unfolding step_text
end_text u b e = simp e

pub end_unit : (u : TheUnit) (b : ℕ) → ends u b ≡ true → next u (byte b) ≡ ended_unit u
unfolding step_next
end_unit u b e = simp e

-- ---- the line that a unit holds is what the bytes sent to it leave, however they are cut into blocks
abbrev Held : List ℕ → TheUnit → Type 0
Held t u = ((after u (bytes t)).kept ≡ (fed_from u.kept u.pos t).kept) × ((after u (bytes t)).pos ≡ (fed_from u.kept u.pos t).pos)

held_step : (b : ℕ) (t : List ℕ) (u : TheUnit) → ((v : TheUnit) → Held t v) → Held (b ∷ t) u
unfolding after fed_from
held_step b t u k =
    let m = moved_of u.pos b in
    let f : Bool → Fed = λ e. pick e (found_at (found_of u.kept u.pos) (fed_from none_kept fresh_pos t)) (fed_from (stored_of u.kept m b) m.pos t) in
    split (λ e. ((after (next u (byte b)) (bytes t)).kept ≡ (f e).kept) × ((after (next u (byte b)) (bytes t)).pos ≡ (f e).pos)) (ends u b)
    (λ e. rw (end_unit u b e) (k (ended_unit u))) (λ e. rw (within_unit u b e) (k (moved_unit u m b)))

held : (t : List ℕ) (u : TheUnit) → Held t u
unfolding after fed_from
held [] u = (refl, refl)
held (b ∷ t) u = held_step b t u (held t)

pub line_sent : (t : List ℕ) (u : TheUnit) → u.kept ≡ none_kept → u.pos ≡ fresh_pos → length (cut_of t).rest ≤ 40 → line (after u (bytes t)) ≡ (cut_of t).rest
line_sent t u k p l =
    let f : fed_from u.kept u.pos t ≡ held_of (cut_of t) = rw (k, p) (fed_cut t) in
    let h = held t u in
    rw (h.0, h.1, f) (kept_list (cut_of t).rest (cut_of t).quoted l)

-- ---- every reached unit is sound
event_sound : (u : TheUnit) (e : Event) → sound_of u ≡ true → sound_of (next u e) ≡ true
event_sound u (byte b) h = step_sound u b h
event_sound u (sample x still) h = sampled_sound u x still h
event_sound u power h = restarted_sound u h

pub sound_after : (es : List Event) (u : TheUnit) → sound_of u ≡ true → sound_of (after u es) ≡ true
unfolding after
sound_after [] u h = h
sound_after (e ∷ es) u h = sound_after es (next u e) (event_sound u e h)

pub sound_new : (u : TheUnit) → New u → sound_of u ≡ true
sound_new u n = rw n new_sound

pub reached : (u : TheUnit) → New u → (es : List Event) → sound_of (after u es) ≡ true
reached u n es = sound_after es u (sound_new u n)
