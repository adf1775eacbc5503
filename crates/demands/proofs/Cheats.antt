-- The five cheats of document 01: for each a call on which its bytes, counts or unit are not those that the contracts allow. Assumes nothing.
use mathlib.Core.Path.{◌≡◌, refl, sym, ap, ◌∙◌}
use mathlib.Core.Bool.{true}
use mathlib.Core.List.{List, ◌++◌}
use Prim.Native.Nat.{ℕ}
use Prim.Native.String.{String}
use native.Mathlib.Omega.{arith}
use lib.IntN.{ℤ, pos}
use lib.ListN.{length, get_or, take}
use Rattle.cases.specs.Run.{Run, run_of, room_of}
use Rattle.whole.specs.Round.{round_nat, round_div}
use Rattle.line.specs.Line.{ends_of, drops_of, quoted_of, counted_of, moved_of, stored_of}
use Rattle.line.specs.Names.{same_of}
use Rattle.line.specs.Shape.{all_of, is_letter, fold_of, is_digit, value_from, digits_of, signed_of, number_of, is_plain, text_of, param_of, command_of, shape_of}
use Rattle.weight.specs.Weight.{corrected, tenths, less, gross, net, in_tenths}
use Rattle.weight.specs.Display.{place_by, highest, lowest, two_of}
use Rattle.weight.specs.Sets.{spans}
use Rattle.weight.specs.Zero.{within_share, first_zero, tracks, moved, tracked}
use Rattle.reply.specs.Reply.{places_of, twos, digits_text, blank_text, pair_text, signed_text, status_text, word4_text, word2_text}
use Rattle.weighing.specs.Reading.{v_now, gross_now}
use Rattle.weighing.specs.Samples.{first_now, tracked_now, sample_of}
use Rattle.plans.specs.Plans.{word_of, same_word}
use Rattle.plans.specs.Queries.{status_of, msv_text}
use Rattle.plans.specs.Obey.{judge, obey_of}
use Rattle.serving.specs.Step.{step_next, step_text}
use Rattle.state.specs.declared.Unit.{Unit as TheUnit}
use Rattle.state.specs.Changes.{new_unit}
use Rattle.state.specs.RangedLaws.{Ranged, yes_ranged}
use Rattle.state.proofs.SoundLaws.{new_sound, sound_yes}
use Rattle.weighing.specs.SampleLaws.{sampled_sound}
use Rattle.serving.specs.declared.Taken.{Taken}
use Rattle.serving.specs.Machine.{machine, taken_of}
use Rattle.wire.specs.Wire.{block_of}
use Rattle.wire.specs.WireLaws.{block_plain}
use Rattle.demands.specs.Host.{after, Took, Sampled, Allowed}
use Rattle.demands.specs.Sent.{room, run, Back}
use Rattle.demands.specs.Typed.{ascii, typed}

abbrev Is : ℕ → ℕ → Type 0
Is a b = a ≡ b

-- what the machine does; each side computes
record Facts : Type 0 where
  asked : room_of (run "TAS?;" 17) (room 17) ≡ ascii "1\r\n" ++ room 14
  refused : room_of (run "TAS2;" 17) (room 17) ≡ ascii "?\r\n" ++ room 14
  empty : room_of (run_of machine (sample_of new_unit (pos 0) true) 17 (ascii "MSV?;")) (room 17) ≡ ascii " 0000000\r\n" ++ room 7
  loaded : room_of (run_of machine (sample_of new_unit (pos 500000) true) 17 (ascii "MSV?;")) (room 17) ≡ ascii " 0001500\r\n" ++ room 7
  switched : Is (run "TAS0;" 17).next.used.free.tas 0
  both : Is (run "TAS0;COF9;" 34).next.used.free.cof 9
  first : Is (after new_unit (typed "TAS0;")).used.free.cof 3
  replied : room_of (run "TAS?;COF?;" 34) (room 34) ≡ ascii "1\r\n03\r\n" ++ room 27
  taken : Is (run "TAS?;TAS?;" 17).taken 5
  written : Is (length (run "TAS?;TAS?;" 17).out) 3
  counted : Is (run "SPW\"AED\";LFT1;" 34).next.counter 1

facts : Facts
unfolding round_nat round_div ends_of drops_of quoted_of counted_of moved_of stored_of same_of all_of is_letter fold_of is_digit value_from digits_of signed_of number_of is_plain text_of param_of command_of shape_of corrected tenths less gross net in_tenths place_by highest lowest two_of spans within_share first_zero tracks moved tracked places_of twos digits_text blank_text pair_text signed_text status_text word4_text word2_text v_now gross_now first_now tracked_now word_of same_word status_of msv_text judge obey_of step_next step_text run_of after
facts =
    record { asked = refl; refused = refl; empty = refl; loaded = refl; switched = refl; both = refl; first = refl; replied = refl; taken = refl; written = refl; counted = refl }

new_ranged : Ranged new_unit
new_ranged = (sound_yes new_unit new_sound).0

plainly : (s : String) (n : ℕ) (r : Taken) (m : List ℕ) → length (room n) ≡ n → Back s n r m → (r ≡ taken_of (run s n)) × (m ≡ room_of (run s n) (room n))
plainly s n r m e a = let p = block_plain new_unit n (ascii s) new_ranged in rw (e, p) at a

weighed : (x : ℤ) (u : TheUnit) (r : Taken) (m : List ℕ) → Allowed new_unit (Sampled x true u) → Allowed u (Took (ascii "MSV?;") (room 17) r m) →
    m ≡ room_of (run_of machine (sample_of new_unit x true) 17 (ascii "MSV?;")) (room 17)
weighed x u r m a b =
    let s : u ≡ sample_of new_unit x true = a ∙ rw (yes_ranged new_ranged) in
    let h = (sound_yes _ (sampled_sound new_unit x true new_sound)).0 in
    b.1 ∙ ap (λ (v : TheUnit). room_of (block_of v 17 (ascii "MSV?;")) (room 17)) s ∙ ap (λ (o : Run TheUnit). room_of o (room 17)) (block_plain (sample_of new_unit x true) 17 (ascii "MSV?;") h)

-- the byte of the room where they differ
byte_at : (i : ℕ) (s t : List ℕ) → s ≡ t → Is (get_or s i 0) (get_or t i 0)
byte_at i s t e = ap (λ (l : List ℕ). get_or l i 0) e

-- ---- a unit that answers `?` to all: it would to TAS?
pub refuses_all : (r : Taken) (m : List ℕ) → Back "TAS?;" 17 r m → take 3 m ≡ ascii "?\r\n" → ⊥
refuses_all r m a h =
    let d : Is 63 49 = byte_at 0 (ascii "?\r\n") (ascii "1\r\n") (sym h ∙ ap (take 3) ((plainly "TAS?;" 17 r m refl a).1 ∙ facts.asked)) in
    absurd (omega arith)

-- ---- one that replies `0` to all: it would to TAS2, a value that TAS does not take
pub done_to_all : (r : Taken) (m : List ℕ) → Back "TAS2;" 17 r m → take 3 m ≡ ascii "0\r\n" → ⊥
done_to_all r m a h =
    let d : Is 48 63 = byte_at 0 (ascii "0\r\n") (ascii "?\r\n") (sym h ∙ ap (take 3) ((plainly "TAS2;" 17 r m refl a).1 ∙ facts.refused)) in
    absurd (omega arith)

-- or shows one weight: MSV? after x 0 and after x 500000 would be replied to alike
pub one_weight_for_all : (u v : TheUnit) (q r : Taken) (m n : List ℕ) → Allowed new_unit (Sampled (pos 0) true u) → Allowed u (Took (ascii "MSV?;") (room 17) q m) →
    Allowed new_unit (Sampled (pos 500000) true v) → Allowed v (Took (ascii "MSV?;") (room 17) r n) → take 10 m ≡ take 10 n → ⊥
one_weight_for_all u v q r m n a b c d h =
    let e = weighed (pos 0) u q m a b in
    let f = weighed (pos 500000) v r n c d in
    let d : Is 48 49 = byte_at 4 (ascii " 0000000\r\n") (ascii " 0001500\r\n") (sym (ap (take 10) (e ∙ facts.empty)) ∙ h ∙ ap (take 10) (f ∙ facts.loaded)) in
    absurd (omega arith)

-- ---- one that changes nothing: it would not at TAS0
pub changes_nothing : (r : Taken) (m : List ℕ) → Back "TAS0;" 17 r m → r.next ≡ new_unit → ⊥
changes_nothing r m a h =
    let d : Is 1 0 = sym (ap (λ (u : TheUnit). u.used.free.tas) h) ∙ ap (λ (t : Taken). t.next.used.free.tas) (plainly "TAS0;" 17 r m refl a).0 ∙ facts.switched in
    absurd (omega arith)

-- ---- one that serves the first line of a block and mimics the rest: its unit would stand as after TAS0, whatever it replied to COF9
pub first_line_only : (r : Taken) (m : List ℕ) → Back "TAS0;COF9;" 34 r m → r.next ≡ after new_unit (typed "TAS0;") → ⊥
first_line_only r m a h =
    let d : Is 3 9 =
    sym facts.first ∙ sym (ap (λ (u : TheUnit). u.used.free.cof) h) ∙ ap (λ (t : Taken). t.next.used.free.cof) (plainly "TAS0;COF9;" 34 r m refl a).0 ∙ facts.both in
    absurd (omega arith)

-- or it would give the first reply again
pub first_reply_again : (r : Taken) (m : List ℕ) → Back "TAS?;COF?;" 34 r m → take 6 m ≡ ascii "1\r\n1\r\n" → ⊥
first_reply_again r m a h =
    let d : Is 49 48 = byte_at 3 (ascii "1\r\n1\r\n") (ascii "1\r\n03\r") (sym h ∙ ap (take 6) ((plainly "TAS?;COF?;" 34 r m refl a).1 ∙ facts.replied)) in
    absurd (omega arith)

-- ---- one whose counts are invented: with room for one reply of two, 5 bytes are taken and 3 written, and no other numbers
pub taken_invented : (r : Taken) (m : List ℕ) → Back "TAS?;TAS?;" 17 r m → (r.taken ≡ 5 → ⊥) → ⊥
taken_invented r m a h = h (ap (λ (t : Taken). t.taken) (plainly "TAS?;TAS?;" 17 r m refl a).0 ∙ facts.taken)

pub written_invented : (r : Taken) (m : List ℕ) → Back "TAS?;TAS?;" 17 r m → (r.written ≡ 3 → ⊥) → ⊥
written_invented r m a h = h (ap (λ (t : Taken). t.written) (plainly "TAS?;TAS?;" 17 r m refl a).0 ∙ facts.written)

-- or whose counter is: after one change of the trade mode it reads 1 and no other number
pub counter_invented : (r : Taken) (m : List ℕ) → Back "SPW\"AED\";LFT1;" 34 r m → (r.next.counter ≡ 1 → ⊥) → ⊥
counter_invented r m a h = h (ap (λ (t : Taken). t.next.counter) (plainly "SPW\"AED\";LFT1;" 34 r m refl a).0 ∙ facts.counted)
