-- What a host may rely on when it hands a block over. Assumes nothing.
use Rattle.std.specs.Prelude.{true, false, ◌≡◌, refl, List, [], ◌∷◌, ◌++◌, ℕ, ◌-◌, ◌≤◌, ◌<◌, length, take}
use Rattle.std.proofs.Common.{sym, ap, ◌∙◌, arith}
use Rattle.cases.specs.PickLaws.{split}
use Rattle.cases.specs.Pick.{pick}
use Rattle.cases.specs.Run.{stop, after, room_of, run_of}
use Rattle.cases.specs.RunLaws.{run_full, run_byte, run_append, out_fits}
use Rattle.state.specs.declared.Unit.{Unit as TheUnit}
use Rattle.state.specs.Ranged.{ranged_of}
use Rattle.state.specs.RangedLaws.{Ranged, yes_ranged}
use Rattle.state.specs.Sound.{sound_of}
use Rattle.state.proofs.SoundLaws.{sound_yes}
use Rattle.serving.specs.Machine.{machine, taken_of}
use Rattle.wire.specs.Wire.{block_of}
use Rattle.cases.specs.Each.{next_by, text_by}
use Rattle.cases.specs.EachLaws.{Stopped, run_each, next_append, text_append}
use Rattle.serving.proofs.KeepLaws.{run_ranged, run_sound}

-- ---- the guard
-- a unit in range is served by the plain rules
pub block_plain : (u : TheUnit) (free : ℕ) (s : List ℕ) → Ranged u → block_of u free s ≡ run_of machine u free s
block_plain u free s h = rw (yes_ranged h)

-- and one out of range is left alone, with the whole room
pub block_none : (u : TheUnit) (free : ℕ) (s room : List ℕ) → ranged_of u ≡ false → (taken_of (block_of u free s) ≡ record { next = u; taken = 0; written = 0 }) × (room_of (block_of u free s) room ≡ room)
block_none u free s room e = rw e (refl, refl)

-- room for less than the longest reply: nothing is taken, written or changed
pub block_full : (u : TheUnit) (free : ℕ) (s room : List ℕ) → free < 17 → (taken_of (block_of u free s) ≡ record { next = u; taken = 0; written = 0 }) × (room_of (block_of u free s) room ≡ room)
block_full u free s room h =
    rw (run_full machine u free s h) (split (λ b. (taken_of (pick b (stop u) (stop u)) ≡ record { next = u; taken = 0; written = 0 }) × (room_of (pick b (stop u) (stop u)) room ≡ room)) (ranged_of u) (λ _. (refl, refl)) (λ _. (refl, refl)))

-- ---- a block goes on: with room for a reply, a byte is taken
pub block_goes : (u : TheUnit) (free b : ℕ) (s : List ℕ) → Ranged u → 17 ≤ free → 1 ≤ (taken_of (block_of u free (b ∷ s))).taken
block_goes u free b s h k = rw (block_plain u free (b ∷ s) h, run_byte machine u free b s k) (omega arith)

-- ---- a block is its taken bytes one by one: the unit, the replies, and why it stopped
pub block_each : (u : TheUnit) (free : ℕ) (s : List ℕ) → Ranged u → Stopped machine u free s (block_of u free s)
block_each u free s h = rw (block_plain u free s h) (run_each machine s u free)

-- ---- what is written never passes the room
pub block_fits : (u : TheUnit) (free : ℕ) (s : List ℕ) → length (block_of u free s).out ≤ free
block_fits u free s = split (λ b. length (pick b (run_of machine u free s) (stop u)).out ≤ free) (ranged_of u) (λ _. out_fits machine s u free) (λ _. omega arith)

-- ---- a block that is taken whole and then another are both at once
pub block_append : (u : TheUnit) (free : ℕ) (s t : List ℕ) → Ranged u → (block_of u free s).taken ≡ length s →
    block_of u free (s ++ t) ≡ after (length s) (block_of u free s).out (block_of (block_of u free s).next (free - length (block_of u free s).out) t)
block_append u free s t h e =
    let p = block_plain u free s h in
    let e' : (run_of machine u free s).taken ≡ length s = rw p at e in
    rw (p, block_plain u free (s ++ t) h, block_plain (run_of machine u free s).next (free - length (run_of machine u free s).out) t (run_ranged s u free h)) (run_append machine s t u free e')

-- ---- however a host cuts its bytes into blocks and rooms
-- the blocks that a host hands over, each with the free room it lends
pub record Block : Type 0 where
  pub bytes : List ℕ
  pub free : ℕ

-- what they come to: the unit, all that was taken and all that was written
unfoldable pub cut_next : TheUnit → List Block → TheUnit
cut_next u [] = u
cut_next u (c ∷ cs) = cut_next (block_of u c.free c.bytes).next cs

unfoldable pub cut_taken : TheUnit → List Block → List ℕ
cut_taken u [] = []
cut_taken u (c ∷ cs) = take (block_of u c.free c.bytes).taken c.bytes ++ cut_taken (block_of u c.free c.bytes).next cs

unfoldable pub cut_text : TheUnit → List Block → List ℕ
cut_text u [] = []
cut_text u (c ∷ cs) = (block_of u c.free c.bytes).out ++ cut_text (block_of u c.free c.bytes).next cs

pub block_sound : (u : TheUnit) (free : ℕ) (s : List ℕ) → sound_of u ≡ true → sound_of (block_of u free s).next ≡ true
block_sound u free s e = rw (block_plain u free s (sound_yes u e).0) (run_sound s u free e)

pub block_ranged : (u : TheUnit) (free : ℕ) (s : List ℕ) → Ranged u → Ranged (block_of u free s).next
block_ranged u free s h = rw (block_plain u free s h) (run_ranged s u free h)

-- unit and replies are those of the taken bytes one by one, so that two ways to cut the same bytes give the same
pub however_cut : (cs : List Block) (u : TheUnit) → Ranged u → (cut_next u cs ≡ next_by machine u (cut_taken u cs)) × (cut_text u cs ≡ text_by machine u (cut_taken u cs))
unfolding cut_next cut_taken cut_text next_by text_by
however_cut [] u h = (refl, refl)
however_cut (c ∷ cs) u h =
    let r = block_of u c.free c.bytes in
    let a = take r.taken c.bytes in
    let e = block_each u c.free c.bytes h in
    let k = however_cut cs r.next (block_ranged u c.free c.bytes h) in
    let b = cut_taken r.next cs in (
      k.0 ∙ ap (λ (v : TheUnit). next_by machine v b) e.next ∙ sym (next_append machine a b u),
      ap (r.out ++◌) k.1
          ∙ ap (λ (o : List ℕ). o ++ text_by machine r.next b) e.out
          ∙ ap (λ (v : TheUnit). text_by machine u a ++ text_by machine v b) e.next
          ∙ sym (text_append machine a b u),
    )
