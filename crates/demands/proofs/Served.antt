-- A call's results that its contract allows are the machine's, one call after the other. Assumes nothing.
use mathlib.Core.Path.{◌≡◌, refl, sym, ap, ◌∙◌}
use mathlib.Core.Bool.{true}
use mathlib.Core.List.{List, [], ◌∷◌}
use Prim.Native.Nat.{ℕ}
use native.Mathlib.Omega.{arith}
use lib.ListN.{length, take, drop, length-append, length-drop}
use lib.Seq.{take_at, drop_at}
use Rattle.cases.specs.Run.{Run, room_of}
use Rattle.cases.specs.EachLaws.{Stopped}
use Rattle.state.specs.declared.Unit.{Unit as TheUnit}
use Rattle.state.specs.RangedLaws.{Ranged, yes_ranged}
use Rattle.state.specs.Sound.{sound_of}
use Rattle.state.proofs.SoundLaws.{sound_yes}
use Rattle.serving.specs.Machine.{machine, taken_of}
use Rattle.wire.specs.Wire.{block_of}
use Rattle.wire.specs.WireLaws.{block_each, block_fits}
use Rattle.demands.specs.Host.{after, replies, bytes, Call, Took, Sampled, Restarted, Allowed, handed, Calls, last, events, all_events, Right, Served, AllServed}
use Rattle.demands.proofs.Reached.{after_append, after_bytes, replies_bytes, sound_after}

module _ (u : TheUnit) (h : sound_of u ≡ true) where
  ranged : Ranged u
  ranged = (sound_yes u h).0

  right_block : (s m : List ℕ) → Right u s m (taken_of (block_of u (length m) s)) (room_of (block_of u (length m) s) m)
  right_block s m =
      let r : Run TheUnit = block_of u (length m) s in
      let e : Stopped machine u (length m) s r = block_each u (length m) s ranged in
      let out : r.out ≡ replies u (bytes (take r.taken s)) = e.out ∙ sym (replies_bytes (take r.taken s) u) in
      record {
        unit = e.next ∙ sym (after_bytes (take r.taken s) u);
        written = ap length out;
        replied = take_at r.out (drop (length r.out) m) (length r.out) refl ∙ out;
        others = drop_at r.out (drop (length r.out) m) (length r.out) refl;
        room = simp (length-append, length-drop) (omega (arith, block_fits u (length m) s));
        most = e.most;
        free = λ k l. rw (replies_bytes (take k s) u) (e.enough k l);
        full = e.short;
      }

  pub served : (c : Call) → Allowed u c → Served u c
  served (Took s m r m') a = rw (a.0, a.1) (right_block s m)
  served (Sampled x still v) a = a ∙ rw (yes_ranged ranged)
  served (Restarted v) a = a ∙ rw (yes_ranged ranged)

pub handed_is : (u : TheUnit) (c : Call) → Served u c → handed c ≡ after u (events c)
unfolding after
handed_is u (Took s m r m') k = k.unit
handed_is u (Sampled x still v) k = k
handed_is u (Restarted v) k = k

pub all_served : (cs : List Call) (u : TheUnit) → sound_of u ≡ true → Calls u cs → AllServed u cs × (last u cs ≡ after u (all_events cs))
unfolding after
all_served [] u h k = (tt, refl)
all_served (c ∷ cs) u h k =
    let s = served u h c k.0 in
    let e = handed_is u c s in
    let r = all_served cs (after u (events c)) (sound_after (events c) u h) (rw e at k.1) in
    ((s, r.0), ap (λ (v : TheUnit). last v cs) e ∙ r.1 ∙ sym (after_append (events c) (all_events cs) u))
