use Rattle.std.proofs.Common.{arith, ap, ℕ, ◌+◌}
use Rattle.serving.proofs.TurnLaws.{turn_kept, turn_long, turn_same, turn_ended}
use Rattle.serving.proofs.serve.Goals as goal
use Rattle.serving.proofs.serve.Goals.{in-Keeps, in-Drops+then-pos, in-Drops+else-pos, in-Ends}

pub loop-b-preserved : goal.loop-b-preserved
loop-b-preserved c =
    let g = c.loop-b.invariant.0 in
    let on = turn_kept _ _ _ _ _ _ _ g c.advance-f.result (omega (arith, c.loop-b-test.true)) (omega (arith, c.if-m-at-lt-ROOM.false)) c.advance-f.ensures.moved in
    let long = turn_long _ _ _ _ _ _ _ g c.advance-f.result (omega (arith, c.loop-b-test.true)) (omega (arith, c.if-m-at-lt-ROOM.false)) c.advance-f.ensures.moved in
    let same = turn_same _ _ _ _ _ _ _ g c.advance-f.result (omega (arith, c.loop-b-test.true)) (omega (arith, c.if-m-at-lt-ROOM.false)) c.advance-f.ensures.moved in
    let end = turn_ended _ _ _ _ _ _ _ g c.advance-f.result (omega (arith, c.loop-b-test.true)) (omega (arith, c.if-m-at-lt-ROOM.false)) c.advance-f.ensures.moved in (
      elim c.match-f.branch [
        | in-Keeps w ↦ rw (w.room-is, w.v-is, w.kept-is, w.pos-is, w.at-is) (on _ w.in-Keeps.is)
        | in-Drops+then-pos w ↦ rw (w.room-is, w.v-is, w.kept-is, w.pos-is, w.at-is) (long w.in-Drops.is w.if-pos.true)
        | in-Drops+else-pos w ↦ rw (w.room-is, w.v-is, w.kept-is, w.pos-is, w.at-is) (same w.in-Drops.is w.if-pos.false)
        | in-Ends w ↦ rw (w.room-is, w.v-is, w.kept-is, w.pos-is, w.at-is)
            (end w.obey-a.result w.made-v.result w.fresh_pos-pos.result w.put-at.result _ (rw w.in-Ends.is) w.obey-a.ensures w.put-at.ensures w.made-v.ensures w.fresh_pos-pos.ensures)
      ],
      ap (λ (n : ℕ). n + 1) c.loop-b.invariant.1,
    )
