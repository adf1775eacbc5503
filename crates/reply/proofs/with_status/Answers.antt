use Rattle.std.proofs.Common.{arith, refl, to_z-of_z}
use Rattle.reply.specs.PushLaws.{onto}
use Rattle.reply.specs.Reply.{places_of, status_text}
use Rattle.reply.proofs.with_status.Goals as goal

pub returns : goal.returns
unfolding places_of status_text
returns c =
    let shown = onto _ _ _ _ (onto _ _ _ _ c.empty.ensures refl (omega arith)) c.signed.ensures (omega arith) in
    let addressed = onto _ _ _ _ (onto _ _ _ _ shown c.push.ensures (omega arith)) c.digits.ensures (omega arith) in
    rw (to_z-of_z c.ranges.x) at (onto _ _ _ _ (onto _ _ _ _ (onto _ _ _ _ addressed c.push-2.ensures (omega arith)) c.digits-2.ensures (omega arith)) c.end.ensures (omega arith))
