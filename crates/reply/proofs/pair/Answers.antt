use Rattle.std.proofs.Common.{arith}
use Rattle.reply.specs.PushLaws.{onto}
use Rattle.reply.specs.Reply.{places_of, pair_text}
use Rattle.reply.proofs.pair.Goals as goal

pub returns : goal.returns
unfolding places_of pair_text
returns c =
    onto _ _ _ _ (onto _ _ _ _ (onto _ _ _ _ (onto _ _ _ _ c.empty.ensures c.digits-first.ensures (omega arith)) c.push.ensures (omega arith)) c.digits.ensures (omega arith)) c.end.ensures (omega arith)
