use Rattle.std.proofs.Common.{arith}
use Rattle.reply.specs.PushLaws.{onto}
use Rattle.reply.proofs.refused.Goals as goal

pub returns : goal.returns
returns c = onto _ _ _ _ c.empty.ensures c.push.ensures (omega arith)
