use Rattle.std.proofs.Common.{refl}
use Rattle.reply.specs.Reply.{reply_of}
use Rattle.reply.proofs.empty.Goals as goal

pub returns : goal.returns
unfolding reply_of
returns c = refl
