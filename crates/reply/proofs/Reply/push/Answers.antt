use Rattle.std.proofs.Common.{◌≡◌, arith, rules, length}
use Rattle.reply.specs.PushLaws.{full, copied}
use Rattle.reply.proofs.Reply.push.Goals as goal

pub returns-then-s-at : goal.returns-then-s-at
returns-then-s-at c = full _ _ c.if-s-at.true

pub returns : goal.returns
returns c = let long : length c.args.self.bytes ≡ 17 = search rules in rw c.copy_from_slice.ensures.after (copied c.args.self c.args.s.now _ long c.requires c.if-s-at.false (omega arith))
