use Rattle.std.proofs.Common.{arith}
use Rattle.reply.specs.PushLaws.{onto}
use Rattle.reply.proofs.ReadLaws.{length_digits}
use Rattle.reply.proofs.blank.Goals as goal

pub returns : goal.returns
returns g c =
    let w = length_digits g.row.N c.args.n in
    onto _ _ _ _ (onto _ _ _ _ (onto _ _ _ _ c.empty.ensures c.push.ensures (omega arith)) c.digits.ensures (omega (arith, w, c.requires))) c.end.ensures (omega (arith, w, c.requires))
