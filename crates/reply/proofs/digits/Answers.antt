use Rattle.std.proofs.Common.{arith}
use Rattle.reply.specs.PushLaws.{onto}
use Rattle.reply.specs.Reply.{digits_text}
use Rattle.reply.proofs.ReadLaws.{length_digits}
use Rattle.reply.proofs.digits.Goals as goal

pub returns : goal.returns
unfolding digits_text
returns g c =
    let w = length_digits g.row.N c.args.n in
    onto _ _ _ _ (onto _ _ _ _ c.empty.ensures c.digits.ensures (omega (arith, w, c.requires))) c.end.ensures (omega (arith, w, c.requires))
