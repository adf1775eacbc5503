use Rattle.std.proofs.Common.{◌≡◌, arith, take, drop, ◌-◌, ◌^◌, to_z-of_z}
use Rattle.reply.specs.WordLaws.{word_bytes}
use Rattle.reply.specs.PushLaws.{onto}
use Rattle.reply.specs.Reply.{twos, word_of}
use Rattle.reply.proofs.ReadLaws.{length_places}
use Rattle.reply.proofs.word.Goals as goal

pub returns : goal.returns
returns g c =
    let last : take (8 - (8 - g.row.W)) (drop (8 - g.row.W) c.to_be_bytes-bytes.result) ≡ word_of g.row.W c.args.x =
    rw (c.to_be_bytes-bytes.ensures, to_z-of_z c.ranges.x) (word_bytes g.row.W c.args.x c.requires c.ranges.x.sfits) in
    let w = length_places 256 g.row.W (twos (256 ^ g.row.W) c.args.x) in
    onto _ _ _ _ (onto _ _ _ _ c.empty.ensures (rw last at c.push.ensures) (omega (arith, w, c.requires))) c.end.ensures (omega (arith, w, c.requires))
