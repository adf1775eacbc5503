use Rattle.std.proofs.Common.{◌≡◌, suc, ◌-◌, arith, ◌∙◌, length-set}
use Rattle.reply.specs.Reply.{places_of}
use Rattle.reply.specs.PushLaws.{digit_on}
use Rattle.reply.proofs.Reply.digits.Goals as goal

pub loop-i-preserved : goal.loop-i-preserved
loop-i-preserved g c =
    let e : c.loop-i.i ≡ suc (c.loop-i.i - 1) = omega arith in
    record {
      long = length-set c.loop-i.digits _ _ ∙ c.loop-i.invariant.long;
      last = (rw e at c.loop-i.invariant.last) ∙ digit_on _ (c.loop-i.i - 1) c.loop-i.rest c.loop-i.digits (omega (arith, c.loop-i.invariant.long));
    }

pub returns : goal.returns
unfolding places_of
returns g c = let e : c.loop-i.i ≡ 0 = omega arith in rw (c.push.ensures, c.loop-i.invariant.last, e)
