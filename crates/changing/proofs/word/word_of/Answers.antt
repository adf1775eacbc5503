use Rattle.plans.specs.Plans.{word_of}
use Rattle.changing.proofs.Words.{filled}
use Rattle.changing.proofs.word.word_of.Goals as goal

pub returns : goal.returns
unfolding word_of
returns c = rw (c.copy_from_slice.ensures.after, filled c.args.t.now c.min-n.result c.min-n.ensures)
