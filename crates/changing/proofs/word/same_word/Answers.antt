use Rattle.std.proofs.Common.{rules, ◌∙◌}
use Rattle.changing.proofs.Words.{same_is}
use Rattle.changing.proofs.word.same_word.Goals as goal

pub returns : goal.returns
returns c = c.eq.ensures ∙ same_is c.args.a c.args.b (search rules) (search rules)
