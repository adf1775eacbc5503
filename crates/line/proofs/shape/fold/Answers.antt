use Rattle.std.proofs.Common.{◌∙◌}
use Rattle.line.specs.ReadLaws.{upper_fold}
use Rattle.line.proofs.shape.fold.Goals as goal

pub returns : goal.returns
returns c = c.to_ascii_uppercase.ensures.value ∙ upper_fold c.args.b
