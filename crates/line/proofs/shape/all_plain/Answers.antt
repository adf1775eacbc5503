use Rattle.std.proofs.Common.{◌∙◌, rules}
use Rattle.std.proofs.lemmas.Iterator.Search.{all_from_yields_List}
use Rattle.std.proofs.lemmas.Iterator.{YieldsList-from_slice}
use Rattle.line.specs.ReadLaws.{list_all_of}
use Rattle.line.specs.Shape.{is_plain}
use Rattle.line.proofs.shape.all_plain.Goals as goal

pub returns : goal.returns
returns c =
    all_from_yields_List is_plain _ _ _ c.all.ensures.ran (YieldsList-from_slice c.args.s.now cc) (λ x b q k. search (rules)) ∙ list_all_of is_plain c.args.s.now
