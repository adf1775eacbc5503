use Rattle.std.proofs.Common.{◌≡◌, ◌∙◌, ◌&&◌, leb, rules}
use Rattle.line.specs.ReadLaws.{plain_yes, plain_no}
use Rattle.line.proofs.shape.is_plain.Goals as goal

pub returns-then-contains : goal.returns-then-contains
returns-then-contains c = let within : (leb 0x20 c.args.b && leb c.args.b 0x7e) ≡ c.contains.result = search rules in plain_yes c.args.b (within ∙ c.if-contains.true)

pub returns-else-contains : goal.returns-else-contains
returns-else-contains c = let within : (leb 0x20 c.args.b && leb c.args.b 0x7e) ≡ c.contains.result = search rules in c.if-contains.false ∙ plain_no c.args.b (within ∙ c.if-contains.false)
