use Rattle.std.proofs.Common.{arith, rules}
use Rattle.session.specs.WalkLaws.{walk_start, walk_pass, walk_skip}
use Rattle.bench.proofs.scan.Goals as goal
use Rattle.bench.proofs.scan.Goals.{then-not-t, else-not-t}

pub loop-to-init : goal.loop-to-init
loop-to-init c = walk_start _ _ _ (omega arith)

pub loop-to-preserved : goal.loop-to-preserved
loop-to-preserved c = elim c.if-not-t.branch [
  | then-not-t w ↦ rw w.from-is (walk_skip _ _ _ _ _ _ c.loop-to.invariant _ c.step-t.ensures (omega arith) c.if-buf-to-eq10.false (search (rules, w.if-not-t.true)))
  | else-not-t w ↦ rw w.from-is (walk_pass _ _ _ _ _ _ c.loop-to.invariant _ c.step-t.ensures (omega arith) c.if-buf-to-eq10.false (search (rules, w.if-not-t.false)))
]
