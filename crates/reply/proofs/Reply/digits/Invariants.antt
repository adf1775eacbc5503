use Rattle.std.proofs.Common.{◌≡◌, ◌++◌, drop, length}
use Rattle.reply.specs.Reply.{digits_of}
use Rattle.reply.proofs.Reply.digits.Given as goal

abbrev pub invariant-loop-i : goal.invariant-loop-i
invariant-loop-i g l = record {
  long : length l.digits ≡ g.row.N;
  last : digits_of g.row.N l.n ≡ digits_of l.i l.rest ++ drop l.i l.digits;
}
