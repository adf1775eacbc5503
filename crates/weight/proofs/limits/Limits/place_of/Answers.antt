use Rattle.std.proofs.Common.{◌<◌, ◌^◌, arith}
use Rattle.whole.specs.Bits.{nat, small, lit, neg_is, mul_is}
use Rattle.weight.specs.DisplayLaws.{highest_to, lowest_to}
use Rattle.weight.proofs.limits.Limits.place_of.Goals as goal

pub returns : goal.returns
returns c =
    let m = c.args.self in
    let h = c.highest_shown-high in
    let l = c.lowest_shown-low in
    let h_fits : h.result < 2 ^ 63 = omega (arith, h.ensures, highest_to m.lft m.nov m.rsn m.nov_to m.rsn_to) in
    let l_fits : l.result < 2 ^ 63 = omega (arith, l.ensures, lowest_to m.lft m.nov m.rsn m.nov_to m.rsn_to) in
    rw (
      c.place_by.ensures,
      (neg_is (nat l.result l_fits) l_fits).value,
      (nat h.result h_fits).value,
      (mul_is (small c.args.g.0 (omega arith)) (lit 100 tt) (omega arith)).value,
      l.ensures,
      h.ensures,
    )
