use Rattle.std.proofs.Common.{Bool, true, false, ◌≡◌, refl, ◌∙◌, ℕ, ◌<◌, arith, rules, ne_eqb}
use Rattle.std.proofs.lemmas.Bool.{lt-leb}
use Rattle.cases.specs.PickLaws.{cases, named}
use Rattle.line.specs.declared.cut.Pos.{Pos}
use Rattle.line.specs.LineLaws.{counted_within}
use Rattle.line.specs.Line.{ends_of, drops_of, counted_of, moved_of}
use Rattle.line.proofs.cut.advance.Goals as goal

module _ (b : ℕ) (h : 0x22 < b) (n : b ≡ 0x3b → ⊥) where
  goes_on : (q : Bool) → ends_of q b ≡ false
  unfolding ends_of
  goes_on true = simp (ne_eqb b 0x0a (λ e. omega (arith, e, h)), ne_eqb b 0x3b n)
  goes_on false = simp (ne_eqb b 0x0a (λ e. omega (arith, e, h)), ne_eqb b 0x3b n)

  stays : (q : Bool) → drops_of q b ≡ false
  unfolding drops_of
  stays true = refl
  stays false = simp (lt-leb b 0x20 (omega (arith, h)))

  counts : (p : Pos) → counted_of p b ≡ moved_of p b
  unfolding moved_of
  counts p = simp (goes_on p.quoted, stays p.quoted)

pub returns-then-p-lt-MOST : goal.returns-then-p-lt-MOST
unfolding moved_of
returns-then-p-lt-MOST c = record {
  moved = c.stored.ensures ∙ counts _ (search rules) (search rules) _;
  within = rw c.stored.ensures (counted_within c.args.p c.args.b);
}

pub returns-then-ends : goal.returns-then-ends
unfolding moved_of
returns-then-ends c = record { moved = search (cases, named); within = tt }

pub returns-then-drops : goal.returns-then-drops
unfolding moved_of
returns-then-drops c = record { moved = search (cases, named); within = tt }

pub returns : goal.returns
unfolding moved_of
returns c = record { moved = search (cases, named); within = rw c.counted.ensures (counted_within c.args.p c.args.b) }
