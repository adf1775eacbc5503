-- Document 01, "Weight": from a sample to the displayed digits. What a reader must believe.
-- All rounding is done by `round_div` (whole/specs/Round).
use Rattle.std.specs.Prelude.{ℕ, ◌*◌, ℤ, pos, nat_abs, ◌-ℤ◌, ◌*ℤ◌}
use Rattle.whole.specs.Round.{round_div}
use Rattle.weight.specs.declared.Cell.{Cell}
use Rattle.weight.specs.declared.Tenths.{Tenths}
use Rattle.weight.specs.declared.Digits.{Digits}
use Rattle.weight.specs.declared.Curve.{Curve}
use Rattle.weight.specs.declared.Scale.{Scale}

abbrev pub as_cell : ℤ → Cell
as_cell n = record { 0 = n }

abbrev pub as_tenths : ℤ → Tenths
as_tenths n = record { 0 = n }

abbrev pub as_digits : ℤ → Digits
as_digits n = record { 0 = n }

-- u: the sample above L, times GCA, by GDE
unfoldable pub corrected : Scale → Cell → Cell
corrected s x = as_cell (round_div ((x.0 -ℤ s.curve.l.0) *ℤ pos s.gca) s.gde)

-- W - L
abbrev pub span_of : Curve → ℤ
span_of k = k.w.0 -ℤ k.l.0

-- v: u, times 10·NOV·C, by W - L in millionths; in tenths of a digit. What `round_div` divides by is a natural number, so the size of W - L is taken:
-- W - L is at least 10,000 ("Curve, zero and tare", `spans`), so that its size is itself
unfoldable pub tenths : Scale → Cell → Tenths
tenths s x = as_tenths (round_div ((corrected s x).0 *ℤ pos (10 * s.nov * s.curve.c)) (nat_abs (span_of s.curve) * 1000000))

-- a weight less another, both in tenths
unfoldable pub less : Tenths → Tenths → Tenths
less a b = as_tenths (a.0 -ℤ b.0)

-- g: v less both zeros
abbrev pub above_zeros : Tenths → Tenths → Tenths → Tenths
above_zeros v z0 z1 = less (less v z0) z1

-- gross: RSN times g by 10·RSN; here tenths become digits
unfoldable pub gross : ℕ → Tenths → Digits
gross rsn g = as_digits (round_div g.0 (10 * rsn) *ℤ pos rsn)

-- net: gross less tare, in digits, with no rounding of its own
unfoldable pub net : Digits → Digits → Digits
net g tare = as_digits (g.0 -ℤ tare.0)

-- 10·tare: the one place where digits become tenths, with no rounding (reading 16, docs/DECISIONS.md)
unfoldable pub in_tenths : Digits → Tenths
in_tenths tare = as_tenths (tare.0 *ℤ pos 10)
