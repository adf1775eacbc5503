-- Document 01, "Weight": over and under, of a sample and of a weight, and what a shown value reads as. What a reader must believe.
-- Limits are in hundredths of a digit, so that no percentage is rounded (reading 15, docs/DECISIONS.md).
use Rattle.std.specs.Prelude.{ℕ, ◌+◌, ◌*◌, leb, eqb, ℤ, pos, neg_ℤ, ◌*ℤ◌}
use Rattle.std.specs.Int.Signed.{lt_z}
use Rattle.cases.specs.Pick.{pick}
use Rattle.weight.specs.declared.Digits.{Digits}
use Rattle.weight.specs.declared.Figure.{Figure}
use Rattle.weight.specs.declared.Place.{Place}
use Rattle.weight.specs.declared.Place.TheVariants.{Within, Over, Under}
use Rattle.weight.specs.declared.Shown.{Shown}
use Rattle.weight.specs.declared.Shown.TheVariants as shown

-- above the higher of two limits, below the lower, or neither
unfoldable pub place_by : ℤ → ℤ → ℤ → Place
place_by lo hi n = pick (lt_z hi n) Over (pick (lt_z n lo) Under Within)

-- of a sample: the cell's range ends at ±1,599,999
abbrev pub cell_place : ℤ → Place
cell_place x = place_by (neg_ℤ (pos 1599999)) (pos 1599999) x

-- by LFT: 0, then 1 and 2, then 3 and 4
abbrev pub by_mode : {A : Type 0} → ℕ → A → A → A → A
by_mode lft a b c = pick (eqb lft 0) a (pick (leb lft 2) b c)

-- the display range's upper limit in hundredths of a digit: 160 % of NOV, NOV + 9·RSN, 105 % of NOV
unfoldable pub highest : ℕ → ℕ → ℕ → ℕ
highest lft nov rsn = by_mode lft (160 * nov) (100 * (nov + 9 * rsn)) (105 * nov)

-- its lower limit, so far below zero: 160 % of NOV, 20·RSN, 2 % of NOV
unfoldable pub lowest : ℕ → ℕ → ℕ → ℕ
lowest lft nov rsn = by_mode lft (160 * nov) (100 * (20 * rsn)) (2 * nov)

-- gross by the display range
abbrev pub place_of : ℕ → ℕ → ℕ → Digits → Place
place_of lft nov rsn g = place_by (neg_ℤ (pos (lowest lft nov rsn))) (pos (highest lft nov rsn)) (g.0 *ℤ pos 100)

-- a value where a place is within
abbrev pub shown_at : Place → Digits → Shown
shown_at Within n = shown.Number n
shown_at Over n = shown.Over
shown_at Under n = shown.Under

-- TAS 0 shows net, 1 gross
abbrev pub by_tas : {A : Type 0} → ℕ → A → A → A
by_tas tas n g = pick (eqb tas 0) n g

abbrev pub as_figure : ℤ → Figure
as_figure n = record { 0 = n }

-- ---- the number that stands for each shown value
-- by what over and under read as
abbrev pub figure_by : ℤ → ℤ → Shown → Figure
figure_by over under (shown.Number n) = as_figure n.0
figure_by over under shown.Over = as_figure over
figure_by over under shown.Under = as_figure under

-- in 7 digits, at COF 3 and 9: over is 9999999, under the same below zero
abbrev pub in_decimal : Shown → Figure
in_decimal s = figure_by (pos 9999999) (neg_ℤ (pos 9999999)) s

-- in four bytes, at COF 0: 7FFFFFFF and 80000000 hex
abbrev pub in_four : Shown → Figure
in_four s = figure_by (pos 0x7fffffff) (neg_ℤ (pos 0x80000000)) s

-- in two bytes, at COF 2: 7FFF and 8000 hex, which also stand for a shown value above 32766 and below -32767 (reading 15, docs/DECISIONS.md)
unfoldable pub two_of : Digits → Figure
two_of n = pick (lt_z (pos 32766) n.0) (as_figure (pos 0x7fff)) (pick (lt_z n.0 (neg_ℤ (pos 32767))) (as_figure (neg_ℤ (pos 0x8000))) (as_figure n.0))

abbrev pub in_two : Shown → Figure
in_two (shown.Number n) = two_of n
in_two shown.Over = as_figure (pos 0x7fff)
in_two shown.Under = as_figure (neg_ℤ (pos 0x8000))
