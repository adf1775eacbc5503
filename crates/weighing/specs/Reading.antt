-- What a unit reads. No weight is stored: each is made when it is asked for, of the last sample, by the settings in use and the zeros as they stand
-- (reading 16, docs/DECISIONS.md). Document 01, "Weight". What a reader must believe.
use Rattle.std.specs.Prelude.{Bool, true, false, ℤ, pos}
use Rattle.weight.specs.declared.Cell.{Cell}
use Rattle.weight.specs.declared.Tenths.{Tenths}
use Rattle.weight.specs.declared.Digits.{Digits}
use Rattle.weight.specs.declared.Place.{Place}
use Rattle.weight.specs.declared.Place.TheVariants as place
use Rattle.weight.specs.declared.Shown.{Shown}
use Rattle.weight.specs.Weight.{as_cell, tenths, above_zeros, gross, net}
use Rattle.weight.specs.Display.{cell_place, place_of, shown_at, by_tas}
use Rattle.state.specs.declared.Seen.{Seen}
use Rattle.state.specs.declared.Seen.TheVariants as seen
use Rattle.state.specs.declared.Unit.{Unit as TheUnit}
use Rattle.weighing.specs.declared.Reading.{Reading}
use Rattle.weighing.specs.declared.Reading.TheVariants as reading

-- ---- the held sample
-- a sample as it is held ("Shapes asked for"): its number and its flag, or that it is beyond the cell's range, and on which side
abbrev pub seen_at : Place → Cell → Bool → Seen
seen_at place.Within x still = seen.Number x still
seen_at place.Over x still = seen.Over
seen_at place.Under x still = seen.Under

abbrev pub seen_of : ℤ → Bool → Seen
seen_of x still = seen_at (cell_place x) (as_cell x) still

-- its number, 0 where there is none
abbrev pub cell_of : Seen → Cell
cell_of seen.Nothing = as_cell (pos 0)
cell_of seen.Over = as_cell (pos 0)
cell_of seen.Under = as_cell (pos 0)
cell_of (seen.Number x still) = x

-- still: by the cell's flag, of a number alone (reading 14, docs/DECISIONS.md)
abbrev pub still_of : Seen → Bool
still_of seen.Nothing = false
still_of seen.Over = false
still_of seen.Under = false
still_of (seen.Number x still) = still

-- a steady reading ("Curve, zero and tare"): what was last seen is a number, and a still one
abbrev pub steady_of : Seen → Bool
steady_of s = still_of s

-- there is a sample since the restart
abbrev pub sampled_of : Seen → Bool
sampled_of seen.Nothing = false
sampled_of seen.Over = true
sampled_of seen.Under = true
sampled_of (seen.Number x still) = true

-- ---- the weight of the held sample
unfoldable pub v_now : TheUnit → Tenths
v_now u = tenths u.used.sealed.scale (cell_of u.seen)

abbrev pub g_now : TheUnit → Tenths
g_now u = above_zeros (v_now u) u.zeros.z0 u.zeros.z1

unfoldable pub gross_now : TheUnit → Digits
gross_now u = gross u.used.sealed.scale.rsn (g_now u)

abbrev pub net_now : TheUnit → Digits
net_now u = net (gross_now u) u.used.free.tare

-- over or under: by the sample, else by gross
abbrev pub place_at : Seen → Place → Place
place_at seen.Nothing p = p
place_at seen.Over p = place.Over
place_at seen.Under p = place.Under
place_at (seen.Number x still) p = p

abbrev pub gross_place : TheUnit → Place
gross_place u = place_of u.used.lft u.used.sealed.scale.nov u.used.sealed.scale.rsn (gross_now u)

abbrev pub place_now : TheUnit → Place
place_now u = place_at u.seen (gross_place u)

-- what is shown: TAS chooses net or gross
abbrev pub value_now : TheUnit → Digits
value_now u = by_tas u.used.free.tas (net_now u) (gross_now u)

abbrev pub shown_now : TheUnit → Shown
shown_now u = shown_at (place_now u) (value_now u)

-- ---- a reading as a host sees it: none yet, the weight, or that it is over or under; and whether it is steady
abbrev pub read_at : Place → Digits → Digits → Digits → Bool → Reading
read_at place.Within g n v s = reading.Weight g n v s
read_at place.Over g n v s = reading.Over s
read_at place.Under g n v s = reading.Under s

abbrev pub read_by : Bool → Reading → Reading
read_by true r = r
read_by false r = reading.Nothing

abbrev pub reading_of : TheUnit → Reading
reading_of u = read_by (sampled_of u.seen) (read_at (place_now u) (gross_now u) (net_now u) (value_now u) (steady_of u.seen))
