-- What a sample does: it is held; a steady one is then spent on the first zeroing, where that waits, or else tracked. Document 01, "Curve, zero and tare".
-- What a reader must believe.
use Rattle.std.specs.Prelude.{Bool, not, ◌&&◌, eqb, ℤ}
use Rattle.cases.specs.Pick.{pick}
use Rattle.weight.specs.declared.Tenths.{Tenths}
use Rattle.weight.specs.Zero.{first_zero, tracked_value, tracked}
use Rattle.state.specs.declared.Zeros.{Zeros}
use Rattle.state.specs.declared.Unit.{Unit as TheUnit}
use Rattle.state.specs.Changes.{sighted, zeroed_of}
use Rattle.weighing.specs.Reading.{seen_of, steady_of, v_now, g_now}

-- the sample is held
abbrev pub seeing : TheUnit → ℤ → Bool → TheUnit
seeing u x still = sighted u (seen_of x still) u.zeros

-- where the first zeroing waits, a steady sample is spent on its one try, within the band or not (reading 13, docs/DECISIONS.md)
abbrev pub tries : TheUnit → Bool
tries u = steady_of u.seen && u.zeros.waits

unfoldable pub first_now : TheUnit → Tenths
first_now u = first_zero u.used.sealed.zse u.used.sealed.scale.nov (v_now u)

-- a steady sample that is not spent so is tracked with ZTR 1, whatever the display range says (reading 11, docs/DECISIONS.md)
abbrev pub tracks_now : TheUnit → Bool
tracks_now u = (steady_of u.seen && not u.zeros.waits) && eqb u.used.sealed.ztr 1

unfoldable pub tracked_now : TheUnit → Tenths
tracked_now u = tracked u.used.sealed.scale.rsn u.used.sealed.scale.nov u.zeros.z1 (tracked_value u.used.free.tas (g_now u) u.used.free.tare)

-- the zeros after the held sample
abbrev pub zeros_now : TheUnit → Zeros
zeros_now u =
    record {
      z0 = pick (tries u) (first_now u) u.zeros.z0;
      z1 = pick (tracks_now u) (tracked_now u) u.zeros.z1;
      waits = not (steady_of u.seen) && u.zeros.waits;
    }

abbrev pub zeroing : TheUnit → TheUnit
zeroing u = zeroed_of u (zeros_now u)

abbrev pub sample_of : TheUnit → ℤ → Bool → TheUnit
sample_of u x still = zeroing (seeing u x still)
