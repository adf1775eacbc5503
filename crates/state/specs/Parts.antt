-- What a command hands on, and the unit that it leaves. Assumes nothing.
use Rattle.std.specs.Prelude.{◌≡◌, refl, Bool, false}
use Rattle.cases.specs.Pick.{pick}
use Rattle.cases.specs.PickLaws.{split}
use Rattle.state.specs.declared.Parts.{Parts}
use Rattle.state.specs.declared.Change.{Change}
use Rattle.state.specs.declared.Change.TheVariants as change
use Rattle.state.specs.declared.Settings.{Settings}
use Rattle.state.specs.declared.Point.{Point}
use Rattle.state.specs.declared.Unit.{Unit as TheUnit}
use Rattle.state.specs.Changes.{no_zeros, restarted_of}

-- nothing is changed
abbrev pub unchanged_as : TheUnit → Parts
unchanged_as u =
    record { used = u.used; zeros = u.zeros; point = u.point; password = u.password; counter = u.counter; reason = u.reason; unlocked = u.unlocked; saves = false }

-- other settings in use, and no zeros
abbrev pub reset_as : TheUnit → Settings → Point → Parts
reset_as u s p =
    record { used = s; zeros = no_zeros false; point = p; password = u.password; counter = u.counter; reason = u.reason; unlocked = u.unlocked; saves = false }

-- the unit that its parts make: line and sample stay
abbrev pub parts_of : TheUnit → Parts → TheUnit
parts_of u c =
    record {
      kept = u.kept;
      pos = u.pos;
      used = c.used;
      saved = pick c.saves c.used u.saved;
      zeros = c.zeros;
      seen = u.seen;
      point = c.point;
      unlocked = c.unlocked;
      password = c.password;
      counter = c.counter;
      reason = c.reason;
    }

-- the unit that a change leaves
abbrev pub changed_by : TheUnit → Change → TheUnit
changed_by u change.Restart = restarted_of u
changed_by u (change.To c) = parts_of u c

pub unchanged_is : (u : TheUnit) → parts_of u (unchanged_as u) ≡ u
unchanged_is u = refl

pub changed_pick : (u : TheUnit) (b : Bool) (x y : Change) → changed_by u (pick b x y) ≡ pick b (changed_by u x) (changed_by u y)
changed_pick u b x y = split (λ t. changed_by u (pick t x y) ≡ pick t (changed_by u x) (changed_by u y)) b (λ _. refl) (λ _. refl)
