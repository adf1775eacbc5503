-- Runs that show that the demands speak of something. What a reader must believe.
use Rattle.std.specs.Prelude.{◌≡◌, true, [], ◌∷◌, ◌++◌, ℕ, pos}
use Prim.Native.String.{String}
use Rattle.weight.specs.Weight.{as_tenths}
use Rattle.state.specs.declared.Unit.{Unit as TheUnit}
use Rattle.state.specs.Settings.{factory_of}
use Rattle.state.specs.Changes.{new_unit}
use Rattle.demands.specs.Host.{sample, power, after, replies}
use Rattle.demands.specs.History.{changes, last_saved}
use Rattle.demands.specs.Typed.{ascii, typed}

-- a new unit after these commands
abbrev pub sent : String → TheUnit
sent s = after new_unit (typed s)

abbrev pub Is : ℕ → ℕ → Type 0
Is a b = a ≡ b

pub record Runs : Type 0 where
  -- sealed by LFT1, and still sealed with the same counter after what could have moved a sealed setting
  pub sealed_first : Is (sent "SPW\"AED\";NOV6000;LFT1;").used.lft 1
  pub sealed_later : Is (sent "SPW\"AED\";NOV6000;LFT1;NOV3000;TDD0;TDD2;TDD1;LFT1;").used.lft 1
  pub sealed_counter_first : Is (sent "SPW\"AED\";NOV6000;LFT1;").counter 1
  pub sealed_counter_later : Is (sent "SPW\"AED\";NOV6000;LFT1;NOV3000;TDD0;TDD2;TDD1;LFT1;").counter 1
  pub sealed_nov : Is (sent "SPW\"AED\";NOV6000;LFT1;NOV3000;TDD0;TDD2;TDD1;LFT1;").used.sealed.scale.nov 6000
  -- a restart within the sealed stretch loses nothing of it: document 01's third slip
  pub sealed_restarted : replies new_unit (typed "SPW\"AED\";NOV6000;LFT1;" ++ (power ∷ typed "NOV?;LFT?;TCR?;")) ≡ ascii "0\r\n0\r\n0\r\n 0006000\r\n1\r\n0000001\r\n"
  -- NOV6000 with no save is lost by RES and by power, and the restart brings what the history says
  pub lost_by_res : Is (sent "SPW\"AED\";NOV6000;RES;").used.sealed.scale.nov 3000
  pub lost_by_power : Is (after new_unit (typed "SPW\"AED\";NOV6000;" ++ (power ∷ []))).used.sealed.scale.nov 3000
  pub lost_said : Is (last_saved factory_of new_unit (typed "SPW\"AED\";NOV6000;")).sealed.scale.nov 3000
  -- saved by TDD1, it comes back, and what came after the save does not
  pub kept : Is (sent "SPW\"AED\";NOV6000;TDD1;NOV500;RES;").used.sealed.scale.nov 6000
  pub kept_said : Is (last_saved factory_of new_unit (typed "SPW\"AED\";NOV6000;TDD1;NOV500;")).sealed.scale.nov 6000
  -- a tare that was never saved goes with the restart, and the reply says so
  pub tare_lost : replies new_unit (sample (pos 500000) true ∷ typed "TAR;TAV?;RES;TAV?;") ≡ ascii "0\r\n 0001500\r\n 0000000\r\n"
  -- NOV6000 while locked: 04, once
  pub nov_locked : replies new_unit (typed "NOV6000;ESR?;ESR?;") ≡ ascii "?\r\n04\r\n00\r\n"
  -- a wrong password locks: what followed it is refused with 04
  pub locked : replies new_unit (typed "SPW\"AED\";NOV6000;SPW\"AEd\";ESR?;NOV3000;ESR?;NOV?;") ≡ ascii "0\r\n0\r\n?\r\n11\r\n?\r\n04\r\n 0006000\r\n"
  -- the first zeroing takes 2 digits, tracking one tenth, and net is shown after TAR
  pub first_zero_lem : replies new_unit (typed "SPW\"AED\";ZSE1;TDD1;" ++ (power ∷ sample (pos 620) true ∷ typed "MSV?;")) ≡ ascii "0\r\n0\r\n0\r\n 0000000\r\n"
  pub tracked_once : (after new_unit (typed "SPW\"AED\";ZTR1;" ++ (sample (pos 100) true ∷ []))).zeros.z1 ≡ as_tenths (pos 1)
  pub net_shown : replies new_unit (sample (pos 50000) true ∷ typed "TAR;" ++ (sample (pos 461333) true ∷ typed "MSV?;TAS1;MSV?;")) ≡ ascii "0\r\n 0001234\r\n0\r\n 0001384\r\n"
  -- LFT1, LFT1 again, LFT2, a refused LFT5, LFT0: three changes
  pub counted : Is (changes new_unit (typed "SPW\"AED\";LFT1;LFT1;LFT2;LFT5;LFT0;")) 3
  pub counter : Is (sent "SPW\"AED\";LFT1;LFT1;LFT2;LFT5;LFT0;").counter 3
  pub counter_said : replies new_unit (typed "SPW\"AED\";LFT1;LFT1;LFT2;LFT5;LFT0;TCR?;") ≡ ascii "0\r\n0\r\n0\r\n0\r\n?\r\n0\r\n0000003\r\n"
