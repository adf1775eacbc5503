-- Document 01, "Commands": the value set of each setting, and the factory values. What a reader must believe. (GCA, GDE, CWT, points, NOV, RSN and tares: weight/specs/Sets.)
use Rattle.std.specs.Prelude.{ℕ, [], ◌∷◌, pos}
use Rattle.whole.specs.Sets.{Range, Between, Among}
use Rattle.weight.specs.Weight.{as_cell, as_digits}
use Rattle.weight.specs.Sets.{gravities, nominals, steps}
use Rattle.weight.specs.declared.Scale.{Scale}
use Rattle.state.specs.declared.Setting.{Setting}
use Rattle.state.specs.declared.Setting.TheVariants.{Gca, Gde, Nov, Rsn, Enu, Dpt, Zse, Ztr}
use Rattle.state.specs.declared.Sealed.{Sealed}
use Rattle.state.specs.declared.Settings.{Settings}

-- ENU, DPT, ZSE
abbrev pub codes : Range
codes = Between 0 4

-- ZTR, TAS
abbrev pub switches : Range
switches = Between 0 1

-- LFT
abbrev pub modes : Range
modes = Between 0 4

-- COF
abbrev pub formats : Range
formats = Among (0 ∷ 2 ∷ 3 ∷ 9 ∷ [])

-- what each of the eight commands takes that change one sealed setting and make the resets
abbrev pub set_of : Setting → Range
set_of Gca = gravities
set_of Gde = gravities
set_of Nov = nominals
set_of Rsn = steps
set_of Enu = codes
set_of Dpt = codes
set_of Zse = codes
set_of Ztr = switches

-- the sealed settings with a group of them given anew
abbrev pub with_scale : Sealed → Scale → Sealed
with_scale q s = record { scale = s; cwt = q.cwt; enu = q.enu; dpt = q.dpt; zse = q.zse; ztr = q.ztr }

abbrev pub with_codes : Sealed → ℕ → ℕ → ℕ → ℕ → Sealed
with_codes q e d s t = record { scale = q.scale; cwt = q.cwt; enu = e; dpt = d; zse = s; ztr = t }

abbrev pub scale_with : Scale → ℕ → ℕ → ℕ → ℕ → Scale
scale_with s a d n r = record { curve = s.curve; gca = a; gde = d; nov = n; rsn = r }

abbrev pub put : Setting → Sealed → ℕ → Sealed
put Gca q n = with_scale q (scale_with q.scale n q.scale.gde q.scale.nov q.scale.rsn)
put Gde q n = with_scale q (scale_with q.scale q.scale.gca n q.scale.nov q.scale.rsn)
put Nov q n = with_scale q (scale_with q.scale q.scale.gca q.scale.gde n q.scale.rsn)
put Rsn q n = with_scale q (scale_with q.scale q.scale.gca q.scale.gde q.scale.nov n)
put Enu q n = with_codes q n q.dpt q.zse q.ztr
put Dpt q n = with_codes q q.enu n q.zse q.ztr
put Zse q n = with_codes q q.enu q.dpt n q.ztr
put Ztr q n = with_codes q q.enu q.dpt q.zse n

-- the waiting CWT
abbrev pub with_cwt : Sealed → ℕ → Sealed
with_cwt q n = record { scale = q.scale; cwt = n; enu = q.enu; dpt = q.dpt; zse = q.zse; ztr = q.ztr }

-- the column "Factory": L 0, W 1000000
abbrev pub factory_of : Settings
factory_of =
    record {
      sealed =
          record {
            scale = record { curve = record { l = as_cell (pos 0); w = as_cell (pos 1000000); c = 1000000 }; gca = 981040; gde = 981040; nov = 3000; rsn = 1 };
            cwt = 1000000;
            enu = 0;
            dpt = 0;
            zse = 0;
            ztr = 0;
          };
      lft = 0;
      free = record { cof = 3; tas = 1; tare = as_digits (pos 0) };
    }
