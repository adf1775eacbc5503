-- Rows 1 to 12 of document 01 as one claim of the machine: bytes and samples in, replies and units out. What a reader must believe.
use Rattle.std.specs.Prelude.{◌≡◌, true, [], ◌∷◌, ◌++◌, ℤ, pos, negsuc}
use Prim.Native.String.{String}
use Rattle.weight.specs.declared.Cell.{Cell}
use Rattle.weight.specs.Weight.{corrected, as_cell, as_tenths, as_digits}
use Rattle.state.specs.declared.Unit.{Unit as TheUnit}
use Rattle.state.specs.Changes.{new_unit}
use Rattle.weighing.specs.Reading.{cell_of, v_now, g_now}
use Rattle.demands.specs.Host.{sample, after, replies}
use Rattle.demands.specs.Typed.{ascii, typed}

-- a new unit that was sent these commands first, and then a steady sample
abbrev pub given : String → ℤ → TheUnit
given s x = after new_unit (typed s ++ (sample x true ∷ []))

-- u of the held sample
abbrev pub u_now : TheUnit → Cell
u_now u = corrected u.used.sealed.scale (cell_of u.seen)

-- what it replies
abbrev pub says : TheUnit → String → String → Type 0
says u s t = replies u (typed s) ≡ ascii t

pub record Rows : Type 0 where
  -- x 500000
  pub row_1 : says (given "" (pos 500000)) "MSV?;" " 0001500\r\n"
  -- x 500166
  pub row_2_v : v_now (given "" (pos 500166)) ≡ as_tenths (pos 15005)
  pub row_2 : says (given "" (pos 500166)) "MSV?;" " 0001501\r\n"
  -- x -17
  pub row_3_v : v_now (given "" (negsuc 16)) ≡ as_tenths (negsuc 0)
  pub row_3 : says (given "" (negsuc 16)) "MSV?;" " 0000000\r\n"
  -- x 500000, GDE 980000
  pub row_4_u : u_now (given "SPW\"AED\";GDE980000;" (pos 500000)) ≡ as_cell (pos 500531)
  pub row_4 : says (given "SPW\"AED\";GDE980000;" (pos 500000)) "MSV?;" " 0001502\r\n"
  -- L 0, W 500000, C 500000, x 1000000
  pub row_5 : says (given "SPW\"AED\";CWT500000;LDW0;LWT500000;" (pos 1000000)) "LDW?;LWT?;CWT?;MSV?;" " 0000000\r\n 0500000\r\n0500000,0500000\r\n 0003000\r\n"
  -- RSN 5, g 24, 25, -25
  pub row_6_g : g_now (given "SPW\"AED\";RSN5;" (pos 800)) ≡ as_tenths (pos 24)
  pub row_6 : says (given "SPW\"AED\";RSN5;" (pos 800)) "MSV?;" " 0000000\r\n"
  pub row_6_half_g : g_now (given "SPW\"AED\";RSN5;" (pos 833)) ≡ as_tenths (pos 25)
  pub row_6_half : says (given "SPW\"AED\";RSN5;" (pos 833)) "MSV?;" " 0000005\r\n"
  pub row_6_minus_g : g_now (given "SPW\"AED\";RSN5;" (negsuc 832)) ≡ as_tenths (negsuc 24)
  pub row_6_minus : says (given "SPW\"AED\";RSN5;" (negsuc 832)) "MSV?;" "-0000005\r\n"
  -- LFT 1, x 1003000 and 1003333
  pub row_7 : says (given "SPW\"AED\";LFT1;" (pos 1003000)) "MSV?;" " 0003009\r\n"
  pub row_7_over : says (given "SPW\"AED\";LFT1;" (pos 1003333)) "MSV?;" " 9999999\r\n"
  -- LFT 1, x -6667 and -7000
  pub row_8 : says (given "SPW\"AED\";LFT1;" (negsuc 6666)) "MSV?;" "-0000020\r\n"
  pub row_8_under : says (given "SPW\"AED\";LFT1;" (negsuc 6999)) "MSV?;" "-9999999\r\n"
  -- LFT 3, x 1050000 and 1050333
  pub row_9 : says (given "SPW\"AED\";LFT3;" (pos 1050000)) "MSV?;" " 0003150\r\n"
  pub row_9_over : says (given "SPW\"AED\";LFT3;" (pos 1050333)) "MSV?;" " 9999999\r\n"
  -- CDL at x 200000 and at 200020
  pub row_10 : says (given "" (pos 200000)) "CDL;MSV?;" "0\r\n 0000000\r\n"
  pub row_10_refused : says (given "" (pos 200020)) "CDL;ESR?;" "?\r\n07\r\n"
  -- ta v-0 ;
  pub row_11 : says new_unit "TAV5;ta v-0 ;TAV?;" "0\r\n0\r\n 0000000\r\n"
  pub row_11_tare : (after new_unit (typed "TAV5;ta v-0 ;")).used.free.tare ≡ as_digits (pos 0)
  -- lock open, LFT0 at LFT 0
  pub row_12 : says new_unit "TCR?;SPW\"AED\";LFT0;TCR?;" "0000000\r\n0\r\n0\r\n0000000\r\n"
