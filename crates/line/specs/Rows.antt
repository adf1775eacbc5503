-- Lines worked out: row 11 of document 01's table, and a line for each edge of its rules of cutting and reading. Assumes nothing.
use Rattle.std.specs.Prelude.{◌≡◌, List, [], ◌∷◌, ◌++◌, map, ℕ, pos, replicate, None, Ok, Err}
use Rattle.std.proofs.Math.Path.{refl}
use Rattle.line.specs.declared.names.Name.TheVariants as name
use Rattle.line.specs.declared.shape.Param.TheVariants as param
use Rattle.line.specs.declared.shape.Fault.TheVariants as fault
use Rattle.line.specs.Line.{ends_of, drops_of, quoted_of, counted_of, moved_of, stored_of}
use Rattle.line.specs.Cut.{Kept, TooLong, one_of, cut_from, cut_of, found_of, fed_from, fed_of}
use Rattle.line.specs.Names.{same_of}
use Rattle.line.specs.Param.{number}
use Rattle.line.specs.Shape.{all_of, is_letter, fold_of, is_digit, value_from, digits_of, signed_of, number_of, is_plain, text_of, param_of, command, command_of, shape_of}

-- `ta v-0 ;` is one line and nothing after it, and the line is TAV with the number 0
abbrev pub row_11_bytes : List ℕ
row_11_bytes = 0x74 ∷ 0x61 ∷ 0x20 ∷ 0x76 ∷ 0x2d ∷ 0x30 ∷ 0x20 ∷ 0x3b ∷ []

pub row_11 : (map shape_of (cut_of row_11_bytes).lines ≡ Ok (command name.Tav (param.Number (number (pos 0)))) ∷ []) × ((cut_of row_11_bytes).rest ≡ [])
unfolding cut_from one_of ends_of drops_of quoted_of shape_of param_of number_of digits_of signed_of all_of is_digit value_from is_letter fold_of command_of same_of
row_11 = (refl, refl)

-- lines by feeding their bytes; `A` is 41 hex
module _ where
  -- a blank and CR are dropped, 11 hex and 13 hex are counted
  pub fed_plain : (fed_of (0x41 ∷ 0x20 ∷ 0x11 ∷ 0x0d ∷ 0x13 ∷ 0x3b ∷ [])).lines ≡ Kept (0x41 ∷ 0x11 ∷ 0x13 ∷ []) ∷ []
  unfolding fed_from found_of moved_of stored_of counted_of ends_of drops_of quoted_of
  fed_plain = refl

  -- inside quotes a blank, CR and ";" are counted, LF ends the line and the quotes
  pub fed_quoted : (fed_of (0x22 ∷ 0x20 ∷ 0x0d ∷ 0x3b ∷ 0x0a ∷ 0x41 ∷ 0x3b ∷ [])).lines ≡ Kept (0x22 ∷ 0x20 ∷ 0x0d ∷ 0x3b ∷ []) ∷ Kept (0x41 ∷ []) ∷ []
  unfolding fed_from found_of moved_of stored_of counted_of ends_of drops_of quoted_of
  fed_quoted = refl

  -- 40 bytes are a line, 41 are too long; a quote that makes the line too long is followed
  pub fed_full : (fed_of (replicate 40 0x41 ++ (0x3b ∷ []))).lines ≡ Kept (replicate 40 0x41) ∷ []
  unfolding fed_from found_of moved_of stored_of counted_of ends_of drops_of quoted_of
  fed_full = refl

  pub fed_long : (fed_of (replicate 41 0x41 ++ (0x3b ∷ []))).lines ≡ TooLong ∷ []
  unfolding fed_from found_of moved_of stored_of counted_of ends_of drops_of quoted_of
  fed_long = refl

  pub fed_followed : (fed_of (replicate 40 0x41 ++ (0x22 ∷ 0x3b ∷ 0x22 ∷ 0x3b ∷ []))).lines ≡ TooLong ∷ []
  unfolding fed_from found_of moved_of stored_of counted_of ends_of drops_of quoted_of
  fed_followed = refl

-- parameters that are none
module _ where
  -- eleven digits, though they are zeros; a sign alone; a point; a query with something after it
  pub bad_digits : param_of (replicate 11 0x30) ≡ None
  unfolding param_of number_of digits_of all_of
  bad_digits = refl

  pub bad_sign : param_of (0x2d ∷ []) ≡ None
  unfolding param_of number_of digits_of all_of
  bad_sign = refl

  pub bad_point : param_of (0x31 ∷ 0x2e ∷ 0x35 ∷ []) ≡ None
  unfolding param_of number_of digits_of all_of is_digit
  bad_point = refl

  pub bad_query : param_of (0x3f ∷ 0x31 ∷ []) ≡ None
  unfolding param_of
  bad_query = refl

  -- a text with 7F or with 1F, one that is not closed, one with bytes after its end
  pub bad_high : param_of (0x22 ∷ 0x7f ∷ 0x22 ∷ []) ≡ None
  unfolding param_of text_of all_of is_plain
  bad_high = refl

  pub bad_low : param_of (0x22 ∷ 0x1f ∷ 0x22 ∷ []) ≡ None
  unfolding param_of text_of all_of is_plain
  bad_low = refl

  pub bad_open : param_of (0x22 ∷ 0x41 ∷ []) ≡ None
  unfolding param_of text_of all_of is_plain
  bad_open = refl

  pub bad_after : param_of (0x22 ∷ 0x41 ∷ 0x22 ∷ 0x41 ∷ 0x22 ∷ []) ≡ None
  unfolding param_of text_of all_of is_plain
  bad_after = refl

-- three letters that are no name's are unknown, though not with a malformed parameter; fewer letters are malformed
module _ where
  pub unknown : shape_of (0x58 ∷ 0x59 ∷ 0x5a ∷ 0x31 ∷ []) ≡ Err fault.Unknown
  unfolding shape_of param_of number_of digits_of signed_of all_of is_digit value_from is_letter fold_of command_of same_of
  unknown = refl

  pub malformed_first : shape_of (0x58 ∷ 0x59 ∷ 0x5a ∷ 0x2d ∷ []) ≡ Err fault.Malformed
  unfolding shape_of param_of number_of digits_of all_of is_letter fold_of command_of same_of
  malformed_first = refl

  pub two_letters : shape_of (0x54 ∷ 0x41 ∷ 0x31 ∷ []) ≡ Err fault.Malformed
  unfolding shape_of is_letter
  two_letters = refl

  pub no_letters : shape_of [] ≡ Err fault.Malformed
  unfolding shape_of
  no_letters = refl
