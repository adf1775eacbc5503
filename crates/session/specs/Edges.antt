-- Lines worked out, one for each edge of the bench form. Assumes nothing.
use Rattle.std.specs.Prelude.{true, false, Some, None, ◌≡◌, [], ◌∷◌, pos, neg_ℤ}
use Rattle.std.proofs.Math.Path.{refl}
use Rattle.session.specs.declared.Event.TheVariants as event
use Rattle.session.specs.Form.{words_of, is_digit, all_digits, value_from, signed_of, in_range, sample_of, sample_in, event_of, command_of}

-- samples: leading zeros and -0 are taken, the least and the greatest x
module _ where
  -- `s 500166 1`
  pub plain : event_of (0x73 ∷ 0x20 ∷ 0x35 ∷ 0x30 ∷ 0x30 ∷ 0x31 ∷ 0x36 ∷ 0x36 ∷ 0x20 ∷ 0x31 ∷ []) ≡ Some (event.Sample (pos 500166) true)
  unfolding event_of words_of sample_in is_digit all_digits value_from signed_of sample_of in_range
  plain = refl

  -- `s -0 1`
  pub minus_zero : event_of (0x73 ∷ 0x20 ∷ 0x2d ∷ 0x30 ∷ 0x20 ∷ 0x31 ∷ []) ≡ Some (event.Sample (pos 0) true)
  unfolding event_of words_of sample_in is_digit all_digits value_from signed_of sample_of in_range
  minus_zero = refl

  -- `s 007 1`
  pub zeros : event_of (0x73 ∷ 0x20 ∷ 0x30 ∷ 0x30 ∷ 0x37 ∷ 0x20 ∷ 0x31 ∷ []) ≡ Some (event.Sample (pos 7) true)
  unfolding event_of words_of sample_in is_digit all_digits value_from signed_of sample_of in_range
  zeros = refl

  -- `s 2147483647 0`
  pub greatest : event_of (0x73 ∷ 0x20 ∷ 0x32 ∷ 0x31 ∷ 0x34 ∷ 0x37 ∷ 0x34 ∷ 0x38 ∷ 0x33 ∷ 0x36 ∷ 0x34 ∷ 0x37 ∷ 0x20 ∷ 0x30 ∷ []) ≡ Some (event.Sample (pos 2147483647) false)
  unfolding event_of words_of sample_in is_digit all_digits value_from signed_of sample_of in_range
  greatest = refl

  -- `s -2147483648 1`
  pub least : event_of (0x73 ∷ 0x20 ∷ 0x2d ∷ 0x32 ∷ 0x31 ∷ 0x34 ∷ 0x37 ∷ 0x34 ∷ 0x38 ∷ 0x33 ∷ 0x36 ∷ 0x34 ∷ 0x38 ∷ 0x20 ∷ 0x31 ∷ []) ≡ Some (event.Sample (neg_ℤ (pos 2147483648)) true)
  unfolding event_of words_of sample_in is_digit all_digits value_from signed_of sample_of in_range
  least = refl

-- x outside signed 32 bits, a plus, a minus alone, no digit, a point
module _ where
  -- `s 2147483648 0`
  pub too_great : event_of (0x73 ∷ 0x20 ∷ 0x32 ∷ 0x31 ∷ 0x34 ∷ 0x37 ∷ 0x34 ∷ 0x38 ∷ 0x33 ∷ 0x36 ∷ 0x34 ∷ 0x38 ∷ 0x20 ∷ 0x30 ∷ []) ≡ None
  unfolding event_of words_of sample_in is_digit all_digits value_from signed_of sample_of in_range
  too_great = refl

  -- `s -2147483649 1`
  pub too_small : event_of (0x73 ∷ 0x20 ∷ 0x2d ∷ 0x32 ∷ 0x31 ∷ 0x34 ∷ 0x37 ∷ 0x34 ∷ 0x38 ∷ 0x33 ∷ 0x36 ∷ 0x34 ∷ 0x39 ∷ 0x20 ∷ 0x31 ∷ []) ≡ None
  unfolding event_of words_of sample_in is_digit all_digits value_from signed_of sample_of in_range
  too_small = refl

  -- `s +7 1`
  pub plus : event_of (0x73 ∷ 0x20 ∷ 0x2b ∷ 0x37 ∷ 0x20 ∷ 0x31 ∷ []) ≡ None
  unfolding event_of words_of sample_in is_digit all_digits value_from signed_of sample_of in_range
  plus = refl

  -- `s - 1`
  pub minus_alone : event_of (0x73 ∷ 0x20 ∷ 0x2d ∷ 0x20 ∷ 0x31 ∷ []) ≡ None
  unfolding event_of words_of sample_in is_digit all_digits value_from signed_of sample_of in_range
  minus_alone = refl

  -- `s  1`
  pub no_digit : event_of (0x73 ∷ 0x20 ∷ 0x20 ∷ 0x31 ∷ []) ≡ None
  unfolding event_of words_of sample_in is_digit all_digits value_from signed_of sample_of in_range
  no_digit = refl

  -- `s 7.0 1`
  pub point : event_of (0x73 ∷ 0x20 ∷ 0x37 ∷ 0x2e ∷ 0x30 ∷ 0x20 ∷ 0x31 ∷ []) ≡ None
  unfolding event_of words_of sample_in is_digit all_digits value_from signed_of sample_of in_range
  point = refl

-- one blank at each place, and one byte of 0 or 1 that ends the line
module _ where
  -- `s  7 1`
  pub two_before : event_of (0x73 ∷ 0x20 ∷ 0x20 ∷ 0x37 ∷ 0x20 ∷ 0x31 ∷ []) ≡ None
  unfolding event_of words_of sample_in is_digit all_digits value_from signed_of sample_of in_range
  two_before = refl

  -- `s 7  1`
  pub two_after : event_of (0x73 ∷ 0x20 ∷ 0x37 ∷ 0x20 ∷ 0x20 ∷ 0x31 ∷ []) ≡ None
  unfolding event_of words_of sample_in is_digit all_digits value_from signed_of sample_of in_range
  two_after = refl

  -- `s 7 1 `
  pub blank_last : event_of (0x73 ∷ 0x20 ∷ 0x37 ∷ 0x20 ∷ 0x31 ∷ 0x20 ∷ []) ≡ None
  unfolding event_of words_of sample_in is_digit all_digits value_from signed_of sample_of in_range
  blank_last = refl

  -- `s 7 2`
  pub flag_two : event_of (0x73 ∷ 0x20 ∷ 0x37 ∷ 0x20 ∷ 0x32 ∷ []) ≡ None
  unfolding event_of words_of sample_in is_digit all_digits value_from signed_of sample_of in_range
  flag_two = refl

  -- `s 7 10`
  pub flag_long : event_of (0x73 ∷ 0x20 ∷ 0x37 ∷ 0x20 ∷ 0x31 ∷ 0x30 ∷ []) ≡ None
  unfolding event_of words_of sample_in is_digit all_digits value_from signed_of sample_of in_range
  flag_long = refl

  -- `s 7 `
  pub no_flag : event_of (0x73 ∷ 0x20 ∷ 0x37 ∷ 0x20 ∷ []) ≡ None
  unfolding event_of words_of sample_in is_digit all_digits value_from signed_of sample_of in_range
  no_flag = refl

  -- `s 7 1<CR>`
  pub sample_cr : event_of (0x73 ∷ 0x20 ∷ 0x37 ∷ 0x20 ∷ 0x31 ∷ 0x0d ∷ []) ≡ None
  unfolding event_of words_of sample_in is_digit all_digits value_from signed_of sample_of in_range
  sample_cr = refl

-- restarts, commands, and lines of no form
module _ where
  -- `r`
  pub restart : event_of (0x72 ∷ []) ≡ Some event.Restart
  unfolding event_of words_of sample_in is_digit all_digits value_from signed_of sample_of in_range
  restart = refl

  -- `r<CR>`
  pub restart_cr : event_of (0x72 ∷ 0x0d ∷ []) ≡ None
  unfolding event_of words_of sample_in is_digit all_digits value_from signed_of sample_of in_range
  restart_cr = refl

  -- `r `
  pub restart_blank : event_of (0x72 ∷ 0x20 ∷ []) ≡ None
  unfolding event_of words_of sample_in is_digit all_digits value_from signed_of sample_of in_range
  restart_blank = refl

  -- `R`
  pub upper : event_of (0x52 ∷ []) ≡ None
  unfolding event_of words_of sample_in is_digit all_digits value_from signed_of sample_of in_range
  upper = refl

  -- `c`
  pub command_alone : event_of (0x63 ∷ []) ≡ None
  unfolding event_of words_of sample_in is_digit all_digits value_from signed_of sample_of in_range
  command_alone = refl

  -- `c `
  pub command_empty : event_of (0x63 ∷ 0x20 ∷ []) ≡ Some event.Command
  unfolding event_of words_of sample_in is_digit all_digits value_from signed_of sample_of in_range
  command_empty = refl

  -- `cMSV?`
  pub command_glued : event_of (0x63 ∷ 0x4d ∷ 0x53 ∷ 0x56 ∷ 0x3f ∷ []) ≡ None
  unfolding event_of words_of sample_in is_digit all_digits value_from signed_of sample_of in_range
  command_glued = refl

  -- ` r`
  pub blank_first : event_of (0x20 ∷ 0x72 ∷ []) ≡ None
  unfolding event_of words_of sample_in is_digit all_digits value_from signed_of sample_of in_range
  blank_first = refl

  -- the empty line
  pub empty : event_of [] ≡ None
  unfolding event_of words_of sample_in is_digit all_digits value_from signed_of sample_of in_range
  empty = refl

-- the bytes of a command: a second blank and a CR are among them
module _ where
  -- `c  A<CR>`
  pub command_bytes : command_of (0x63 ∷ 0x20 ∷ 0x20 ∷ 0x41 ∷ 0x0d ∷ []) ≡ 0x20 ∷ 0x41 ∷ 0x0d ∷ []
  unfolding command_of
  command_bytes = refl

  -- `c `
  pub command_none : command_of (0x63 ∷ 0x20 ∷ []) ≡ []
  unfolding command_of
  command_none = refl

  -- `s 7 1`
  pub sample_hands_none : command_of (0x73 ∷ 0x20 ∷ 0x37 ∷ 0x20 ∷ 0x31 ∷ []) ≡ []
  unfolding command_of
  sample_hands_none = refl
