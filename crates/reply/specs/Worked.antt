-- Worked replies, byte for byte: one claim, which computes. Assumes nothing.
use Rattle.std.specs.Prelude.{◌≡◌, refl, [], ◌∷◌, pos, negsuc}
use Rattle.reply.specs.Reply.{places_of, twos, done_text, refused_text, digits_text, blank_text, pair_text, signed_text, status_text, word4_text, word2_text}

pub record Worked : Type 0 where
  -- `0`
  pub done : done_text ≡ 48 ∷ 13 ∷ 10 ∷ []
  -- `?`
  pub refused : refused_text ≡ 63 ∷ 13 ∷ 10 ∷ []
  -- `4`
  pub code : digits_text 1 4 ≡ 52 ∷ 13 ∷ 10 ∷ []
  -- `04`
  pub reason : digits_text 2 4 ≡ 48 ∷ 52 ∷ 13 ∷ 10 ∷ []
  -- `0000001`
  pub counter : digits_text 7 1 ≡ 48 ∷ 48 ∷ 48 ∷ 48 ∷ 48 ∷ 48 ∷ 49 ∷ 13 ∷ 10 ∷ []
  -- ` 981040`
  pub gravity : blank_text 981040 ≡ 32 ∷ 57 ∷ 56 ∷ 49 ∷ 48 ∷ 52 ∷ 48 ∷ 13 ∷ 10 ∷ []
  -- `1000000,1000000`
  pub weights : pair_text 1000000 1000000 ≡ 49 ∷ 48 ∷ 48 ∷ 48 ∷ 48 ∷ 48 ∷ 48 ∷ 44 ∷ 49 ∷ 48 ∷ 48 ∷ 48 ∷ 48 ∷ 48 ∷ 48 ∷ 13 ∷ 10 ∷ []
  -- ` 0001501`
  pub weight : signed_text (pos 1501) ≡ 32 ∷ 48 ∷ 48 ∷ 48 ∷ 49 ∷ 53 ∷ 48 ∷ 49 ∷ 13 ∷ 10 ∷ []
  -- `-0000020`
  pub minus : signed_text (negsuc 19) ≡ 45 ∷ 48 ∷ 48 ∷ 48 ∷ 48 ∷ 48 ∷ 50 ∷ 48 ∷ 13 ∷ 10 ∷ []
  -- ` 0000000`: 0 has no minus
  pub none : signed_text (pos 0) ≡ 32 ∷ 48 ∷ 48 ∷ 48 ∷ 48 ∷ 48 ∷ 48 ∷ 48 ∷ 13 ∷ 10 ∷ []
  -- ` 9999999`
  pub over : signed_text (pos 9999999) ≡ 32 ∷ 57 ∷ 57 ∷ 57 ∷ 57 ∷ 57 ∷ 57 ∷ 57 ∷ 13 ∷ 10 ∷ []
  -- `-9999999`
  pub under : signed_text (negsuc 9999998) ≡ 45 ∷ 57 ∷ 57 ∷ 57 ∷ 57 ∷ 57 ∷ 57 ∷ 57 ∷ 13 ∷ 10 ∷ []
  -- ` 0001501,31,002`
  pub still : status_text (pos 1501) 31 2 ≡ 32 ∷ 48 ∷ 48 ∷ 48 ∷ 49 ∷ 53 ∷ 48 ∷ 49 ∷ 44 ∷ 51 ∷ 49 ∷ 44 ∷ 48 ∷ 48 ∷ 50 ∷ 13 ∷ 10 ∷ []
  -- 00 00 05 DD
  pub four : word4_text (pos 1501) ≡ 0 ∷ 0 ∷ 5 ∷ 221 ∷ 13 ∷ 10 ∷ []
  -- FF FF FF FF
  pub four_minus : word4_text (negsuc 0) ≡ 255 ∷ 255 ∷ 255 ∷ 255 ∷ 13 ∷ 10 ∷ []
  -- 7F FF FF FF
  pub four_over : word4_text (pos 2147483647) ≡ 127 ∷ 255 ∷ 255 ∷ 255 ∷ 13 ∷ 10 ∷ []
  -- 80 00 00 00
  pub four_under : word4_text (negsuc 2147483647) ≡ 128 ∷ 0 ∷ 0 ∷ 0 ∷ 13 ∷ 10 ∷ []
  -- FF FE
  pub two : word2_text (negsuc 1) ≡ 255 ∷ 254 ∷ 13 ∷ 10 ∷ []
  -- 7F FF
  pub two_over : word2_text (pos 32767) ≡ 127 ∷ 255 ∷ 13 ∷ 10 ∷ []
  -- 80 00
  pub two_under : word2_text (negsuc 32767) ≡ 128 ∷ 0 ∷ 13 ∷ 10 ∷ []
  -- of a number with more digits the last seven: -9223372036854775808
  pub least : signed_text (negsuc 9223372036854775807) ≡ 45 ∷ 52 ∷ 55 ∷ 55 ∷ 53 ∷ 56 ∷ 48 ∷ 56 ∷ 13 ∷ 10 ∷ []

pub worked : Worked
unfolding places_of twos digits_text blank_text pair_text signed_text status_text word4_text word2_text
worked = record {
  done = refl;
  refused = refl;
  code = refl;
  reason = refl;
  counter = refl;
  gravity = refl;
  weights = refl;
  weight = refl;
  minus = refl;
  none = refl;
  over = refl;
  under = refl;
  still = refl;
  four = refl;
  four_minus = refl;
  four_over = refl;
  four_under = refl;
  two = refl;
  two_over = refl;
  two_under = refl;
  least = refl;
}
