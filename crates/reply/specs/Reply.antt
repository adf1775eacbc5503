-- Replies: the bytes of each form. Document 01, "Command lines", "Commands" (column "Query gives") and MSV? in "Weight". What a reader must believe.
use Rattle.std.specs.Prelude.{◌≡◌, refl, List, [], ◌∷◌, ◌++◌, map, ℕ, zero, suc, ◌+◌, ◌-◌, ◌/◌, ◌%◌, ◌^◌, length, take, drop, replicate, ltb, ℤ, pos, negsuc, nat_abs}
use Rattle.cases.specs.Pick.{pick}
use Rattle.reply.specs.declared.Reply.{Reply}

-- no reply has more bytes than these
abbrev pub ROOM : ℕ
ROOM = 17

-- ---- parts of a reply
-- the last w places of v to a base, the highest first (what stands above them is not there)
unfoldable pub places_of : ℕ → ℕ → ℕ → List ℕ
places_of base zero v = []
places_of base (suc w) v = places_of base w (v / base) ++ ((v % base) ∷ [])

-- w decimal digits, zeros in front; of a number of more digits the last w
abbrev pub digits_of : ℕ → ℕ → List ℕ
digits_of w n = map (48 +◌) (places_of 10 w n)

-- two's complement: the number below m that differs from z by a multiple of m
unfoldable pub twos : ℕ → ℤ → ℕ
twos m (pos n) = n % m
twos m (negsuc n) = m - suc (n % m)

-- z in two's complement at w bytes, the high byte first
abbrev pub word_of : ℕ → ℤ → List ℕ
word_of w z = places_of 256 w (twos (256 ^ w) z)

-- the sign: a blank, or '-' below zero
abbrev pub sign_of : ℤ → ℕ
sign_of (pos _) = 32
sign_of (negsuc _) = 45

-- sign and 7 digits
abbrev pub signed_of : ℤ → List ℕ
signed_of z = sign_of z ∷ digits_of 7 (nat_abs z)

-- ---- replies, with CR LF behind each, those of bytes too (reading 15, docs/DECISIONS.md)
abbrev pub crlf : List ℕ
crlf = 13 ∷ 10 ∷ []

abbrev pub ended : List ℕ → List ℕ
ended s = s ++ crlf

-- `0` says that a command was done, `?` that it was refused
abbrev pub done_text : List ℕ
done_text = ended (48 ∷ [])

abbrev pub refused_text : List ℕ
refused_text = ended (63 ∷ [])

-- w digits
unfoldable pub digits_text : ℕ → ℕ → List ℕ
digits_text w n = ended (digits_of w n)

-- a blank and w digits
abbrev pub blank_digits : ℕ → ℕ → List ℕ
blank_digits w n = ended (32 ∷ digits_of w n)

-- GCA?, GDE?: a blank and 6 digits
unfoldable pub blank_text : ℕ → List ℕ
blank_text n = blank_digits 6 n

-- CWT?: the waiting one and the used one, 7 digits each, parted by a comma
unfoldable pub pair_text : ℕ → ℕ → List ℕ
pair_text waiting used = ended (digits_of 7 waiting ++ 44 ∷ digits_of 7 used)

-- sign and 7 digits, also COF3
unfoldable pub signed_text : ℤ → List ℕ
signed_text z = ended (signed_of z)

-- COF9: sign and digits, then the address (2 digits) between commas, then the status (3 digits)
unfoldable pub status_text : ℤ → ℕ → ℕ → List ℕ
status_text z address status = ended (signed_of z ++ 44 ∷ digits_of 2 address ++ 44 ∷ digits_of 3 status)

-- w bytes
abbrev pub word_text : ℕ → ℤ → List ℕ
word_text w z = ended (word_of w z)

-- 4 bytes at COF0, 2 at COF2
unfoldable pub word4_text : ℤ → List ℕ
word4_text z = word_text 4 z

unfoldable pub word2_text : ℤ → List ℕ
word2_text z = word_text 2 z

-- what the replies of any width are at the widths above; NOV? is a number without a sign
pub blank_six : (n : ℕ) → blank_digits 6 n ≡ blank_text n
unfolding blank_text
blank_six n = refl

pub blank_seven : (n : ℕ) → blank_digits 7 n ≡ signed_text (pos n)
unfolding signed_text
blank_seven n = refl

pub word_four : (z : ℤ) → word_text 4 z ≡ word4_text z
unfolding word4_text
word_four z = refl

pub word_two : (z : ℤ) → word_text 2 z ≡ word2_text z
unfolding word2_text
word_two z = refl

-- ---- a reply as a value
-- the value that holds the bytes s, zeros behind them
unfoldable pub reply_of : List ℕ → Reply
reply_of s = record { bytes = s ++ replicate (ROOM - length s) 0; len = length s }

-- what a reply says
abbrev pub said : Reply → List ℕ
said q = take q.len q.bytes

-- what of a reply goes into a part of the room: all of it, or nothing where the part is too short
abbrev pub fitting : List ℕ → Reply → List ℕ
fitting part q = pick (ltb (length part) (length (said q))) [] (said q)

-- the bytes s at the front of a part, whose rest stays
abbrev pub over : List ℕ → List ℕ → List ℕ
over s part = s ++ drop (length s) part
