-- Replies read back as what they were made of, and none is longer than ROOM. Assumes nothing.
use Rattle.std.specs.Prelude.{◌≡◌, refl, List, [], ◌∷◌, ◌++◌, map, ℕ, zero, suc, ◌+◌, ◌-◌, ◌*◌, ◌/◌, ◌%◌, ◌^◌, ◌≤◌, ◌<◌, length, get_or, take, drop, replicate, ℤ, pos, negsuc, neg_ℤ, nat_abs}
use Rattle.std.proofs.Common.{sym, ap, ◌∙◌, arith, div-add-mod', div-lt_iff_lt-mul, mod-eq_of_lt, mod-lt, pow-suc, length-append, take_at, lit≤, lt-ltb, le-ltb}
use Rattle.std.proofs.Math.Nat.{pow-zero}
use Rattle.std.proofs.lemmas.List.{length-map}
use Rattle.std.proofs.Math.Seq.{take-append_seam}
use Rattle.std.specs.Int.Signed.{mag}
use Rattle.reply.specs.Reply.{ROOM, places_of, ended, digits_of, twos, word_of, crlf, done_text, refused_text, digits_text, blank_text, pair_text, signed_text, status_text, word4_text, word2_text, reply_of, said, fitting}
use Rattle.reply.specs.Read.{value_of, read_digits, AreDigits, read_signed, read_twos, read_word}

-- ---- places
value_last : (base v d : ℕ) (s : List ℕ) → value_of base v (s ++ (d ∷ [])) ≡ value_of base v s * base + d
unfolding value_of
value_last base v d [] = refl
value_last base v d (b ∷ s) = value_last base (v * base + b) d s

pub places_read : (base w v : ℕ) → 0 < base → v < base ^ w → value_of base 0 (places_of base w v) ≡ v
unfolding value_of places_of
places_read base zero v h k = let z : v < 1 = rw (pow-zero base) at k in omega arith
places_read base (suc w) v h k =
    let less : v / base < base ^ w = (div-lt_iff_lt-mul {k = base} {x = v} {y = base ^ w} h).1 (rw (pow-suc base w) at k) in
    value_last base 0 (v % base) (places_of base w (v / base)) ∙ rw (places_read base w (v / base) h less) (div-add-mod' v base)

pub length_places : (base w v : ℕ) → length (places_of base w v) ≡ w
unfolding places_of
length_places base zero v = refl
length_places base (suc w) v = simp (length-append, length_places base w (v / base)) (omega arith)

-- ---- digits
pub length_digits : (w n : ℕ) → length (digits_of w n) ≡ w
length_digits w n = length-map (places_of 10 w n) _ ∙ length_places 10 w n

less_48 : (s : List ℕ) → map (◌- 48) (map (48 +◌) s) ≡ s
less_48 [] = refl
less_48 (d ∷ s) = let e : 48 + d - 48 ≡ d = omega arith in rw (e, less_48 s)

-- w digits read as the number, where that has no more
pub digits_read : (w n : ℕ) → n < 10 ^ w → read_digits (digits_of w n) ≡ n
digits_read w n h = ap (value_of 10 0) (less_48 (places_of 10 w n)) ∙ places_read 10 w n (omega arith) h

are_last : (s : List ℕ) (d : ℕ) → d < 10 → AreDigits (map (48 +◌) s) → AreDigits (map (48 +◌) (s ++ (d ∷ [])))
unfolding AreDigits
are_last [] d h k = (omega arith, omega arith, tt)
are_last (b ∷ s) d h k = (k.0, k.1, are_last s d h k.2)

-- and each byte is a digit
pub digits_are : (w n : ℕ) → AreDigits (digits_of w n)
unfolding AreDigits places_of
digits_are zero n = tt
digits_are (suc w) n = are_last (places_of 10 w (n / 10)) (n % 10) (omega arith) (digits_are w (n / 10))

-- ---- the forms read back
pub signed_reads : (z : ℤ) → nat_abs z < 10 ^ 7 → read_signed (signed_text z) ≡ z
unfolding signed_text places_of
signed_reads (pos n) h = ap pos (digits_read 7 n h)
signed_reads (negsuc n) h = ap (λ (m : ℕ). neg_ℤ (pos m)) (digits_read 7 (suc n) h)

pub pair_reads : (a b : ℕ) → a < 10 ^ 7 → b < 10 ^ 7 →
    (read_digits (take 7 (pair_text a b)) ≡ a) × (get_or (pair_text a b) 7 0 ≡ 44) × (read_digits (take 7 (drop 8 (pair_text a b))) ≡ b)
unfolding pair_text places_of
pair_reads a b h k = (digits_read 7 a h, refl, digits_read 7 b k)

pub status_reads : (z : ℤ) (a s : ℕ) → nat_abs z < 10 ^ 7 → a < 100 → s < 1000 →
    (read_signed (status_text z a s) ≡ z) × (read_digits (take 2 (drop 9 (status_text z a s))) ≡ a) × (read_digits (take 3 (drop 12 (status_text z a s))) ≡ s)
unfolding status_text signed_text places_of
status_reads z a s h k l = (signed_reads z h, digits_read 2 a k, digits_read 3 s l)

-- two's complement at w bytes reads as the number, where that fits
twos_read : (m : ℕ) (z : ℤ) → 2 * mag z + 1 < m → read_twos m (twos m z) ≡ z
unfolding twos
twos_read m (pos n) h = rw (mod-eq_of_lt {n = n} {m = m} (omega arith), lt-ltb (2 * n) m (omega arith))
twos_read m (negsuc n) h =
    let r : n % m ≡ n = mod-eq_of_lt {n = n} {m = m} (omega arith) in
    let k : m ≤ 2 * twos m (negsuc n) = omega arith in
    let e : m - suc (twos m (negsuc n)) ≡ n = omega arith in
    rw (le-ltb (2 * twos m (negsuc n)) m k, e)

twos_small : (m : ℕ) (z : ℤ) → 0 < m → twos m z < m
unfolding twos
twos_small m (pos n) h = mod-lt n h
twos_small m (negsuc n) h = omega arith

pub word_reads : (w : ℕ) (z : ℤ) → 2 * mag z + 1 < 256 ^ w → read_word w (ended (word_of w z)) ≡ z
word_reads w z h =
    rw (take_at (word_of w z) crlf w (length_places 256 w (twos (256 ^ w) z)), places_read 256 w (twos (256 ^ w) z) (omega arith) (twos_small (256 ^ w) z (omega arith)))
    (twos_read (256 ^ w) z h)

-- ---- no reply is longer than ROOM
pub done_short : length done_text ≤ ROOM
done_short = omega arith

pub refused_short : length refused_text ≤ ROOM
refused_short = omega arith

pub digits_short : (w n : ℕ) → w ≤ 15 → length (digits_text w n) ≤ ROOM
unfolding digits_text
digits_short w n h = simp (length-append, length_digits w n) (omega arith)

pub blank_short : (n : ℕ) → length (blank_text n) ≤ ROOM
unfolding blank_text places_of
blank_short n = omega arith

pub pair_short : (a b : ℕ) → length (pair_text a b) ≤ ROOM
unfolding pair_text places_of
pair_short a b = omega arith

pub signed_short : (z : ℤ) → length (signed_text z) ≤ ROOM
unfolding signed_text places_of
signed_short z = omega arith

pub status_short : (z : ℤ) (a s : ℕ) → length (status_text z a s) ≤ ROOM
unfolding status_text places_of
status_short z a s = omega arith

pub word4_short : (z : ℤ) → length (word4_text z) ≤ ROOM
unfolding word4_text places_of
word4_short z = omega arith

pub word2_short : (z : ℤ) → length (word2_text z) ≤ ROOM
unfolding word2_text places_of
word2_short z = omega arith

-- `search short` closes each of these
pub ruleset short = (lit≤, done_short, refused_short, digits_short, blank_short, pair_short, signed_short, status_short, word4_short, word2_short)

-- ---- a reply as a value says its bytes, and no other list has that value
pub says : (s : List ℕ) → said (reply_of s) ≡ s
unfolding reply_of
says s = take-append_seam s (replicate (ROOM - length s) 0)

pub one_reply : (s t : List ℕ) → reply_of s ≡ reply_of t → s ≡ t
one_reply s t e = sym (says s) ∙ ap said e ∙ says t

-- where it fits, all of it is written
pub fits : (part s : List ℕ) → length s ≤ length part → fitting part (reply_of s) ≡ s
fits part s h = rw (says s, le-ltb (length part) (length s) h)
