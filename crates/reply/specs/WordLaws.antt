-- A signed number's bytes are its places in two's complement. Assumes nothing.
use Rattle.std.specs.Prelude.{◌≡◌, refl, ℕ, zero, suc, ◌+◌, ◌-◌, ◌*◌, ◌/◌, ◌%◌, ◌^◌, ◌≤◌, ◌<◌, take, drop, ℤ, pos, negsuc}
use Rattle.std.specs.Int.{w64, cast_unsigned, to_be_bytes, byte_at, bytes_high_first}
use Rattle.std.specs.Int.Signed.{mag}
use Rattle.std.proofs.Common.{sym, ap, ◌∙◌, arith, pow-suc, pow-add, mul_assoc, div-add-mod', mod-lt, div-lt_iff_lt-mul, length-drop}
use Rattle.std.proofs.Math.Nat.{div-div-eq-div-mul, add-mul, one-le-pow, pow-succ'}
use Rattle.std.proofs.lemmas.List.{take_all}
use Rattle.reply.specs.Reply.{places_of, twos, word_of}

-- what stands above the last w places is not there
places_more : (w a v : ℕ) → places_of 256 w (a * 256 ^ w + v) ≡ places_of 256 w v
unfolding places_of
places_more zero a v = refl
places_more (suc w) a v =
    let e : a * 256 ^ suc w ≡ a * 256 ^ w * 256 = ap (a *◌) (pow-suc 256 w) ∙ sym (mul_assoc a (256 ^ w) 256) in
    let d : (a * 256 ^ suc w + v) / 256 ≡ a * 256 ^ w + v / 256 = omega (arith, e) in
    let m : (a * 256 ^ suc w + v) % 256 ≡ v % 256 = omega (arith, e) in
    rw (d, m, places_more w a (v / 256))

-- the library's bytes, the high one first
high_at : (k n : ℕ) → byte_at (suc k) n ≡ byte_at k (n / 256)
high_at zero n = refl
high_at (suc k) n = ap (λ (m : ℕ). n / m % 256) (pow-succ' 256 (suc k)) ∙ ap (◌% 256) (sym (div-div-eq-div-mul n 256 (256 ^ suc k)))

high_first : (k n : ℕ) → bytes_high_first k n ≡ places_of 256 k n
unfolding places_of
high_first zero n = refl
high_first (suc zero) n = refl
high_first (suc (suc k)) n = rw (high_at k n, high_first (suc k) n, ← high_first (suc k) (n / 256), ← high_first k (n / 256)) refl

last_high : (k w n : ℕ) → drop k (bytes_high_first (k + w) n) ≡ bytes_high_first w n
last_high zero w n = let e : 0 + w ≡ w = omega arith in rw e refl
last_high (suc k) w n = let e : suc k + w ≡ suc (k + w) = omega arith in rw e (last_high k w n)

-- what lies below k times m by more than n, in two's complement below m
below_twos : (k m n : ℕ) → 0 < m → n < k * m → k * m - suc n ≡ (k - 1 - n / m) * m + (m - suc (n % m))
below_twos k m n p h =
    let q : n / m < k = (div-lt_iff_lt-mul {k = m} {x = n} {y = k} p).1 h in
    let r : n % m < m = mod-lt n p in
    let e : k ≡ suc (k - 1 - n / m) + n / m = omega (arith, q) in
    let f : k * m ≡ suc (k - 1 - n / m) * m + n / m * m = ap (◌* m) e ∙ add-mul (suc (k - 1 - n / m)) (n / m) m in
    let g : suc (k - 1 - n / m) * m ≡ (k - 1 - n / m) * m + m = omega arith in
    omega (arith, f, g, r, div-add-mod' n m)

twos_places : (w : ℕ) (z : ℤ) → w ≤ 8 → mag z < 2 ^ 63 → places_of 256 w (cast_unsigned w64 z) ≡ word_of w z
unfolding twos
twos_places w (pos n) h f = ap (places_of 256 w) (sym (div-add-mod' n (256 ^ w))) ∙ places_more w (n / 256 ^ w) (n % 256 ^ w)
twos_places w (negsuc n) h f =
    let k : 8 - w + w ≡ 8 = omega arith in
    let e : 256 ^ (8 - w) * 256 ^ w ≡ 2 ^ 64 = sym (pow-add 256 (8 - w) w) ∙ ap (256 ^◌) k in
    let m : 0 < 256 ^ w = one-le-pow w 256 (omega arith) in
    let l : n < 256 ^ (8 - w) * 256 ^ w = omega (arith, e, f) in
    ap (λ (v : ℕ). places_of 256 w (v - suc n)) (sym e) ∙ ap (places_of 256 w) (below_twos (256 ^ (8 - w)) (256 ^ w) n m l) ∙
    places_more w (256 ^ (8 - w) - 1 - n / 256 ^ w) (256 ^ w - suc (n % 256 ^ w))

-- the last w of the library's eight
pub word_bytes : (w : ℕ) (z : ℤ) → w ≤ 8 → mag z < 2 ^ 63 → take (8 - (8 - w)) (drop (8 - w) (to_be_bytes w64 (cast_unsigned w64 z))) ≡ word_of w z
word_bytes w z h f =
    let v = cast_unsigned w64 z in
    let k : 8 - w + w ≡ 8 = omega arith in
    take_all (8 - (8 - w)) (drop (8 - w) (bytes_high_first 8 v)) (omega (arith, length-drop (8 - w) (bytes_high_first 8 v))) ∙
    ap (λ (j : ℕ). drop (8 - w) (bytes_high_first j v)) (sym k) ∙ last_high (8 - w) w v ∙ high_first w v ∙ twos_places w z h f
