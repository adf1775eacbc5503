-- The part of the kept bytes that is read is the line. Assumes nothing.
use Rattle.std.proofs.Common.{◌≡◌, true, false, ⊎_elim, ℕ, min, List, arith, ltb-true, ltb-false, ltb, length, take, take_all}
use Rattle.cases.specs.PickLaws.{bool_cases}

pub part_take : (n : ℕ) (kept : List ℕ) → length kept ≡ 40 → take (min n 40) kept ≡ take n kept
part_take n kept e = ⊎_elim short long (bool_cases (ltb n 40))
  where
    short : ltb n 40 ≡ true → take (min n 40) kept ≡ take n kept
    short t = let h : min n 40 ≡ n = omega (arith, ltb-true n 40 t) in rw h

    long : ltb n 40 ≡ false → take (min n 40) kept ≡ take n kept
    long t =
        let h : min n 40 ≡ 40 = omega (arith, ltb-false n 40 t) in
        rw (h, take_all 40 kept (omega arith), take_all n kept (omega (arith, ltb-false n 40 t)))
