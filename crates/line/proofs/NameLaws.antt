-- A walk along the program's table of names: what is found at an entry, or after it. Assumes nothing.
use Rattle.std.specs.Prelude.{Bool, true, false, ◌&&◌, ◌≡◌, List, [], ◌∷◌, map, ℕ, ◌+◌, ◌<◌, length, get_or, drop, eqb, nat_eq, Option, Some, None}
use Rattle.std.proofs.Common.{⊎_elim, arith, add-one, drop-cons, eqb-true}
use Rattle.std.proofs.Math.Bool.{and-true}
use Rattle.std.specs.Cmp.Lexicographic.{pointwise}
use Rattle.std.proofs.lemmas.List.Folds.{list_all_at}
use Rattle.cases.specs.Pick.{pick}
use Rattle.cases.specs.PickLaws.{bool_cases, never}
use Rattle.line.specs.declared.names.Letters.{Letters}
use Rattle.line.specs.declared.names.Name.{Name}
use Rattle.line.specs.Names.{Entry, names, same_of, called_of}

-- the program's table
abbrev pub Row : Type 0
Row = Letters × Name

abbrev pub row : Entry → Row
row e = (record { 0 = e.letters }, e.name)

abbrev pub table : List Row
table = map row names

abbrev pub found_in : List Row → Letters → Option Name
found_in [] n = None
found_in (r ∷ t) n = pick (same_of n (r.0).0) (Some r.1) (found_in t n)

-- each of its entries has three letters
abbrev has_three : Row → Bool
has_three r = eqb (length (r.0).0) 3

three : (i : ℕ) (d : Row) → i < length table → length ((get_or table i d).0).0 ≡ 3
three i d h =
    ⊎_elim
    (λ y. eqb-true _ _ y)
    (λ n. absurd (never (list_all_at has_three table i d h n)))
    (bool_cases (has_three (get_or table i d)))

-- three letters are compared one by one
same_is : (x w : List ℕ) → length x ≡ 3 → length w ≡ 3 → pointwise nat_eq x w ≡ (eqb (get_or x 0 0) (get_or w 0 0) && (eqb (get_or x 1 0) (get_or w 1 0) && eqb (get_or x 2 0) (get_or w 2 0)))
same_is (a ∷ b ∷ c ∷ []) (p ∷ q ∷ r ∷ []) h k = rw (and-true (eqb c r))
same_is [] w h k = absurd (omega (arith, h))
same_is (a ∷ []) w h k = absurd (omega (arith, h))
same_is (a ∷ b ∷ []) w h k = absurd (omega (arith, h))
same_is (a ∷ b ∷ c ∷ d ∷ t) w h k = absurd (omega (arith, h))
same_is (a ∷ b ∷ c ∷ []) [] h k = absurd (omega (arith, k))
same_is (a ∷ b ∷ c ∷ []) (p ∷ []) h k = absurd (omega (arith, k))
same_is (a ∷ b ∷ c ∷ []) (p ∷ q ∷ []) h k = absurd (omega (arith, k))
same_is (a ∷ b ∷ c ∷ []) (p ∷ q ∷ r ∷ s ∷ t) h k = absurd (omega (arith, k))

-- the walk, at its entry `i`
module _ (i : ℕ) (d : Row) (n : Letters) (l : length n.0 ≡ 3) (h : i < length table) (e : found_in (drop i table) n ≡ called_of n) where
  turn : pick (pointwise nat_eq n.0 ((get_or table i d).0).0) (Some (get_or table i d).1) (found_in (drop (i + 1) table) n) ≡ called_of n
  unfolding same_of
  turn = rw (same_is n.0 ((get_or table i d).0).0 l (three i d h), add-one) (rw (drop-cons table i d h) at e)

  pub found_here : pointwise nat_eq n.0 ((get_or table i d).0).0 ≡ true → Some (get_or table i d).1 ≡ called_of n
  found_here y = rw y at turn

  pub found_on : pointwise nat_eq n.0 ((get_or table i d).0).0 ≡ false → found_in (drop (i + 1) table) n ≡ called_of n
  found_on y = rw y at turn
