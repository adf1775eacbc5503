-- A list of tests, all of which hold. What a reader must believe.
use Rattle.std.specs.Prelude.{◌≡◌, Bool, true, ◌&&◌, List, [], ◌∷◌}

-- from the left, as the code's `a & b & c` goes
abbrev pub all_from : Bool → List Bool → Bool
all_from a [] = a
all_from a (b ∷ bs) = all_from (a && b) bs

abbrev pub all_of : List Bool → Bool
all_of [] = true
all_of (b ∷ bs) = all_from b bs

-- the same as a fact
abbrev pub AllTrue : List Bool → Type 0
AllTrue [] = Unit {0}
AllTrue (b ∷ bs) = (b ≡ true) × AllTrue bs
