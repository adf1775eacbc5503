-- A list of tests is opened into its facts, and made of them. Assumes nothing.
use Rattle.std.specs.Prelude.{◌≡◌, refl, Bool, true, false, ◌&&◌, List, [], ◌∷◌}
use Rattle.cases.specs.PickLaws.{not_both}
use Rattle.cases.specs.Tests.{all_from, all_of, AllTrue}

pub both_yes : (a b : Bool) → (a && b) ≡ true → (a ≡ true) × (b ≡ true)
both_yes true b e = (refl, e)
both_yes false b e = absurd (not_both false e refl)

pub yes_both : (a b : Bool) → a ≡ true → b ≡ true → (a && b) ≡ true
yes_both true b p q = q
yes_both false b p q = p

from_yes : (a : Bool) (bs : List Bool) → all_from a bs ≡ true → (a ≡ true) × AllTrue bs
from_yes a [] e = (e, tt)
from_yes a (b ∷ bs) e = let k = from_yes (a && b) bs e in let h = both_yes a b k.0 in (h.0, (h.1, k.1))

yes_from : (a : Bool) (bs : List Bool) → a ≡ true → AllTrue bs → all_from a bs ≡ true
yes_from a [] p q = p
yes_from a (b ∷ bs) p q = yes_from (a && b) bs (yes_both a b p q.0) q.1

pub all_yes : (bs : List Bool) → all_of bs ≡ true → AllTrue bs
all_yes [] e = tt
all_yes (b ∷ bs) e = from_yes b bs e

pub yes_all : (bs : List Bool) → AllTrue bs → all_of bs ≡ true
yes_all [] h = refl
yes_all (b ∷ bs) h = yes_from b bs h.0 h.1
