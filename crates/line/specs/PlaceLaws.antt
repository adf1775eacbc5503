-- Where a text that was read lies: within the line. Assumes nothing.
use Rattle.std.specs.Prelude.{Bool, true, false, ◌&&◌, ◌≡◌, refl, List, ℕ, ◌+◌, ◌-◌, ◌≤◌, ◌<◌, length, get_or, take, drop, leb, eqb, Option, Some, None, Result, Ok, Err}
use Rattle.std.proofs.Common.{arith, length-drop, leb-true, ltb-false}
use Rattle.cases.specs.Pick.{pick}
use Rattle.line.specs.declared.names.Letters.{Letters}
use Rattle.line.specs.declared.names.Name.{Name}
use Rattle.line.specs.declared.shape.Param.{Param}
use Rattle.line.specs.declared.shape.Param.TheVariants as param
use Rattle.line.specs.declared.shape.Command.{Command}
use Rattle.line.specs.declared.shape.Fault.{Fault}
use Rattle.line.specs.declared.shape.Fault.TheVariants as fault
use Rattle.line.specs.Names.{letters, called_of}
use Rattle.line.specs.Param.{number}
use Rattle.line.specs.ReadLaws.{and_first}
use Rattle.line.specs.Shape.{all_of, is_letter, fold_of, is_plain, digits_of, signed_of, number_by, number_of, text_of, param_of, command, known_of, command_of, shape_of}

-- a text's place in a line of `m` bytes: after the three letters and the opening quote, and before the closing one
abbrev Placed : ℕ → Param → Type 0
Placed m param.Nothing = Unit
Placed m param.Query = Unit
Placed m (param.Number x) = Unit
Placed m (param.Text a k) = (a ≡ 4) × (a + k < m)

unfoldable ReadAt : ℕ → Option Param → Type 0
ReadAt m None = Unit
ReadAt m (Some p) = Placed m p

abbrev Shaped : ℕ → Result Command Fault → Type 0
Shaped m (Err e) = Unit
Shaped m (Ok c) = Placed m c.param

bad_at : (m : ℕ) → ReadAt m None
unfolding ReadAt
bad_at m = tt

is_at : (m : ℕ) (p : Param) → Placed m p → ReadAt m (Some p)
unfolding ReadAt
is_at m p h = h

by_digits : (m : ℕ) (negative : Bool) (d : Option ℕ) → ReadAt m (number_by negative d)
by_digits m negative None = bad_at m
by_digits m negative (Some n) = is_at m (param.Number (number (signed_of negative n))) tt

number_at : (m : ℕ) (negative : Bool) (s : List ℕ) → ReadAt m (number_of negative s)
unfolding number_of
number_at m negative s = by_digits m negative (digits_of s)

-- what holds of both ways of a test holds of the one taken
picked : {A : Type 0} (P : A → Type 0) (t : Bool) (a b : A) → (t ≡ true → P a) → (t ≡ false → P b) → P (pick t a b)
picked P true a b f g = f refl
picked P false a b f g = g refl

text_at : (m : ℕ) (s : List ℕ) → length s + 4 ≤ m → ReadAt m (text_of s)
unfolding text_of
text_at m s h =
    picked (ReadAt m) (leb 1 (length s) && (eqb (get_or s (length s - 1) 0) 0x22 && all_of is_plain (take (length s - 1) s))) (Some (param.Text 4 (length s - 1))) None
    (λ y. let l : 1 ≤ length s = leb-true 1 (length s) (and_first (leb 1 (length s)) (eqb (get_or s (length s - 1) 0) 0x22 && all_of is_plain (take (length s - 1) s)) y) in is_at m (param.Text 4 (length s - 1)) (refl, omega arith))
    (λ n. bad_at m)

pick_at : (m : ℕ) (t : Bool) (a b : Option Param) → ReadAt m a → ReadAt m b → ReadAt m (pick t a b)
pick_at m true a b h k = h
pick_at m false a b h k = k

query_at : (m : ℕ) → ReadAt m (Some param.Query)
query_at m = is_at m param.Query tt

param_at : (m : ℕ) (t : List ℕ) → length t + 3 ≤ m → ReadAt m (param_of t)
unfolding param_of
param_at m t h =
    picked (ReadAt m) _ _ _ (λ y. is_at m param.Nothing tt)
    (λ n. let l : 1 ≤ length t = ltb-false (length t) 1 n in
    let d : length (drop 1 t) ≡ length t - 1 = length-drop 1 t in
    let k : length (drop 1 t) + 4 ≤ m = omega arith in
    search (pick_at, bad_at, query_at, text_at, number_at) depth 8)

known_at : (m : ℕ) (k : Option Name) (p : Param) → Placed m p → Shaped m (known_of k p)
known_at m None p h = tt
known_at m (Some n) p h = h

command_at : (m : ℕ) (n : Letters) (r : Option Param) → ReadAt m r → Shaped m (command_of n r)
unfolding command_of ReadAt
command_at m n None h = tt
command_at m n (Some p) h = known_at m (called_of n) p h

shape_at : (s : List ℕ) → Shaped (length s) (shape_of s)
unfolding shape_of
shape_at s =
    picked (Shaped (length s)) _ _ _ (λ y. tt)
    (λ n. let l : 3 ≤ length s = ltb-false (length s) 3 n in
    let d : length (drop 3 s) ≡ length s - 3 = length-drop 3 s in
    let k : length (drop 3 s) + 3 ≤ length s = omega arith in
    let n : Letters = letters (fold_of (get_or s 0 0)) (fold_of (get_or s 1 0)) (fold_of (get_or s 2 0)) in
    picked (Shaped (length s)) (is_letter (get_or s 0 0) && (is_letter (get_or s 1 0) && is_letter (get_or s 2 0))) (command_of n (param_of (drop 3 s))) (Err fault.Malformed)
    (λ y. command_at (length s) n (param_of (drop 3 s)) (param_at (length s) (drop 3 s) k))
    (λ y. tt))

-- a text parameter lies within its line
pub text_within : (s : List ℕ) (n : Name) (a k : ℕ) → shape_of s ≡ Ok (command n (param.Text a k)) → (a ≡ 4) × (a + k < length s)
text_within s n a k e = let h : Shaped (length s) (Ok (command n (param.Text a k))) = rw e at (shape_at s) in h
