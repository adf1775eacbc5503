-- A text within a line: its length, its bytes. Assumes nothing.
use Rattle.std.specs.Prelude.{◌≡◌, List, ℕ, ◌+◌, ◌-◌, ◌<◌, ◌≤◌, min, length, get_or, take, drop}
use Rattle.std.proofs.Common.{sym, ◌∙◌, arith, length-take, length-drop, get_or-take, get_or-drop}
use Rattle.std.proofs.Math.ListN.{get_or-eq_default}

module _ (s : List ℕ) (start len : ℕ) where
  text_length : length (take len (drop start s)) ≡ min len (length s - start)
  text_length = simp (length-take, length-drop)

  pub len_none : length s ≤ start → 0 ≡ length (take len (drop start s))
  len_none h = omega (arith, text_length)

  pub len_rest : length s - start < len → length s - start ≡ length (take len (drop start s))
  len_rest h = omega (arith, text_length)

  pub len_all : len ≤ length s - start → len ≡ length (take len (drop start s))
  len_all h = omega (arith, text_length)

  past : (i : ℕ) → length (take len (drop start s)) ≤ i → 0 ≡ get_or (take len (drop start s)) i 0
  past i h = sym (get_or-eq_default (take len (drop start s)) 0 h)

  pub byte_off : (i : ℕ) → length s ≤ start → 0 ≡ get_or (take len (drop start s)) i 0
  byte_off i h = past i (omega (arith, text_length))

  pub byte_past : (i : ℕ) → len ≤ i → 0 ≡ get_or (take len (drop start s)) i 0
  byte_past i h = past i (omega (arith, text_length))

  pub byte_beyond : (i : ℕ) → length s - start ≤ i → 0 ≡ get_or (take len (drop start s)) i 0
  byte_beyond i h = past i (omega (arith, text_length))

  pub byte_is : (i : ℕ) → i < len → get_or s (start + i) 0 ≡ get_or (take len (drop start s)) i 0
  byte_is i h = sym (get_or-take len (drop start s) i 0 h ∙ get_or-drop start s i 0)
