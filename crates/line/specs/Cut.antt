-- How a byte string is cut into lines, read off the bytes themselves; how a line is held in an array and a position; and what feeding the
-- bytes one after the other makes of them. Document 01, "Command lines", first paragraph. What a reader must believe.
use Rattle.std.specs.Prelude.{Bool, true, false, ◌≡◌, List, [], ◌∷◌, ◌++◌, map, ℕ, ◌-◌, length, take, replicate, leb}
use Rattle.cases.specs.Pick.{pick}
use Rattle.line.specs.declared.cut.Pos.{Pos}
use Rattle.line.specs.Line.{most, none_kept, fresh_pos, ends_of, drops_of, quoted_of, moved_of, is_end, stored_of}

-- a byte is dropped or counted
unfoldable pub one_of : Bool → ℕ → List ℕ
one_of q b = pick (drops_of q b) [] (b ∷ [])

-- the counted ones among bytes that end no line; `q`: the quotes before them
unfoldable pub counts_of : Bool → List ℕ → List ℕ
counts_of q [] = []
counts_of q (b ∷ t) = one_of q b ++ counts_of (quoted_of q b) t

-- the quotes after them
unfoldable pub quotes_of : Bool → List ℕ → Bool
quotes_of q [] = q
quotes_of q (b ∷ t) = quotes_of (quoted_of q b) t

-- no byte is an end mark
unfoldable pub inside_of : Bool → List ℕ → Bool
inside_of q [] = true
inside_of q (b ∷ t) = pick (ends_of q b) false (inside_of (quoted_of q b) t)

-- a string cut: the counted bytes of each line that ended, in order; then those of the line that has begun, and its quotes
pub record Cuts : Type 0 where
  pub lines : List (List ℕ)
  pub rest : List ℕ
  pub quoted : Bool

abbrev pub ended_at : List ℕ → Cuts → Cuts
ended_at s c = record { lines = s ∷ c.lines; rest = c.rest; quoted = c.quoted }

-- bytes that follow a line's first counted bytes `s`: an end mark ends it and the next one begins, any other byte belongs to it
unfoldable pub cut_from : List ℕ → Bool → List ℕ → Cuts
cut_from s q [] = record { lines = []; rest = s; quoted = q }
cut_from s q (b ∷ t) = pick (ends_of q b) (ended_at s (cut_from [] false t)) (cut_from (s ++ one_of q b) (quoted_of q b) t)

abbrev pub cut_of : List ℕ → Cuts
cut_of t = cut_from [] false t

-- an ended line: its counted bytes, or, at more than the most, that it is too long
pub data Ended : Type 0 where
  Kept : List ℕ → Ended
  TooLong : Ended

unfoldable pub line_of : List ℕ → Ended
line_of s = pick (leb (length s) most) (Kept s) TooLong

-- how the line that has counted the bytes `s` is held: its bytes in front of zeros; of one that is too long, zeros alone
unfoldable pub kept_at : List ℕ → List ℕ
kept_at s = pick (leb (length s) most) (s ++ replicate (most - length s) 0) none_kept

unfoldable pub pos_at : List ℕ → Bool → Pos
pos_at s q = pick (leb (length s) most) (record { len = length s; quoted = q; long = false }) (record { len = most; quoted = q; long = true })

-- the line as its holder finds it at the end mark
unfoldable pub found_of : List ℕ → Pos → Ended
found_of kept p = pick p.long TooLong (Kept (take p.len kept))

-- bytes fed one after the other: the lines that were found ended, and how the last one is held
pub record Fed : Type 0 where
  pub lines : List Ended
  pub kept : List ℕ
  pub pos : Pos

abbrev pub found_at : Ended → Fed → Fed
found_at l f = record { lines = l ∷ f.lines; kept = f.kept; pos = f.pos }

-- at an end mark the line is handed on and a fresh one begins; any other byte moves the line and is stored
unfoldable pub fed_from : List ℕ → Pos → List ℕ → Fed
fed_from kept p [] = record { lines = []; kept = kept; pos = p }
fed_from kept p (b ∷ t) =
    pick (is_end (moved_of p b).act) (found_at (found_of kept p) (fed_from none_kept fresh_pos t))
    (fed_from (stored_of kept (moved_of p b) b) (moved_of p b).pos t)

abbrev pub fed_of : List ℕ → Fed
fed_of t = fed_from none_kept fresh_pos t

-- how a cut string is held
abbrev pub held_of : Cuts → Fed
held_of c = record { lines = map line_of c.lines; kept = kept_at c.rest; pos = pos_at c.rest c.quoted }

-- a claim of every element
abbrev pub Every : {A : Type 0} → (A → Type 0) → List A → Type 0
Every P [] = Unit
Every P (x ∷ t) = P x × Every P t

-- a line that was cut out of a string, sent again with LF after it, is the same one line, and nothing is left
abbrev pub Again : List ℕ → Type 0
Again s = cut_of (s ++ (0x0a ∷ [])) ≡ ended_at s (cut_of [])
