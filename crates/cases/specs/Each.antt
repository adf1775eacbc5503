-- Bytes taken one by one, with no thought of room: what the law of a block compares it with. What a reader must believe.
use Rattle.std.specs.Prelude.{List, [], ◌∷◌, ◌++◌, ℕ}
use Rattle.cases.specs.Run.{Machine}

-- the state after them
unfoldable pub next_by : {S : Type 0} → Machine S → S → List ℕ → S
next_by M u [] = u
next_by M u (b ∷ t) = next_by M (M.next u b) t

-- the replies, one after the other
unfoldable pub text_by : {S : Type 0} → Machine S → S → List ℕ → List ℕ
text_by M u [] = []
text_by M u (b ∷ t) = M.text u b ++ text_by M (M.next u b) t
