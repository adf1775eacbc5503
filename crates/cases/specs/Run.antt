-- A machine that takes bytes one after the other and writes into lent room: what a block of bytes does. One text for every machine.
-- Document 01, "Reasons for "?"", its last paragraph. What a reader must believe.
use Rattle.std.specs.Prelude.{List, [], ◌∷◌, ◌++◌, ℕ, ◌+◌, ◌-◌, ◌≤◌, length, drop, ltb}
use Rattle.cases.specs.Pick.{pick}

-- what a block does: the state after it, how many bytes were taken, the bytes written
pub record Run (S : Type 0) : Type 0 where
  pub next : S
  pub taken : ℕ
  pub out : List ℕ

abbrev pub stop : {S : Type 0} → S → Run S
stop u = record { next = u; taken = 0; out = [] }

abbrev pub after : {S : Type 0} → ℕ → List ℕ → Run S → Run S
after i o r = record { next = r.next; taken = i + r.taken; out = o ++ r.out }

-- the room: what was written in front, the rest as it was
abbrev pub room_of : {S : Type 0} → Run S → List ℕ → List ℕ
room_of r room = r.out ++ drop (length r.out) room

-- a machine: its next state and its reply's bytes at a byte, and the free room that a byte needs, which no reply is longer than
pub record Machine (S : Type 0) : Type 0 where
  pub next : S → ℕ → S
  pub text : S → ℕ → List ℕ
  pub need : ℕ
  pub short : (u : S) (b : ℕ) → length (text u b) ≤ need

-- bytes are taken one after the other, while the room that a byte needs is free
unfoldable pub run_of : {S : Type 0} → Machine S → S → ℕ → List ℕ → Run S
run_of M u free [] = stop u
run_of M u free (b ∷ t) = pick (ltb free M.need) (stop u) (after 1 (M.text u b) (run_of M (M.next u b) (free - length (M.text u b)) t))
