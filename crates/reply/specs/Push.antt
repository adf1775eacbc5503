-- What the code's inner steps do: a reply that grows. No reader of a contract needs them.
use Rattle.std.specs.Prelude.{List, [], ◌∷◌, ℕ, ◌+◌, ◌-◌, length, set, ltb}
use Rattle.cases.specs.Pick.{pick}
use Rattle.reply.specs.declared.Reply.{Reply}
use Rattle.reply.specs.Reply.{ROOM}

-- the bytes s over those of l, from place i on
abbrev pub laid : List ℕ → ℕ → List ℕ → List ℕ
laid l i [] = l
laid l i (b ∷ s) = laid (set l i b) (i + 1) s

-- the bytes s behind those of q, where there is room for them
unfoldable pub pushes : Reply → List ℕ → Reply
pushes q s = pick (ltb (ROOM - length s) q.len) q (record { bytes = laid q.bytes q.len s; len = q.len + length s })
