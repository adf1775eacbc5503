-- What a byte does to the line so far. Document 01, "Command lines", first paragraph. What a reader must believe.
use Rattle.std.specs.Prelude.{Bool, true, false, not, ◌&&◌, ◌||◌, List, ℕ, ◌+◌, ◌<◌, set, replicate, leb, ltb, eqb}
use Rattle.cases.specs.Pick.{pick}
use Rattle.line.specs.declared.cut.Pos.{Pos}
use Rattle.line.specs.declared.cut.Act.{Act}
use Rattle.line.specs.declared.cut.Act.TheVariants as act
use Rattle.line.specs.declared.cut.Moved.{Moved}

-- how many bytes a line holds
abbrev pub most : ℕ
most = 40

-- a line that kept nothing: its bytes, and where it stands
abbrev pub none_kept : List ℕ
none_kept = replicate most 0

abbrev pub fresh_pos : Pos
fresh_pos = record { len = 0; quoted = false; long = false }

-- an end mark: LF always, ";" outside quotes (reading 2, docs/DECISIONS.md)
unfoldable pub ends_of : Bool → ℕ → Bool
ends_of q b = eqb b 0x0a || (not q && eqb b 0x3b)

-- blanks and control bytes, up to 20 hex, are dropped outside quotes; 11 and 13 hex are kept (reading 1, docs/DECISIONS.md), and LF has ended the line before
unfoldable pub drops_of : Bool → ℕ → Bool
drops_of q b = not q && (leb b 0x20 && (not (eqb b 0x11) && not (eqb b 0x13)))

-- a quote opens or closes the quotes, wherever it stands (reading 3, docs/DECISIONS.md)
unfoldable pub quoted_of : Bool → ℕ → Bool
quoted_of q b = pick (eqb b 0x22) (not q) q

-- a counted byte is kept at the line's end; where the line is full already, it is now too long, and quotes are followed still (reading 3, docs/DECISIONS.md)
unfoldable pub counted_of : Pos → ℕ → Moved
counted_of p b =
    pick (ltb p.len most)
    (record { pos = record { len = p.len + 1; quoted = quoted_of p.quoted b; long = p.long }; act = act.Keeps p.len })
    (record { pos = record { len = most; quoted = quoted_of p.quoted b; long = true }; act = act.Drops })

-- a byte ends the line, or is dropped, or is counted
unfoldable pub moved_of : Pos → ℕ → Moved
moved_of p b =
    pick (ends_of p.quoted b) (record { pos = p; act = act.Ends })
    (pick (drops_of p.quoted b) (record { pos = p; act = act.Drops })
    (counted_of p b))

-- whether it ended the line
abbrev pub is_end : Act → Bool
is_end act.Ends = true
is_end (act.Keeps k) = false
is_end act.Drops = false

-- a byte is kept at a place within the line
abbrev pub Within : Act → Type 0
Within act.Ends = Unit
Within (act.Keeps k) = k < most
Within act.Drops = Unit

-- the kept bytes after a byte that did not end the line: it is stored at its place, and a line that is too long keeps none
abbrev pub kept_by : List ℕ → Act → Bool → ℕ → List ℕ
kept_by kept act.Ends long b = pick long none_kept kept
kept_by kept (act.Keeps k) long b = set kept k b
kept_by kept act.Drops long b = pick long none_kept kept

unfoldable pub stored_of : List ℕ → Moved → ℕ → List ℕ
stored_of kept m b = kept_by kept m.act m.pos.long b
