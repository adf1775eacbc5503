-- A reply copied to the front of a part of the room, byte by byte. Assumes nothing.
use Rattle.std.specs.Prelude.{◌≡◌, refl, List, ◌++◌, ℕ, suc, ◌+◌, ◌≤◌, ◌<◌, length, get_or, set, take, drop}
use Rattle.std.proofs.Common.{sym, ap, ◌∙◌, arith, le_antisymm, add-one, take-append-drop, length-set, length-take, drop-cons, take-suc, length-take-le, lt-ltb, le-ltb}
use Rattle.std.proofs.lemmas.List.{set_at}
use Rattle.std.proofs.Math.Seq.{append_snoc, take-append_seam}
use Rattle.reply.specs.declared.Reply.{Reply}
use Rattle.reply.specs.Reply.{said, fitting, over}

-- the first i of n bytes are copied
pub record Copied (bytes part room : List ℕ) (n i : ℕ) : Type 0 where
  pub most : i ≤ n
  pub stock : n ≤ length bytes
  pub fits : n ≤ length part
  pub long : length room ≡ length part
  pub now : room ≡ take i bytes ++ drop i part

pub copied_start : (q : Reply) (part : List ℕ) (n : ℕ) → n ≡ length (said q) → n ≤ length part → Copied q.bytes part part n 0
copied_start q part n e h = record { most = omega arith; stock = omega (arith, length-take q.len q.bytes); fits = h; long = refl; now = refl }

pub copied_on : (bytes part room : List ℕ) (n i : ℕ) → i < n → Copied bytes part room n i → Copied bytes part (set room i (get_or bytes i 0)) n (i + 1)
copied_on bytes part room n i l g = record {
  most = omega arith;
  stock = g.stock;
  fits = g.fits;
  long = length-set room i (get_or bytes i 0) ∙ g.long;
  now =
      rw (g.now, add-one, drop-cons part i 0 (omega (arith, g.fits)), take-suc bytes i 0 (omega (arith, g.stock)))
      (set_at (take i bytes) (get_or part i 0) (drop (suc i) part) (get_or bytes i 0) i (length-take-le i bytes (omega (arith, g.stock))) ∙ sym (append_snoc (take i bytes) (get_or bytes i 0) (drop (suc i) part)));
}

said_front : (q : Reply) → take (length (said q)) q.bytes ≡ said q
said_front q = ap (take (length (said q))) (sym (take-append-drop q.len q.bytes)) ∙ take-append_seam (said q) (drop q.len q.bytes)

module _ (part : List ℕ) (q : Reply) (n : ℕ) (e : n ≡ length (said q)) where
  -- a part that is too short
  pub put_none : length part < n → (0 ≡ length (fitting part q)) × (part ≡ over (fitting part q) part)
  put_none h = let k : length part < length (said q) = omega arith in rw (lt-ltb (length part) (length (said q)) k) (refl, refl)

  pub put_all : (room : List ℕ) (i : ℕ) → n ≤ i → Copied q.bytes part room n i → (n ≡ length (fitting part q)) × (room ≡ over (fitting part q) part)
  put_all room i l g =
      let k : length (said q) ≤ length part = omega (arith, g.fits) in
      let d : i ≡ length (said q) = le_antisymm g.most l ∙ e in
      rw (le-ltb (length part) (length (said q)) k) (e, g.now ∙ rw (d, said_front q))
