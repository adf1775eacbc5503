-- Demand 1, of the room: a refused line's reply is `?` CR LF at its place, and no other byte of the room is its. Assumes nothing.
use mathlib.Core.Path.{◌≡◌, sym, ap, ◌∙◌}
use mathlib.Core.List.{List, ◌∷◌, ◌++◌}
use Prim.Native.Nat.{ℕ}
use lib.ListN.{take, drop, take-append-drop}
use Rattle.reply.specs.Reply.{refused_text}
use Rattle.state.specs.declared.Unit.{Unit as TheUnit}
use Rattle.serving.specs.declared.Taken.{Taken}
use Rattle.demands.specs.Host.{New, Event, byte, next, reply, after, replies, bytes, Took, Allowed, Right}
use Rattle.demands.proofs.Reached.{replies_append, bytes_of, reached}
use Rattle.demands.proofs.Served.{served}

-- the room at exit is the replies to the bytes taken, then the room as it was
whole_room : (u : TheUnit) (s m : List ℕ) (r : Taken) (m' : List ℕ) → Right u s m r m' → m' ≡ replies u (bytes (take r.taken s)) ++ drop r.written m
whole_room u s m r m' k = sym (take-append-drop r.written m') ∙ ap (◌++ drop r.written m') k.replied ∙ ap (replies u (bytes (take r.taken s)) ++◌) k.others

-- a call whose taken bytes are xs, an end mark b that is refused, and zs: what the lines of xs replied, `?` CR LF, what the lines of zs replied, and the rest of the room as it was
pub refused_room : (u : TheUnit) → New u → (es : List Event) (s m : List ℕ) (r : Taken) (m' : List ℕ) → Allowed (after u es) (Took s m r m') →
    (xs : List ℕ) (b : ℕ) (zs : List ℕ) → take r.taken s ≡ xs ++ (b ∷ zs) → reply (after (after u es) (bytes xs)) (byte b) ≡ refused_text →
    m' ≡ (replies (after u es) (bytes xs) ++ (refused_text ++ replies (next (after (after u es) (bytes xs)) (byte b)) (bytes zs))) ++ drop r.written m
unfolding replies
refused_room u n es s m r m' a xs b zs t e =
    let v = after u es in
    let w = after v (bytes xs) in
    let k = whole_room v s m r m' (served v (reached u n es) (Took s m r m') a) in
    let f : replies v (bytes (take r.taken s)) ≡ replies v (bytes xs) ++ (refused_text ++ replies (next w (byte b)) (bytes zs)) =
    ap (λ (l : List ℕ). replies v (bytes l)) t
    ∙ ap (replies v) (bytes_of xs (b ∷ zs))
    ∙ replies_append (bytes xs) (byte b ∷ bytes zs) v
    ∙ ap (λ (l : List ℕ). replies v (bytes xs) ++ (l ++ replies (next w (byte b)) (bytes zs))) e in
    k ∙ ap (◌++ drop r.written m) f
