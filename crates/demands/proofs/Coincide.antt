-- Any two outcomes that a public operation's contract allows coincide: the five operations of crate `wire`, and those of `lent`, which have the same three events. Assumes nothing.
use mathlib.Core.Path.{◌≡◌, sym, ◌∙◌}
use mathlib.Core.Bool.{Bool}
use mathlib.Core.List.{List}
use Prim.Native.Nat.{ℕ}
use lib.IntN.{ℤ}
use lib.ListN.{length}
use Rattle.cases.specs.Run.{room_of}
use Rattle.state.specs.declared.Unit.{Unit as TheUnit}
use Rattle.weighing.specs.declared.Reading.{Reading}
use Rattle.serving.specs.declared.Taken.{Taken}
use Rattle.wire.specs.Wire.{sampled, restarted, read, block_of}
use Rattle.lent.specs.declared.Counts.{Counts}
use Rattle.lent.specs.Lent.{counts_of}
use Rattle.demands.specs.Host.{New, Took, Sampled, Restarted, Allowed}

pub new_once : (u v : TheUnit) → New u → New v → u ≡ v
new_once u v a b = a ∙ sym b

pub take_once : (u : TheUnit) (s m : List ℕ) (r r' : Taken) (n n' : List ℕ) → Allowed u (Took s m r n) → Allowed u (Took s m r' n') → (r ≡ r') × (n ≡ n')
take_once u s m r r' n n' a b = (a.0 ∙ sym b.0, a.1 ∙ sym b.1)

pub sample_once : (u : TheUnit) (x : ℤ) (still : Bool) (v w : TheUnit) → Allowed u (Sampled x still v) → Allowed u (Sampled x still w) → v ≡ w
sample_once u x still v w a b = a ∙ sym b

pub restart_once : (u v w : TheUnit) → Allowed u (Restarted v) → Allowed u (Restarted w) → v ≡ w
restart_once u v w a b = a ∙ sym b

pub reading_once : (u : TheUnit) (r s : Reading) → r ≡ read u → s ≡ read u → r ≡ s
reading_once u r s a b = a ∙ sym b

-- a lent unit: the unit at exit, the counts, and the room at exit
pub on_bytes_once : (u : TheUnit) (s m : List ℕ) (v w : TheUnit) (c d : Counts) (n n' : List ℕ) →
    v ≡ (block_of u (length m) s).next → c ≡ counts_of (block_of u (length m) s) → n ≡ room_of (block_of u (length m) s) m →
    w ≡ (block_of u (length m) s).next → d ≡ counts_of (block_of u (length m) s) → n' ≡ room_of (block_of u (length m) s) m → (v ≡ w) × ((c ≡ d) × (n ≡ n'))
on_bytes_once u s m v w c d n n' a b e f g h = (a ∙ sym f, (b ∙ sym g, e ∙ sym h))

pub on_sample_once : (u : TheUnit) (x : ℤ) (still : Bool) (v w : TheUnit) → v ≡ sampled u x still → w ≡ sampled u x still → v ≡ w
on_sample_once u x still v w a b = a ∙ sym b

pub on_restart_once : (u v w : TheUnit) → v ≡ restarted u → w ≡ restarted u → v ≡ w
on_restart_once u v w a b = a ∙ sym b

-- and it is the unit, the counts and the room that `take` gives, so that all theorems over calls are theorems over lent units
pub on_bytes_allowed : (u : TheUnit) (s m : List ℕ) (v : TheUnit) (c : Counts) (n : List ℕ) →
    v ≡ (block_of u (length m) s).next → c ≡ counts_of (block_of u (length m) s) → n ≡ room_of (block_of u (length m) s) m →
    Allowed u (Took s m (record { next = v; taken = c.taken; written = c.written }) n)
on_bytes_allowed u s m v c n a b e = (rw (a, b), e)
