use Rattle.std.proofs.Common.{arith, ℕ, List, [], ◌∷◌, ◌+◌, ◌-◌, ◌≤◌, ◌<◌, ◌≡◌, length, take, drop, length-take-le, length-drop}
use Rattle.cases.specs.Run.{run_of}
use Rattle.cases.specs.RunLaws.{run_byte, out_fits}
use Rattle.cases.specs.EachLaws.{run_each}
use Rattle.state.specs.declared.Unit.{Unit as TheUnit}
use Rattle.serving.specs.declared.Taken.{Taken}
use Rattle.serving.specs.Machine.{machine, taken_of}
use Rattle.serving.proofs.KeepLaws.{run_sound}
use Rattle.bench.proofs.BenchLines.serve.Goals as goal

goes : (s : List ℕ) (u : TheUnit) (f : ℕ) → 0 < length s → 17 ≤ f → 1 ≤ (run_of machine u f s).taken
goes [] u f h k = absurd (omega arith)
goes (b ∷ t) u f h k = rw (run_byte machine u f b t k) (omega arith)

part : (s : List ℕ) (from to : ℕ) → from ≤ to → to ≤ length s → length (take (to - from) (drop from s)) ≡ to - from
part s from to h k = length-take-le (to - from) (drop from s) (rw (length-drop from s) (omega arith))

-- with room for a reply a byte is taken, and no more than there are; and the reply fits
record Turn (from to : ℕ) (t : Taken) : Type 0 where
  pub some : 1 ≤ t.taken
  pub most : from + t.taken ≤ to
  pub fits : t.written ≤ 17

turn : (u : TheUnit) (bytes room : List ℕ) (from to len : ℕ) (t : Taken) → t ≡ taken_of (run_of machine u (length (take (len + 17 - len) (drop len room))) (take (to - from) (drop from bytes))) →
    from < to → to ≤ length bytes → len + 17 ≤ length room → Turn from to t
turn u bytes room from to len t e h l k =
    let s = take (to - from) (drop from bytes) in
    let f = length (take (len + 17 - len) (drop len room)) in
    let n = part bytes from to (omega arith) l in
    let m = part room len (len + 17) (omega arith) k in
    let p = goes s u f (rw n (omega arith)) (rw m (omega arith)) in
    let q = (run_each machine s u f).most in
    let r = out_fits machine s u f in
    rw e (record { some = p; most = omega (arith, q, n); fits = omega (arith, r, m) })

pub overflow_add-from : goal.overflow_add-from
overflow_add-from g c = let t = turn _ _ _ _ _ _ _ c.serve-t.ensures.taken c.loop-from-2-test.true c.loop-from-2.invariant.1.1 c.place.ensures.room in record { fits = omega (arith, t.most) }

pub closed-requires : goal.closed-requires
closed-requires g c =
    let t = turn _ _ _ _ _ _ _ c.serve-t.ensures.taken c.loop-from-2-test.true c.loop-from-2.invariant.1.1 c.place.ensures.room in
    let n = part c.place.new.self.bytes.now c.place.new.self.len (c.place.new.self.len + 17) (omega arith) c.place.ensures.room in
    omega (arith, c.serve-t.auto.room, n, t.fits)

pub loop-from-2-smaller : goal.loop-from-2-smaller
loop-from-2-smaller g c = let t = turn _ _ _ _ _ _ _ c.serve-t.ensures.taken c.loop-from-2-test.true c.loop-from-2.invariant.1.1 c.place.ensures.room in omega (arith, t.some, t.most)

pub loop-from-2-preserved : goal.loop-from-2-preserved
loop-from-2-preserved g c = let t = turn _ _ _ _ _ _ _ c.serve-t.ensures.taken c.loop-from-2-test.true c.loop-from-2.invariant.1.1 c.place.ensures.room in (rw (c.serve-t.ensures.taken, c.in_range.ensures) (run_sound _ _ _ c.loop-from-2.invariant.0), (t.most, c.loop-from-2.invariant.1.1))
