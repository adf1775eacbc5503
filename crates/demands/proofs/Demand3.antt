-- Demand 3: what a restart brings back, what the counter counts, and what the seal keeps. Assumes nothing.
use mathlib.Core.Path.{◌≡◌, refl, sym, ap, ◌∙◌}
use Rattle.line.specs.Shape.{calls}
use mathlib.Core.Bool.{true, false}
use mathlib.Core.List.{List, [], ◌∷◌, ◌++◌, append_assoc, append-nil}
use Prim.Native.Nat.{ℕ, ◌+◌, ◌<◌, ◌≤◌, min}
use native.Mathlib.Omega.{arith}
use lib.ListN.{take}
use native.Mathlib.Nat.{zero-add, add-zero, add_assoc}
use Rattle.cases.specs.Pick.{pick}
use Rattle.cases.specs.PickLaws.{split}
use Rattle.line.specs.declared.names.Name.TheVariants as name
use Rattle.line.specs.declared.shape.Param.TheVariants as param
use Rattle.line.specs.Line.{moved_of}
use Rattle.state.specs.declared.Settings.{Settings}
use Rattle.state.specs.declared.Unit.{Unit as TheUnit}
use Rattle.state.specs.Settings.{factory_of}
use Rattle.state.specs.Changes.{ceiling}
use Rattle.plans.specs.Obey.{obey_of, judge}
use Rattle.plans.specs.JudgeLaws.{obeyed}
use Rattle.plans.specs.Kinds.{Kind, plain, saving, trading, kind_line}
use Rattle.plans.specs.Effects.{Store, store_of, Effect, keeps, alters, recalls, saves, trades}
use Rattle.plans.proofs.Effects.{effect}
use Rattle.serving.specs.declared.Taken.{Taken}
use Rattle.serving.specs.Step.{step_next, step_text, ended_unit, moved_unit}
use Rattle.demands.specs.Host.{New, Event, byte, sample, power, next, after, bytes, ends, shape, Call, Took, Restarted, handed, Calls, last, events, all_events}
use Rattle.demands.specs.History.{kind_of, counted, changes, remembered, last_saved, Quiet, IsSealed}
use Rattle.demands.proofs.Reached.{after_append, bytes_of, end_unit}
use Rattle.demands.proofs.Demand2.{calls_after}

-- ---- each event has the effect of its kind
event : (u : TheUnit) (e : Event) → Effect (store_of u) (store_of (next u e)) (kind_of u e)
unfolding step_next step_text
event u (byte b) =
    split
    (λ t. Effect (store_of u) (store_of (pick t (ended_unit u) (moved_unit u (moved_of u.pos b) b))) (pick t (kind_line u.used.lft (shape u) (pick t (obey_of u u.kept u.pos).text [])) plain))
    (ends u b) (λ _. effect u u.kept u.pos) (λ _. keeps refl refl refl refl)
event u (sample x still) = keeps refl refl refl refl
event u power = recalls refl refl refl

-- ---- the saved settings are those straight after the last save or trade-mode change
saved_step : {s t : Store} {k : Kind} → Effect s t k → t.saved ≡ remembered k t.used s.saved
saved_step (keeps a b c d) = c
saved_step (alters a b c d) = c
saved_step (recalls a b c) = b
saved_step (saves a b c) = b ∙ sym a
saved_step (trades a b c d f) = c

saved_run : (u : TheUnit) (es : List Event) → (after u es).saved ≡ last_saved u.saved u es
unfolding after last_saved
saved_run u [] = refl
saved_run u (e ∷ es) = saved_run (next u e) es ∙ ap (λ (s : Settings). last_saved s (next u e) es) (saved_step (event u e))

saved_new : (u : TheUnit) → New u → (es : List Event) → (after u es).saved ≡ last_saved factory_of u es
saved_new u n es = saved_run u es ∙ ap (λ (v : TheUnit). last_saved v.saved u es) n

-- a restart leaves each setting as it stood straight after the last accepted save or trade-mode change, or at factory value: by power
pub restart_brings_last_save : (u : TheUnit) → New u → (es : List Event) → (after u (es ++ (power ∷ []))).used ≡ last_saved factory_of u es
unfolding after
restart_brings_last_save u n es = ap (λ (v : TheUnit). v.used) (after_append es (power ∷ []) u) ∙ saved_new u n es

-- and by RES: a line of that shape, at its end mark
res_obeyed : (v : TheUnit) → v.pos.long ≡ false → shape v ≡ calls name.Res param.Nothing → (obey_of v v.kept v.pos).next.used ≡ v.saved
unfolding judge
res_obeyed v l s = rw (obeyed v v.kept v.pos name.Res param.Nothing l s)

pub res_brings_last_save : (u : TheUnit) → New u → (es : List Event) (b : ℕ) → ends (after u es) b ≡ true → (after u es).pos.long ≡ false → shape (after u es) ≡ calls name.Res param.Nothing →
    (after u (es ++ (byte b ∷ []))).used ≡ last_saved factory_of u es
unfolding after
res_brings_last_save u n es b e l s =
    ap (λ (v : TheUnit). v.used) (after_append es (byte b ∷ []) u) ∙ ap (λ (v : TheUnit). v.used) (end_unit (after u es) b e) ∙ res_obeyed (after u es) l s ∙ saved_new u n es

-- the same in two halves: with none before it, a restart brings factory values; with e the last of them, the settings straight after e
quiet : (u : TheUnit) (es : List Event) (s : Settings) → Quiet u es → last_saved s u es ≡ s
unfolding last_saved
quiet u [] s q = refl
quiet u (e ∷ es) s q = rw q.0 (quiet (next u e) es s q.1)

last_append : (u : TheUnit) (xs ys : List Event) (s : Settings) → last_saved s u (xs ++ ys) ≡ last_saved (last_saved s u xs) (after u xs) ys
unfolding last_saved after
last_append u [] ys s = refl
last_append u (x ∷ xs) ys s = last_append (next u x) xs ys (remembered (kind_of u x) (next u x).used s)

remembers : (k : Kind) (s t : Settings) → (k ≡ plain → ⊥) → remembered k s t ≡ s
remembers plain s t h = absurd (h refl)
remembers saving s t h = refl
remembers trading s t h = refl

pub restart_unsaved : (u : TheUnit) → New u → (es : List Event) → Quiet u es → (after u (es ++ (power ∷ []))).used ≡ factory_of
restart_unsaved u n es q = restart_brings_last_save u n es ∙ quiet u es factory_of q

pub restart_saved : (u : TheUnit) → New u → (xs : List Event) (e : Event) (ys : List Event) → (kind_of (after u xs) e ≡ plain → ⊥) → Quiet (next (after u xs) e) ys →
    (after u ((xs ++ (e ∷ ys)) ++ (power ∷ []))).used ≡ (next (after u xs) e).used
unfolding last_saved
restart_saved u n xs e ys h q =
    restart_brings_last_save u n (xs ++ (e ∷ ys)) ∙ last_append u xs (e ∷ ys) factory_of ∙ quiet (next (after u xs) e) ys _ q ∙ remembers _ _ _ h

-- ---- the counter and the seal: what holds after n trade-mode changes
record Inv (n : ℕ) (s : Store) : Type 0 where
  count : s.counter ≡ min n ceiling
  stood : 0 < s.used.lft → n ≤ ceiling
  lft : s.saved.lft ≡ s.used.lft
  seal : 0 < s.used.lft → s.saved.sealed ≡ s.used.sealed

inv_step : {s t : Store} {k : Kind} {n : ℕ} → Inv n s → Effect s t k → Inv (n + counted k) t
inv_step i (keeps a b c d) = record { count = omega arith; stood = λ h. omega (arith, i.stood (omega arith)); lft = cc; seal = λ h. let q = i.seal (omega arith) in cc }
inv_step i (alters a b c d) = record { count = omega arith; stood = λ h. omega arith; lft = cc; seal = λ h. absurd (omega arith) }
inv_step i (recalls a b c) =
    let l = ap (λ (s : Settings). s.lft) a in
    record { count = omega arith; stood = λ h. omega (arith, i.stood (omega arith)); lft = cc; seal = λ h. cc }
inv_step i (saves a b c) =
    let l = ap (λ (s : Settings). s.lft) a in
    record { count = omega arith; stood = λ h. omega (arith, i.stood (omega arith)); lft = cc; seal = λ h. cc }
inv_step i (trades a b c d f) = record { count = omega arith; stood = λ h. omega (arith, f h); lft = cc; seal = λ h. cc }

inv_run : (n : ℕ) (u : TheUnit) (es : List Event) → Inv n (store_of u) → Inv (n + changes u es) (store_of (after u es))
unfolding after changes
inv_run n u [] i = rw add-zero i
inv_run n u (e ∷ es) i = rw (← add_assoc) (inv_run (n + counted (kind_of u e)) (next u e) es (inv_step i (event u e)))

inv_new : (u : TheUnit) → New u → Inv 0 (store_of u)
inv_new u n = rw n (record { count = refl; stood = λ h. omega arith; lft = refl; seal = λ h. refl })

inv : (u : TheUnit) → New u → (es : List Event) → Inv (changes u es) (store_of (after u es))
inv u n es = rw zero-add at (inv_run 0 u es (inv_new u n))

-- the counter is the number of trade-mode changes accepted, and stops at 9,999,999
pub counter_counts : (u : TheUnit) → New u → (es : List Event) → (after u es).counter ≡ min (changes u es) 9999999
counter_counts u n es = (inv u n es).count

-- ---- the seal
changes_append : (u : TheUnit) (xs ys : List Event) → changes u (xs ++ ys) ≡ changes u xs + changes (after u xs) ys
unfolding after changes
changes_append u [] ys = rw zero-add
changes_append u (x ∷ xs) ys = rw (changes_append (next u x) xs ys, add_assoc)

-- one event that is no trade-mode change leaves a sealed unit's LFT and sealed settings
seal_step : {s t : Store} {k : Kind} {n : ℕ} → Inv n s → 0 < s.used.lft → counted k ≡ 0 → Effect s t k → (t.used.lft ≡ s.used.lft) × (t.used.sealed ≡ s.used.sealed)
seal_step i l z (keeps a b c d) = (b, a)
seal_step i l z (alters a b c d) = absurd (omega arith)
seal_step i l z (recalls a b c) = let q = i.seal l in (cc, cc)
seal_step i l z (saves a b c) = (cc, cc)
seal_step i l z (trades a b c d f) = absurd (omega arith)

seal_run : (n : ℕ) (u : TheUnit) (es : List Event) → Inv n (store_of u) → IsSealed u → changes u es ≡ 0 → (after u es).used.sealed ≡ u.used.sealed
unfolding after changes
seal_run n u [] i l z = refl
seal_run n u (e ∷ es) i l z =
    let q = seal_step i l (omega arith) (event u e) in
    seal_run (n + counted (kind_of u e)) (next u e) es (inv_step i (event u e)) (omega arith) (omega arith) ∙ q.1

-- if the unit is sealed at two moments and the counter reads the same at both, all sealed settings are throughout as at the first:
-- the moments are any places in the events, also within a line, and zs = [] makes the second of them the one looked at
pub sealed_throughout : (u : TheUnit) → New u → (xs ys zs : List Event) → IsSealed (after u xs) → IsSealed (after u (xs ++ (ys ++ zs))) →
    (after u (xs ++ (ys ++ zs))).counter ≡ (after u xs).counter → (after u (xs ++ ys)).used.sealed ≡ (after u xs).used.sealed
sealed_throughout u n xs ys zs l m c =
    let one = (inv u n xs).stood l in
    let two = (inv u n (xs ++ (ys ++ zs))).stood m in
    rw (after_append xs ys u) (seal_run _ (after u xs) ys (inv u n xs) l (omega (
      arith,
      (inv u n xs).count,
      (inv u n (xs ++ (ys ++ zs))).count,
      changes_append u xs (ys ++ zs),
      changes_append (after u xs) ys zs,
    )))

-- ---- the same of a host's calls
last_of : (u : TheUnit) (xs ys : List Call) → last u (xs ++ ys) ≡ last (last u xs) ys
last_of u [] ys = refl
last_of u (x ∷ xs) ys = last_of (handed x) xs ys

events_of : (xs ys : List Call) → all_events (xs ++ ys) ≡ all_events xs ++ all_events ys
events_of [] ys = refl
events_of (x ∷ xs) ys = ap (events x ++◌) (events_of xs ys) ∙ sym (append_assoc (events x) (all_events xs) (all_events ys))

calls_first : (u : TheUnit) (xs ys : List Call) → Calls u (xs ++ ys) → Calls u xs
calls_first u [] ys k = tt
calls_first u (x ∷ xs) ys k = (k.0, calls_first (handed x) xs ys k.1)

-- the unit that a restart hands back has the settings straight after the last accepted save or trade-mode change, or factory values
pub calls_restart : (u : TheUnit) → New u → (cs : List Call) (v : TheUnit) → Calls u (cs ++ (Restarted v ∷ [])) → v.used ≡ last_saved factory_of u (all_events cs)
calls_restart u n cs v k =
    let e : v ≡ after u (all_events cs ++ (power ∷ [])) = sym (last_of u cs (Restarted v ∷ [])) ∙ calls_after u n (cs ++ (Restarted v ∷ [])) k ∙ ap (after u) (events_of cs (Restarted v ∷ [])) in
    ap (λ (w : TheUnit). w.used) e ∙ restart_brings_last_save u n (all_events cs)

-- the same where RES ends a block that was taken whole
pub calls_res : (u : TheUnit) → New u → (cs : List Call) (t : List ℕ) (b : ℕ) (m : List ℕ) (r : Taken) (m' : List ℕ) → Calls u (cs ++ (Took (t ++ (b ∷ [])) m r m' ∷ [])) → take r.taken (t ++ (b ∷ [])) ≡ t ++ (b ∷ []) →
    ends (after u (all_events cs ++ bytes t)) b ≡ true → (after u (all_events cs ++ bytes t)).pos.long ≡ false → shape (after u (all_events cs ++ bytes t)) ≡ calls name.Res param.Nothing →
    r.next.used ≡ last_saved factory_of u (all_events cs ++ bytes t)
calls_res u n cs t b m r m' k w e l s =
    let c = Took (t ++ (b ∷ [])) m r m' in
    let q : all_events (cs ++ (c ∷ [])) ≡ (all_events cs ++ bytes t) ++ (byte b ∷ []) =
    events_of cs (c ∷ [])
    ∙ ap (λ (x : List ℕ). all_events cs ++ (bytes x ++ [])) w
    ∙ ap (all_events cs ++◌) (append-nil (bytes (t ++ (b ∷ []))) ∙ bytes_of t (b ∷ []))
    ∙ sym (append_assoc (all_events cs) (bytes t) (byte b ∷ [])) in
    let v : r.next ≡ after u ((all_events cs ++ bytes t) ++ (byte b ∷ [])) = sym (last_of u cs (c ∷ [])) ∙ calls_after u n (cs ++ (c ∷ [])) k ∙ ap (after u) q in
    ap (λ (x : TheUnit). x.used) v ∙ res_brings_last_save u n (all_events cs ++ bytes t) b e l s

pub calls_counter : (u : TheUnit) → New u → (cs : List Call) → Calls u cs → (last u cs).counter ≡ min (changes u (all_events cs)) 9999999
calls_counter u n cs k = ap (λ (v : TheUnit). v.counter) (calls_after u n cs k) ∙ counter_counts u n (all_events cs)

-- sealed before and after the calls ys with the counter the same: so are the sealed settings at every moment of ys, also within a block
pub calls_sealed : (u : TheUnit) → New u → (xs ys : List Call) → Calls u (xs ++ ys) → IsSealed (last u xs) → IsSealed (last u (xs ++ ys)) → (last u (xs ++ ys)).counter ≡ (last u xs).counter →
    (ps qs : List Event) → all_events ys ≡ ps ++ qs → (after (last u xs) ps).used.sealed ≡ (last u xs).used.sealed
calls_sealed u n xs ys k l m c ps qs e =
    let a : last u xs ≡ after u (all_events xs) = calls_after u n xs (calls_first u xs ys k) in
    let b : last u (xs ++ ys) ≡ after u (all_events xs ++ (ps ++ qs)) = calls_after u n (xs ++ ys) k ∙ ap (after u) (events_of xs ys ∙ ap (all_events xs ++◌) e) in
    rw (a, ← after_append (all_events xs) ps u) (sealed_throughout u n (all_events xs) ps qs (rw a at l) (rw b at m) (rw (b, a) at c))
