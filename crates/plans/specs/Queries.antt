-- Queries: what each gives. Document 01, "Commands" (column "Query gives") and MSV? in "Weight". What a reader must believe.
use Rattle.std.specs.Prelude.{ℕ, ◌+◌, Bool, true, false, List, [], ◌∷◌, ltb, eqb, pos}
use Rattle.cases.specs.Pick.{pick}
use Rattle.line.specs.declared.names.Name.{Name}
use Rattle.line.specs.declared.names.Name.TheVariants as name
use Rattle.weight.specs.declared.Place.{Place}
use Rattle.weight.specs.declared.Place.TheVariants as place
use Rattle.weight.specs.Display.{in_decimal, in_four, in_two}
use Rattle.reply.specs.Reply.{digits_text, blank_text, pair_text, signed_text, status_text, word4_text, word2_text}
use Rattle.state.specs.declared.Unit.{Unit as TheUnit}
use Rattle.state.specs.Changes.{gated}
use Rattle.weighing.specs.Reading.{steady_of, place_now, shown_now}
use Rattle.plans.specs.Needs.{Sampled}
use Rattle.plans.specs.Plans.{Plan, plan, lacking}

-- ---- MSV?
abbrev pub is_over : Place → Bool
is_over place.Within = false
is_over place.Over = true
is_over place.Under = false

abbrev pub is_under : Place → Bool
is_under place.Within = false
is_under place.Over = false
is_under place.Under = true

abbrev pub bit : Bool → ℕ → ℕ
bit b n = pick b n 0

-- the status bits from 1 to 32: net, still (a steady reading, see reading 14), over, under, a first zeroing to come, sealed
unfoldable pub status_of : Bool → Bool → Place → Bool → Bool → ℕ
status_of nets still p waits sealed = bit nets 1 + bit still 2 + bit (is_over p) 4 + bit (is_under p) 8 + bit waits 16 + bit sealed 32

abbrev pub status_now : TheUnit → ℕ
status_now u = status_of (eqb u.used.free.tas 0) (steady_of u.seen) (place_now u) u.zeros.waits (ltb 0 u.used.lft)

-- the number that stands between COF9's commas
abbrev pub address : ℕ
address = 31

unfoldable pub msv_text : TheUnit → List ℕ
msv_text u =
    pick (eqb u.used.free.cof 0) (word4_text (in_four (shown_now u)).0)
    (pick (eqb u.used.free.cof 2) (word2_text (in_two (shown_now u)).0)
    (pick (eqb u.used.free.cof 3) (signed_text (in_decimal (shown_now u)).0)
    (status_text (in_decimal (shown_now u)).0 address (status_now u))))

-- ---- all queries
-- a query needs neither password nor LFT 0; MSV? needs a sample, ESR? clears the reason
abbrev pub value_plan : TheUnit → List ℕ → Plan
value_plan u t = plan [] u t

abbrev pub msv_plan : TheUnit → Plan
msv_plan u = plan (Sampled u.seen ∷ []) u (msv_text u)

abbrev pub query_plan : TheUnit → Name → Plan
query_plan u name.Gca = value_plan u (blank_text u.used.sealed.scale.gca)
query_plan u name.Gde = value_plan u (blank_text u.used.sealed.scale.gde)
query_plan u name.Cwt = value_plan u (pair_text u.used.sealed.cwt u.used.sealed.scale.curve.c)
query_plan u name.Ldw = value_plan u (signed_text u.used.sealed.scale.curve.l.0)
query_plan u name.Lwt = value_plan u (signed_text u.used.sealed.scale.curve.w.0)
query_plan u name.Nov = value_plan u (signed_text (pos u.used.sealed.scale.nov))
query_plan u name.Rsn = value_plan u (digits_text 2 u.used.sealed.scale.rsn)
query_plan u name.Enu = value_plan u (digits_text 1 u.used.sealed.enu)
query_plan u name.Dpt = value_plan u (digits_text 1 u.used.sealed.dpt)
query_plan u name.Zse = value_plan u (digits_text 1 u.used.sealed.zse)
query_plan u name.Ztr = value_plan u (digits_text 1 u.used.sealed.ztr)
query_plan u name.Lft = value_plan u (digits_text 1 u.used.lft)
query_plan u name.Cof = value_plan u (digits_text 2 u.used.free.cof)
query_plan u name.Tas = value_plan u (digits_text 1 u.used.free.tas)
query_plan u name.Tav = value_plan u (signed_text u.used.free.tare.0)
query_plan u name.Tar = lacking u
query_plan u name.Cdl = lacking u
query_plan u name.Res = lacking u
query_plan u name.Tdd = lacking u
query_plan u name.Spw = lacking u
query_plan u name.Dpw = lacking u
query_plan u name.Msv = msv_plan u
query_plan u name.Tcr = value_plan u (digits_text 7 u.counter)
query_plan u name.Esr = plan [] (gated u u.unlocked 0) (digits_text 2 u.reason)
