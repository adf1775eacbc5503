-- The forms of reply: each reply to a done line has one of them. Assumes nothing.
use Rattle.std.specs.Prelude.{◌≡◌, refl, Bool, true, false, List, [], ◌∷◌, ◌++◌, ℕ, ◌≤◌, eqb, ℤ, length}
use Rattle.cases.specs.Pick.{pick}
use Rattle.line.specs.declared.names.Name.{Name}
use Rattle.line.specs.declared.names.Name.TheVariants as name
use Rattle.line.specs.declared.shape.Param.{Param}
use Rattle.reply.specs.Reply.{ROOM, digits_of, word_of, signed_of, ended, done_text, digits_text, blank_text, pair_text, signed_text, status_text, word4_text, word2_text}
use Rattle.reply.proofs.ReadLaws.{short}
use Rattle.weight.specs.Display.{in_decimal, in_four, in_two}
use Rattle.weighing.specs.Reading.{shown_now}
use Rattle.state.specs.declared.Unit.{Unit as TheUnit}
use Rattle.plans.specs.Plans.{command_plan}
use Rattle.plans.specs.Queries.{address, status_now, msv_text, query_plan}

pub data Form : List ℕ → Type 0 where
  done : Form done_text
  digits_1 : (n : ℕ) → Form (digits_text 1 n)
  digits_2 : (n : ℕ) → Form (digits_text 2 n)
  digits_7 : (n : ℕ) → Form (digits_text 7 n)
  blank : (n : ℕ) → Form (blank_text n)
  signed : (z : ℤ) → Form (signed_text z)
  status : (z : ℤ) (a s : ℕ) → Form (status_text z a s)
  pair : (a b : ℕ) → Form (pair_text a b)
  word_4 : (z : ℤ) → Form (word4_text z)
  word_2 : (z : ℤ) → Form (word2_text z)

either : (b : Bool) (s t : List ℕ) → Form s → Form t → Form (pick b s t)
either true s t h k = h
either false s t h k = k

msv_form : (u : TheUnit) → Form (msv_text u)
unfolding msv_text
msv_form u =
    let n = shown_now u in
    let cof = u.used.free.cof in
    either (eqb cof 0) (word4_text (in_four n).0) _ (word_4 (in_four n).0)
    (either (eqb cof 2) (word2_text (in_two n).0) _ (word_2 (in_two n).0)
    (either (eqb cof 3) (signed_text (in_decimal n).0) (status_text (in_decimal n).0 address (status_now u)) (signed (in_decimal n).0) (status (in_decimal n).0 address (status_now u))))

pub query_form : (u : TheUnit) (n : Name) → Form (query_plan u n).text
query_form u name.Gca = blank _
query_form u name.Gde = blank _
query_form u name.Cwt = pair _ _
query_form u name.Ldw = signed _
query_form u name.Lwt = signed _
query_form u name.Nov = signed _
query_form u name.Rsn = digits_2 _
query_form u name.Enu = digits_1 _
query_form u name.Dpt = digits_1 _
query_form u name.Zse = digits_1 _
query_form u name.Ztr = digits_1 _
query_form u name.Lft = digits_1 _
query_form u name.Cof = digits_2 _
query_form u name.Tas = digits_1 _
query_form u name.Tav = signed _
query_form u name.Tar = done
query_form u name.Cdl = done
query_form u name.Res = done
query_form u name.Tdd = done
query_form u name.Spw = done
query_form u name.Dpw = done
query_form u name.Msv = msv_form u
query_form u name.Tcr = digits_7 _
query_form u name.Esr = digits_2 _

-- a command replies `0`, and RES nothing
pub command_by : (P : Name → List ℕ → Type 0) → P name.Res [] → ((n : Name) → P n done_text) → (u : TheUnit) (s : List ℕ) (n : Name) (q : Param) → P n (command_plan u s n q).text
command_by P quiet said u s name.Gca q = said name.Gca
command_by P quiet said u s name.Gde q = said name.Gde
command_by P quiet said u s name.Cwt q = said name.Cwt
command_by P quiet said u s name.Ldw q = said name.Ldw
command_by P quiet said u s name.Lwt q = said name.Lwt
command_by P quiet said u s name.Nov q = said name.Nov
command_by P quiet said u s name.Rsn q = said name.Rsn
command_by P quiet said u s name.Enu q = said name.Enu
command_by P quiet said u s name.Dpt q = said name.Dpt
command_by P quiet said u s name.Zse q = said name.Zse
command_by P quiet said u s name.Ztr q = said name.Ztr
command_by P quiet said u s name.Lft q = said name.Lft
command_by P quiet said u s name.Cof q = said name.Cof
command_by P quiet said u s name.Tas q = said name.Tas
command_by P quiet said u s name.Tav q = said name.Tav
command_by P quiet said u s name.Tar q = said name.Tar
command_by P quiet said u s name.Cdl q = said name.Cdl
command_by P quiet said u s name.Res q = quiet
command_by P quiet said u s name.Tdd q = said name.Tdd
command_by P quiet said u s name.Spw q = said name.Spw
command_by P quiet said u s name.Dpw q = said name.Dpw
command_by P quiet said u s name.Msv q = said name.Msv
command_by P quiet said u s name.Tcr q = said name.Tcr
command_by P quiet said u s name.Esr q = said name.Esr

-- each has at most ROOM bytes
pub form_short : (t : List ℕ) → Form t → length t ≤ ROOM
form_short _ done = search short
form_short _ (digits_1 n) = search short
form_short _ (digits_2 n) = search short
form_short _ (digits_7 n) = search short
form_short _ (blank n) = search short
form_short _ (signed z) = search short
form_short _ (status z a s) = search short
form_short _ (pair a b) = search short
form_short _ (word_4 z) = search short
form_short _ (word_2 z) = search short

-- each is closed by CR LF
pub record Closed (t : List ℕ) : Type 0 where
  pub text : List ℕ
  pub is : t ≡ ended text

pub form_closed : (t : List ℕ) → Form t → Closed t
unfolding digits_text blank_text signed_text status_text pair_text word4_text word2_text
form_closed _ done = record { text = 48 ∷ []; is = refl }
form_closed _ (digits_1 n) = record { text = digits_of 1 n; is = refl }
form_closed _ (digits_2 n) = record { text = digits_of 2 n; is = refl }
form_closed _ (digits_7 n) = record { text = digits_of 7 n; is = refl }
form_closed _ (blank n) = record { text = 32 ∷ digits_of 6 n; is = refl }
form_closed _ (signed z) = record { text = signed_of z; is = refl }
form_closed _ (status z a s) = record { text = signed_of z ++ 44 ∷ digits_of 2 a ++ 44 ∷ digits_of 3 s; is = refl }
form_closed _ (pair a b) = record { text = digits_of 7 a ++ 44 ∷ digits_of 7 b; is = refl }
form_closed _ (word_4 z) = record { text = word_of 4 z; is = refl }
form_closed _ (word_2 z) = record { text = word_of 2 z; is = refl }
