-- A line is done exactly where its reply is not `?`. Assumes nothing.
use Rattle.std.specs.Prelude.{◌≡◌, refl, ◌⊎◌, Bool, true, false, List, [], ℕ, zero, suc, ◌+◌, ◌%◌, ◌<◌, eqb, ℤ, pos, negsuc, length, get_or, take, Ok, Err}
use Rattle.std.proofs.Common.{sym, ap, subst, ◌∙◌, inl, inr, ⊎_elim, mod-lt, arith, lit<, length-append, ext_get_or, eqb-true}
use Rattle.std.proofs.lemmas.Bool.{eqb-false}
use Rattle.cases.specs.TestsLaws.{all_yes}
use Rattle.cases.specs.Pick.{pick}
use Rattle.cases.specs.PickLaws.{split, never}
use Rattle.line.specs.declared.cut.Pos.{Pos}
use Rattle.line.specs.declared.names.Name.{Name}
use Rattle.line.specs.declared.names.Name.TheVariants as name
use Rattle.line.specs.declared.shape.Param.{Param}
use Rattle.line.specs.declared.shape.Param.TheVariants as param
use Rattle.line.specs.declared.shape.Fault.TheVariants as fault
use Rattle.line.specs.Param.{is_query, is_nothing}
use Rattle.line.specs.Shape.{shape_of, Shape, calls}
use Rattle.reply.specs.Reply.{places_of, digits_of, word_of, crlf, refused_text, done_text, digits_text, blank_text, pair_text, signed_text, status_text, word4_text, word2_text}
use Rattle.reply.proofs.ReadLaws.{length_digits, length_places}
use Rattle.state.specs.declared.Unit.{Unit as TheUnit}
use Rattle.state.specs.Changes.{restarted_of}
use Rattle.plans.specs.Needs.{Fits}
use Rattle.plans.specs.Plans.{command_plan}
use Rattle.plans.specs.Queries.{query_plan}
use Rattle.plans.specs.Kinds.{refusal_tests, is_refusal}
use Rattle.plans.specs.Obey.{Outcome, judge, refusing, shape_plan, line_plan, obey_of, AllHold, done_of, FirstFails}
use Rattle.plans.specs.Forms.{Form, done, digits_1, digits_2, digits_7, blank, signed, status, pair, word_4, word_2, query_form, command_by}
use Rattle.plans.specs.JudgeLaws.{why, judged, shaped_by, every_line}
use Rattle.plans.specs.Refusals.{Refused}

-- a text that is not `?` CR LF
abbrev pub Other : List ℕ → Type 0
Other t = t ≡ refused_text → ⊥

-- by its length, or by its first byte
by_length : (t : List ℕ) (n : ℕ) → length t ≡ n → (n ≡ 3 → ⊥) → Other t
by_length t n e d q = d (sym e ∙ ap length q)

by_first : (t : List ℕ) (a : ℕ) → get_or t 0 0 ≡ a → (a ≡ 63 → ⊥) → Other t
by_first t a e d q = d (sym e ∙ ap (λ (l : List ℕ). get_or l 0 0) q)

digits_1_other : (n : ℕ) → Other (digits_text 1 n)
unfolding digits_text places_of
digits_1_other n = by_first _ (48 + n % 10) refl (λ e. let h : n % 10 < 10 = mod-lt n (lit< tt) in absurd (omega arith))

digits_2_other : (n : ℕ) → Other (digits_text 2 n)
unfolding digits_text
digits_2_other n = by_length _ 4 (length-append (digits_of 2 n) crlf ∙ ap (◌+ 2) (length_digits 2 n)) (λ e. absurd (omega arith))

digits_7_other : (n : ℕ) → Other (digits_text 7 n)
unfolding digits_text
digits_7_other n = by_length _ 9 (length-append (digits_of 7 n) crlf ∙ ap (◌+ 2) (length_digits 7 n)) (λ e. absurd (omega arith))

blank_other : (n : ℕ) → Other (blank_text n)
unfolding blank_text
blank_other n = by_first _ 32 refl (λ e. absurd (omega arith))

signed_other : (z : ℤ) → Other (signed_text z)
unfolding signed_text
signed_other (pos n) = by_first _ 32 refl (λ e. absurd (omega arith))
signed_other (negsuc n) = by_first _ 45 refl (λ e. absurd (omega arith))

status_other : (z : ℤ) (a s : ℕ) → Other (status_text z a s)
unfolding status_text
status_other (pos n) a s = by_first _ 32 refl (λ e. absurd (omega arith))
status_other (negsuc n) a s = by_first _ 45 refl (λ e. absurd (omega arith))

pair_other : (a b : ℕ) → Other (pair_text a b)
unfolding pair_text
pair_other a b = by_length _ 17 (simp (length-append, length_digits 7 a, length_digits 7 b)) (λ e. absurd (omega arith))

word_4_other : (z : ℤ) → Other (word4_text z)
unfolding word4_text
word_4_other z = by_length _ 6 (length-append (word_of 4 z) crlf ∙ ap (◌+ 2) (length_places 256 4 _)) (λ e. absurd (omega arith))

word_2_other : (z : ℤ) → Other (word2_text z)
unfolding word2_text
word_2_other z = by_length _ 4 (length-append (word_of 2 z) crlf ∙ ap (◌+ 2) (length_places 256 2 _)) (λ e. absurd (omega arith))

-- no form is `?` CR LF
pub form_other : (t : List ℕ) → Form t → Other t
form_other _ done = by_first done_text 48 refl (λ e. absurd (omega arith))
form_other _ (digits_1 n) = digits_1_other n
form_other _ (digits_2 n) = digits_2_other n
form_other _ (digits_7 n) = digits_7_other n
form_other _ (blank n) = blank_other n
form_other _ (signed z) = signed_other z
form_other _ (status z a s) = status_other z a s
form_other _ (pair a b) = pair_other a b
form_other _ (word_4 z) = word_4_other z
form_other _ (word_2 z) = word_2_other z

pub nothing_other : Other []
nothing_other = by_length [] 0 refl (λ e. absurd (omega arith))

pub query_other : (u : TheUnit) (n : Name) → Other (query_plan u n).text
query_other u n = form_other _ (query_form u n)

pub command_other : (u : TheUnit) (s : List ℕ) (n : Name) (q : Param) → Other (command_plan u s n q).text
command_other u s n q = command_by (λ _ t. Other t) nothing_other (λ _. form_other done_text done) u s n q

-- the tests of `?` are exact
pub refusal_is : (t : List ℕ) → is_refusal t ≡ true → t ≡ refused_text
unfolding is_refusal
refusal_is t e =
    let h = all_yes (refusal_tests t) e in
    let bytes : (i : ℕ) → i < 3 → get_or t i 0 ≡ get_or refused_text i 0 = third t (eqb-true _ _ h.1.0) (eqb-true _ _ h.1.1.0) (eqb-true _ _ h.1.1.1.0) in
    let n : length t ≡ 3 = eqb-true (length t) 3 h.0 in
    ext_get_or 0 t refused_text n (λ i k. bytes i (omega (arith, n)))
  where
    third : (t : List ℕ) → get_or t 0 0 ≡ get_or refused_text 0 0 → get_or t 1 0 ≡ get_or refused_text 1 0 → get_or t 2 0 ≡ get_or refused_text 2 0 → (i : ℕ) → i < 3 → get_or t i 0 ≡ get_or refused_text i 0
    third t a b c zero k = a
    third t a b c (suc zero) k = b
    third t a b c (suc (suc zero)) k = c
    third t a b c (suc (suc (suc i))) k = absurd (omega arith)

pub other_not : (t : List ℕ) → Other t → is_refusal t ≡ false
other_not t o = split (λ b. is_refusal t ≡ b → is_refusal t ≡ false) (is_refusal t) (λ e _. absurd (o (refusal_is t e))) (λ e _. e) refl

-- a line whose needs all hold is not answered by `?`
pub done_other : (u : TheUnit) (s : List ℕ) (long : Bool) → AllHold (line_plan u s long).needs → Other (line_plan u s long).text
done_other u s long =
    split (λ b. AllHold (pick b (refusing u (Fits false)) (shape_plan u s (shape_of s))).needs → Other (pick b (refusing u (Fits false)) (shape_plan u s (shape_of s))).text) long
    (λ _ h. absurd (never (sym h.0))) (λ _. shaped (shape_of s))
  where
    shaped : (x : Shape) → AllHold (shape_plan u s x).needs → Other (shape_plan u s x).text
    shaped (Err fault.Malformed) h = absurd (never (sym h.0))
    shaped (Err fault.Unknown) h = absurd (never (sym h.0))
    shaped (Ok c) h =
        split (λ b. AllHold (pick b (query_plan u c.name) (command_plan u s c.name c.param)).needs → Other (pick b (query_plan u c.name) (command_plan u s c.name c.param)).text) (is_query c.param)
        (λ _ k. query_other u c.name) (λ _ k. command_other u s c.name c.param) h

-- each line was refused, and replied `?`, or was not, and did not
pub refused_or_not : (u : TheUnit) (kept : List ℕ) (p : Pos) → Refused u (obey_of u kept p) ⊎ Other (obey_of u kept p).text
refused_or_not u kept p =
    every_line (λ (o : Outcome). Refused u o ⊎ Other o.text) u kept p (inr (nothing_other)) (λ n. inl (record { need = n; is = refl })) (λ n. inr (query_other u n)) (λ s n q a. inr (command_other u s n q))

-- a line answered by `?` was refused by the first of its needs that does not hold
pub refused_first : (u : TheUnit) (kept : List ℕ) (p : Pos) → (obey_of u kept p).text ≡ refused_text → FirstFails u (line_plan u (take p.len kept) p.long).needs (obey_of u kept p)
unfolding obey_of
refused_first u kept p =
    let s = take p.len kept in
    let l = line_plan u s p.long in
    let none : Outcome = record { next = u; text = [] } in
    split (λ b. (pick b none (judge u l)).text ≡ refused_text → FirstFails u l.needs (pick b none (judge u l))) (eqb p.len 0)
    (λ _ e. absurd (nothing_other e))
    (λ _ e. ⊎_elim (λ h. absurd (done_other u s p.long h.0 (sym (ap (λ (o : Outcome). o.text) h.1) ∙ e))) (λ w. w) (why u l))

-- how a line is answered: not at all where it kept nothing or is a done RES, else by `?` or by one reply of a known form
pub data Answered (u : TheUnit) (p : Pos) (x : Shape) (o : Outcome) : Type 0 where
  empty : p.len ≡ 0 → o.text ≡ [] → Answered u p x o
  restart : p.long ≡ false → x ≡ calls name.Res param.Nothing → o.next ≡ restarted_of u → o.text ≡ [] → Answered u p x o
  one : (p.len ≡ 0 → ⊥) → (o.text ≡ refused_text) ⊎ Form o.text → Answered u p x o

nothing_is : (q : Param) → is_nothing q ≡ true → q ≡ param.Nothing
nothing_is param.Nothing e = refl
nothing_is param.Query e = absurd (never (sym e))
nothing_is (param.Number x) e = absurd (never (sym e))
nothing_is (param.Text a k) e = absurd (never (sym e))

-- of a command whose needs hold
done_answered : (u : TheUnit) (p : Pos) → p.long ≡ false → (p.len ≡ 0 → ⊥) → (s : List ℕ) (n : Name) (q : Param) → AllHold (command_plan u s n q).needs →
    Answered u p (calls n q) (done_of (command_plan u s n q))
done_answered u p l d s n q h =
    ⊎_elim
    (λ z. let e : q ≡ param.Nothing = nothing_is q (res_needs n z.0 h) in
    restart l (ap (λ (m : Name). calls m q) z.0 ∙ ap (λ (x : Param). calls name.Res x) e) (ap (λ (m : Name). (command_plan u s m q).done) z.0) z.1)
    (λ c. one d (inr c))
    (command_by (λ m t. ((m ≡ name.Res) × (t ≡ [])) ⊎ Form t) (inl (refl, refl)) (λ _. inr done) u s n q)
  where
    res_needs : (m : Name) → m ≡ name.Res → AllHold (command_plan u s m q).needs → is_nothing q ≡ true
    res_needs m z k = (subst (λ (m : Name). AllHold (command_plan u s m q).needs) z k).0

pub answered : (u : TheUnit) (kept : List ℕ) (p : Pos) → Answered u p (shape_of (take p.len kept)) (obey_of u kept p)
unfolding obey_of
answered u kept p =
    let s = take p.len kept in
    split (λ b. Answered u p (shape_of s) (pick b (record { next = u; text = [] }) (judge u (line_plan u s p.long)))) (eqb p.len 0)
    (λ e. empty (eqb-true p.len 0 e) refl)
    (λ e. let d = eqb-false p.len 0 e in
    split (λ b. p.long ≡ b → Answered u p (shape_of s) (judge u (pick b (refusing u (Fits false)) (shape_plan u s (shape_of s))))) p.long
    (λ _ l. judged (Answered u p (shape_of s)) u (refusing u (Fits false)) (λ n. one d (inl refl)) (λ h. absurd (never (sym h.0))))
    (λ _ l. shaped_by (Answered u p) u (λ x n. one d (inl refl)) (λ n q f h. one d (inr (query_form u n))) (λ t n q f h. done_answered u p l d t n q h) s (shape_of s)) refl)
