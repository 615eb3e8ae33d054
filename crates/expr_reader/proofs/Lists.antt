-- What is spelled is read: parts of a list, lists of parts and arguments.
use Rattle.std.proofs.Common.{◌≡◌, ℕ, suc, ◌+◌, List, [], ◌∷◌, ◌++◌, length, length-append, Some, None, Bool, true, false, refl, sym, ap, ◌∙◌, arith, append_assoc, append-nil}
use Rattle.std.proofs.lemmas.Bool.{cond-false, cond-true}
use Rattle.syntax_tree.specs.declared.sign.Sign.TheVariants as sign
use Rattle.syntax_tree.specs.Lexeme.{Lexeme, Fixed, sign_of}
use Rattle.syntax_tree.specs.Expression.{Expression, Part, One, Range, Glued, Parts, End, More, Maybe, Absent, Present}
use Rattle.syntax_tree.specs.Spelling.{spelling, part_spelling, maybe_spelling, step_spelling, parts_spelling, rest_spelling, AreParts, AreArguments}
use Rattle.expr_reader.specs.Reading.{◌>>=◌, is_close, is_colon, is_colons, are_arguments, if_arguments, arguments_at, maybe_at, step_at, range_at, one_at, glued_at, part_from, part_at, reading, on}
use Rattle.expr_reader.proofs.Equations.{core_reading, list_all, reading_at_end}
use Rattle.expr_reader.proofs.Sound.{drop_taken}
use Rattle.expr_reader.proofs.Operands.{Stops, inner, Finds, head_reading, on_taken}

-- what may stand after a part of a list, or after an expression in it
abbrev pub is_halt : Lexeme → Bool
is_halt (Fixed sign.Close) = true
is_halt (Fixed sign.Comma) = true
is_halt (Fixed sign.Colon) = true
is_halt (Fixed sign.Colons) = true
is_halt t = false

-- one of them is at the front
abbrev pub Halts : List Lexeme → Type 0
Halts [] = ⊥
Halts (t ∷ ts) = is_halt t ≡ true

halts_stop : (ts : List Lexeme) (k : ℕ) → Halts ts → Stops k ts
halts_stop (Fixed sign.Close ∷ ts) k h = (refl, tt)
halts_stop (Fixed sign.Comma ∷ ts) k h = (refl, tt)
halts_stop (Fixed sign.Colon ∷ ts) k h = (refl, tt)
halts_stop (Fixed sign.Colons ∷ ts) k h = (refl, tt)
halts_stop (t ∷ ts) k h = absurd cc
halts_stop [] k h = absurd h

halts_none : (ts : List Lexeme) → Halts ts → (reading Glued ts).core.expr 0 ≡ None
halts_none (Fixed sign.Close ∷ ts) h = ap (λ c. c.expr 0) (core_reading Glued (Fixed sign.Close) ts)
halts_none (Fixed sign.Comma ∷ ts) h = ap (λ c. c.expr 0) (core_reading Glued (Fixed sign.Comma) ts)
halts_none (Fixed sign.Colon ∷ ts) h = ap (λ c. c.expr 0) (core_reading Glued (Fixed sign.Colon) ts)
halts_none (Fixed sign.Colons ∷ ts) h = ap (λ c. c.expr 0) (core_reading Glued (Fixed sign.Colons) ts)
halts_none (t ∷ ts) h = absurd cc
halts_none [] h = absurd h

-- an expression of a triplet that may be there
finds_maybe : (a : Maybe) (ws : List Lexeme) → Halts ws → ((e : Expression) → a ≡ Present e → Finds 0 e ws)
    → maybe_at ((reading Glued (maybe_spelling a ++ ws)).core.expr 0) ≡ (a, length (maybe_spelling a))
finds_maybe Absent ws h find = ap maybe_at (halts_none ws h)
finds_maybe (Present e) ws h find =
    let f = find e refl in
    ap maybe_at (f.reads ∙ ap Some (f.exact (halts_stop ws (inner e) h) (halts_stop ws 0 h)))

-- what is read after the first of two parts of the lexemes
on_part : (ts us vs : List Lexeme) (n : ℕ) → ts ≡ us ++ vs → n ≡ length us → on Glued ts n ≡ reading Glued vs
on_part ts us vs n e l = ap (λ ts. on Glued ts n) e ∙ ap (reading Glued) (drop_taken us vs n l)

-- what stands after a whole part of a list
abbrev pub AfterPart : List Lexeme → Type 0
AfterPart [] = ⊥
AfterPart (t ∷ ts) = (is_halt t ≡ true) × (is_colon (sign_of t) ≡ false) × (is_colons (sign_of t) ≡ false)

after_part_halts : (ts : List Lexeme) → AfterPart ts → Halts ts
after_part_halts [] h = absurd h
after_part_halts (t ∷ ts) h = h.0

after_part_colon : (ts : List Lexeme) → AfterPart ts → is_colon (reading Glued ts).core.head ≡ false
after_part_colon [] h = absurd h
after_part_colon (t ∷ ts) h = ap is_colon (head_reading t ts) ∙ h.1

after_part_colons : (ts : List Lexeme) → AfterPart ts → is_colons (reading Glued ts).core.head ≡ false
after_part_colons [] h = absurd h
after_part_colons (t ∷ ts) h = ap is_colons (head_reading t ts) ∙ h.2

pub finds_one : (e : Expression) (vs : List Lexeme) → AfterPart vs → Finds 0 e vs → part_at Glued (λ d. (on Glued (spelling e ++ vs) d).core) ≡ Some (One e, length (spelling e))
finds_one e vs h f =
    let ts = spelling e ++ vs in
    let halt = after_part_halts vs h in
    let first : maybe_at ((reading Glued ts).core.expr 0) ≡ (Present e, length (spelling e)) =
    ap maybe_at (f.reads ∙ ap Some (f.exact (halts_stop vs (inner e) halt) (halts_stop vs 0 halt))) in
    ap (λ a. part_from Glued (λ d. (on Glued ts d).core) a.0 a.1) first
    ∙ cond-false _ _ _ (ap (λ r. is_colon r.core.head) (on_taken (spelling e) vs) ∙ after_part_colon vs h)
    ∙ cond-false _ _ (Some (One e, length (spelling e))) (ap (λ r. is_colons r.core.head) (on_taken (spelling e) vs) ∙ after_part_colons vs h)

-- the step of a triplet, where what stands before it is text
finds_step : (a b c : Maybe) (ts text vs : List Lexeme) → AfterPart vs → ts ≡ text ++ (step_spelling c ++ vs)
    → ((e : Expression) → c ≡ Present e → Finds 0 e vs)
    → step_at (λ d. (on Glued ts d).core) a b (length text) ≡ Some (Range a b c, length (text ++ step_spelling c))
finds_step a b Absent ts text vs h is find =
    cond-false _ _ (Some (Range a b Absent, length text)) (ap (λ r. is_colon r.core.head) (on_part ts text vs (length text) is refl) ∙ after_part_colon vs h)
    ∙ ap (λ l. Some (Range a b Absent, length l)) (sym (append-nil text))
finds_step a b (Present e) ts text vs h is find =
    let f = find e refl in
    let n = length text in
    let ws = spelling e ++ vs in
    let halt = after_part_halts vs h in
    let here : on Glued ts n ≡ reading Glued (Fixed sign.Colon ∷ ws) = on_part ts text (Fixed sign.Colon ∷ ws) n is refl in
    let next : on Glued ts (n + 1) ≡ reading Glued ws =
    on_part ts (text ++ Fixed sign.Colon ∷ []) ws (n + 1) (is ∙ sym (append_assoc text (Fixed sign.Colon ∷ []) ws))
    (omega (arith, length-append text (Fixed sign.Colon ∷ []))) in
    let long : n + 1 + length (spelling e) ≡ length (text ++ Fixed sign.Colon ∷ spelling e) = omega (arith, length-append text (Fixed sign.Colon ∷ spelling e)) in
    cond-true _ ((on Glued ts (n + 1)).core.expr 0 >>= λ c. Some (Range a b (Present c.0), n + 1 + c.1)) (Some (Range a b Absent, n))
    (ap (λ r. is_colon r.core.head) here ∙ ap is_colon (head_reading (Fixed sign.Colon) ws))
    ∙ ap (λ r. r.core.expr 0 >>= λ c. Some (Range a b (Present c.0), n + 1 + c.1)) next
    ∙ ap (λ o. o >>= λ c. Some (Range a b (Present c.0), n + 1 + c.1)) (f.reads ∙ ap Some (f.exact (halts_stop vs (inner e) halt) (halts_stop vs 0 halt)))
    ∙ ap (λ m. Some (Range a b (Present e), m)) long

step_halts : (c : Maybe) (vs : List Lexeme) → AfterPart vs → Halts (step_spelling c ++ vs)
step_halts Absent vs h = after_part_halts vs h
step_halts (Present e) vs h = refl

pub finds_range : (a b c : Maybe) (vs : List Lexeme) → AfterPart vs → ((e : Expression) (ws : List Lexeme) → a ≡ Present e → Finds 0 e ws)
    → ((e : Expression) (ws : List Lexeme) → b ≡ Present e → Finds 0 e ws) → ((e : Expression) (ws : List Lexeme) → c ≡ Present e → Finds 0 e ws)
    → part_at Glued (λ d. (on Glued (part_spelling (Range a b c) ++ vs) d).core) ≡ Some (Range a b c, length (part_spelling (Range a b c)))
finds_range a b c vs h fa fb fc =
    let ma = maybe_spelling a in
    let mb = maybe_spelling b in
    let sc = step_spelling c in
    let ts = part_spelling (Range a b c) ++ vs in
    let n = length ma in
    let after_b = sc ++ vs in
    let after_colon = mb ++ after_b in
    let at_first : ts ≡ ma ++ (Fixed sign.Colon ∷ after_colon) =
    append_assoc ma (Fixed sign.Colon ∷ (mb ++ sc)) vs ∙ ap (λ l. ma ++ (Fixed sign.Colon ∷ l)) (append_assoc mb sc vs) in
    let at_last : ts ≡ (ma ++ Fixed sign.Colon ∷ []) ++ after_colon = at_first ∙ sym (append_assoc ma (Fixed sign.Colon ∷ []) after_colon) in
    let text = (ma ++ Fixed sign.Colon ∷ []) ++ mb in
    let at_step : ts ≡ text ++ after_b = at_last ∙ sym (append_assoc (ma ++ Fixed sign.Colon ∷ []) mb after_b) in
    let first : maybe_at ((reading Glued ts).core.expr 0) ≡ (a, n) =
    ap (λ ts. maybe_at ((reading Glued ts).core.expr 0)) at_first ∙ finds_maybe a (Fixed sign.Colon ∷ after_colon) refl (λ e is. fa e _ is) in
    let here : is_colon (on Glued ts n).core.head ≡ true =
    ap (λ r. is_colon r.core.head) (on_part ts ma (Fixed sign.Colon ∷ after_colon) n at_first refl)
    ∙ ap is_colon (head_reading (Fixed sign.Colon) after_colon) in
    let next : on Glued ts (n + 1) ≡ reading Glued after_colon =
    on_part ts (ma ++ Fixed sign.Colon ∷ []) after_colon (n + 1) at_last (omega (arith, length-append ma (Fixed sign.Colon ∷ []))) in
    let last : maybe_at ((on Glued ts (n + 1)).core.expr 0) ≡ (b, length mb) =
    ap (λ r. maybe_at (r.core.expr 0)) next ∙ finds_maybe b after_b (step_halts c vs h) (λ e is. fb e _ is) in
    let long : n + 1 + length mb ≡ length text = omega (arith, length-append ma (Fixed sign.Colon ∷ []), length-append (ma ++ Fixed sign.Colon ∷ []) mb) in
    let whole : text ++ sc ≡ part_spelling (Range a b c) = append_assoc (ma ++ Fixed sign.Colon ∷ []) mb sc ∙ append_assoc ma (Fixed sign.Colon ∷ []) (mb ++ sc) in
    ap (λ a. part_from Glued (λ d. (on Glued ts d).core) a.0 a.1) first
    ∙ cond-true _ (range_at (λ d. (on Glued ts d).core) a n) _ here
    ∙ ap (λ b. step_at (λ d. (on Glued ts d).core) a b.0 (n + 1 + b.1)) last
    ∙ ap (step_at (λ d. (on Glued ts d).core) a b) long
    ∙ finds_step a b c ts text vs h at_step (λ e is. fc e vs is)
    ∙ ap (λ l. Some (Range a b c, length l)) whole

pub finds_glued : (a : Maybe) (e : Expression) (vs : List Lexeme) → AfterPart vs
    → ((x : Expression) (ws : List Lexeme) → a ≡ Present x → Finds 0 x ws) → Finds 0 e vs
    → part_at Glued (λ d. (on Glued (part_spelling (Glued a e) ++ vs) d).core) ≡ Some (Glued a e, length (part_spelling (Glued a e)))
finds_glued a e vs h fa f =
    let ma = maybe_spelling a in
    let ts = part_spelling (Glued a e) ++ vs in
    let n = length ma in
    let ws = spelling e ++ vs in
    let halt = after_part_halts vs h in
    let at_first : ts ≡ ma ++ (Fixed sign.Colons ∷ ws) = append_assoc ma (Fixed sign.Colons ∷ spelling e) vs in
    let at_step : ts ≡ (ma ++ Fixed sign.Colons ∷ []) ++ ws = at_first ∙ sym (append_assoc ma (Fixed sign.Colons ∷ []) ws) in
    let first : maybe_at ((reading Glued ts).core.expr 0) ≡ (a, n) =
    ap (λ ts. maybe_at ((reading Glued ts).core.expr 0)) at_first ∙ finds_maybe a (Fixed sign.Colons ∷ ws) refl (λ x is. fa x _ is) in
    let here : on Glued ts n ≡ reading Glued (Fixed sign.Colons ∷ ws) = on_part ts ma (Fixed sign.Colons ∷ ws) n at_first refl in
    let next : on Glued ts (n + 1) ≡ reading Glued ws = on_part ts (ma ++ Fixed sign.Colons ∷ []) ws (n + 1) at_step (omega (arith, length-append ma (Fixed sign.Colons ∷ []))) in
    let long : n + 1 + length (spelling e) ≡ length (part_spelling (Glued a e)) = omega (arith, length-append ma (Fixed sign.Colons ∷ spelling e)) in
    ap (λ a. part_from Glued (λ d. (on Glued ts d).core) a.0 a.1) first
    ∙ cond-false _ _ _ (ap (λ r. is_colon r.core.head) here ∙ ap is_colon (head_reading (Fixed sign.Colons) ws))
    ∙ cond-true _ (glued_at Glued (λ d. (on Glued ts d).core) a n) (one_at a n) (ap (λ r. is_colons r.core.head) here ∙ ap is_colons (head_reading (Fixed sign.Colons) ws))
    ∙ ap (λ r. r.core.expr 0 >>= λ c. Some (Glued a c.0, n + 1 + c.1)) next
    ∙ ap (λ o. o >>= λ c. Some (Glued a c.0, n + 1 + c.1)) (f.reads ∙ ap Some (f.exact (halts_stop vs (inner e) halt) (halts_stop vs 0 halt)))
    ∙ ap (λ m. Some (Glued a e, m)) long

rest_after_part : (ps : Parts) (us : List Lexeme) → AfterPart (rest_spelling ps ++ us)
rest_after_part End us = (refl, refl, refl)
rest_after_part (More p ps) us = (refl, refl, refl)

pub finds_list : (p : Part) (ps : Parts) (us : List Lexeme)
    → ((vs : List Lexeme) → AfterPart vs → part_at Glued (λ d. (on Glued (part_spelling p ++ vs) d).core) ≡ Some (p, length (part_spelling p)))
    → (reading Glued (rest_spelling ps ++ us)).core.rest ≡ Some (ps, length (rest_spelling ps))
    → (reading Glued (parts_spelling (More p ps) ++ us)).list ≡ Some (More p ps, length (parts_spelling (More p ps)))
finds_list p ps us find rest =
    let vs = rest_spelling ps ++ us in
    let ts = part_spelling p ++ vs in
    ap (λ ts. (reading Glued ts).list) (append_assoc (part_spelling p) (rest_spelling ps) us)
    ∙ list_all Glued ts
    ∙ ap (λ o. o >>= λ p. (on Glued ts p.1).core.rest >>= λ ps. Some (More p.0 ps.0, p.1 + ps.1)) (find vs (rest_after_part ps us))
    ∙ ap (λ o. o >>= λ ps. Some (More p ps.0, length (part_spelling p) + ps.1)) (ap (λ r. r.core.rest) (on_taken (part_spelling p) vs) ∙ rest)
    ∙ ap (λ n. Some (More p ps, n)) (sym (length-append (part_spelling p) (rest_spelling ps)))

pub finds_rest : (p : Part) (ps : Parts) (us : List Lexeme)
    → (reading Glued (parts_spelling (More p ps) ++ us)).list ≡ Some (More p ps, length (parts_spelling (More p ps)))
    → (reading Glued (rest_spelling (More p ps) ++ us)).core.rest ≡ Some (More p ps, length (rest_spelling (More p ps)))
finds_rest p ps us h =
    let n = length (parts_spelling (More p ps)) in
    let z : n + 1 ≡ suc n = omega arith in
    ap (λ c. c.rest) (core_reading Glued (Fixed sign.Comma) (parts_spelling (More p ps) ++ us))
    ∙ ap (λ o. o >>= λ p. Some (p.0, p.1 + 1)) h
    ∙ ap (λ n. Some (More p ps, n)) z

pub empty_arguments : (us : List Lexeme) → arguments_at (reading Glued (Fixed sign.Close ∷ us)) ≡ Some (End, 1)
empty_arguments us = cond-true _ (Some (End, 1)) _ (ap is_close (head_reading (Fixed sign.Close) us))

all_arguments : (ps : Parts) → AreArguments ps → are_arguments ps ≡ true
all_arguments End w = refl
all_arguments (More (One e) ps) w = all_arguments ps w.1
all_arguments (More p ps) w = absurd w

pub arguments_are_parts : (ps : Parts) → AreArguments ps → AreParts ps
arguments_are_parts End w = tt
arguments_are_parts (More (One e) ps) w = (w.0, arguments_are_parts ps w.1)
arguments_are_parts (More p ps) w = absurd w

-- an expression doesn't begin with a closing parenthesis
not_closed : (ts : List Lexeme) (x : Expression × ℕ) → (reading Glued ts).core.expr 0 ≡ Some x → is_close (reading Glued ts).core.head ≡ false
not_closed [] x h = ap (λ r. is_close r.core.head) (reading_at_end Glued)
not_closed (Fixed sign.Close ∷ ts) x h = let none : None ≡ Some x = sym (halts_none (Fixed sign.Close ∷ ts) refl) ∙ h in absurd cc
not_closed (t ∷ ts) x h = ap is_close (head_reading t ts)

pub some_arguments : (e : Expression) (ps : Parts) (us : List Lexeme) → AreArguments ps → Finds 0 e (rest_spelling ps ++ us)
    → (reading Glued (parts_spelling (More (One e) ps) ++ us)).list ≡ Some (More (One e) ps, length (parts_spelling (More (One e) ps)))
    → arguments_at (reading Glued (parts_spelling (More (One e) ps) ++ us)) ≡ Some (More (One e) ps, length (parts_spelling (More (One e) ps)))
some_arguments e ps us w f h =
    cond-false _ _ _
    (ap (λ ts. is_close (reading Glued ts).core.head) (append_assoc (spelling e) (rest_spelling ps) us)
    ∙ not_closed (spelling e ++ (rest_spelling ps ++ us)) f.found f.reads)
    ∙ ap (λ o. o >>= if_arguments) h
    ∙ cond-true _ (Some (More (One e) ps, length (parts_spelling (More (One e) ps)))) None (all_arguments ps w)
