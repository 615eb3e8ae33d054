-- What each function of the code meets, over plain variables.
use Rattle.std.proofs.Common.{◌≡◌, ◌≤◌, ◌<◌, ℕ, zero, suc, ◌+◌, List, [], ◌∷◌, ◌++◌, length, length-drop, drop, Option, Some, None, true, false, refl, sym, ap, ◌∙◌, subst, arith, Global}
use Rattle.std.specs.Prelude.{Vec, slice_index_or, if◌then◌else◌}
use Rattle.op_tables.specs.declared.op.Op.{Op}
use Rattle.source_lines.specs.declared.token.Token.{Token}
use Rattle.syntax_tree.specs.declared.sign.Sign.TheVariants as sign
use Rattle.syntax_tree.specs.declared.expr.Expr.{Expr}
use Rattle.syntax_tree.specs.declared.expr.Subscript.{Subscript}
use Rattle.syntax_tree.specs.declared.expr.Expr.TheBlock.{Row_of-Subscript, end_of-Subscript, more_of-Subscript, items-the_row-Subscript, hidden-the_row-Subscript-0, items_hidden-the_row-Subscript-0, back-Ref-subs, Row_of-Expr, end_of-Expr, more_of-Expr, items-the_row-Expr, hidden-the_row-Expr-1, items_hidden-the_row-Expr-1}
use Rattle.syntax_tree.specs.Lexeme.{Lexeme, lexeme_of, lexemes, sign_of, Fixed}
use Rattle.syntax_tree.specs.Operators.{right_place}
use Rattle.syntax_tree.specs.Expression.{Expression, Name, Element, Call, Binary, Parts, Part, One, Range, Glued, End, More, expression, subscripts, arguments, reference, subscript, arguments_of, parts_of}
use Rattle.expr_reader.specs.Reading.{◌>>=◌, Readers, are_arguments, arguments_at, call_at, operand_at, more_with, joined_at, goes_on, apart, part_at, rest_at, is_open, is_close, is_comma, name_with, name_at, at_lexeme, at_end, core_at, list_at, reading}
use Rattle.expr_reader.specs.TokenReading.{EndsWithin, ahead, expression_of, read, with_front, append_parts}
use Rattle.expr_reader.proofs.Equations.{reading_at, reading_at_end, list_all}

subscript_items : {m : _} (row : Row_of-Subscript m) → subscripts row ≡ parts_of (items-the_row-Subscript m row)
subscript_items end_of-Subscript = refl
subscript_items (more_of-Subscript s row) = ap (More (subscript s)) (subscript_items row)

-- what a name with subscripts is, as they lie in memory
pub reference_vec : (x : List ℕ) (v : Vec Subscript Global) → reference x (back-Ref-subs (Some v)) ≡ Element x (parts_of v.items)
reference_vec x v = ap (Element x) (subscript_items (hidden-the_row-Subscript-0 v) ∙ ap parts_of (items_hidden-the_row-Subscript-0 v))

argument_items : {m : _} (row : Row_of-Expr m) → arguments row ≡ arguments_of (items-the_row-Expr m row)
argument_items end_of-Expr = refl
argument_items (more_of-Expr e row) = ap (More (One (expression e))) (argument_items row)

-- the arguments of a call, as they lie in memory
pub call_vec : (v : Vec Expr Global) → arguments (hidden-the_row-Expr-1 v) ≡ arguments_of v.items
call_vec v = argument_items (hidden-the_row-Expr-1 v) ∙ ap arguments_of (items_hidden-the_row-Expr-1 v)

-- the lexemes after some are those of the tokens after as many
pub lexemes_after : (d : ℕ) (ts : List Token) → drop d (lexemes ts) ≡ lexemes (drop d ts)
lexemes_after zero ts = refl
lexemes_after (suc d) [] = refl
lexemes_after (suc d) (t ∷ ts) = lexemes_after d ts

-- what can be read after a place of the tokens, where the tokens after it are given
pub read_after : (ts us : List Token) (n : ℕ) → us ≡ drop n ts → (read us).core.expr 0 ≡ (reading apart (drop n (lexemes ts))).core.expr 0
read_after ts us n h = ap (λ ts. (read ts).core.expr 0) h ∙ ap (λ ts. (reading apart ts).core.expr 0) (sym (lexemes_after n ts))

read_at : (t : Token) (ts : List Token) → read (t ∷ ts) ≡ at_lexeme apart (ahead ts) (lexeme_of t.kind)
read_at t ts = reading_at apart (lexeme_of t.kind) (lexemes ts) ∙ ap (λ f. at_lexeme apart f (lexeme_of t.kind)) (λ i d. reading apart (lexemes_after d ts i))

read_at_end : read [] ≡ at_end apart
read_at_end = reading_at_end apart

core_read : (t : Token) (ts : List Token) → (read (t ∷ ts)).core ≡ core_at (ahead ts) (lexeme_of t.kind)
core_read t ts = ap (λ r. r.core) (read_at t ts)

list_read : (ts : List Token) → (read ts).list ≡ list_at apart (λ d. (ahead ts d).core)
list_read ts = list_all apart (lexemes ts) ∙ ap (list_at apart) (λ i d. (reading apart (lexemes_after d ts i)).core)

next_ahead : (t : Token) (ts : List Token) (m n : ℕ) → m ≡ suc n → ahead (t ∷ ts) m ≡ ahead ts n
next_ahead t ts m n e = ap (λ m. ahead (t ∷ ts) m) e

-- a place of the tokens: past their end, or at one
on_cases : (ts : List Token) (n : ℕ) (P : Readers → Type 0) → P (at_end apart) → ((t : Token) → P (at_lexeme apart (λ d. ahead ts (n + 1 + d)) (lexeme_of t.kind))) → P (ahead ts n)
on_cases [] zero P e s = subst P (sym read_at_end) e
on_cases [] (suc n) P e s = subst P (sym read_at_end) e
on_cases (t ∷ ts) zero P e s =
    subst P (sym (read_at t ts)) (subst P (λ i. at_lexeme apart (λ d. next_ahead t ts (0 + 1 + d) d (omega arith) i) (lexeme_of t.kind)) (s t))
on_cases (t ∷ ts) (suc n) P e s =
    on_cases ts n P e (λ u. subst P (λ i. at_lexeme apart (λ d. next_ahead t ts (suc n + 1 + d) (n + 1 + d) (omega arith) i) (lexeme_of u.kind)) (s u))

pub head_past : (ts : List Token) (n : ℕ) → length ts ≤ n → None ≡ (ahead ts n).core.head
head_past [] zero h = ap (λ r. r.core.head) (sym read_at_end)
head_past [] (suc n) h = ap (λ r. r.core.head) (sym read_at_end)
head_past (t ∷ ts) zero h = absurd (omega arith)
head_past (t ∷ ts) (suc n) h = head_past ts n (omega arith)

pub head_within : (ts : List Token) (n : ℕ) (d : Token) → n < length ts → sign_of (lexeme_of (slice_index_or ts n d).kind) ≡ (ahead ts n).core.head
head_within [] n d h = absurd (omega arith)
head_within (t ∷ ts) zero d h = ap (λ r. r.core.head) (sym (read_at t ts))
head_within (t ∷ ts) (suc n) d h = head_within ts n d (omega arith)

pub expr_none : (ts : List Token) (k : ℕ) → length ts ≡ 0 → None ≡ (read ts).core.expr k
expr_none [] k e = ap (λ r. r.core.expr k) (sym read_at_end)
expr_none (t ∷ ts) k e = absurd (omega arith)

pub expr_step : (ts : List Token) (t : Token) (us : List Token) (k : ℕ) (o : Option (Expression × ℕ)) → ts ≡ t ∷ us
    → o ≡ operand_at (ahead us) k (lexeme_of t.kind) → (o >>= λ e. Some ((ahead ts (e.1 + 1)).core.more k e.0 (e.1 + 1))) ≡ (read ts).core.expr k
expr_step ts t us k o e h =
    ap (λ o. o >>= λ e. Some ((ahead ts (e.1 + 1)).core.more k e.0 (e.1 + 1))) h
    ∙ ap (λ ts. operand_at (ahead us) k (lexeme_of t.kind) >>= λ e. Some ((ahead ts (e.1 + 1)).core.more k e.0 (e.1 + 1))) e
    ∙ (λ i. operand_at (ahead us) k (lexeme_of t.kind) >>= λ e. Some ((next_ahead t us (e.1 + 1) e.1 (omega arith) i).core.more k e.0 (e.1 + 1)))
    ∙ sym (ap (λ c. c.expr k) (core_read t us))
    ∙ ap (λ ts. (read ts).core.expr k) (sym e)

-- one more turn of an expression
pub more_turn : (ts : List Token) (n k : ℕ) (e : Expression) (c : ℕ) (o : Op) (b : Option (Expression × ℕ))
    → Some o ≡ goes_on k e (ahead ts n).core.head → b ≡ (ahead ts (n + 1)).core.expr (right_place o)
    → (ahead ts n).core.more k e c ≡ joined_at (λ d. ahead ts (n + 1 + d)) k e c o b
more_turn ts n k e c o b =
    on_cases ts n
    (λ r. Some o ≡ goes_on k e r.core.head → b ≡ (ahead ts (n + 1)).core.expr (right_place o) → r.core.more k e c ≡ joined_at (λ d. ahead ts (n + 1 + d)) k e c o b)
    (λ h q. absurd cc)
    (λ t h q.
    let z : n + 1 + 0 ≡ n + 1 = omega arith in
    ap (more_with (λ d. ahead ts (n + 1 + d)) k e c) (sym h)
    ∙ ap (joined_at (λ d. ahead ts (n + 1 + d)) k e c o) (ap (λ m. (ahead ts m).core.expr (right_place o)) z ∙ sym q))

-- no more turn
pub more_end : (ts : List Token) (n k : ℕ) (e : Expression) (c : ℕ) → None ≡ goes_on k e (ahead ts n).core.head → (ahead ts n).core.more k e c ≡ (e, c)
more_end ts n k e c =
    on_cases ts n
    (λ r. None ≡ goes_on k e r.core.head → r.core.more k e c ≡ (e, c))
    (λ h. refl)
    (λ t h. ap (more_with (λ d. ahead ts (n + 1 + d)) k e c) (sym h))

pub more_kept : (ts : List Token) (n k : ℕ) (e e' b b' : Expression) (o : Op) (count : ℕ) → e' ≡ e → b' ≡ b
    → Some o ≡ goes_on k e (ahead ts n).core.head → Some (b, count) ≡ (ahead ts (n + 1)).core.expr (right_place o)
    → (ahead ts (n + (count + 1))).core.more k (Binary o e' b') (n + (count + 1)) ≡ (ahead ts n).core.more k e n
more_kept ts n k e e' b b' o count p q h r =
    let z : n + (count + 1) ≡ n + 1 + count = omega arith in
    (λ i. (ahead ts (z i)).core.more k (Binary o (p i) (q i)) (n + (count + 1)))
    ∙ sym (more_turn ts n k e n o (Some (b, count)) h r)

pub more_over : (ts : List Token) (n k : ℕ) (e : Expression) (o : Op) → Some o ≡ goes_on k e (ahead ts n).core.head
    → None ≡ (ahead ts (n + 1)).core.expr (right_place o) → (e, n) ≡ (ahead ts n).core.more k e n
more_over ts n k e o h r = sym (more_turn ts n k e n o None h r)

nil_drop : (n : ℕ) → [] ≡ drop {A = Token} n []
nil_drop zero = refl
nil_drop (suc n) = refl

drop_twice : (n m : ℕ) (ts : List Token) → drop m (drop n ts) ≡ drop (n + m) ts
drop_twice zero m ts = let z : m ≡ zero + m = omega arith in ap (λ m. drop m ts) z
drop_twice (suc n) zero [] = nil_drop (suc n + zero)
drop_twice (suc n) (suc m) [] = nil_drop (suc n + suc m)
drop_twice (suc n) m (t ∷ ts) = let z : suc (n + m) ≡ suc n + m = omega arith in drop_twice n m ts ∙ ap (λ m. drop m (t ∷ ts)) z

close_at : (f : ℕ → Readers) (t : Lexeme) → true ≡ is_close (sign_of t) → rest_at f t ≡ Some (End, 1)
close_at f (Fixed sign.Close) h = refl
close_at f t h = absurd cc

comma_at : (f : ℕ → Readers) (t : Lexeme) → true ≡ is_comma (sign_of t) → rest_at f t ≡ ((f 0).list >>= λ s. Some (s.0, s.1 + 1))
comma_at f (Fixed sign.Comma) h = refl
comma_at f t h = absurd cc

other_at : (f : ℕ → Readers) (t : Lexeme) → false ≡ is_close (sign_of t) → false ≡ is_comma (sign_of t) → rest_at f t ≡ None
other_at f (Fixed sign.Close) h g = absurd cc
other_at f (Fixed sign.Comma) h g = absurd cc
other_at f t h g = refl

rest_close : (ts : List Token) (n : ℕ) → true ≡ is_close (ahead ts n).core.head → (ahead ts n).core.rest ≡ Some (End, 1)
rest_close ts n = on_cases ts n (λ r. true ≡ is_close r.core.head → r.core.rest ≡ Some (End, 1)) (λ h. absurd cc) (λ t. close_at (λ d. ahead ts (n + 1 + d)) (lexeme_of t.kind))

rest_comma : (ts : List Token) (n : ℕ) → true ≡ is_comma (ahead ts n).core.head → (ahead ts n).core.rest ≡ ((ahead ts (n + 1)).list >>= λ s. Some (s.0, s.1 + 1))
rest_comma ts n h =
    let z : n + 1 + 0 ≡ n + 1 = omega arith in
    on_cases ts n (λ r. true ≡ is_comma r.core.head → r.core.rest ≡ ((ahead ts (n + 1 + 0)).list >>= λ s. Some (s.0, s.1 + 1))) (λ h. absurd cc)
    (λ t. comma_at (λ d. ahead ts (n + 1 + d)) (lexeme_of t.kind)) h
    ∙ ap (λ m. (ahead ts m).list >>= λ s. Some (s.0, s.1 + 1)) z

rest_none : (ts : List Token) (n : ℕ) → false ≡ is_close (ahead ts n).core.head → false ≡ is_comma (ahead ts n).core.head → (ahead ts n).core.rest ≡ None
rest_none ts n =
    on_cases ts n (λ r. false ≡ is_close r.core.head → false ≡ is_comma r.core.head → r.core.rest ≡ None) (λ h g. refl)
    (λ t. other_at (λ d. ahead ts (n + 1 + d)) (lexeme_of t.kind))

list_turn : (ts : List Token) (n : ℕ) (s : Option (Part × ℕ)) → s ≡ part_at apart (λ d. (ahead (drop n ts) d).core)
    → (ahead ts n).list ≡ (s >>= λ s. (ahead ts (n + s.1)).core.rest >>= λ ss. Some (More s.0 ss.0, s.1 + ss.1))
list_turn ts n s h =
    list_read (drop n ts)
    ∙ ap (λ s. s >>= λ s. (ahead (drop n ts) s.1).core.rest >>= λ ss. Some (More s.0 ss.0, s.1 + ss.1)) (sym h)
    ∙ (λ i. s >>= λ s. (read (drop_twice n s.1 ts i)).core.rest >>= λ ss. Some (More s.0 ss.0, s.1 + ss.1))

append_parts_more : (items : List Subscript) (s : Subscript) (ss : Parts) → append_parts (parts_of (items ++ s ∷ [])) ss ≡ append_parts (parts_of items) (More (subscript s) ss)
append_parts_more [] s ss = refl
append_parts_more (x ∷ items) s ss = ap (More (subscript x)) (append_parts_more items s ss)

append_parts_end : (items : List Subscript) → append_parts (parts_of items) End ≡ parts_of items
append_parts_end [] = refl
append_parts_end (x ∷ items) = ap (More (subscript x)) (append_parts_end items)

abbrev with_comma : Option (Parts × ℕ) → Option (Parts × ℕ)
with_comma r = r >>= λ s. Some (s.0, s.1 + 1)

module _ (ts : List Token) (items : List Subscript) (n : ℕ) (whole : Option (Parts × ℕ)) (kept : with_front (parts_of items) n (ahead ts n).list ≡ whole) where
  pub list_stops : None ≡ part_at apart (λ d. (ahead (drop n ts) d).core) → None ≡ whole
  list_stops h = sym (ap (with_front (parts_of items) n) (list_turn ts n None h)) ∙ kept

  pub list_closes : (s : Subscript) (count : ℕ) → Some (subscript s, count) ≡ part_at apart (λ d. (ahead (drop n ts) d).core)
      → true ≡ is_close (ahead ts (n + count)).core.head → Some (parts_of (items ++ s ∷ []), n + count + 1) ≡ whole
  list_closes s count h c =
      let z : n + count + 1 ≡ n + (count + 1) = omega arith in
      (λ i. Some ((sym (append_parts_end (items ++ s ∷ [])) ∙ append_parts_more items s End) i, z i))
      ∙ sym
      (ap (with_front (parts_of items) n)
      (list_turn ts n (Some (subscript s, count)) h
      ∙ ap (λ r. r >>= λ ss. Some (More (subscript s) ss.0, count + ss.1)) (rest_close ts (n + count) c)))
      ∙ kept

  pub list_ends : (s : Subscript) (count : ℕ) → Some (subscript s, count) ≡ part_at apart (λ d. (ahead (drop n ts) d).core)
      → false ≡ is_close (ahead ts (n + count)).core.head → false ≡ is_comma (ahead ts (n + count)).core.head → None ≡ whole
  list_ends s count h c d =
      sym
      (ap (with_front (parts_of items) n)
      (list_turn ts n (Some (subscript s, count)) h
      ∙ ap (λ r. r >>= λ ss. Some (More (subscript s) ss.0, count + ss.1)) (rest_none ts (n + count) c d)))
      ∙ kept

  with_more : (s : Subscript) (count : ℕ) (r : Option (Parts × ℕ))
      → with_front (parts_of (items ++ s ∷ [])) (n + count + 1) r
      ≡ with_front (parts_of items) n (with_comma r >>= λ ss. Some (More (subscript s) ss.0, count + ss.1))
  with_more s count None = refl
  with_more s count (Some x) = let z : n + count + 1 + x.1 ≡ n + (count + (x.1 + 1)) = omega arith in λ i. Some (append_parts_more items s x.0 i, z i)

  pub list_goes_on : (s : Subscript) (count : ℕ) → Some (subscript s, count) ≡ part_at apart (λ d. (ahead (drop n ts) d).core)
      → true ≡ is_comma (ahead ts (n + count)).core.head
      → with_front (parts_of (items ++ s ∷ [])) (n + count + 1) (ahead ts (n + count + 1)).list ≡ whole
  list_goes_on s count h c =
      with_more s count (ahead ts (n + count + 1)).list
      ∙ sym
      (ap (with_front (parts_of items) n)
      (list_turn ts n (Some (subscript s, count)) h
      ∙ ap (λ r. r >>= λ ss. Some (More (subscript s) ss.0, count + ss.1)) (rest_comma ts (n + count) c)))
      ∙ kept

pub name_kept : (us : List Token) (x : List ℕ) (s : Option (Parts × ℕ)) → true ≡ is_open (ahead us 0).core.head → s ≡ (ahead us 1).list → name_with x s ≡ name_at (ahead us) x
name_kept us x s h g =
    ap (name_with x) g ∙ ap (λ b. if b then name_with x (ahead us 1).list else (Name x, 0)) h

pub called : (us : List Token) (o : Op) (args args' : Parts) (n : ℕ) → args' ≡ args → true ≡ is_open (ahead us 0).core.head
    → Some (args, n) ≡ arguments_at (ahead us 1) → Some (Call o args', n + 1) ≡ call_at (ahead us) (Some o)
called us o args args' n e h g =
    ap (λ a. Some (Call o a, n + 1)) e
    ∙ ap (λ r. r >>= λ ps. Some (Call o ps.0, ps.1 + 1)) g
    ∙ ap (λ b. if b then (arguments_at (ahead us 1) >>= λ ps. Some (Call o ps.0, ps.1 + 1)) else None) h

-- the end of what was read after a place
pub ends : {X : Type 0} (ts us : List Token) (n : ℕ) (o : Option (X × ℕ)) (x : X) (count : ℕ) → us ≡ drop n ts → n ≤ length ts → o ≡ Some (x, count)
    → EndsWithin o (length us) → n + count ≤ length ts
ends ts us n o x count e h is w =
    let l : length us + n ≡ length ts = omega (arith, ap length e, length-drop n ts) in
    let w' : count ≤ length us = subst (λ o. EndsWithin o (length us)) is w in
    omega arith

-- the expressions that the parts of a list are, one by one
pub no_arguments : (ss : List Subscript) (s : Subscript) (rest : List Subscript) → None ≡ expression_of (subscript s) → are_arguments (parts_of (ss ++ s ∷ rest)) ≡ false
no_arguments [] s rest h = none (subscript s) h
  where
    none : (p : Part) → None ≡ expression_of p → are_arguments (More p (parts_of rest)) ≡ false
    none (One e) h = absurd cc
    none (Range a b c) h = refl
    none (Glued a c) h = refl
no_arguments (t ∷ ss) s rest h = later (subscript t) (no_arguments ss s rest h)
  where
    later : (p : Part) → are_arguments (parts_of (ss ++ s ∷ rest)) ≡ false → are_arguments (More p (parts_of (ss ++ s ∷ rest))) ≡ false
    later (One e) h = h
    later (Range a b c) h = refl
    later (Glued a c) h = refl

one_part : (p : Part) (e : Expression) → Some e ≡ expression_of p → One e ≡ p
one_part (One x) e h = let same : e ≡ x = cc in ap One same
one_part p e h = absurd cc

pub one_more : (ss : List Subscript) (s : Subscript) (e : Expr) → are_arguments (parts_of ss) ≡ true
    → Some (expression e) ≡ expression_of (subscript s) → are_arguments (parts_of (ss ++ s ∷ [])) ≡ true
one_more [] s e h is = ap (λ p. are_arguments (More p End)) (sym (one_part (subscript s) (expression e) is))
one_more (t ∷ ss) s e h is = later (subscript t) h (λ g. one_more ss s e g is)
  where
    later : (p : Part) → are_arguments (More p (parts_of ss)) ≡ true
        → (are_arguments (parts_of ss) ≡ true → are_arguments (parts_of (ss ++ s ∷ [])) ≡ true)
        → are_arguments (More p (parts_of (ss ++ s ∷ []))) ≡ true
    later (One x) h more = more h
    later (Range a b c) h more = absurd cc
    later (Glued a c) h more = absurd cc

pub one_more_same : (es : List Expr) (ss : List Subscript) (s : Subscript) (e : Expr) → arguments_of es ≡ parts_of ss
    → Some (expression e) ≡ expression_of (subscript s) → arguments_of (es ++ e ∷ []) ≡ parts_of (ss ++ s ∷ [])
one_more_same es ss s e same is =
    arguments_push es e ∙ ap (λ ps. append_parts ps (More (One (expression e)) End)) same
    ∙ ap (λ p. append_parts (parts_of ss) (More p End)) (one_part (subscript s) (expression e) is) ∙ sym (append_parts_more ss s End)
    ∙ append_parts_end (ss ++ s ∷ [])
  where
    arguments_push : (es : List Expr) (e : Expr) → arguments_of (es ++ e ∷ []) ≡ append_parts (arguments_of es) (More (One (expression e)) End)
    arguments_push [] e = refl
    arguments_push (x ∷ es) e = ap (More (One (expression x))) (arguments_push es e)
