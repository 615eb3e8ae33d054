-- Two programs that the same lines spell are one.
use Rattle.std.proofs.Common.{◌≡◌, ℕ, nat_eq, nat_lt, if◌then◌else◌, Bool, true, false, List, [], ◌∷◌, ◌++◌, map, Option, Some, None, refl, sym, ap, ◌∙◌, subst, append_assoc, eq-eqb, arith}
use Rattle.std.proofs.lemmas.Bool.Decides.{nat_tests}
use Rattle.syntax_tree.specs.Expression.{Expression, Name}
use Rattle.line_forms.specs.Grammar.{Value}
use Rattle.statement_reader.specs.declared.kind.Kind.TheVariants as kind
use Rattle.statement_reader.specs.Forms as statements
use Rattle.statement_reader.specs.Forms.{do_head, forall_head}
use Rattle.directive_reader.specs.declared.kind.Kind.TheVariants as directive
use Rattle.directive_reader.specs.Forms as directives
use Rattle.directive_reader.specs.Views.{names_in}
use Rattle.construct_rules.specs.declared.role.Role.{Role}
use Rattle.construct_rules.specs.declared.role.Role.TheVariants as role
use Rattle.construct_rules.specs.ProgramLine.{LineContent, OfStatement, OfDirective, ProgramLine}
use Rattle.construct_rules.specs.Roles.{role_of}
use Rattle.construct_reader.specs.SpelledProgram.{SpelledIndependent, SpelledBlock, EmptyBlock, StatementThen, SpelledStatement, SimpleStatement, IndependentForall, IfConstruct, DoConstruct, WhereConstruct, ForallConstruct, IfBlocks, NoIfBlock, IfBlock, ElsePart, NoElse, Else, ProgramEnd, SpelledProgram}
use Rattle.construct_reader.specs.Formed.{IsBlock, IsStatement, AreArms, AreDeclared, AreMore, IsOtherwise, IsProgram}
use Rattle.construct_reader.specs.ProgramLines.{Entry, AreEntriesOf, IsEntryOf, IsSpelled, is_declared, else_if_lines, block_lines, else_if, else_lines, end_do, end_forall, end_if, end_line, end_where, if_lines, kept_lines, name_lines, numbered, unnumbered, statement_lines}
use Rattle.construct_reader.proofs.Starts.{alike, code, else_if_starts, end_do_starts, end_forall_starts, end_if_starts, end_where_starts, entry_roles, role_start, starts, statement_starts}

-- two things are the same, and the same lines are after them
record Same {A : Type 0} (x y : A) (r q : List Entry) : Type 0 where
  same : x ≡ y
  rest : List ProgramLine
  left : AreEntriesOf r rest
  right : AreEntriesOf q rest

false_true : {A : Type 0} → false ≡ true → A
false_true h = absurd cc

-- numbers that aren't the same
apart : {A : Type 0} (m n : ℕ) → m ≡ n → nat_eq m n ≡ false → A
apart m n e h = false_true (sym h ∙ eq-eqb m n e)

grouped : (a b : List Entry) (ls : List ProgramLine) (r : List Entry) → AreEntriesOf ((a ++ b) ++ r) ls → AreEntriesOf (a ++ (b ++ r)) ls
grouped a b ls r h = subst (λ es. AreEntriesOf es ls) (append_assoc a b r) h

-- what parts of lines say
glued_in : LineContent → Bool
glued_in (OfStatement (statements.Plain (kind.EndIf b) v)) = b
glued_in (OfStatement (statements.Plain (kind.EndDo b) v)) = b
glued_in (OfStatement (statements.Plain (kind.EndWhere b) v)) = b
glued_in (OfStatement (statements.Plain (kind.EndForall b) v)) = b
glued_in (OfStatement (statements.Plain (kind.ElseIf b) v)) = b
glued_in w = false

cond_in : LineContent → Expression
cond_in (OfStatement (statements.Plain kind.IfThen v)) = v
cond_in (OfStatement (statements.Plain (kind.ElseIf true) v)) = v
cond_in (OfStatement (statements.Plain (kind.ElseIf false) v)) = v
cond_in (OfStatement (statements.Plain kind.Where v)) = v.0
cond_in w = Name []

do_in : Value do_head → LineContent → Value do_head
do_in d (OfStatement (statements.Plain kind.Do v)) = v
do_in d w = d

forall_in : Value forall_head → LineContent → Value forall_head
forall_in d (OfStatement (statements.Plain kind.Forall v)) = v.0
forall_in d w = d

names_back : Option (List (List ℕ)) → List (List ℕ)
names_back None = []
names_back (Some xs) = xs

names_are : (xs : List (List ℕ)) → names_back (names_in xs) ≡ xs
unfolding names_back
names_are [] = refl
names_are (x ∷ xs) = refl

new_in : LineContent → List (List ℕ)
new_in (OfDirective (directives.Known directive.Independent v)) = names_back v.0
new_in w = []

reduction_in : LineContent → List (List ℕ)
reduction_in (OfDirective (directives.Known directive.Independent v)) = names_back v.1
reduction_in w = []

end_if_same : (a b : Bool) (w : LineContent) → OfStatement (end_if a) ≡ w → OfStatement (end_if b) ≡ w → a ≡ b
unfolding glued_in
end_if_same a b w h g = sym (is a) ∙ ap glued_in (h ∙ sym g) ∙ is b
  where
    is : (b : Bool) → glued_in (OfStatement (end_if b)) ≡ b
    is true = refl
    is false = refl

end_do_same : (a b : Bool) (w : LineContent) → OfStatement (end_do a) ≡ w → OfStatement (end_do b) ≡ w → a ≡ b
unfolding glued_in
end_do_same a b w h g = sym (is a) ∙ ap glued_in (h ∙ sym g) ∙ is b
  where
    is : (b : Bool) → glued_in (OfStatement (end_do b)) ≡ b
    is true = refl
    is false = refl

end_where_same : (a b : Bool) (w : LineContent) → OfStatement (end_where a) ≡ w → OfStatement (end_where b) ≡ w → a ≡ b
unfolding glued_in
end_where_same a b w h g = sym (is a) ∙ ap glued_in (h ∙ sym g) ∙ is b
  where
    is : (b : Bool) → glued_in (OfStatement (end_where b)) ≡ b
    is true = refl
    is false = refl

end_forall_same : (a b : Bool) (w : LineContent) → OfStatement (end_forall a) ≡ w → OfStatement (end_forall b) ≡ w → a ≡ b
unfolding glued_in
end_forall_same a b w h g = sym (is a) ∙ ap glued_in (h ∙ sym g) ∙ is b
  where
    is : (b : Bool) → glued_in (OfStatement (end_forall b)) ≡ b
    is true = refl
    is false = refl

else_if_same : (a b : Bool) (e f : Expression) (w : LineContent) → OfStatement (else_if a e) ≡ w → OfStatement (else_if b f) ≡ w → (a ≡ b) × (e ≡ f)
unfolding glued_in cond_in
else_if_same a b e f w h g = (sym (is a e) ∙ ap glued_in (h ∙ sym g) ∙ is b f, sym (cond a e) ∙ ap cond_in (h ∙ sym g) ∙ cond b f)
  where
    is : (b : Bool) (e : Expression) → glued_in (OfStatement (else_if b e)) ≡ b
    is true e = refl
    is false e = refl

    cond : (b : Bool) (e : Expression) → cond_in (OfStatement (else_if b e)) ≡ e
    cond true e = refl
    cond false e = refl

abbrev SameBlock : SpelledBlock → Type 0
SameBlock b =
    (c : SpelledBlock) (r q : List Entry) (ls : List ProgramLine) → IsBlock b → IsBlock c → nat_lt (starts r) 3 ≡ true → nat_lt (starts q) 3 ≡ true
    → AreEntriesOf (block_lines b ++ r) ls → AreEntriesOf (block_lines c ++ q) ls → Same b c r q

abbrev SameStatement : SpelledStatement → Type 0
SameStatement s =
    (t : SpelledStatement) (r q : List Entry) (ls : List ProgramLine) → IsStatement s → IsStatement t → AreEntriesOf (statement_lines s ++ r) ls
    → AreEntriesOf (statement_lines t ++ q) ls → Same s t r q

-- after arms no ELSE IF stands
abbrev IsAfterArms : List Entry → Type 0
IsAfterArms r = (nat_eq (starts r) 1 ≡ false) × (nat_lt (starts r) 3 ≡ true)

abbrev SameFirst : IfBlocks → Type 0
SameFirst a =
    (b : IfBlocks) (r q : List Entry) (ls : List ProgramLine) → AreArms a → AreArms b → IsAfterArms r → IsAfterArms q
    → AreEntriesOf (if_lines a ++ r) ls → AreEntriesOf (if_lines b ++ q) ls → Same a b r q

abbrev SameMore : IfBlocks → Type 0
SameMore a =
    (b : IfBlocks) (r q : List Entry) (ls : List ProgramLine) → AreMore a → AreMore b → IsAfterArms r → IsAfterArms q
    → AreEntriesOf (else_if_lines a ++ r) ls → AreEntriesOf (else_if_lines b ++ q) ls → Same a b r q

abbrev SameOther : ElsePart → Type 0
SameOther a =
    (w : LineContent) (b : ElsePart) (r q : List Entry) (ls : List ProgramLine) → ((x : List Entry) → starts (unnumbered w ∷ x) ≡ 2) → IsOtherwise a
    → IsOtherwise b → starts r ≡ 0 → starts q ≡ 0 → AreEntriesOf (else_lines w a ++ r) ls → AreEntriesOf (else_lines w b ++ q) ls → Same a b r q

-- blocks
code_large : (s : SpelledStatement) → nat_lt (code s) 3 ≡ false
code_large (SimpleStatement l) = refl
code_large (IndependentForall l) = refl
code_large (IfConstruct arms other glued) = refl
code_large (DoConstruct None number head body glued) = refl
code_large (DoConstruct (Some m) number head body glued) = refl
code_large (WhereConstruct number mask body other glued) = refl
code_large (ForallConstruct false number head body glued) = refl
code_large (ForallConstruct true number head body glued) = refl

-- where a block goes on it doesn't end
goes_on : {A : Type 0} (s : SpelledStatement) (b : SpelledBlock) (r q : List Entry) (ls : List ProgramLine) → IsStatement s
    → nat_lt (starts q) 3 ≡ true → AreEntriesOf ((statement_lines s ++ block_lines b) ++ r) ls → AreEntriesOf q ls → A
goes_on s b r q ls is tail h g =
    let e = sym (statement_starts s (block_lines b ++ r) is) ∙ alike (statement_lines s ++ (block_lines b ++ r)) q ls (grouped (statement_lines s) (block_lines b) ls r h) g in
    false_true (sym (code_large s) ∙ ap (λ n. nat_lt n 3) e ∙ tail)

done_step : SameBlock EmptyBlock
done_step EmptyBlock r q ls is it hr hq h g = record { same = refl; rest = ls; left = h; right = g }
done_step (StatementThen t c) r q ls is it hr hq h g = goes_on t c q r ls it.0 hr g h

then_step : (s : SpelledStatement) (b : SpelledBlock) → SameStatement s → SameBlock b → SameBlock (StatementThen s b)
then_step s b f k EmptyBlock r q ls is it hr hq h g = goes_on s b r q ls is.0 hq h g
then_step s b f k (StatementThen t c) r q ls is it hr hq h g =
    let x = f t (block_lines b ++ r) (block_lines c ++ q) ls is.0 it.0 (grouped (statement_lines s) (block_lines b) ls r h) (grouped (statement_lines t) (block_lines c) ls q g) in
    let y = k c r q x.rest is.1 it.1 hr hq x.left x.right in
    record { same = λ i. StatementThen (x.same i) (y.same i); rest = y.rest; left = y.left; right = y.right }

-- ELSE and ELSEWHERE
other_tail : (w : LineContent) (a : ElsePart) (r : List Entry) → ((x : List Entry) → starts (unnumbered w ∷ x) ≡ 2) → starts r ≡ 0 → IsAfterArms (else_lines w a ++ r)
other_tail w NoElse r two e = (ap (λ n. nat_eq n 1) e, ap (λ n. nat_lt n 3) e)
other_tail w (Else b) r two e = (ap (λ n. nat_eq n 1) (two (block_lines b ++ r)), ap (λ n. nat_lt n 3) (two (block_lines b ++ r)))

without_step : SameOther NoElse
without_step w NoElse r q ls two is it hr hq h g = record { same = refl; rest = ls; left = h; right = g }
without_step w (Else b) r q ls two is it hr hq h g = apart 0 2 (sym hr ∙ alike r (unnumbered w ∷ (block_lines b ++ q)) ls h g ∙ two (block_lines b ++ q)) refl

with_step : (b : SpelledBlock) → SameBlock b → SameOther (Else b)
with_step b f w NoElse r q ls two is it hr hq h g = apart 0 2 (sym hq ∙ alike q (unnumbered w ∷ (block_lines b ++ r)) ls g h ∙ two (block_lines b ++ r)) refl
with_step b f w (Else c) r q [] two is it hr hq h g = absurd h
with_step b f w (Else c) r q (l ∷ ls) two is it hr hq h g =
    let x = f c r q ls is it (ap (λ n. nat_lt n 3) hr) (ap (λ n. nat_lt n 3) hq) h.1 g.1 in
    record { same = ap Else x.same; rest = x.rest; left = x.left; right = x.right }

-- arms
more_tail : (a : IfBlocks) (r : List Entry) → nat_lt (starts r) 3 ≡ true → nat_lt (starts (else_if_lines a ++ r)) 3 ≡ true
more_tail NoIfBlock r h = h
more_tail (IfBlock n cond body glued arms) r h = ap (λ n. nat_lt n 3) (else_if_starts (Some n) glued cond ((block_lines body ++ else_if_lines arms) ++ r))

no_more_step : SameMore NoIfBlock
no_more_step NoIfBlock r q ls is it hr hq h g = record { same = refl; rest = ls; left = h; right = g }
no_more_step (IfBlock n cond body glued arms) r q ls is it hr hq h g =
    let x = (block_lines body ++ else_if_lines arms) ++ q in
    apart (starts r) 1 (alike r ((Some n, OfStatement (else_if glued cond)) ∷ x) ls h g ∙ else_if_starts (Some n) glued cond x) hr.0

more_step : (n : ℕ) (cond : Expression) (body : SpelledBlock) (glued : Bool) (arms : IfBlocks) → SameBlock body → SameMore arms → SameMore (IfBlock n cond body glued arms)
more_step n cond body glued arms f k NoIfBlock r q ls is it hr hq h g =
    let x = (block_lines body ++ else_if_lines arms) ++ r in
    apart (starts q) 1 (alike q ((Some n, OfStatement (else_if glued cond)) ∷ x) ls g h ∙ else_if_starts (Some n) glued cond x) hq.0
more_step n cond body glued arms f k (IfBlock n' cond' body' glued' arms') r q [] is it hr hq h g = absurd h
more_step n cond body glued arms f k (IfBlock n' cond' body' glued' arms') r q (l ∷ ls) is it hr hq h g =
    let e = else_if_same glued glued' cond cond' l.what h.0.0 g.0.0 in
    let m = h.0.1 ∙ sym g.0.1 in
    let x =
    f body' (else_if_lines arms ++ r) (else_if_lines arms' ++ q) ls is.0 it.0 (more_tail arms r hr.1) (more_tail arms' q hq.1)
    (grouped (block_lines body) (else_if_lines arms) ls r h.1) (grouped (block_lines body') (else_if_lines arms') ls q g.1) in
    let y = k arms' r q x.rest is.1 it.1 hr hq x.left x.right in
    record { same = λ i. IfBlock (m i) (e.1 i) (x.same i) (e.0 i) (y.same i); rest = y.rest; left = y.left; right = y.right }

no_first_step : SameFirst NoIfBlock
no_first_step b r q ls is it hr hq h g = absurd is

first_step : (n : ℕ) (cond : Expression) (body : SpelledBlock) (glued : Bool) (arms : IfBlocks) → SameBlock body → SameMore arms → SameFirst (IfBlock n cond body glued arms)
unfolding cond_in
first_step n cond body glued arms f k NoIfBlock r q ls is it hr hq h g = absurd it
first_step n cond body glued arms f k (IfBlock n' cond' body' glued' arms') r q [] is it hr hq h g = absurd h
first_step n cond body glued arms f k (IfBlock n' cond' body' glued' arms') r q (l ∷ ls) is it hr hq h g =
    let e : cond ≡ cond' = ap cond_in (h.0.0 ∙ sym g.0.0) in
    let m = h.0.1 ∙ sym g.0.1 in
    let d : glued ≡ glued' = is.0 ∙ sym it.0 in
    let x =
    f body' (else_if_lines arms ++ r) (else_if_lines arms' ++ q) ls is.1 it.1 (more_tail arms r hr.1) (more_tail arms' q hq.1)
    (grouped (block_lines body) (else_if_lines arms) ls r h.1) (grouped (block_lines body') (else_if_lines arms') ls q g.1) in
    let y = k arms' r q x.rest is.2 it.2 hr hq x.left x.right in
    record { same = λ i. IfBlock (m i) (e i) (x.same i) (d i) (y.same i); rest = y.rest; left = y.left; right = y.right }

-- statements of one kind
abbrev kind_code : SpelledStatement → ℕ
kind_code (SimpleStatement l) = 0
kind_code (IndependentForall l) = 1
kind_code (IfConstruct arms other glued) = 2
kind_code (DoConstruct mark number head body glued) = 3
kind_code (WhereConstruct number mask body other glued) = 4
kind_code (ForallConstruct marked number head body glued) = 5

coarse : ℕ → ℕ
coarse n = if nat_eq n 3 then 0 else if nat_eq n 4 then 1 else if nat_eq n 5 then 2 else if nat_lt n 8 then 3 else if nat_eq n 8 then 4 else 5

kind_is : (s : SpelledStatement) → coarse (code s) ≡ kind_code s
unfolding coarse
kind_is (SimpleStatement l) = refl
kind_is (IndependentForall l) = refl
kind_is (IfConstruct arms other glued) = refl
kind_is (DoConstruct None number head body glued) = refl
kind_is (DoConstruct (Some m) number head body glued) = refl
kind_is (WhereConstruct number mask body other glued) = refl
kind_is (ForallConstruct false number head body glued) = refl
kind_is (ForallConstruct true number head body glued) = refl

same_code : (s t : SpelledStatement) (r q : List Entry) (ls : List ProgramLine) → IsStatement s → IsStatement t
    → AreEntriesOf (statement_lines s ++ r) ls → AreEntriesOf (statement_lines t ++ q) ls → code s ≡ code t
same_code s t r q ls is it h g = sym (statement_starts s r is) ∙ alike (statement_lines s ++ r) (statement_lines t ++ q) ls h g ∙ statement_starts t q it

same_kind : (s t : SpelledStatement) (r q : List Entry) (ls : List ProgramLine) → IsStatement s → IsStatement t
    → AreEntriesOf (statement_lines s ++ r) ls → AreEntriesOf (statement_lines t ++ q) ls → kind_code s ≡ kind_code t
same_kind s t r q ls is it h g = sym (kind_is s) ∙ ap coarse (same_code s t r q ls is it h g) ∙ kind_is t

single_step : (l : ProgramLine) → SameStatement (SimpleStatement l)
single_step l (SimpleStatement m) r q [] is it h g = absurd h
single_step l (SimpleStatement m) r q (k ∷ ls) is it h g = record {
  same = λ i. SimpleStatement record { number = (h.0.1 ∙ sym g.0.1) i; what = (h.0.0 ∙ sym g.0.0) i };
  rest = ls;
  left = h.1;
  right = g.1;
}
single_step l t r q ls is it h g = apart 0 (kind_code t) (same_kind (SimpleStatement l) t r q ls is it h g) refl

marked_step : (l : ProgramLine) → SameStatement (IndependentForall l)
marked_step l (IndependentForall m) r q [] is it h g = absurd h
marked_step l (IndependentForall m) r q (j ∷ []) is it h g = absurd h.1
marked_step l (IndependentForall m) r q (j ∷ k ∷ ls) is it h g = record {
  same = λ i. IndependentForall record { number = (h.1.0.1 ∙ sym g.1.0.1) i; what = (h.1.0.0 ∙ sym g.1.0.0) i };
  rest = ls;
  left = h.1.1;
  right = g.1.1;
}
marked_step l t r q ls is it h g = apart 1 (kind_code t) (same_kind (IndependentForall l) t r q ls is it h g) refl

-- IF
branches_step : (arms : IfBlocks) (other : ElsePart) (glued : Bool) → SameFirst arms → SameOther other → SameStatement (IfConstruct arms other glued)
branches_step arms other glued f k (IfConstruct arms' other' glued') r q ls is it h g =
    let w = OfStatement (statements.Plain kind.Else tt) in
    let e = unnumbered (OfStatement (end_if glued)) ∷ r in
    let e' = unnumbered (OfStatement (end_if glued')) ∷ q in
    let x =
    f arms' (else_lines w other ++ e) (else_lines w other' ++ e') ls is.0 it.0
    (other_tail w other e (λ x. refl) (end_if_starts glued r)) (other_tail w other' e' (λ x. refl) (end_if_starts glued' q))
    (grouped (if_lines arms) (else_lines w other) ls e (grouped (if_lines arms ++ else_lines w other) (unnumbered (OfStatement (end_if glued)) ∷ []) ls r h))
    (grouped (if_lines arms') (else_lines w other') ls e' (grouped (if_lines arms' ++ else_lines w other') (unnumbered (OfStatement (end_if glued')) ∷ []) ls q g)) in
    let y = k w other' e e' x.rest (λ x. refl) is.1 it.1 (end_if_starts glued r) (end_if_starts glued' q) x.left x.right in
    ends y.rest y.left y.right x.same y.same
  where
    ends : (ls : List ProgramLine) → AreEntriesOf (unnumbered (OfStatement (end_if glued)) ∷ r) ls
        → AreEntriesOf (unnumbered (OfStatement (end_if glued')) ∷ q) ls → arms ≡ arms' → other ≡ other'
        → Same (IfConstruct arms other glued) (IfConstruct arms' other' glued') r q
    ends [] h g x y = absurd h
    ends (l ∷ ls) h g x y = record { same = λ i. IfConstruct (x i) (y i) (end_if_same glued glued' l.what h.0.0 g.0.0 i); rest = ls; left = h.1; right = g.1 }
branches_step arms other glued f k t r q ls is it h g = apart 2 (kind_code t) (same_kind (IfConstruct arms other glued) t r q ls is it h g) refl

-- DO
module _ (F : ℕ → Value do_head → SpelledBlock → Bool → SpelledStatement) where
  loop_core : (n n' : ℕ) (head head' : Value do_head) (body body' : SpelledBlock) (glued glued' : Bool) → SameBlock body
      → (r q : List Entry) (ls : List ProgramLine) → IsBlock body → IsBlock body'
      → AreEntriesOf
      ((Some n, OfStatement (statements.Plain kind.Do head)) ∷ ((block_lines body ++ unnumbered (OfStatement (end_do glued)) ∷ []) ++ r)) ls
      → AreEntriesOf
      ((Some n', OfStatement (statements.Plain kind.Do head')) ∷ ((block_lines body' ++ unnumbered (OfStatement (end_do glued')) ∷ []) ++ q)) ls
      → Same (F n head body glued) (F n' head' body' glued') r q
  unfolding do_in
  loop_core n n' head head' body body' glued glued' f r q [] is it h g = absurd h
  loop_core n n' head head' body body' glued glued' f r q (l ∷ ls) is it h g =
      let e = unnumbered (OfStatement (end_do glued)) ∷ r in
      let e' = unnumbered (OfStatement (end_do glued')) ∷ q in
      let x =
      f body' e e' ls is it (ap (λ n. nat_lt n 3) (end_do_starts glued r)) (ap (λ n. nat_lt n 3) (end_do_starts glued' q))
      (grouped (block_lines body) (unnumbered (OfStatement (end_do glued)) ∷ []) ls r h.1) (grouped (block_lines body') (unnumbered (OfStatement (end_do glued')) ∷ []) ls q g.1) in
      ends x.rest x.left x.right x.same (ap (do_in head) (h.0.0 ∙ sym g.0.0)) (h.0.1 ∙ sym g.0.1)
    where
      ends : (ls : List ProgramLine) → AreEntriesOf (unnumbered (OfStatement (end_do glued)) ∷ r) ls
          → AreEntriesOf (unnumbered (OfStatement (end_do glued')) ∷ q) ls → body ≡ body' → head ≡ head' → n ≡ n'
          → Same (F n head body glued) (F n' head' body' glued') r q
      ends [] h g x y z = absurd h
      ends (l ∷ ls) h g x y z = record { same = λ i. F (z i) (y i) (x i) (end_do_same glued glued' l.what h.0.0 g.0.0 i); rest = ls; left = h.1; right = g.1 }

mark_same : (m m' : SpelledIndependent) (l : ProgramLine)
    → IsEntryOf (Some m.number, OfDirective (directives.Known directive.Independent (names_in m.new, names_in m.reduction))) l
    → IsEntryOf (Some m'.number, OfDirective (directives.Known directive.Independent (names_in m'.new, names_in m'.reduction))) l → m ≡ m'
unfolding new_in reduction_in
mark_same m m' l h g =
    let e = h.0 ∙ sym g.0 in
    let new : m.new ≡ m'.new = sym (names_are m.new) ∙ ap new_in e ∙ names_are m'.new in
    let reduction : m.reduction ≡ m'.reduction = sym (names_are m.reduction) ∙ ap reduction_in e ∙ names_are m'.reduction in
    λ i. record { number = (h.1 ∙ sym g.1) i; new = new i; reduction = reduction i }

loop_step : (mark : Option SpelledIndependent) (n : ℕ) (head : Value do_head) (body : SpelledBlock) (glued : Bool) → SameBlock body
    → SameStatement (DoConstruct mark n head body glued)
loop_step mark n head body glued f (DoConstruct mark' n' head' body' glued') r q ls is it h g = by_marks mark mark' ls is it h g
  where
    by_marks : (mark mark' : Option SpelledIndependent) (ls : List ProgramLine) → IsStatement (DoConstruct mark n head body glued)
        → IsStatement (DoConstruct mark' n' head' body' glued') → AreEntriesOf (statement_lines (DoConstruct mark n head body glued) ++ r) ls
        → AreEntriesOf (statement_lines (DoConstruct mark' n' head' body' glued') ++ q) ls
        → Same (DoConstruct mark n head body glued) (DoConstruct mark' n' head' body' glued') r q
    by_marks None None ls is it h g = loop_core (DoConstruct None) n n' head head' body body' glued glued' f r q ls is it h g
    by_marks None (Some m) ls is it h g = apart 6 7 (same_code (DoConstruct None n head body glued) (DoConstruct (Some m) n' head' body' glued') r q ls is it h g) refl
    by_marks (Some m) None ls is it h g = apart 7 6 (same_code (DoConstruct (Some m) n head body glued) (DoConstruct None n' head' body' glued') r q ls is it h g) refl
    by_marks (Some m) (Some m') [] is it h g = absurd h
    by_marks (Some m) (Some m') (l ∷ ls) is it h g =
        let x = loop_core (DoConstruct (Some m)) n n' head head' body body' glued glued' f r q ls is it h.1 g.1 in
        record { same = x.same ∙ ap (λ m. DoConstruct (Some m) n' head' body' glued') (mark_same m m' l h.0 g.0); rest = x.rest; left = x.left; right = x.right }
loop_step mark n head body glued f t r q ls is it h g = apart 3 (kind_code t) (same_kind (DoConstruct mark n head body glued) t r q ls is it h g) refl

-- WHERE
masked_step : (n : ℕ) (mask : Expression) (body : SpelledBlock) (other : ElsePart) (glued : Bool) → SameBlock body → SameOther other
    → SameStatement (WhereConstruct n mask body other glued)
unfolding cond_in
masked_step n mask body other glued f k (WhereConstruct n' mask' body' other' glued') r q [] is it h g = absurd h
masked_step n mask body other glued f k (WhereConstruct n' mask' body' other' glued') r q (l ∷ ls) is it h g =
    let w = OfStatement (statements.Plain (kind.ElseWhere true) tt) in
    let e = unnumbered (OfStatement (end_where glued)) ∷ r in
    let e' = unnumbered (OfStatement (end_where glued')) ∷ q in
    let x =
    f body' (else_lines w other ++ e) (else_lines w other' ++ e') ls is.0 it.0
    (other_tail w other e (λ x. refl) (end_where_starts glued r)).1 (other_tail w other' e' (λ x. refl) (end_where_starts glued' q)).1
    (grouped (block_lines body) (else_lines w other) ls e (grouped (block_lines body ++ else_lines w other) (unnumbered (OfStatement (end_where glued)) ∷ []) ls r h.1))
    (grouped (block_lines body') (else_lines w other') ls e' (grouped (block_lines body' ++ else_lines w other') (unnumbered (OfStatement (end_where glued')) ∷ []) ls q g.1)) in
    let y = k w other' e e' x.rest (λ x. refl) is.1 it.1 (end_where_starts glued r) (end_where_starts glued' q) x.left x.right in
    ends y.rest y.left y.right x.same y.same (ap cond_in (h.0.0 ∙ sym g.0.0)) (h.0.1 ∙ sym g.0.1)
  where
    ends : (ls : List ProgramLine) → AreEntriesOf (unnumbered (OfStatement (end_where glued)) ∷ r) ls
        → AreEntriesOf (unnumbered (OfStatement (end_where glued')) ∷ q) ls → body ≡ body' → other ≡ other' → mask ≡ mask' → n ≡ n'
        → Same (WhereConstruct n mask body other glued) (WhereConstruct n' mask' body' other' glued') r q
    ends [] h g x y z u = absurd h
    ends (l ∷ ls) h g x y z u = record { same = λ i. WhereConstruct (u i) (z i) (x i) (y i) (end_where_same glued glued' l.what h.0.0 g.0.0 i); rest = ls; left = h.1; right = g.1 }
masked_step n mask body other glued f k t r q ls is it h g = apart 4 (kind_code t) (same_kind (WhereConstruct n mask body other glued) t r q ls is it h g) refl

-- FORALL
forall_core : (marked : Bool) (n n' : ℕ) (head head' : Value forall_head) (body body' : SpelledBlock) (glued glued' : Bool) → SameBlock body
    → (r q : List Entry) (ls : List ProgramLine) → IsBlock body → IsBlock body'
    → AreEntriesOf
    ((Some n, OfStatement (statements.Plain kind.Forall (head, None)))
    ∷ ((block_lines body ++ unnumbered (OfStatement (end_forall glued)) ∷ []) ++ r)) ls
    → AreEntriesOf
    ((Some n', OfStatement (statements.Plain kind.Forall (head', None)))
    ∷ ((block_lines body' ++ unnumbered (OfStatement (end_forall glued')) ∷ []) ++ q)) ls
    → Same (ForallConstruct marked n head body glued) (ForallConstruct marked n' head' body' glued') r q
unfolding forall_in
forall_core marked n n' head head' body body' glued glued' f r q [] is it h g = absurd h
forall_core marked n n' head head' body body' glued glued' f r q (l ∷ ls) is it h g =
    let e = unnumbered (OfStatement (end_forall glued)) ∷ r in
    let e' = unnumbered (OfStatement (end_forall glued')) ∷ q in
    let x =
    f body' e e' ls is it (ap (λ n. nat_lt n 3) (end_forall_starts glued r)) (ap (λ n. nat_lt n 3) (end_forall_starts glued' q))
    (grouped (block_lines body) (unnumbered (OfStatement (end_forall glued)) ∷ []) ls r h.1)
    (grouped (block_lines body') (unnumbered (OfStatement (end_forall glued')) ∷ []) ls q g.1) in
    ends x.rest x.left x.right x.same (ap (forall_in head) (h.0.0 ∙ sym g.0.0)) (h.0.1 ∙ sym g.0.1)
  where
    ends : (ls : List ProgramLine) → AreEntriesOf (unnumbered (OfStatement (end_forall glued)) ∷ r) ls
        → AreEntriesOf (unnumbered (OfStatement (end_forall glued')) ∷ q) ls → body ≡ body' → head ≡ head' → n ≡ n'
        → Same (ForallConstruct marked n head body glued) (ForallConstruct marked n' head' body' glued') r q
    ends [] h g x y z = absurd h
    ends (l ∷ ls) h g x y z = record {
      same = λ i. ForallConstruct marked (z i) (y i) (x i) (end_forall_same glued glued' l.what h.0.0 g.0.0 i);
      rest = ls;
      left = h.1;
      right = g.1;
    }

indexed_step : (marked : Bool) (n : ℕ) (head : Value forall_head) (body : SpelledBlock) (glued : Bool) → SameBlock body → SameStatement (ForallConstruct marked n head body glued)
indexed_step marked n head body glued f (ForallConstruct marked' n' head' body' glued') r q ls is it h g = by_marks marked marked' ls is it h g
  where
    by_marks : (marked marked' : Bool) (ls : List ProgramLine) → IsStatement (ForallConstruct marked n head body glued)
        → IsStatement (ForallConstruct marked' n' head' body' glued')
        → AreEntriesOf (statement_lines (ForallConstruct marked n head body glued) ++ r) ls
        → AreEntriesOf (statement_lines (ForallConstruct marked' n' head' body' glued') ++ q) ls
        → Same (ForallConstruct marked n head body glued) (ForallConstruct marked' n' head' body' glued') r q
    by_marks false false ls is it h g = forall_core false n n' head head' body body' glued glued' f r q ls is it h g
    by_marks false true ls is it h g = apart 9 10 (same_code (ForallConstruct false n head body glued) (ForallConstruct true n' head' body' glued') r q ls is it h g) refl
    by_marks true false ls is it h g = apart 10 9 (same_code (ForallConstruct true n head body glued) (ForallConstruct false n' head' body' glued') r q ls is it h g) refl
    by_marks true true [] is it h g = absurd h
    by_marks true true (l ∷ ls) is it h g = forall_core true n n' head head' body body' glued glued' f r q ls is it h.1 g.1
indexed_step marked n head body glued f t r q ls is it h g = apart 5 (kind_code t) (same_kind (ForallConstruct marked n head body glued) t r q ls is it h g) refl

mutual
  same_block : (b : SpelledBlock) → SameBlock b
  same_block EmptyBlock = done_step
  same_block (StatementThen s b) = then_step s b (same_statement s) (same_block b)

  same_statement : (s : SpelledStatement) → SameStatement s
  same_statement (SimpleStatement l) = single_step l
  same_statement (IndependentForall l) = marked_step l
  same_statement (IfConstruct arms other glued) = branches_step arms other glued (same_first arms) (same_other other)
  same_statement (DoConstruct mark n head body glued) = loop_step mark n head body glued (same_block body)
  same_statement (WhereConstruct n mask body other glued) = masked_step n mask body other glued (same_block body) (same_other other)
  same_statement (ForallConstruct marked n head body glued) = indexed_step marked n head body glued (same_block body)

  same_first : (a : IfBlocks) → SameFirst a
  same_first NoIfBlock = no_first_step
  same_first (IfBlock n cond body glued arms) = first_step n cond body glued arms (same_block body) (same_more arms)

  same_more : (a : IfBlocks) → SameMore a
  same_more NoIfBlock = no_more_step
  same_more (IfBlock n cond body glued arms) = more_step n cond body glued arms (same_block body) (same_more arms)

  same_other : (a : ElsePart) → SameOther a
  same_other NoElse = without_step
  same_other (Else b) = with_step b (same_block b)

-- declarations
declared_starts : (l : ProgramLine) (r : List Entry) → is_declared (role_of l.what) ≡ true → starts (numbered l ∷ r) ≡ 11
declared_starts l r h = by_role (role_of l.what) (entry_roles r) h
  where
    by_role : (k : Role) (rs : List Role) → is_declared k ≡ true → role_start k rs ≡ 11
    by_role role.Declaration rs h = refl
    by_role role.SpecificationDirective rs h = refl
    by_role role.Passed rs h = refl
    by_role k rs h = absurd cc

same_declarations : (ds es : List ProgramLine) (r q : List Entry) (ls : List ProgramLine) → AreDeclared ds → AreDeclared es
    → nat_eq (starts r) 11 ≡ false → nat_eq (starts q) 11 ≡ false → AreEntriesOf (map numbered ds ++ r) ls → AreEntriesOf (map numbered es ++ q) ls
    → Same ds es r q
same_declarations [] [] r q ls is it hr hq h g = record { same = refl; rest = ls; left = h; right = g }
same_declarations [] (e ∷ es) r q ls is it hr hq h g = apart (starts r) 11 (alike r (numbered e ∷ (map numbered es ++ q)) ls h g ∙ declared_starts e (map numbered es ++ q) it.0) hr
same_declarations (d ∷ ds) [] r q ls is it hr hq h g = apart (starts q) 11 (alike q (numbered d ∷ (map numbered ds ++ r)) ls g h ∙ declared_starts d (map numbered ds ++ r) is.0) hq
same_declarations (d ∷ ds) (e ∷ es) r q [] is it hr hq h g = absurd h
same_declarations (d ∷ ds) (e ∷ es) r q (l ∷ ls) is it hr hq h g =
    let x = same_declarations ds es r q ls is.1 it.1 hr hq h.1 g.1 in
    record {
      same = λ i. record { number = (h.0.1 ∙ sym g.0.1) i; what = (h.0.0 ∙ sym g.0.0) i } ∷ x.same i;
      rest = x.rest;
      left = x.left;
      right = x.right;
    }

-- what a block and END begin with is neither PROGRAM nor a declaration
code_small : (n : ℕ) (s : SpelledStatement) → nat_lt 10 n ≡ true → nat_eq (code s) n ≡ false
code_small n s h = other (code s) n (few s) h
  where
    few : (s : SpelledStatement) → nat_lt 10 (code s) ≡ false
    few (SimpleStatement l) = refl
    few (IndependentForall l) = refl
    few (IfConstruct arms other glued) = refl
    few (DoConstruct None number head body glued) = refl
    few (DoConstruct (Some m) number head body glued) = refl
    few (WhereConstruct number mask body other glued) = refl
    few (ForallConstruct false number head body glued) = refl
    few (ForallConstruct true number head body glued) = refl

    other : (m n : ℕ) → nat_lt 10 m ≡ false → nat_lt 10 n ≡ true → nat_eq m n ≡ false
    other m n h g = grind (arith, nat_tests)

block_starts : (n : ℕ) (b : SpelledBlock) (e : ProgramEnd) → IsBlock b → nat_lt 10 n ≡ true → nat_eq 0 n ≡ false → nat_eq (starts (block_lines b ++ end_line e ∷ [])) n ≡ false
block_starts n EmptyBlock e is h z = z
block_starts n (StatementThen s b) e is h z =
    ap (λ es. nat_eq (starts es) n) (append_assoc (statement_lines s) (block_lines b) (end_line e ∷ []))
    ∙ ap (λ m. nat_eq m n) (statement_starts s (block_lines b ++ end_line e ∷ []) is.0)
    ∙ code_small n s h

body_starts : (ds : List ProgramLine) (b : SpelledBlock) (e : ProgramEnd) → AreDeclared ds → IsBlock b
    → nat_eq (starts (map numbered ds ++ (block_lines b ++ end_line e ∷ []))) 12 ≡ false
body_starts [] b e is it = block_starts 12 b e it refl refl
body_starts (d ∷ ds) b e is it = ap (λ n. nat_eq n 12) (declared_starts d (map numbered ds ++ (block_lines b ++ end_line e ∷ [])) is.0)

name_in : LineContent → List ℕ
name_in (OfStatement (statements.Plain kind.Program v)) = v
name_in w = []

end_in : LineContent → Option (Option (List ℕ))
end_in (OfStatement (statements.Plain kind.End v)) = v
end_in w = None

same_name : (n m : Option (List ℕ)) (r q : List Entry) (ls : List ProgramLine) → nat_eq (starts r) 12 ≡ false → nat_eq (starts q) 12 ≡ false
    → AreEntriesOf (name_lines n ++ r) ls → AreEntriesOf (name_lines m ++ q) ls → Same n m r q
unfolding name_in
same_name None None r q ls hr hq h g = record { same = refl; rest = ls; left = h; right = g }
same_name None (Some y) r q ls hr hq h g = apart (starts r) 12 (alike r (name_lines (Some y) ++ q) ls h g) hr
same_name (Some x) None r q ls hr hq h g = apart (starts q) 12 (alike q (name_lines (Some x) ++ r) ls g h) hq
same_name (Some x) (Some y) r q [] hr hq h g = absurd h
same_name (Some x) (Some y) r q (l ∷ ls) hr hq h g = record { same = λ i. Some (name_in ((h.0.0 ∙ sym g.0.0) i)); rest = ls; left = h.1; right = g.1 }

same_end : (d e : ProgramEnd) (ls : List ProgramLine) → AreEntriesOf (end_line d ∷ []) ls → AreEntriesOf (end_line e ∷ []) ls → d ≡ e
unfolding end_in
same_end d e [] h g = absurd h
same_end d e (l ∷ ls) h g = λ i. record { what = end_in ((h.0.0 ∙ sym g.0.0) i); number = (h.0.1 ∙ sym g.0.1) i }

regrouped : (a b c d : List Entry) (ls : List ProgramLine) → AreEntriesOf (((a ++ b) ++ c) ++ d) ls → AreEntriesOf (a ++ (b ++ (c ++ d))) ls
regrouped a b c d ls h = subst (λ es. AreEntriesOf es ls) (append_assoc (a ++ b) c d ∙ append_assoc a b (c ++ d)) h

-- two programs that the same lines spell are one
pub same_program : (p q : SpelledProgram) → IsProgram p → IsProgram q → (ls : List ProgramLine) → IsSpelled ls p → IsSpelled ls q → p ≡ q
same_program p q is it ls h g =
    let e = end_line p.finish ∷ [] in
    let e' = end_line q.finish ∷ [] in
    let x =
    same_name p.name q.name (map numbered p.declarations ++ (block_lines p.body ++ e)) (map numbered q.declarations ++ (block_lines q.body ++ e')) (kept_lines ls)
    (body_starts p.declarations p.body p.finish is.0 is.1) (body_starts q.declarations q.body q.finish it.0 it.1)
    (regrouped (name_lines p.name) (map numbered p.declarations) (block_lines p.body) e (kept_lines ls) h)
    (regrouped (name_lines q.name) (map numbered q.declarations) (block_lines q.body) e' (kept_lines ls) g) in
    let y =
    same_declarations p.declarations q.declarations (block_lines p.body ++ e) (block_lines q.body ++ e') x.rest is.0 it.0
    (block_starts 11 p.body p.finish is.1 refl refl) (block_starts 11 q.body q.finish it.1 refl refl) x.left x.right in
    let z = same_block p.body q.body e e' y.rest is.1 it.1 refl refl y.left y.right in
    let u = same_end p.finish q.finish z.rest z.left z.right in
    λ i. record { name = x.same i; declarations = y.same i; body = z.same i; finish = u i }
