-- What begins at a line of a program, by what the lines are to those round them.
use Rattle.std.proofs.Common.{◌≡◌, ℕ, Bool, true, false, List, [], ◌∷◌, ◌++◌, map, Option, Some, None, refl, sym, ap, ◌∙◌}
use Rattle.syntax_tree.specs.Expression.{Expression}
use Rattle.construct_rules.specs.declared.role.Construct.TheVariants as construct
use Rattle.construct_rules.specs.declared.role.Role.{Role}
use Rattle.construct_rules.specs.declared.role.Role.TheVariants as role
use Rattle.construct_rules.specs.Breaches.{roles}
use Rattle.construct_rules.specs.ProgramLine.{OfStatement, ProgramLine}
use Rattle.construct_rules.specs.Roles.{role_of}
use Rattle.construct_reader.specs.SpelledProgram.{SpelledStatement, SimpleStatement, IndependentForall, IfConstruct, DoConstruct, WhereConstruct, ForallConstruct, NoIfBlock, IfBlock}
use Rattle.construct_reader.specs.Formed.{IsStatement, is_whole}
use Rattle.construct_reader.specs.ProgramLines.{Entry, AreEntriesOf, else_if, end_do, end_forall, end_if, end_where, unnumbered, statement_lines}

-- after INDEPENDENT
abbrev pub marked_start : List Role → ℕ
marked_start (role.Opens construct.Do ∷ rs) = 7
marked_start (role.Opens construct.Forall ∷ rs) = 10
marked_start (role.One construct.Forall ∷ rs) = 4
marked_start rs = 13

abbrev pub role_start : Role → List Role → ℕ
role_start (role.Opens construct.If) rs = 5
role_start (role.Opens construct.Do) rs = 6
role_start (role.Opens construct.Where) rs = 8
role_start (role.Opens construct.Forall) rs = 9
role_start (role.Independent lists) rs = marked_start rs
role_start role.Assign rs = 3
role_start (role.One c) rs = 3
role_start role.Jump rs = 3
role_start role.Plain rs = 3
role_start role.Redistribute rs = 3
role_start role.ElseIf rs = 1
role_start role.Else rs = 2
role_start role.ElseWhere rs = 2
role_start (role.Closes c) rs = 0
role_start role.End rs = 0
role_start role.Program rs = 12
role_start role.Declaration rs = 11
role_start role.SpecificationDirective rs = 11
role_start role.Passed rs = 11

-- an END part, or nothing, is 0; ELSE IF 1; ELSE 2; the statements 3 to 10; a declaration 11; PROGRAM 12
abbrev pub start : List Role → ℕ
start [] = 0
start (r ∷ rs) = role_start r rs

abbrev pub entry_roles : List Entry → List Role
entry_roles es = map (λ e. role_of e.1) es

abbrev pub starts : List Entry → ℕ
starts es = start (entry_roles es)

-- the same lines begin alike
are_roles : (es : List Entry) (ls : List ProgramLine) → AreEntriesOf es ls → entry_roles es ≡ roles ls
are_roles [] [] h = refl
are_roles [] (l ∷ ls) h = absurd h
are_roles (e ∷ es) [] h = absurd h
are_roles (e ∷ es) (l ∷ ls) h = (λ i. role_of (h.0.0 i) ∷ are_roles es ls h.1 i)

pub alike : (es fs : List Entry) (ls : List ProgramLine) → AreEntriesOf es ls → AreEntriesOf fs ls → starts es ≡ starts fs
alike es fs ls h g = ap start (are_roles es ls h ∙ sym (are_roles fs ls g))

-- what begins with a statement
abbrev pub code : SpelledStatement → ℕ
code (SimpleStatement l) = 3
code (IndependentForall l) = 4
code (IfConstruct arms other glued) = 5
code (DoConstruct None number head body glued) = 6
code (DoConstruct (Some m) number head body glued) = 7
code (WhereConstruct number mask body other glued) = 8
code (ForallConstruct false number head body glued) = 9
code (ForallConstruct true number head body glued) = 10

whole_start : (r : Role) (rs : List Role) → is_whole r ≡ true → role_start r rs ≡ 3
whole_start role.Assign rs h = refl
whole_start (role.One c) rs h = refl
whole_start role.Jump rs h = refl
whole_start role.Plain rs h = refl
whole_start role.Redistribute rs h = refl
whole_start r rs h = absurd cc

pub statement_starts : (s : SpelledStatement) (r : List Entry) → IsStatement s → starts (statement_lines s ++ r) ≡ code s
statement_starts (SimpleStatement l) r h = whole_start (role_of l.what) (entry_roles r) h
statement_starts (IndependentForall l) r h = ap (λ k. marked_start (k ∷ entry_roles r)) h
statement_starts (IfConstruct NoIfBlock other glued) r h = absurd h.0
statement_starts (IfConstruct (IfBlock n cond body g arms) other glued) r h = refl
statement_starts (DoConstruct None number head body glued) r h = refl
statement_starts (DoConstruct (Some m) number head body glued) r h = refl
statement_starts (WhereConstruct number mask body other glued) r h = refl
statement_starts (ForallConstruct false number head body glued) r h = refl
statement_starts (ForallConstruct true number head body glued) r h = refl

-- the parts
pub else_if_starts : (n : Option ℕ) (glued : Bool) (cond : Expression) (r : List Entry) → starts ((n, OfStatement (else_if glued cond)) ∷ r) ≡ 1
else_if_starts n true cond r = refl
else_if_starts n false cond r = refl

pub end_if_starts : (glued : Bool) (r : List Entry) → starts (unnumbered (OfStatement (end_if glued)) ∷ r) ≡ 0
end_if_starts true r = refl
end_if_starts false r = refl

pub end_do_starts : (glued : Bool) (r : List Entry) → starts (unnumbered (OfStatement (end_do glued)) ∷ r) ≡ 0
end_do_starts true r = refl
end_do_starts false r = refl

pub end_where_starts : (glued : Bool) (r : List Entry) → starts (unnumbered (OfStatement (end_where glued)) ∷ r) ≡ 0
end_where_starts true r = refl
end_where_starts false r = refl

pub end_forall_starts : (glued : Bool) (r : List Entry) → starts (unnumbered (OfStatement (end_forall glued)) ∷ r) ≡ 0
end_forall_starts true r = refl
end_forall_starts false r = refl
