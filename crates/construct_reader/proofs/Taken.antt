-- A line after a draft, case by case.
use Rattle.std.proofs.Common.{◌≡◌, ℕ, Bool, true, false, not, ◌||◌, List, [], ◌∷◌, ◌++◌, Option, Some, None, option_map, is_some, refl, sym, ap, ◌∙◌, subst, append_assoc, append-nil}
use Rattle.std.specs.Prelude.{if◌then◌else◌, IfSome, IfOk, Result, Ok, Err}
use Rattle.std.proofs.lemmas.Bool.{not-false}
use Rattle.syntax_tree.specs.declared.decl.EndForm.{EndForm}
use Rattle.syntax_tree.specs.declared.stmt.Mark.{Mark as HeldMark}
use Rattle.syntax_tree.specs.declared.stmt.Stmt.{Stmt}
use Rattle.directive_reader.specs.Forms as directives
use Rattle.directive_reader.specs.declared.kind.Kind.TheVariants as directive
use Rattle.directive_reader.specs.Views.{names_in}
use Rattle.syntax_tree.specs.declared.expr.Expr.{Expr}
use Rattle.syntax_tree.specs.Expression.{Expression}
use Rattle.statement_reader.specs.declared.statement.Action.{Action}
use Rattle.statement_reader.specs.declared.statement.Action.TheVariants as action
use Rattle.statement_reader.specs.declared.statement.Statement.{Statement}
use Rattle.statement_reader.specs.declared.statement.Statement.TheVariants as statement
use Rattle.statement_reader.specs.Forms as statements
use Rattle.statement_reader.specs.Views.{form_of}
use Rattle.construct_rules.specs.declared.role.Construct.{Construct}
use Rattle.construct_rules.specs.declared.role.Construct.TheVariants as construct
use Rattle.construct_rules.specs.declared.role.Clauses.{Clauses}
use Rattle.construct_rules.specs.declared.role.Clauses.TheVariants as clauses
use Rattle.construct_rules.specs.declared.role.Role.{Role}
use Rattle.construct_rules.specs.declared.role.Role.TheVariants as role
use Rattle.construct_rules.specs.Rules.{is_absent, is_empty, is_independent_target}
use Rattle.construct_rules.specs.ProgramLine.{OfStatement, OfDirective, ProgramLine}
use Rattle.construct_rules.specs.Roles.{clauses_of, role_of, statement_role}
use Rattle.construct_rules.specs.NestState.{Open, is_innermost, same_construct, takes_else}
use Rattle.construct_reader.specs.declared.draft.Draft.{Draft}
use Rattle.construct_reader.specs.declared.draft.Open.{Open as HeldOpen}
use Rattle.construct_reader.specs.declared.draft.Opened.{Opened}
use Rattle.construct_reader.specs.declared.draft.Opened.TheVariants as opened
use Rattle.construct_reader.specs.Views.{spelled_block, spelled_end, spelled_statement}
use Rattle.construct_reader.specs.Formed.{IsBlock, IsStatement, is_whole}
use Rattle.construct_reader.specs.ProgramLines.{Entry, IsEntryOf, AreEntriesOf, bare_independent_lines, block_lines, else_if, end_line, numbered, unnumbered, statement_lines}
use Rattle.construct_reader.specs.Draft.{AreOpen, IsAppended, IsAfter, IsDraft, IsEnded, IsNested, IsOpened, Status, Takes, base_lines, draft_lines, end_lines, end_part, fits_mark, clauses_in, innermost, opened_lines, opens_lines, open_of, shape, status, status_after, mark_lines}
use Rattle.construct_reader.specs.NextLine.{action_line, finish_line, if_line, independent_line, statement_line, single_or_marked}
use Rattle.construct_reader.proofs.Lists.{are_push, opens_push, open_front, open_last, shape_push}

pub on_ok : {A E : Type 0} (P Q : A → Type 0) → ((x : A) → P x → Q x) → (r : Result A E) → IfOk r P → IfOk r Q
on_ok P Q f (Ok x) h = f x h
on_ok P Q f (Err e) h = tt

none : {A : Type 0} (o : Option A) → is_some o ≡ false → o ≡ None
none None h = refl
none (Some x) h = absurd cc

takes_either : (cs : Clauses) (r : Role) → is_independent_target cs (r ∷ []) ≡ true → is_independent_target clauses.Absent (r ∷ []) ≡ true
takes_either cs (role.Opens construct.Do) h = refl
takes_either cs (role.Opens construct.Forall) h = refl
takes_either cs (role.One construct.Forall) h = refl
takes_either cs r h = h

-- no INDEPENDENT is pending where a line comes that none stands before
pub mark_none : (m : Option HeldMark) (r : Role) → fits_mark (option_map clauses_in m) r ≡ true → is_independent_target clauses.Absent (r ∷ []) ≡ false → m ≡ None
mark_none None r h g = refl
mark_none (Some m) r h g = let e : is_independent_target clauses.Absent (r ∷ []) ≡ true = takes_either (clauses_in m) r h in absurd cc

-- and one without clauses is where FORALL comes
pub bare : (m : Option HeldMark) → (r : Role) → ((cs : Clauses) → is_independent_target cs (r ∷ []) ≡ is_absent cs)
    → fits_mark (option_map clauses_in m) r ≡ true → IfSome m (λ m. clauses_in m ≡ clauses.Absent)
bare None r e h = tt
bare (Some m) r e h = absent (clauses_in m) (sym (e (clauses_in m)) ∙ h)
  where
    absent : (cs : Clauses) → is_absent cs ≡ true → cs ≡ clauses.Absent
    absent clauses.Absent h = refl
    absent clauses.Given h = absurd cc

-- the lines of some entries are lines of others
abbrev AreLooser : List Entry → List Entry → Type 0
AreLooser es fs = (ls : List ProgramLine) → AreEntriesOf es ls → AreEntriesOf fs ls

are_under : (x es fs : List Entry) → AreLooser es fs → (ls : List ProgramLine) → AreEntriesOf (x ++ es) ls → AreEntriesOf (x ++ fs) ls
are_under [] es fs f ls h = f ls h
are_under (e ∷ x) es fs f [] h = h
are_under (e ∷ x) es fs f (l ∷ ls) h = (h.0, are_under x es fs f ls h.1)

abbrev Names : Type 0
Names = Option (List (List ℕ)) × Option (List (List ℕ))

no_names : (a b : Option (List (List ℕ))) → clauses_of (is_some a || is_some b) ≡ clauses.Absent → ◌≡◌ {A = Names} (None, None) (a, b)
no_names None None h = refl
no_names None (Some y) h = absurd cc
no_names (Some x) b h = absurd cc

pub bare_under : (m : Option HeldMark) → IfSome m (λ m. clauses_in m ≡ clauses.Absent) → (ls : List ProgramLine) → AreEntriesOf (mark_lines m) ls
    → AreEntriesOf (bare_independent_lines (is_some m)) ls
bare_under None h ls g = g
bare_under (Some m) h [] g = g
bare_under (Some m) h (l ∷ []) g = ((ap (λ v. OfDirective (directives.Known directive.Independent v)) (no_names (names_in m.new) (names_in m.reduction) h) ∙ g.0.0, tt), tt)
bare_under (Some m) h (l ∷ k ∷ ls) g = absurd g.1

pub none_under : (m : Option HeldMark) → m ≡ None → (ls : List ProgramLine) → AreEntriesOf (mark_lines m) ls → AreEntriesOf [] ls
none_under m e ls h = subst (λ m. AreEntriesOf (mark_lines m) ls) e h

step : (d b : Draft) (l : ProgramLine) (e : Entry) (ms : List Entry) → d.end ≡ None → AreLooser (mark_lines d.mark) ms
    → draft_lines b ≡ base_lines d ++ (ms ++ e ∷ []) → IsEntryOf e l → IsDraft b → status b ≡ status_after (status d) (role_of l.what)
    → IsAfter d l b
step d b l e ms going under h is s t = record {
  lines = λ ls are.
      let plain : AreEntriesOf (base_lines d ++ mark_lines d.mark) ls =
      subst (λ es. AreEntriesOf (base_lines d ++ es) ls) (append-nil (mark_lines d.mark))
      (subst (λ o. AreEntriesOf (base_lines d ++ (mark_lines d.mark ++ end_lines o)) ls) going are) in
      let more : AreEntriesOf ((base_lines d ++ ms) ++ e ∷ []) (ls ++ l ∷ []) =
      are_push (base_lines d ++ ms) e ls l (are_under (base_lines d) (mark_lines d.mark) ms under ls plain) is in
      subst (λ es. AreEntriesOf es (ls ++ l ∷ [])) (append_assoc (base_lines d) ms (e ∷ []) ∙ sym h) more;
  sound = s;
  stands = t;
}

-- the first line of a construct
pub opened_after : (d b : Draft) (l : ProgramLine) (w : Opened) (e : Entry) (ms : List Entry) → is_some d.end ≡ false
    → AreLooser (mark_lines d.mark) ms → opened_lines w ≡ ms ++ e ∷ [] → IsEntryOf e l
    → record { opens = open_of w ∷ shape d.opens.items; pending = None; ended = false } ≡ status_after (status d) (role_of l.what)
    → IsNested d.opens.items d.block.items w b → IsAfter d l b
opened_after d b l w e ms going under h is t n = step d b l e ms (none d.end going) under (n.lines ∙ ap (λ es. base_lines d ++ es) h) is n.sound (n.stands ∙ t)

-- a statement that is whole in its line
pub appended_after : (d b : Draft) (l : ProgramLine) (s : Stmt) (e : Entry) (ms : List Entry) → is_some d.end ≡ false
    → AreLooser (mark_lines d.mark) ms → statement_lines (spelled_statement s) ≡ ms ++ e ∷ [] → IsEntryOf e l
    → record { opens = shape d.opens.items; pending = None; ended = false } ≡ status_after (status d) (role_of l.what)
    → IsAppended d.opens.items d.block.items s b → IsAfter d l b
appended_after d b l s e ms going under h is t n = step d b l e ms (none d.end going) under (n.lines ∙ ap (λ es. base_lines d ++ es) h) is n.sound (n.stands ∙ t)

regroup : (a b c d e : List Entry) → (a ++ b) ++ ((c ++ d) ++ e) ≡ ((a ++ (b ++ c)) ++ d) ++ e
regroup a b c d e = simp append_assoc

-- a part of the innermost construct
pub part_after : (d b : Draft) (l : ProgramLine) (os : List HeldOpen) (o : HeldOpen) (e : Entry) (es : List Entry) → is_some d.end ≡ false
    → d.mark ≡ None → d.opens.items ≡ os ++ o ∷ [] → draft_lines b ≡ (opens_lines os ++ block_lines (spelled_block o.before.items)) ++ es
    → es ≡ (opened_lines o.what ++ block_lines (spelled_block d.block.items)) ++ e ∷ [] → IsEntryOf e l → IsDraft b
    → status b ≡ status_after (status d) (role_of l.what) → IsAfter d l b
part_after d b l os o e es going unmarked innermost h g is s t =
    step d b l e [] (none d.end going) (none_under d.mark unmarked)
    (h
    ∙ ap (λ es. (opens_lines os ++ block_lines (spelled_block o.before.items)) ++ es) g
    ∙ regroup (opens_lines os) (block_lines (spelled_block o.before.items)) (opened_lines o.what) (block_lines (spelled_block d.block.items)) (e ∷ [])
    ∙ ap (λ os. (os ++ block_lines (spelled_block d.block.items)) ++ e ∷ []) (sym (opens_push os o) ∙ ap opens_lines (sym innermost)))
    is
    s
    t

-- whole lines open and close nothing
pub whole_stands : (os : List Open) (p : Option Clauses) (ended : Bool) (r : Role) → is_whole r ≡ true
    → record { opens = os; pending = None; ended = false } ≡ status_after record { opens = os; pending = p; ended = ended } r
whole_stands os p ended role.Assign h = refl
whole_stands os p ended (role.One c) h = refl
whole_stands os p ended role.Jump h = refl
whole_stands os p ended role.Plain h = refl
whole_stands os p ended role.Redistribute h = refl
whole_stands os p ended r h = absurd cc

-- the innermost construct's part of the open ones
pub shaped : (d : Draft) (os : List HeldOpen) (o : HeldOpen) → d.opens.items ≡ os ++ o ∷ [] → shape d.opens.items ≡ open_of o.what ∷ shape os
shaped d os o e = ap shape e ∙ shape_push os o

pub around : (d : Draft) (os : List HeldOpen) (o : HeldOpen) → IsDraft d → d.opens.items ≡ os ++ o ∷ [] → AreOpen os
around d os o s e = open_front os o (subst AreOpen e s.0)

pub inside : (d : Draft) (os : List HeldOpen) (o : HeldOpen) → IsDraft d → d.opens.items ≡ os ++ o ∷ [] → IsBlock (spelled_block o.before.items) × IsOpened o.what
inside d os o s e = open_last os o (subst AreOpen e s.0)

-- it has no ELSE yet where one comes
pub takes_part : (d : Draft) (os : List HeldOpen) (o : HeldOpen) (c : Construct) → d.opens.items ≡ os ++ o ∷ []
    → not (takes_else c (shape d.opens.items)) ≡ false → takes_else c (open_of o.what ∷ []) ≡ true
takes_part d os o c e h = not-false (takes_else c (open_of o.what ∷ [])) (sym (ap (λ os. not (takes_else c os)) (shaped d os o e)) ∙ h)

pub takes_if : (w : Opened) → takes_else construct.If (open_of w ∷ []) ≡ true → open_of w ≡ record { construct = construct.If; otherwise = false }
takes_if (opened.If n cond) h = refl
takes_if (opened.ElseIf first arms n cond glued) h = refl
takes_if w h = absurd cc

pub end_role : (c : Construct) (glued : Bool) → role_of (OfStatement (end_part c glued)) ≡ role.Closes c
end_role construct.If true = refl
end_role construct.If false = refl
end_role construct.Do true = refl
end_role construct.Do false = refl
end_role construct.Where true = refl
end_role construct.Where false = refl
end_role construct.Forall true = refl
end_role construct.Forall false = refl

-- a statement that may be an action is whole
pub action_whole : (n : ℕ) (a : Action) → is_whole (role_of (action_line n a).what) ≡ true
action_whole n (action.Assign a) = refl
action_whole n (action.Where mask one) = refl
action_whole n (action.Forall head one) = refl
action_whole n (action.Print items) = refl
action_whole n action.Stop = refl
action_whole n action.Exit = refl
action_whole n action.Cycle = refl
action_whole n action.Continue = refl

pub if_whole : (n : ℕ) (cond : Expr) (a : Action) → is_whole (role_of (if_line n cond a).what) ≡ true
if_whole n cond (action.Assign a) = refl
if_whole n cond (action.Where mask one) = refl
if_whole n cond (action.Forall head one) = refl
if_whole n cond (action.Print items) = refl
if_whole n cond action.Stop = refl
if_whole n cond action.Exit = refl
if_whole n cond action.Cycle = refl
if_whole n cond action.Continue = refl

-- INDEPENDENT stands before no IF
pub if_unmarked : (n : ℕ) (cond : Expr) (a : Action) → is_independent_target clauses.Absent (role_of (if_line n cond a).what ∷ []) ≡ false
if_unmarked n cond (action.Assign a) = refl
if_unmarked n cond (action.Where mask one) = refl
if_unmarked n cond (action.Forall head one) = refl
if_unmarked n cond (action.Print items) = refl
if_unmarked n cond action.Stop = refl
if_unmarked n cond action.Exit = refl
if_unmarked n cond action.Cycle = refl
if_unmarked n cond action.Continue = refl

-- of the whole statements it stands before FORALL alone
marked_one : (cs : Clauses) (r : Role) → is_whole r ≡ true → is_independent_target cs (r ∷ []) ≡ true → (r ≡ role.One construct.Forall) × (cs ≡ clauses.Absent)
marked_one clauses.Given (role.One construct.Forall) h g = absurd cc
marked_one clauses.Absent (role.One construct.Forall) h g = (refl, refl)
marked_one cs r h g = absurd cc

pub marked_sound : (m : Option HeldMark) (l : ProgramLine) → is_whole (role_of l.what) ≡ true
    → fits_mark (option_map clauses_in m) (role_of l.what) ≡ true → IsStatement (single_or_marked (is_some m) l)
marked_sound None l h g = h
marked_sound (Some m) l h g = (marked_one (clauses_in m) (role_of l.what) h g).0

pub marked_forall : (m : Option HeldMark) (r : Role) → is_whole r ≡ true → fits_mark (option_map clauses_in m) r ≡ true → is_some m ≡ true → r ≡ role.One construct.Forall
marked_forall None r h g e = absurd cc
marked_forall (Some m) r h g e = (marked_one (clauses_in m) r h g).0

pub marked_lists : (m : Option HeldMark) (r : Role) → is_whole r ≡ true → fits_mark (option_map clauses_in m) r ≡ true → IfSome m (λ m. clauses_in m ≡ clauses.Absent)
marked_lists None r h g = tt
marked_lists (Some m) r h g = (marked_one (clauses_in m) r h g).1

pub marked_lines : (b : Bool) (l : ProgramLine) → statement_lines (single_or_marked b l) ≡ bare_independent_lines b ++ numbered l ∷ []
marked_lines true l = refl
marked_lines false l = refl

-- ELSE IF, ELSE or ELSEWHERE: the innermost construct is told something more
pub else_after : (d b : Draft) (l : ProgramLine) (os : List HeldOpen) (o : HeldOpen) (w : Opened) (e : Entry) → is_some d.end ≡ false → d.mark ≡ None
    → d.opens.items ≡ os ++ o ∷ [] → opened_lines w ≡ (opened_lines o.what ++ block_lines (spelled_block d.block.items)) ++ e ∷ [] → IsEntryOf e l
    → record { opens = open_of w ∷ shape os; pending = None; ended = false }
    ≡ status_after record { opens = open_of o.what ∷ shape os; pending = (status d).pending; ended = (status d).ended } (role_of l.what)
    → IsNested os o.before.items w b → IsAfter d l b
else_after d b l os o w e going unmarked innermost h is t n =
    part_after d b l os o e (opened_lines w) going unmarked innermost n.lines h is n.sound
    (n.stands ∙ t ∙ ap (λ os. status_after record { opens = os; pending = (status d).pending; ended = (status d).ended } (role_of l.what)) (sym (shaped d os o innermost)))

-- an END part
pub end_after : (d b : Draft) (n : ℕ) (glued : Bool) (os : List HeldOpen) (o : HeldOpen) (s : Stmt)
    → Takes (status d) (role.Closes (innermost (shape d.opens.items))) → d.opens.items ≡ os ++ o ∷ []
    → IsEnded o.what (spelled_block d.block.items) glued (spelled_statement s) → IsAppended os o.before.items s b
    → IsAfter d (statement_line n (end_part (innermost (shape d.opens.items)) glued)) b
end_after d b n glued os o s takes e h a =
    let c = innermost (shape d.opens.items) in
    let same : (open_of o.what).construct ≡ c = sym (ap innermost (shaped d os o e)) in
    part_after d b (statement_line n (end_part c glued)) os o (unnumbered (OfStatement (end_part (open_of o.what).construct glued)))
    (statement_lines (spelled_statement s)) takes.going
    (mark_none d.mark (role.Closes c) takes.marks refl) e a.lines h.lines
    (ap (λ c. OfStatement (end_part c glued)) same, tt)
    a.sound
    (a.stands
    ∙ closed (open_of o.what) (shape os) c (sym same)
    ∙ ap (λ os. status_after record { opens = os; pending = (status d).pending; ended = (status d).ended } (role.Closes c)) (sym (shaped d os o e))
    ∙ ap (status_after (status d)) (sym (end_role c glued)))
  where
    same_is : (c : Construct) → same_construct c c ≡ true
    same_is construct.If = refl
    same_is construct.Do = refl
    same_is construct.Where = refl
    same_is construct.Forall = refl

    closed : (o : Open) (os : List Open) (c : Construct) → c ≡ o.construct
        → record { opens = os; pending = None; ended = false }
        ≡ status_after record { opens = o ∷ os; pending = (status d).pending; ended = (status d).ended } (role.Closes c)
    closed o os c e = ap (λ b. record { opens = if b then os else o ∷ os; pending = None; ended = false }) (sym (ap (λ c. same_construct c o.construct) e ∙ same_is o.construct))

-- INDEPENDENT
pub independent_after : (d : Draft) (m : HeldMark) → IsDraft d → Takes (status d) (role.Independent (clauses_in m))
    → IsAfter d (independent_line m) record { opens = d.opens; block = d.block; mark = Some m; end = None }
independent_after d m s takes =
    step d record { opens = d.opens; block = d.block; mark = Some m; end = None } (independent_line m) (Some m.line, (independent_line m).what) [] (none d.end takes.going)
    (none_under d.mark (mark_none d.mark (role.Independent (clauses_in m)) takes.marks refl))
    refl (refl, refl) (s.0, s.1, tt) refl

empty_open : (os : List HeldOpen) → not (is_empty (shape os)) ≡ false → os ≡ []
empty_open [] h = refl
empty_open (o ∷ os) h = full (shape os) h
  where
    full : (os' : List Open) → not (is_empty (os' ++ open_of o.what ∷ [])) ≡ false → o ∷ os ≡ []
    full [] h = absurd cc
    full (p ∷ ps) h = absurd cc

-- END
pub finish_after : (d : Draft) (e : EndForm) → IsDraft d → Takes (status d) role.End
    → IsAfter d (finish_line e) record { opens = d.opens; block = d.block; mark = None; end = Some e }
finish_after d e s takes =
    step d record { opens = d.opens; block = d.block; mark = None; end = Some e } (finish_line e) (end_line (spelled_end e)) [] (none d.end takes.going)
    (none_under d.mark (mark_none d.mark role.End takes.marks refl))
    refl (refl, refl) (s.0, s.1, (empty_open d.opens.items takes.placed, refl)) refl

pub else_if_role : (glued : Bool) (cond : Expression) → role_of (OfStatement (else_if glued cond)) ≡ role.ElseIf
else_if_role true cond = refl
else_if_role false cond = refl

abbrev fresh : Construct → Open
fresh c = record { construct = c; otherwise = false }

abbrev standing : List Open → Status
standing os = record { opens = os; pending = None; ended = false }

pub if_stays : (o : Open) (os : List Open) (p : Option Clauses) (ended : Bool) (r : Role) → o ≡ fresh construct.If → r ≡ role.ElseIf
    → standing (fresh construct.If ∷ os) ≡ status_after record { opens = o ∷ os; pending = p; ended = ended } r
if_stays o os p ended r h e = ap (λ o. standing (o ∷ os)) (sym h) ∙ ap (status_after record { opens = o ∷ os; pending = p; ended = ended }) (sym e)

pub if_told : (o : Open) (os : List Open) (p : Option Clauses) (ended : Bool) → o ≡ fresh construct.If
    → standing (record { construct = construct.If; otherwise = true } ∷ os)
    ≡ status_after record { opens = o ∷ os; pending = p; ended = ended } role.Else
if_told o os p ended h = ap (λ o. status_after record { opens = o ∷ os; pending = p; ended = ended } role.Else) (sym h)

pub where_told : (o : Open) (os : List Open) (p : Option Clauses) (ended : Bool) → o ≡ fresh construct.Where
    → standing (record { construct = construct.Where; otherwise = true } ∷ os)
    ≡ status_after record { opens = o ∷ os; pending = p; ended = ended } role.ElseWhere
where_told o os p ended h = ap (λ o. status_after record { opens = o ∷ os; pending = p; ended = ended } role.ElseWhere) (sym h)

pub only_where : (w : Opened) → takes_else construct.Where (open_of w ∷ []) ≡ true → ((n : ℕ) (mask : Expr) → w ≡ opened.Where n mask → ⊥) → ⊥
only_where (opened.Where n mask) h f = f n mask refl
only_where w h f = absurd cc

-- an END part closes the innermost construct
closes : (os : List Open) (c : Construct) → not (is_innermost c os) ≡ false → innermost os ≡ c
closes [] c h = absurd cc
closes (o ∷ os) c h = same c o.construct h
  where
    same : (c d : Construct) → not (same_construct c d) ≡ false → d ≡ c
    same construct.If construct.If h = refl
    same construct.Do construct.Do h = refl
    same construct.Where construct.Where h = refl
    same construct.Forall construct.Forall h = refl
    same c d h = absurd cc

pub close_form : (s : Status) (f : statements.StatementForm) (c : Construct) (glued : Bool) → end_part c glued ≡ f → Takes s (statement_role f) → end_part (innermost s.opens) glued ≡ f
close_form s f c glued e h =
    let t : Takes s (role.Closes c) = subst (Takes s) (sym (ap statement_role e) ∙ end_role c glued) h in
    ap (λ c. end_part c glued) (closes s.opens c t.placed) ∙ e

pub end_if_form : (glued : Bool) → end_part construct.If glued ≡ form_of (statement.EndIf glued)
end_if_form true = refl
end_if_form false = refl

pub end_do_form : (glued : Bool) → end_part construct.Do glued ≡ form_of (statement.EndDo glued)
end_do_form true = refl
end_do_form false = refl

pub end_where_form : (glued : Bool) → end_part construct.Where glued ≡ form_of (statement.EndWhere glued)
end_where_form true = refl
end_where_form false = refl

pub end_forall_form : (glued : Bool) → end_part construct.Forall glued ≡ form_of (statement.EndForall glued)
end_forall_form true = refl
end_forall_form false = refl

pub close_is : (s : Status) (w v : Statement) (c : Construct) (glued : Bool) → w ≡ v → end_part c glued ≡ form_of v
    → Takes s (statement_role (form_of w)) → end_part (innermost s.opens) glued ≡ form_of w
close_is s w v c glued is e h = close_form s (form_of w) c glued (e ∙ ap form_of (sym is)) h
