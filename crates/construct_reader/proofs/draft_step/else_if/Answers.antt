use Rattle.std.proofs.Common.{Some, ap, refl, ◌++◌, ◌∷◌, []}
use Rattle.syntax_tree.specs.Expression.{expression}
use Rattle.construct_rules.specs.declared.role.Construct.TheVariants as construct
use Rattle.construct_rules.specs.declared.role.Role.TheVariants as role
use Rattle.construct_rules.specs.ProgramLine.{OfStatement}
use Rattle.construct_rules.specs.Roles.{role_of}
use Rattle.construct_reader.specs.declared.draft.Opened.TheVariants as opened
use Rattle.construct_reader.specs.ProgramLines.{else_if}
use Rattle.construct_reader.specs.Draft.{IsAfter, IsNested, open_of, shape, status}
use Rattle.construct_reader.specs.NextLine.{statement_line}
use Rattle.construct_reader.proofs.Taken.{around, else_after, else_if_role, if_stays, inside, mark_none, on_ok, takes_if, takes_part}
use Rattle.construct_reader.proofs.draft_step.else_if.Goals as goal

pub finished-requires-clause-open : goal.finished-requires-clause-open
finished-requires-clause-open c = takes_part c.args.draft c.innermost-opens.result.0.items c.innermost-opens.result.1 construct.If c.innermost-opens.ensures c.requires.takes.placed

pub finished-requires-clause-sound : goal.finished-requires-clause-sound
finished-requires-clause-sound c =
    ((inside c.args.draft c.innermost-opens.result.0.items c.innermost-opens.result.1 c.requires.sound c.innermost-opens.ensures).1, c.requires.sound.1)

pub nested-requires : goal.nested-requires
nested-requires c = (
  around c.args.draft c.innermost-opens.result.0.items c.innermost-opens.result.1 c.requires.sound c.innermost-opens.ensures,
  (inside c.args.draft c.innermost-opens.result.0.items c.innermost-opens.result.1 c.requires.sound c.innermost-opens.ensures).0,
  (c.in_ok-first.ensures.begun, c.in_ok-first.ensures.sound),
)

pub returns : goal.returns
returns c =
    let form = else_if c.args.glued (expression c.args.cond) in
    let os = c.innermost-opens.result.0.items in
    let o = c.innermost-opens.result.1 in
    let w = opened.ElseIf c.in_ok-first.first c.in_ok-first.arms c.args.line c.args.cond c.args.glued in
    let is = takes_if o.what (takes_part c.args.draft os o construct.If c.innermost-opens.ensures c.requires.takes.placed) in
    on_ok
    (IsNested os o.before.items w)
    (IsAfter c.args.draft (statement_line c.args.line form))
    (λ d n.
    else_after c.args.draft d (statement_line c.args.line form) os o w (Some c.args.line, OfStatement form) c.requires.takes.going
    (mark_none c.args.draft.mark role.ElseIf c.requires.takes.marks refl)
    c.innermost-opens.ensures
    (ap (λ es. es ++ (Some c.args.line, OfStatement form) ∷ []) c.in_ok-first.ensures.lines)
    (refl, refl)
    (if_stays (open_of o.what) (shape os) (status c.args.draft).pending (status c.args.draft).ended (role_of (OfStatement form)) is
    (else_if_role c.args.glued (expression c.args.cond)))
    n)
    c.nested.result
    c.nested.ensures
