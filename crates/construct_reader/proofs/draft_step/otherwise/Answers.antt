use Rattle.std.proofs.Common.{ap, refl, ◌++◌, ◌∷◌, []}
use Rattle.statement_reader.specs.declared.kind.Kind.TheVariants as kind
use Rattle.statement_reader.specs.Forms as statements
use Rattle.construct_rules.specs.declared.role.Construct.TheVariants as construct
use Rattle.construct_rules.specs.declared.role.Role.TheVariants as role
use Rattle.construct_rules.specs.ProgramLine.{OfStatement}
use Rattle.construct_reader.specs.declared.draft.Opened.TheVariants as opened
use Rattle.construct_reader.specs.ProgramLines.{unnumbered}
use Rattle.construct_reader.specs.Draft.{IsAfter, IsNested, open_of, shape, status}
use Rattle.construct_reader.specs.NextLine.{statement_line}
use Rattle.construct_reader.proofs.Taken.{around, else_after, if_told, inside, mark_none, on_ok, takes_if, takes_part}
use Rattle.construct_reader.proofs.draft_step.otherwise.Goals as goal

pub finished-requires-clause-open : goal.finished-requires-clause-open
finished-requires-clause-open c = takes_part c.args.draft c.innermost-opens.result.0.items c.innermost-opens.result.1 construct.If c.innermost-opens.ensures c.requires.takes.placed

pub finished-requires-clause-sound : goal.finished-requires-clause-sound
finished-requires-clause-sound c =
    ((inside c.args.draft c.innermost-opens.result.0.items c.innermost-opens.result.1 c.requires.sound c.innermost-opens.ensures).1, c.requires.sound.1)

pub nested-requires : goal.nested-requires
nested-requires c = (
  around c.args.draft c.innermost-opens.result.0.items c.innermost-opens.result.1 c.requires.sound c.innermost-opens.ensures,
  (inside c.args.draft c.innermost-opens.result.0.items c.innermost-opens.result.1 c.requires.sound c.innermost-opens.ensures).0,
  (c.in_ok-first.ensures.begun, c.in_ok-first.ensures.sound),
)

pub returns : goal.returns
returns c =
    let form = statements.Plain kind.Else tt in
    let os = c.innermost-opens.result.0.items in
    let o = c.innermost-opens.result.1 in
    let w = opened.Else c.in_ok-first.first c.in_ok-first.arms in
    let is = takes_if o.what (takes_part c.args.draft os o construct.If c.innermost-opens.ensures c.requires.takes.placed) in
    on_ok
    (IsNested os o.before.items w)
    (IsAfter c.args.draft (statement_line c.args.line form))
    (λ d n.
    else_after c.args.draft d (statement_line c.args.line form) os o w (unnumbered (OfStatement form)) c.requires.takes.going
    (mark_none c.args.draft.mark role.Else c.requires.takes.marks refl)
    c.innermost-opens.ensures
    (ap (λ es. es ++ unnumbered (OfStatement form) ∷ []) c.in_ok-first.ensures.lines)
    (refl, tt)
    (if_told (open_of o.what) (shape os) (status c.args.draft).pending (status c.args.draft).ended is)
    n)
    c.nested.result
    c.nested.ensures
