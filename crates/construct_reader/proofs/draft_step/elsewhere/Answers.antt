use Rattle.std.proofs.Common.{ap, refl, true, sym, ◌++◌, ◌∷◌, []}
use Rattle.statement_reader.specs.declared.kind.Kind.TheVariants as kind
use Rattle.statement_reader.specs.Forms as statements
use Rattle.construct_rules.specs.declared.role.Construct.TheVariants as construct
use Rattle.construct_rules.specs.declared.role.Role.TheVariants as role
use Rattle.construct_rules.specs.ProgramLine.{OfStatement}
use Rattle.construct_reader.specs.declared.draft.Opened.TheVariants as opened
use Rattle.construct_reader.specs.Views.{spelled_block}
use Rattle.construct_reader.specs.ProgramLines.{block_lines, unnumbered}
use Rattle.construct_reader.specs.Draft.{IsAfter, IsNested, open_of, opened_lines, shape, status}
use Rattle.construct_reader.specs.NextLine.{statement_line}
use Rattle.construct_reader.proofs.Taken.{around, else_after, inside, mark_none, on_ok, only_where, takes_part, where_told}
use Rattle.construct_reader.proofs.draft_step.elsewhere.Goals as goal

pub unreachable-requires : goal.unreachable-requires
unreachable-requires c =
    only_where c.innermost-opens.result.1.what
    (takes_part c.args.draft c.innermost-opens.result.0.items c.innermost-opens.result.1 construct.Where c.innermost-opens.ensures c.requires.takes.placed)
    c.in_default.not-Where

pub nested-requires : goal.nested-requires
nested-requires c = (
  around c.args.draft c.innermost-opens.result.0.items c.innermost-opens.result.1 c.requires.sound c.innermost-opens.ensures,
  (inside c.args.draft c.innermost-opens.result.0.items c.innermost-opens.result.1 c.requires.sound c.innermost-opens.ensures).0,
  c.requires.sound.1,
)

pub returns : goal.returns
returns c =
    let form = statements.Plain (kind.ElseWhere true) tt in
    let os = c.innermost-opens.result.0.items in
    let o = c.innermost-opens.result.1 in
    let w = opened.ElseWhere c.in-Where.line c.in-Where.mask c.args.draft.block in
    on_ok
    (IsNested os o.before.items w)
    (IsAfter c.args.draft (statement_line c.args.line form))
    (λ d n.
    else_after c.args.draft d (statement_line c.args.line form) os o w (unnumbered (OfStatement form)) c.requires.takes.going
    (mark_none c.args.draft.mark role.ElseWhere c.requires.takes.marks refl)
    c.innermost-opens.ensures
    (ap (λ w. (opened_lines w ++ block_lines (spelled_block c.args.draft.block.items)) ++ unnumbered (OfStatement form) ∷ []) (sym c.in-Where.is))
    (refl, tt)
    (where_told (open_of o.what) (shape os) (status c.args.draft).pending (status c.args.draft).ended (ap open_of c.in-Where.is))
    n)
    c.nested.result
    c.nested.ensures
