use Rattle.std.proofs.Common.{[], refl, Some, None}
use Rattle.syntax_tree.specs.Expression.{expression}
use Rattle.statement_reader.specs.declared.kind.Kind.TheVariants as kind
use Rattle.statement_reader.specs.Forms as statements
use Rattle.construct_rules.specs.declared.role.Construct.TheVariants as construct
use Rattle.construct_rules.specs.declared.role.Role.TheVariants as role
use Rattle.construct_rules.specs.ProgramLine.{OfStatement}
use Rattle.construct_reader.specs.declared.draft.Opened.TheVariants as opened
use Rattle.construct_reader.specs.Draft.{IsAfter, IsNested}
use Rattle.construct_reader.specs.NextLine.{statement_line}
use Rattle.construct_reader.proofs.Taken.{mark_none, none_under, on_ok, opened_after}
use Rattle.construct_reader.proofs.draft_step.open_where.Goals as goal

pub returns : goal.returns
returns c =
    let form = statements.Plain kind.Where (expression c.args.mask, None) in
    let w = opened.Where c.args.line c.args.mask in
    on_ok
    (IsNested c.args.draft.opens.items c.args.draft.block.items w)
    (IsAfter c.args.draft (statement_line c.args.line form))
    (λ d n.
    opened_after c.args.draft d (statement_line c.args.line form) w (Some c.args.line, OfStatement form) [] c.requires.takes.going
    (none_under c.args.draft.mark (mark_none c.args.draft.mark (role.Opens construct.Where) c.requires.takes.marks refl))
    refl (refl, refl) refl n)
    c.nested.result
    c.nested.ensures
