use Rattle.std.proofs.Common.{refl, Some}
use Rattle.statement_reader.specs.Views.{do_of}
use Rattle.statement_reader.specs.declared.kind.Kind.TheVariants as kind
use Rattle.statement_reader.specs.Forms as statements
use Rattle.construct_rules.specs.ProgramLine.{OfStatement}
use Rattle.construct_reader.specs.declared.draft.Opened.TheVariants as opened
use Rattle.construct_reader.specs.Draft.{IsAfter, IsNested, mark_lines}
use Rattle.construct_reader.specs.NextLine.{statement_line}
use Rattle.construct_reader.proofs.Taken.{on_ok, opened_after}
use Rattle.construct_reader.proofs.draft_step.open_do.Goals as goal

pub returns : goal.returns
returns c =
    let form = statements.Plain kind.Do (do_of c.args.head) in
    let w = opened.Do c.args.line c.args.head c.args.draft.mark in
    on_ok
    (IsNested c.args.draft.opens.items c.args.draft.block.items w)
    (IsAfter c.args.draft (statement_line c.args.line form))
    (λ d n.
    opened_after c.args.draft d (statement_line c.args.line form) w (Some c.args.line, OfStatement form) (mark_lines c.args.draft.mark) c.requires.takes.going
    (λ ls h. h)
    refl (refl, refl) refl n)
    c.nested.result
    c.nested.ensures
