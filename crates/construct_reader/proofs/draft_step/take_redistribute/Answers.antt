use Rattle.std.proofs.Common.{[], refl, ap}
use Rattle.construct_rules.specs.declared.role.Role.TheVariants as role
use Rattle.construct_reader.specs.ProgramLines.{numbered, statement_lines}
use Rattle.construct_reader.specs.Draft.{IsAppended, IsAfter}
use Rattle.construct_reader.specs.NextLine.{redistribute_line}
use Rattle.construct_reader.proofs.Taken.{appended_after, mark_none, none_under, on_ok}
use Rattle.construct_reader.proofs.draft_step.take_redistribute.Goals as goal

pub returns : goal.returns
returns c =
    let l = redistribute_line c.args.line c.args.spec in
    on_ok
    (IsAppended c.args.draft.opens.items c.args.draft.block.items c.redistributed.result)
    (IsAfter c.args.draft l)
    (λ d n.
    appended_after c.args.draft d l c.redistributed.result (numbered l) [] c.requires.takes.going
    (none_under c.args.draft.mark (mark_none c.args.draft.mark role.Redistribute c.requires.takes.marks refl))
    (ap statement_lines c.redistributed.ensures) (refl, refl) refl n)
    c.appended.result
    c.appended.ensures
