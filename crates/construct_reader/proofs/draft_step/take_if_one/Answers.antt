use Rattle.std.proofs.Common.{[], refl, ap}
use Rattle.construct_rules.specs.Roles.{role_of}
use Rattle.construct_reader.specs.ProgramLines.{numbered, statement_lines}
use Rattle.construct_reader.specs.Draft.{IsAppended, IsAfter, shape, status}
use Rattle.construct_reader.specs.NextLine.{if_line}
use Rattle.construct_reader.proofs.Taken.{appended_after, if_unmarked, if_whole, mark_none, none_under, on_ok, whole_stands}
use Rattle.construct_reader.proofs.draft_step.take_if_one.Goals as goal

pub returns : goal.returns
returns c =
    let l = if_line c.args.line c.args.cond c.args.action in
    on_ok
    (IsAppended c.args.draft.opens.items c.args.draft.block.items c.in_ok-stmt.stmt)
    (IsAfter c.args.draft l)
    (λ d n.
    appended_after c.args.draft d l c.in_ok-stmt.stmt (numbered l) [] c.requires.takes.going
    (none_under c.args.draft.mark (mark_none c.args.draft.mark (role_of l.what) c.requires.takes.marks (if_unmarked c.args.line c.args.cond c.args.action)))
    (ap statement_lines c.in_ok-stmt.ensures) (refl, refl)
    (whole_stands (shape c.args.draft.opens.items) (status c.args.draft).pending (status c.args.draft).ended (role_of l.what) (if_whole c.args.line c.args.cond c.args.action))
    n)
    c.appended.result
    c.appended.ensures
