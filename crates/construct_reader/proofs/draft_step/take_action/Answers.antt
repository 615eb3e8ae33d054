use Rattle.std.proofs.Common.{ap, is_some, refl, subst, sym, ◌∙◌}
use Rattle.construct_rules.specs.Roles.{role_of}
use Rattle.construct_reader.specs.ProgramLines.{bare_independent_lines, numbered, statement_lines}
use Rattle.construct_reader.specs.Draft.{IsAppended, IsAfter, shape, status}
use Rattle.construct_reader.specs.NextLine.{action_line, single_or_marked}
use Rattle.construct_reader.specs.Formed.{IsStatement}
use Rattle.construct_reader.proofs.Taken.{action_whole, appended_after, bare_under, marked_forall, marked_lines, marked_lists, marked_sound, on_ok, whole_stands}
use Rattle.construct_reader.proofs.draft_step.take_action.Goals as goal

pub single-requires : goal.single-requires
single-requires c h =
    marked_forall c.args.draft.mark (role_of (action_line c.args.line c.args.action).what) (action_whole c.args.line c.args.action)
    c.requires.takes.marks (sym c.is_some.ensures ∙ h)

pub appended-requires : goal.appended-requires
appended-requires c =
    let l = action_line c.args.line c.args.action in
    let sound = marked_sound c.args.draft.mark l (action_whole c.args.line c.args.action) c.requires.takes.marks in
    (c.requires.sound.0, c.requires.sound.1, subst IsStatement (sym (c.in_ok-stmt.ensures ∙ ap (λ b. single_or_marked b l) c.is_some.ensures)) sound)

pub returns : goal.returns
returns c =
    let l = action_line c.args.line c.args.action in
    let whole = action_whole c.args.line c.args.action in
    on_ok
    (IsAppended c.args.draft.opens.items c.args.draft.block.items c.in_ok-stmt.stmt)
    (IsAfter c.args.draft l)
    (λ d n.
    appended_after c.args.draft d l c.in_ok-stmt.stmt (numbered l) (bare_independent_lines (is_some c.args.draft.mark)) c.requires.takes.going
    (bare_under c.args.draft.mark (marked_lists c.args.draft.mark (role_of l.what) whole c.requires.takes.marks))
    (ap statement_lines (c.in_ok-stmt.ensures ∙ ap (λ b. single_or_marked b l) c.is_some.ensures) ∙ marked_lines (is_some c.args.draft.mark) l)
    (refl, refl)
    (whole_stands (shape c.args.draft.opens.items) (status c.args.draft).pending (status c.args.draft).ended (role_of l.what) whole)
    n)
    c.appended.result
    c.appended.ensures
