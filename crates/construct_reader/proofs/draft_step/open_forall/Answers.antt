use Rattle.std.proofs.Common.{refl, Some, None, subst, sym}
use Rattle.statement_reader.specs.Views.{forall_of}
use Rattle.construct_reader.specs.ProgramLines.{AreEntriesOf, bare_independent_lines}
use Rattle.statement_reader.specs.declared.kind.Kind.TheVariants as kind
use Rattle.statement_reader.specs.Forms as statements
use Rattle.construct_rules.specs.declared.role.Construct.TheVariants as construct
use Rattle.construct_rules.specs.declared.role.Role.TheVariants as role
use Rattle.construct_rules.specs.ProgramLine.{OfStatement}
use Rattle.construct_reader.specs.declared.draft.Opened.TheVariants as opened
use Rattle.construct_reader.specs.Draft.{IsAfter, IsNested}
use Rattle.construct_reader.specs.NextLine.{statement_line}
use Rattle.construct_reader.proofs.Taken.{bare, bare_under, on_ok, opened_after}
use Rattle.construct_reader.proofs.draft_step.open_forall.Goals as goal

pub returns : goal.returns
returns c =
    let form = statements.Plain kind.Forall (forall_of c.args.head, None) in
    let w = opened.Forall c.args.line c.args.head c.is_some-marked.result in
    on_ok
    (IsNested c.args.draft.opens.items c.args.draft.block.items w)
    (IsAfter c.args.draft (statement_line c.args.line form))
    (λ d n.
    opened_after c.args.draft d (statement_line c.args.line form) w (Some c.args.line, OfStatement form) (bare_independent_lines c.is_some-marked.result) c.requires.takes.going
    (λ ls h.
    subst (λ b. AreEntriesOf (bare_independent_lines b) ls) (sym c.is_some-marked.ensures)
    (bare_under c.args.draft.mark (bare c.args.draft.mark (role.Opens construct.Forall) (λ lists. refl) c.requires.takes.marks) ls h))
    refl (refl, refl) refl n)
    c.nested.result
    c.nested.ensures
