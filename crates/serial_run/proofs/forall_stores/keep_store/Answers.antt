use Rattle.std.proofs.Common.{rules, ◌≡◌, ◌∙◌, ap, true, Some}
use Rattle.array_meaning.specs.ArrayAssignments.{if_true}
use Rattle.resolved_program.specs.Resolved.{element_assignment}
use Rattle.term_values.specs.States.{state_of}
use Rattle.serial_run.specs.SectionStores.{branch_mask}
use Rattle.serial_run.specs.ForallParts.{forall_store}
use Rattle.serial_run.proofs.forall_stores.keep_store.Goals as goal

pub returns-then-st-clause-value : goal.returns-then-st-clause-value
returns-then-st-clause-value c =
    let chosen : branch_mask c.args.space.branch c.args.space.mask.now c.args.t ≡ true = search rules in (
      Some c.known_store-st.result.store,
      ap (λ b. if_true b (forall_store (state_of c.args.s.now) (element_assignment c.args.b.now) c.args.x.now)) chosen ∙ c.known_store-st.ensures c.if-st.true,
      c.in_ok-push.ensures.items,
    )
