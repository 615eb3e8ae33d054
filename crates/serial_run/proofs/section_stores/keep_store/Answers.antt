use Rattle.std.proofs.Common.{rules, ◌≡◌, ◌∙◌, ap, true, Some}
use Rattle.array_meaning.specs.ArrayAssignments.{if_true}
use Rattle.term_values.specs.States.{state_of}
use Rattle.term_values.specs.Views.{elemental}
use Rattle.serial_run.specs.SectionStores.{branch_mask, tuple_store}
use Rattle.serial_run.proofs.section_stores.keep_store.Goals as goal

pub returns-clause-value : goal.returns-clause-value
returns-clause-value c =
    let chosen : branch_mask c.args.space.branch c.args.space.mask.now c.args.t ≡ true = search rules in (
      Some c.in_ok-st.st,
      ap (λ b. if_true b (tuple_store (state_of c.args.s.now) c.args.sides.array c.args.sides.left.now (elemental c.args.sides.right.now) c.args.tuple.now)) chosen ∙ c.in_ok-st.ensures.value,
      c.in_ok-push.ensures.items,
    )
