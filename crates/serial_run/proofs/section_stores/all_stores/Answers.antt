use Rattle.std.proofs.Common.{◌∙◌, subst, rules}
use Rattle.array_meaning.specs.Faults.{at_tuple}
use Rattle.array_meaning.specs.Sections.{positions}
use Rattle.array_meaning.specs.ArrayAssignments.{if_true}
use Rattle.term_values.specs.States.{state_of}
use Rattle.term_values.specs.Stops.{IsStop}
use Rattle.term_values.specs.Views.{elemental}
use Rattle.serial_run.specs.SectionStores.{Keeps, branch_mask, masked_store, tuple_store}
use Rattle.serial_run.proofs.Stores.{keep_next, keep_stop}
use Rattle.serial_run.proofs.section_stores.all_stores.Goals as goal

pub loop-t-preserved : goal.loop-t-preserved
loop-t-preserved c =
    let mask = branch_mask c.args.space.branch c.args.space.mask.now in (
      keep_next (positions c.args.space.extents.now)
          (masked_store (state_of c.args.s.now) c.args.space.extents.now mask c.args.sides.array c.args.sides.left.now (elemental c.args.sides.right.now))
          c.loop-t.t c.loop-t.stores.items c.keep_store.new.stores.items c.loop-t.invariant.0
          (subst (λ x. Keeps (if_true (mask c.loop-t.t) (tuple_store (state_of c.args.s.now) c.args.sides.array c.args.sides.left.now (elemental c.args.sides.right.now) x)) c.loop-t.stores.items c.keep_store.new.stores.items)
          (c.deref.ensures.value ∙ c.loop-t.invariant.1.values) c.in_ok-keep_store.ensures.value),
      c.in_ok-advance.ensures,
    )

pub returns-in_err-keep_store-clause-stopped : goal.returns-in_err-keep_store-clause-stopped
returns-in_err-keep_store-clause-stopped c =
    let mask = branch_mask c.args.space.branch c.args.space.mask.now in
    let stop =
    keep_stop (positions c.args.space.extents.now)
    (masked_store (state_of c.args.s.now) c.args.space.extents.now mask c.args.sides.array c.args.sides.left.now (elemental c.args.sides.right.now))
    c.loop-t.t c.args.n c.loop-t.stores.items c.in_err-keep_store.field-0.0 c.loop-t-test.true c.loop-t.invariant.0
    (subst (λ x. IsStop (at_tuple x (if_true (mask c.loop-t.t) (tuple_store (state_of c.args.s.now) c.args.sides.array c.args.sides.left.now (elemental c.args.sides.right.now) x))) c.in_err-keep_store.field-0.0)
    (c.deref.ensures.value ∙ c.loop-t.invariant.1.values) c.in_err-keep_store.ensures.stopped) in
    search rules
