use Rattle.std.proofs.Common.{◌∙◌, rules}
use Rattle.resolved_program.specs.Resolved.{element_assignment}
use Rattle.term_values.specs.States.{state_of}
use Rattle.serial_run.specs.SectionStores.{branch_mask}
use Rattle.serial_run.proofs.ForallStores.{forall_next, forall_stop}
use Rattle.serial_run.proofs.forall_stores.forall_stores.Goals as goal

pub loop-t-preserved : goal.loop-t-preserved
loop-t-preserved c = (
  forall_next c.args.axes.now (branch_mask c.args.space.branch c.args.space.mask.now) (element_assignment c.args.b.now) (state_of c.args.s.now) c.loop-t.t c.deref.result.now
      c.loop-t.stores.items c.keep_store.new.stores.items (c.deref.ensures.value ∙ c.loop-t.invariant.1.values) c.loop-t.invariant.0 c.in_ok-keep_store.ensures.value,
  c.in_ok-advance.ensures,
)

pub returns-in_err-keep_store-clause-stopped : goal.returns-in_err-keep_store-clause-stopped
returns-in_err-keep_store-clause-stopped c =
    let stop =
    forall_stop c.args.axes.now (branch_mask c.args.space.branch c.args.space.mask.now) (element_assignment c.args.b.now) (state_of c.args.s.now) c.loop-t.t c.args.n
    c.deref.result.now c.loop-t.stores.items c.in_err-keep_store.field-0.0 (c.deref.ensures.value ∙ c.loop-t.invariant.1.values) c.loop-t-test.true c.loop-t.invariant.0
    c.in_err-keep_store.ensures.stopped in
    search rules
