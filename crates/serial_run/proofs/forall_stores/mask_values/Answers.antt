use Rattle.std.proofs.Common.{◌∙◌, rules}
use Rattle.resolved_program.specs.Resolved.{term}
use Rattle.term_values.specs.States.{state_of}
use Rattle.serial_run.proofs.ForallStores.{mask_stop}
use Rattle.serial_run.proofs.forall_stores.mask_values.Goals as goal

pub returns-in_err-v-clause-stopped : goal.returns-in_err-v-clause-stopped
returns-in_err-v-clause-stopped c =
    let stop =
    mask_stop c.args.axes.now (state_of c.args.s.now) (term c.args.mask.now) c.loop-t.t c.args.n c.deref.result.now c.loop-t.values.items c.in_err-v.field-0.0
    (c.deref.ensures.value ∙ c.loop-t.invariant.1.values) c.loop-t-test.true c.loop-t.invariant.0 c.in_err-v.ensures.stopped in
    search rules
