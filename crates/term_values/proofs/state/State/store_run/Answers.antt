use Rattle.std.proofs.Common.{arith}
use Rattle.term_values.specs.States.{state_of}
use Rattle.term_values.proofs.Runs.{run_put}
use Rattle.term_values.proofs.state.State.store_run.Goals as goal

pub returns-then-array-len : goal.returns-then-array-len
returns-then-array-len c =
    run_put (state_of c.args.self.now) c.args.array c.args.first c.args.values.now c.index_mut.result.now c.set_run.new.self (omega arith) c.index_mut.ensures.value
    c.set_run.ensures
