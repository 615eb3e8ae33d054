use Rattle.std.proofs.Common.{arith}
use Rattle.term_values.specs.States.{state_of}
use Rattle.serial_run.proofs.StoredRows.{row_stored}
use Rattle.serial_run.proofs.row_stores.store_rows.Goals as goal

pub loop-start-preserved : goal.loop-start-preserved
loop-start-preserved c = record {
  stored = row_stored (state_of c.args.s.now) (state_of c.loop-start.s) (state_of c.store_run.new.self) c.args.array c.args.last c.loop-start.row c.loop-start.start
      c.in_row.result c.first_at.result c.args.firsts.now c.args.values.now c.loop-start.invariant.stored c.loop-start.invariant.begins c.loop-start-test.true c.in_row.ensures
      c.first_at.ensures c.store_run.ensures;
  begins = omega arith;
  few = omega arith;
}
