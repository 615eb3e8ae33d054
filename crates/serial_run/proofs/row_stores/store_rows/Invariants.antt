use Rattle.std.proofs.Common.{◌≡◌, ◌≤◌, ◌*◌, ◌-◌, suc, length, min}
use Rattle.term_values.specs.States.{state_of}
use Rattle.serial_run.specs.SectionStores.{stored_each}
use Rattle.serial_run.specs.RowStores.{stores_below}
use Rattle.serial_run.proofs.row_stores.store_rows.Given as goal

-- what the rows so far store, and where this turn's row begins
abbrev pub invariant-loop-start : goal.invariant-loop-start
invariant-loop-start l = record {
  stored : state_of l.s ≡ stored_each (state_of l.fn.s) l.fn.array (stores_below l.firsts (suc l.last) l.values l.start);
  begins : l.start ≡ min (length l.values) (l.row * suc l.last);
  few : l.row ≤ l.start;
}

abbrev pub decreases-loop-start : goal.decreases-loop-start
decreases-loop-start l = length l.values - l.start
