use Rattle.std.proofs.Common.{◌≡◌, ◌++◌, drop}
use Rattle.array_meaning.specs.Execution.{decimals}
use Rattle.serial_run.proofs.print.add_numbers.Given as goal

-- what is left is what all of them have after those so far
abbrev pub invariant-loop-v : goal.invariant-loop-v
invariant-loop-v l = l.fn.bytes.items ++ decimals l.values ≡ l.bytes.items ++ decimals (drop l.v-index l.values)
