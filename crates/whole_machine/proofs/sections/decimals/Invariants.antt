use Rattle.std.proofs.Common.{◌≡◌, ◌++◌, drop}
use Rattle.array_meaning.specs.Execution.{decimals}
use Rattle.whole_machine.proofs.sections.decimals.Given as goal

-- what is left is what all of them have after those so far
abbrev pub invariant-loop-number : goal.invariant-loop-number
invariant-loop-number l = l.bytes.items ++ decimals (drop l.number-index l.numbers) ≡ decimals l.numbers
