use Rattle.std.proofs.Common.{◌≡◌, drop, map}
use Rattle.array_meaning.specs.Expressions.{all_index_values}
use Rattle.resolved_program.specs.Resolved.{control}
use Rattle.term_values.specs.States.{state_of}
use Rattle.term_values.proofs.InOrder.{prefixed}
use Rattle.serial_run.proofs.forall.all_index_values.Given as goal

-- the values so far, before those of the indices that are left
abbrev pub invariant-loop-c : goal.invariant-loop-c
invariant-loop-c l = all_index_values (state_of l.s) (map control l.controls) ≡ prefixed l.axes.items (all_index_values (state_of l.s) (map control (drop l.c-index l.controls)))
