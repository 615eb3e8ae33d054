use Rattle.std.proofs.Common.{◌≡◌, ◌++◌, [], drop, map}
use Rattle.syntax_tree.specs.Statement.{axis}
use Rattle.array_meaning.specs.Resolution.{control_of}
use Rattle.resolved_program.specs.Resolved.{control}
use Rattle.program_plan.proofs.controls.controls.Given as goal

-- what is made so far, before what the rest makes, is all
abbrev pub invariant-loop-x : goal.invariant-loop-x
invariant-loop-x l = map control l.controls.items ++ map (control_of l.names []) (map axis (drop l.x-index l.axes)) ≡ map (control_of l.names []) (map axis l.axes)
