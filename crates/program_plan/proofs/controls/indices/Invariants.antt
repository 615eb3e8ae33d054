use Rattle.std.proofs.Common.{◌≡◌, ◌++◌, drop, map}
use Rattle.syntax_tree.specs.Statement.{axis}
use Rattle.program_plan.proofs.controls.indices.Given as goal

-- the names so far, with those of the rest, are all
abbrev pub invariant-loop-x : goal.invariant-loop-x
invariant-loop-x l = l.indices.items ++ map (λ x. x.index) (map axis (drop l.x-index l.axes)) ≡ map (λ x. x.index) (map axis l.axes)
