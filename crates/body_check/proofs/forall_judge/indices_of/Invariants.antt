use Rattle.std.proofs.Common.{◌≡◌, ◌++◌, drop, map}
use Rattle.syntax_tree.specs.Statement.{axis}
use Rattle.statement_walk.specs.Heads.{indices_of}
use Rattle.body_check.proofs.forall_judge.indices_of.Given as goal

abbrev pub invariant-loop-one : goal.invariant-loop-one
invariant-loop-one l = l.indices.items ++ indices_of (map axis (drop l.one-index l.axes)) ≡ indices_of (map axis l.axes)
