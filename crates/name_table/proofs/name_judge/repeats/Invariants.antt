use Rattle.std.proofs.Common.{◌≡◌, drop, map}
use Rattle.std.specs.Prelude.{◌||◌}
use Rattle.syntax_tree.specs.Statement.{axis}
use Rattle.statement_walk.specs.Heads.{indices_of}
use Rattle.name_table.specs.Uses.{repeats}
use Rattle.name_table.proofs.Repeats.{repeats_after}
use Rattle.name_table.proofs.name_judge.repeats.Given as goal

abbrev pub invariant-loop-other : goal.invariant-loop-other
invariant-loop-other l = (l.twice || repeats_after l.seen.keys (indices_of (map axis (drop l.other-index l.axes)))) ≡ repeats (indices_of (map axis l.axes))
