use Rattle.std.proofs.Common.{◌≡◌, drop, map}
use Rattle.std.specs.Prelude.{◌||◌}
use Rattle.syntax_tree.specs.Statement.{axis}
use Rattle.statement_walk.specs.Heads.{indices_of}
use Rattle.expression_rules.specs.Symbols.{is_among}
use Rattle.name_table.proofs.name_judge.is_index.Given as goal

abbrev pub invariant-loop-other : goal.invariant-loop-other
invariant-loop-other l = (l.found || is_among l.name (indices_of (map axis (drop l.other-index l.axes)))) ≡ is_among l.name (indices_of (map axis l.axes))
