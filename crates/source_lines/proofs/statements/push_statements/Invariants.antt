use Rattle.std.proofs.Common.{◌≡◌, ◌++◌, map}
use Rattle.source_lines.specs.LogicalLines.{logical_line, statements}
use Rattle.source_lines.specs.declared.line.LineKind.TheVariants.{Statement}
use Rattle.source_lines.proofs.LineLaws.{length_left, statements_left}
use Rattle.source_lines.proofs.statements.push_statements.Given as goal

-- the statements so far and those that are left are all
abbrev pub invariant-loop-rest : goal.invariant-loop-rest
invariant-loop-rest l =
    l.lines.items ++ map (logical_line l.line Statement) (statements_left l.rest) ≡ l.fn.lines.items ++ map (logical_line l.line Statement) (statements l.fn.bytes)

abbrev pub decreases-loop-rest : goal.decreases-loop-rest
decreases-loop-rest l = length_left l.rest
