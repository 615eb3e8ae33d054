use Rattle.std.proofs.Common.{◌≡◌, ◌++◌, [], drop}
use Rattle.fixed_lines.specs.FreeText.{with_codes}
use Rattle.fixed_lines.proofs.closed_up.push_blanks.Given as goal

abbrev pub invariant-loop-line : goal.invariant-loop-line
invariant-loop-line l = l.closed.items ++ with_codes (drop l.line-index l.lines) [] ≡ l.fn.closed.items ++ with_codes l.lines []
