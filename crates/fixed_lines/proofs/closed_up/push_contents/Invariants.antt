use Rattle.std.proofs.Common.{◌≡◌, ◌≤◌, ◌++◌, drop}
use Rattle.fixed_lines.specs.FreeText.{contents, with_codes}
use Rattle.fixed_lines.proofs.closed_up.push_contents.Given as goal

-- the places so far, and what is left for those that follow
abbrev pub invariant-loop-line : goal.invariant-loop-line
invariant-loop-line l = record {
  within : l.place ≤ l.line-index;
  whole : l.closed.items ++ with_codes (drop l.place l.lines) (contents (drop l.line-index l.lines)) ≡ l.fn.closed.items ++ with_codes l.lines (contents l.lines);
}
