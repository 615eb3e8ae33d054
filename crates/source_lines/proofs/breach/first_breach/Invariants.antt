use Rattle.std.proofs.Common.{◌≤◌, take}
use Rattle.source_lines.specs.Steps.{IsCounted}
use Rattle.source_lines.proofs.BreachLaws.{IsClear}
use Rattle.source_lines.proofs.breach.first_breach.Given as goal

-- no line so far is a breach, and the continued ones up to here are counted
abbrev pub invariant-loop-i : goal.invariant-loop-i
invariant-loop-i l = record {
  clear : IsClear l.lines l.i;
  counted : IsCounted (take l.i l.lines) l.continued;
  within : l.continued ≤ l.i;
}
