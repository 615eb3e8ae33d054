use Rattle.std.proofs.Common.{◌≡◌, drop}
use Rattle.source_lines.specs.Breaches.{goes_on}
use Rattle.source_lines.specs.declared.physical_lines.PhysicalKind.TheVariants.{Statement}
use Rattle.source_lines.proofs.breach.meets_statement.Given as goal

abbrev pub invariant-loop-line : goal.invariant-loop-line
invariant-loop-line l = goes_on Statement l.lines ≡ goes_on Statement (drop l.line-index l.lines)
