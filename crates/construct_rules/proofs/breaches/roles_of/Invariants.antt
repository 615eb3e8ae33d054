use Rattle.std.proofs.Common.{◌≡◌, take}
use Rattle.construct_rules.specs.Breaches.{roles}
use Rattle.construct_rules.specs.ProgramLine.{lines_of}
use Rattle.construct_rules.proofs.breaches.roles_of.Given as goal

abbrev pub invariant-loop-line : goal.invariant-loop-line
invariant-loop-line l = l.roles.items ≡ roles (lines_of (take l.line-index l.lines))
