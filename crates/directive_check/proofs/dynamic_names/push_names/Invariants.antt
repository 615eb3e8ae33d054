use Rattle.std.proofs.Common.{◌≡◌, ◌++◌, drop, map}
use Rattle.directive_check.specs.MappedSteps.{dynamic, dynamic_at}
use Rattle.directive_check.proofs.dynamic_names.push_names.Given as goal

abbrev pub invariant-loop-name : goal.invariant-loop-name
invariant-loop-name l = dynamic l.names.items ++ map (dynamic_at l.line) (drop l.name-index l.listed) ≡ dynamic l.fn.names.items ++ map (dynamic_at l.line) l.listed
