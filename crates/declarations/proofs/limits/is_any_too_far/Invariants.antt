use Rattle.std.proofs.Common.{◌≡◌, drop, map}
use Rattle.std.specs.Prelude.{◌||◌}
use Rattle.std.specs.List.{list_any}
use Rattle.syntax_tree.specs.Directive.{bound}
use Rattle.declarations.specs.Declarations.{is_bound_too_far}
use Rattle.declarations.proofs.limits.is_any_too_far.Given as goal

abbrev pub invariant-loop-dimension : goal.invariant-loop-dimension
invariant-loop-dimension l = (l.far || list_any (is_bound_too_far l.scope) (map bound (drop l.dimension-index l.bounds))) ≡ list_any (is_bound_too_far l.scope) (map bound l.bounds)
