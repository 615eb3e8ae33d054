use Rattle.std.proofs.Common.{◌≡◌, drop, map}
use Rattle.std.specs.Prelude.{option_map}
use Rattle.syntax_tree.specs.Directive.{bound}
use Rattle.declarations.specs.Declarations.{dims}
use Rattle.declarations.specs.Declaring.{and_dims}
use Rattle.declarations.proofs.limits.dims.Given as goal

-- the dimensions so far, and those of the rest after them, are all
abbrev pub invariant-loop-dimension : goal.invariant-loop-dimension
invariant-loop-dimension l = and_dims (option_map (λ v. v.items) l.dims) (dims l.scope (map bound (drop l.dimension-index l.bounds))) ≡ dims l.scope (map bound l.bounds)
