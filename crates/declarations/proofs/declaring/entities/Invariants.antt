use Rattle.std.proofs.Common.{drop}
use Rattle.hpf_base.specs.FirstBreach.{least}
use Rattle.declarations.specs.Declarations.{after_all}
use Rattle.declarations.specs.Declaring.{bounds_held, typed_items}
use Rattle.declarations.specs.DeclarationRules.{item_breaches}
use Rattle.declarations.proofs.ItemTurns.{Leads}
use Rattle.declarations.proofs.declaring.entities.Given as goal

abbrev pub invariant-loop-entity : goal.invariant-loop-entity
invariant-loop-entity l = Leads l.names l.first (typed_items l.line l.constant (bounds_held l.dims) (drop l.entity-index l.entities))
    (after_all l.initial.names (typed_items l.line l.constant (bounds_held l.dims) l.entities))
    (least (item_breaches l.initial.names (typed_items l.line l.constant (bounds_held l.dims) l.entities)))
