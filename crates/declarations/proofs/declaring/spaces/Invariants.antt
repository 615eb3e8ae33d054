use Rattle.std.proofs.Common.{drop}
use Rattle.hpf_base.specs.FirstBreach.{least}
use Rattle.declarations.specs.Declarations.{after_all}
use Rattle.declarations.specs.Declaring.{space_items}
use Rattle.declarations.specs.DeclarationRules.{item_breaches}
use Rattle.declarations.proofs.ItemTurns.{Leads}
use Rattle.declarations.proofs.declaring.spaces.Given as goal

abbrev pub invariant-loop-entity : goal.invariant-loop-entity
invariant-loop-entity l = Leads l.names l.first (space_items l.line l.space (drop l.entity-index l.entities))
    (after_all l.initial.names (space_items l.line l.space l.entities)) (least (item_breaches l.initial.names (space_items l.line l.space l.entities)))
