use Rattle.std.proofs.Common.{[], drop}
use Rattle.std.specs.List.{flat_map}
use Rattle.hpf_base.specs.FirstBreach.{least}
use Rattle.declarations.specs.Declarations.{after_all}
use Rattle.declarations.specs.Declaring.{items_in}
use Rattle.declarations.specs.DeclarationRules.{item_breaches}
use Rattle.declarations.proofs.ItemTurns.{Leads}
use Rattle.declarations.proofs.declaring.declare.Given as goal

abbrev pub invariant-loop-decl : goal.invariant-loop-decl
invariant-loop-decl l = Leads l.names l.first (flat_map items_in (drop l.decl-index l.decls)) (after_all [] (flat_map items_in l.decls))
    (least (item_breaches [] (flat_map items_in l.decls)))
