use Rattle.std.proofs.Common.{drop}
use Rattle.hpf_base.specs.FirstBreach.{least}
use Rattle.declarations.specs.Declarations.{after_all}
use Rattle.declarations.specs.Declaring.{definition_items}
use Rattle.declarations.specs.DeclarationRules.{item_breaches}
use Rattle.declarations.proofs.ItemTurns.{Leads}
use Rattle.declarations.proofs.declaring.definitions.Given as goal

abbrev pub invariant-loop-constant : goal.invariant-loop-constant
invariant-loop-constant l = Leads l.names l.first (definition_items l.line (drop l.constant-index l.constants))
    (after_all l.initial.names (definition_items l.line l.constants)) (least (item_breaches l.initial.names (definition_items l.line l.constants)))
