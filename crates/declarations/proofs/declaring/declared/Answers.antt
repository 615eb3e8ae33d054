use Rattle.std.proofs.Common.{ap, ◌∙◌}
use Rattle.hpf_base.specs.FirstBreach.{least}
use Rattle.declarations.specs.Declarations.{after_all}
use Rattle.declarations.specs.DeclarationRules.{item_breaches}
use Rattle.declarations.proofs.HeldItems.{definitions_of}
use Rattle.declarations.proofs.declaring.declared.Goals as goal

pub returns-in_ok-first-in-Parameter-clause-table : goal.returns-in_ok-first-in-Parameter-clause-table
returns-in_ok-first-in-Parameter-clause-table c =
    c.in_ok-first-in-Parameter.ensures.table
    ∙ ap (after_all c.args.names.now) (definitions_of c.args.decl.now c.in-Parameter.constants c.deref.result.now c.in-Parameter.is c.deref.ensures.value)

pub returns-in_ok-first-in-Parameter-clause-first : goal.returns-in_ok-first-in-Parameter-clause-first
returns-in_ok-first-in-Parameter-clause-first c =
    c.in_ok-first-in-Parameter.ensures.first
    ∙ ap (λ l. least (item_breaches c.args.names.now l)) (definitions_of c.args.decl.now c.in-Parameter.constants c.deref.result.now c.in-Parameter.is c.deref.ensures.value)
