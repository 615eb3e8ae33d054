use Rattle.std.proofs.Common.{ap, ◌∙◌}
use Rattle.hpf_base.specs.FirstBreach.{least}
use Rattle.declarations.specs.Declarations.{after_all}
use Rattle.declarations.specs.DeclarationRules.{item_breaches}
use Rattle.declarations.proofs.HeldItems.{arrangements_of, templates_of}
use Rattle.declarations.proofs.declaring.directed.Goals as goal

pub returns-in_ok-first-in-Template-clause-table : goal.returns-in_ok-first-in-Template-clause-table
returns-in_ok-first-in-Template-clause-table c =
    c.in_ok-first-in-Template.ensures.table
    ∙ ap (after_all c.args.names.now) (templates_of c.args.line c.args.directive.now c.in-Template.entities c.deref.result.now c.in-Template.is c.deref.ensures.value)

pub returns-in_ok-first-in-Template-clause-first : goal.returns-in_ok-first-in-Template-clause-first
returns-in_ok-first-in-Template-clause-first c =
    c.in_ok-first-in-Template.ensures.first
    ∙ ap (λ l. least (item_breaches c.args.names.now l)) (templates_of c.args.line c.args.directive.now c.in-Template.entities c.deref.result.now c.in-Template.is c.deref.ensures.value)

pub returns-in_ok-first-in-Processors-clause-table : goal.returns-in_ok-first-in-Processors-clause-table
returns-in_ok-first-in-Processors-clause-table c =
    c.in_ok-first-in-Processors.ensures.table
    ∙ ap (after_all c.args.names.now) (arrangements_of c.args.line c.args.directive.now c.in-Processors.entities c.deref-in-Processors.result.now c.in-Processors.is c.deref-in-Processors.ensures.value)

pub returns-in_ok-first-in-Processors-clause-first : goal.returns-in_ok-first-in-Processors-clause-first
returns-in_ok-first-in-Processors-clause-first c =
    c.in_ok-first-in-Processors.ensures.first
    ∙ ap (λ l. least (item_breaches c.args.names.now l)) (arrangements_of c.args.line c.args.directive.now c.in-Processors.entities c.deref-in-Processors.result.now c.in-Processors.is c.deref-in-Processors.ensures.value)
