use Rattle.std.proofs.Common.{ap, ◌∙◌}
use Rattle.hpf_base.specs.FirstBreach.{at_line, earlier, least}
use Rattle.declarations.specs.Declarations.{after_all}
use Rattle.declarations.specs.Declaring.{bounds_held, typed_items}
use Rattle.declarations.specs.DeclarationRules.{item_breaches}
use Rattle.declarations.proofs.HeldItems.{integer_after, integer_first}
use Rattle.declarations.proofs.declaring.integer.Goals as goal

pub returns-clause-table : goal.returns-clause-table
returns-clause-table c =
    let d = c.args.typed.now in
    c.in_ok-after.ensures.table
    ∙ ap (λ es. after_all c.args.names.now (typed_items c.args.line d.constant (bounds_held d.dims) es)) c.deref.ensures.value
    ∙ integer_after c.args.names.now c.args.line d

pub returns-clause-first : goal.returns-clause-first
returns-clause-first c =
    let d = c.args.typed.now in
    let attribute = c.at_line.ensures ∙ ap (at_line c.args.line) c.in_ok-attribute.ensures in
    let after = c.in_ok-after.ensures.first ∙ ap (λ es. least (item_breaches c.args.names.now
    (typed_items c.args.line d.constant (bounds_held d.dims) es))) c.deref.ensures.value in
    c.earlier.ensures ∙ (λ i. earlier (attribute i) (after i)) ∙ integer_first c.args.names.now c.args.line d
