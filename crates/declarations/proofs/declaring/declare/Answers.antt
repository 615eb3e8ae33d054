use Rattle.std.proofs.Common.{[], ap, sym, ◌∙◌}
use Rattle.hpf_base.specs.FirstBreach.{least}
use Rattle.declarations.specs.Declarations.{after_all}
use Rattle.declarations.specs.DeclarationRules.{item_breaches}
use Rattle.declarations.proofs.ItemTurns.{declaration_next, declarations_end, items_flat}
use Rattle.declarations.proofs.declaring.declare.Goals as goal

pub loop-decl-preserved : goal.loop-decl-preserved
loop-decl-preserved c =
    declaration_next c.args.decls.now c.loop-decl.decl-index c.decl-item.result c.loop-decl.names c.declared.new.names _
    c.loop-decl.first c.in_ok-found.found c.earlier-first.result _ c.loop-decl-test.true c.decl-item.is
    c.in_ok-found.ensures.table c.in_ok-found.ensures.first c.earlier-first.ensures c.loop-decl.invariant

pub returns-clause-table : goal.returns-clause-table
returns-clause-table c =
    c.into_table.ensures
    ∙ (declarations_end c.args.decls.now c.loop-decl.decl-index c.loop-decl.names _ c.loop-decl.first _ c.loop-decl-test.false c.loop-decl.invariant).0
    ∙ ap (after_all []) (sym (items_flat c.args.decls.now))

pub returns-clause-first : goal.returns-clause-first
returns-clause-first c =
    (declarations_end c.args.decls.now c.loop-decl.decl-index c.loop-decl.names _ c.loop-decl.first _ c.loop-decl-test.false c.loop-decl.invariant).1
    ∙ ap (λ is. least (item_breaches [] is)) (sym (items_flat c.args.decls.now))
