use Rattle.syntax_tree.specs.Directive.{arrangement}
use Rattle.declarations.specs.Declaring.{space_item}
use Rattle.declarations.proofs.ItemTurns.{item_next}
use Rattle.declarations.proofs.declaring.spaces.Goals as goal

pub loop-entity-preserved : goal.loop-entity-preserved
loop-entity-preserved c =
    item_next c.args.line (λ e. space_item c.args.space (arrangement e)) c.args.entities.now c.loop-entity.entity-index c.entity-item.result c.loop-entity.names c.space_entity.new.names _
    c.loop-entity.first c.at_line.result c.earlier-first.result _ c.in_ok-reason.reason c.loop-entity-test.true c.entity-item.is
    c.in_ok-reason.ensures.table c.in_ok-reason.ensures.reason c.at_line.ensures c.earlier-first.ensures c.loop-entity.invariant
