use Rattle.syntax_tree.specs.MainProgram.{named_constant}
use Rattle.declarations.specs.Declarations.{Definition}
use Rattle.declarations.proofs.ItemTurns.{item_next}
use Rattle.declarations.proofs.declaring.definitions.Goals as goal

pub loop-constant-preserved : goal.loop-constant-preserved
loop-constant-preserved c =
    item_next c.args.line (λ d. Definition (named_constant d)) c.args.constants.now c.loop-constant.constant-index c.constant-item.result c.loop-constant.names c.definition.new.names _
    c.loop-constant.first c.at_line.result c.earlier-first.result _ c.in_ok-reason.reason c.loop-constant-test.true c.constant-item.is
    c.in_ok-reason.ensures.table c.in_ok-reason.ensures.reason c.at_line.ensures c.earlier-first.ensures c.loop-constant.invariant
