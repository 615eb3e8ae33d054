use Rattle.std.proofs.Common.{◌∙◌, sym, get_or, []}
use Rattle.std.proofs.lemmas.Option.{get_or_from_slice_get}
use Rattle.local_address.specs.Runs.{run_of}
use Rattle.local_address.proofs.SpanLaws.{map-take_more}
use Rattle.local_address.proofs.columns.runs_of_node.Goals as goal

pub loop-column-preserved : goal.loop-column-preserved
loop-column-preserved c =
    c.in_ok-push.ensures.items
    ∙ map-take_more (λ column. get_or column c.args.node (run_of [])) c.args.columns.now c.loop-column.runs.items c.loop-column.column-index c.column-item.result
    c.at.result c.loop-column-test.true c.column-item.is
    (sym (get_or_from_slice_get c.column-item.result c.args.node c.at.result (run_of []) c.at.ensures)) c.loop-column.invariant
