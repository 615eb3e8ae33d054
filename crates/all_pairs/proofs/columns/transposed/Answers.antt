use Rattle.std.proofs.Common.{◌∙◌, ap, sym, length}
use Rattle.all_pairs.specs.RowSteps.{each_appended}
use Rattle.all_pairs.proofs.Transposition.{transposed_more, appended_count}
use Rattle.all_pairs.proofs.columns.transposed.Goals as goal

pub loop-row-preserved : goal.loop-row-preserved
loop-row-preserved c =
    let new = c.in_ok-append_each.ensures in (
      new ∙ ap (λ l. each_appended l c.in-Some.row) c.loop-row.invariant.0 ∙ sym (transposed_more _ c.loop-row.yielded c.in-Some.row),
      ap length new ∙ appended_count c.loop-row.columns.items c.in-Some.row ∙ c.loop-row.invariant.1,
    )
