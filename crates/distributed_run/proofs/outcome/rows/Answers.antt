use Rattle.std.proofs.Common.{◌≡◌, ◌∷◌, [], ◌++◌, map, arith}
use Rattle.std.proofs.lemmas.Grind.{common_steps}
use Rattle.hpf_base.proofs.Ranges.{map-range_push}
use Rattle.distributed_run.specs.Values.{row_values}
use Rattle.distributed_run.proofs.outcome.rows.Goals as goal

pub loop-row-preserved : goal.loop-row-preserved
loop-row-preserved c =
    let pushed : map (λ a. a.items) c.push.new.self.items ≡ map (λ a. a.items) c.loop-row.rows.items ++ c.in_ok-row_values.field-0.items ∷ [] =
    grind (arith, common_steps, c.in_ok-push.ensures.items) in
    map-range_push (row_values c.args.owners.now.layouts c.args.last.now) (map (λ a. a.items) c.loop-row.rows.items) (map (λ a. a.items) c.push.new.self.items)
    c.in_ok-row_values.field-0.items c.loop-row.row pushed c.loop-row.invariant c.in_ok-row_values.ensures
