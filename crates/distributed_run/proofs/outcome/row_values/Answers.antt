use Rattle.std.proofs.Common.{rules, ◌≡◌, ℕ, ℤ, ◌∷◌, [], ◌++◌, refl}
use Rattle.hpf_base.proofs.Ranges.{map-range_push}
use Rattle.distributed_run.specs.Values.{value_of}
use Rattle.distributed_run.proofs.outcome.row_values.Goals as goal

pub loop-at-preserved : goal.loop-at-preserved
loop-at-preserved c =
    let value : ℕ → ℤ = λ at. value_of c.args.owners.now.layouts c.args.last.now (record { row = c.args.row; at = at }) in
    let pushed : c.push.new.self.items ≡ c.loop-at.values.items ++ value_of c.args.owners.now.layouts c.args.last.now (record { row = c.args.row; at = c.loop-at.at }) ∷ [] =
    search rules in
    map-range_push value c.loop-at.values.items c.push.new.self.items (value c.loop-at.at) c.loop-at.at pushed c.loop-at.invariant refl
