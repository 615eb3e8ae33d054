use Rattle.std.proofs.Common.{◌≡◌, ◌*◌, drop, map}
use Rattle.hpf_base.specs.ElementOrder.{product}
use Rattle.local_address.proofs.runs.tuple_count.Given as goal

abbrev pub invariant-loop-run : goal.invariant-loop-run
invariant-loop-run l = l.count * product (drop l.run-index (map (λ run. run.count) l.runs)) ≡ product (map (λ run. run.count) l.runs)
