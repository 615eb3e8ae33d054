use Rattle.std.proofs.Common.{[], ◌&&◌, nat_lt, get_or, replicate}
use Rattle.machine_steps.specs.Layout.{sizes}
use Rattle.comm_sets.specs.Moves.{moves}
use Rattle.comm_sets.specs.Noted.{Noted}
use Rattle.comm_sets.proofs.remapping.moved.Given as goal

abbrev pub invariant-loop-row : goal.invariant-loop-row
invariant-loop-row l =
    Noted (replicate l.before.nodes []) l.messages (λ other s.
    (nat_lt s.row l.row && nat_lt s.at (get_or (sizes l.before.layouts) s.row 0)) && moves l.before.nodes l.before.layouts l.after.layouts l.end other s)
