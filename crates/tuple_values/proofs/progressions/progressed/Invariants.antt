use Rattle.std.proofs.Common.{◌≡◌, ◌++◌, ◌-◌}
use Rattle.tuple_values.specs.Progressions.{progressed}
use Rattle.tuple_values.proofs.progressions.progressed.Given as goal

-- with those that are left they are all
abbrev pub invariant-loop-k : goal.invariant-loop-k
invariant-loop-k l = l.values.items ++ progressed l.next.value l.step (l.count - l._k) ≡ progressed l.first l.step l.count
