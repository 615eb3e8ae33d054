use Rattle.std.proofs.Common.{◌≡◌, map, take}
use Rattle.remap_steps.specs.Redistributions.{value_after}
use Rattle.remap_steps.proofs.redistribution.Redistribution.made_row.Given as goal

-- the values of the elements so far
abbrev pub invariant-loop-at : goal.invariant-loop-at
invariant-loop-at l =
    l.values.items ≡ map (λ at. value_after l.fn.self l.pieces l.received (record { row = l.row; at = at })) (take l.at-index l.at-items)
