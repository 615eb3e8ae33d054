use Rattle.std.proofs.Common.{◌*◌, ◌+◌, ◌-◌, ◌≤◌, ◌∷◌}
use Rattle.term_values.specs.States.{state_of}
use Rattle.term_values.specs.Views.{elemental}
use Rattle.strip_operators.specs.Strips.{IsStrip}
use Rattle.strips.specs.Strips.{space_value}
use Rattle.strips.proofs.rows.add_row.Given as goal

-- the values at the strips so far
abbrev pub invariant-loop-u : goal.invariant-loop-u
invariant-loop-u l = IsStrip (space_value (state_of l.s) (l.first ∷ l.others) (elemental l.x)) (l.y * l.first + l.u) l.vs.items × (l.u ≤ l.first)

abbrev pub decreases-loop-u : goal.decreases-loop-u
decreases-loop-u l = l.first - l.u
