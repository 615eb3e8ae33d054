use Rattle.std.proofs.Common.{◌*◌, ◌∷◌}
use Rattle.term_values.specs.States.{state_of}
use Rattle.term_values.specs.Views.{elemental}
use Rattle.strip_operators.specs.Strips.{IsStrip}
use Rattle.strips.specs.Strips.{space_value}
use Rattle.strips.proofs.rows.row_values.Given as goal

-- the values at the rows so far
abbrev pub invariant-loop-y : goal.invariant-loop-y
invariant-loop-y l = IsStrip (space_value (state_of l.s) (l.first ∷ l.others) (elemental l.x)) (l.y * l.first) l.vs.items
