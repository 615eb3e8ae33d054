-- Where the numbers in a loop fit, those in its mark do: the loops of a nest and its innermost block stand inside its outermost loop.
use Rattle.std.specs.Prelude.{ℕ, suc, Option, Some, None}
use Rattle.std.specs.List.{AllByRecursion}
use Rattle.array_meaning.specs.Statements.{Loop, Block, Done, Then, Do}
use Rattle.fitting_states.specs.FittingStates.{ControlFits, BlockFits, MarkFits}
use Rattle.resolved_program.specs.declared.statements.Nest.{Nest as HeldNest}
use Rattle.resolved_program.specs.Resolved.{inner_loops, innermost, mark}

-- the loops inside the outermost one, and the block inside all of them
inner_fit : (n : ℕ) (b : Block) → BlockFits b → AllByRecursion (λ (l : Loop). ControlFits l.control) (inner_loops n b) × BlockFits (innermost n b)
inner_fit (suc n) (Then line (Do mark loop body) Done) fit = let within = inner_fit n body fit.0.2 in ((fit.0.1, within.0), within.1)
inner_fit n b fit = (tt, fit)

pub mark_fits : (nest : Option HeldNest) (l : Loop) (body : Block) → ControlFits l.control → BlockFits body → MarkFits (mark nest l body)
mark_fits None l body control fit = tt
mark_fits (Some nest) l body control fit = let within = inner_fit nest.inner_loops body fit in ((control, within.0), within.1)
