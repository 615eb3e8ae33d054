use Rattle.std.proofs.Common.{drop}
use Rattle.fitting_states.specs.FittingStates.{ArmsFit, BlockFits}
use Rattle.resolved_program.specs.Resolved.{arms_of, block_of}
use Rattle.fitting_numbers.proofs.statements.+block_fits.Given as goal

-- all fit where those that are left do
abbrev pub invariant-arms_fit-loop-a : goal.invariant-arms_fit-loop-a
invariant-arms_fit-loop-a l = ArmsFit (arms_of (drop l.a-index l.arms)) → ArmsFit (arms_of l.arms)

abbrev pub invariant-block_fits-loop-s : goal.invariant-block_fits-loop-s
invariant-block_fits-loop-s l = BlockFits (block_of (drop l.s-index l.statements)) → BlockFits (block_of l.statements)
