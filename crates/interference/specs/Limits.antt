-- Of private clauses.
-- The limits of a nest, by its iterations in code.
use Rattle.std.specs.Prelude.{ℕ, ◌-◌, ◌^◌, min, List, Bool, ◌&&◌}
use Rattle.std.specs.List.{list_all}
use Rattle.resolved_program.specs.declared.statements.Arm.{Arm as HeldArm, out-Arm}
use Rattle.resolved_program.specs.Resolved.{block_of, term}
use Rattle.array_meaning.specs.Statements.{Block}
use Rattle.array_meaning.specs.State.{State}
use Rattle.array_meaning.specs.Forall.{is_index_in_limits, subscripts_in}
use Rattle.array_meaning.specs.NestLimits.{are_linear_in_limits, is_block_in_limits}
use Rattle.interference.specs.declared.indices.IterationSpace.{IterationSpace}
use Rattle.interference.specs.IterationSpaces.{iterations_in}

-- a count as 128 bits have it: at most the greatest number of them
abbrev pub saturated : ℕ → ℕ
saturated n = min n (2 ^ 128 - 1)

abbrev pub is_space_in_limits : IterationSpace → Block → State → Bool
is_space_in_limits space body s = list_all is_index_in_limits space.axes.items && is_block_in_limits space.indices.items s (iterations_in space) body

-- the condition and the block of an arm
abbrev pub is_arm_in_limits : List ℕ → State → ℕ → HeldArm → Bool
is_arm_in_limits indices s n a =
    are_linear_in_limits indices s (subscripts_in (term (out-Arm a).condition)) && is_block_in_limits indices s n (block_of (out-Arm a).body.items)
