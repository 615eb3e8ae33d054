-- Of private clauses.
-- The check of a nest at its entry, by its iterations in code.
use Rattle.std.specs.Prelude.{if◌then◌else◌, Result}
use Rattle.resolved_program.specs.declared.statements.Nest.{Nest as HeldNest}
use Rattle.array_meaning.specs.declared.faults.FaultKind.TheVariants.{SpaceLimit}
use Rattle.array_meaning.specs.Faults.{Cause, fails}
use Rattle.array_meaning.specs.Statements.{Block}
use Rattle.array_meaning.specs.State.{State}
use Rattle.array_meaning.specs.Clashes.{first_clash}
use Rattle.array_meaning.specs.NestEntry.{unless_clash}
use Rattle.interference.specs.declared.indices.IterationSpace.{IterationSpace}
use Rattle.interference.specs.IterationSpaces.{iterations_in, touches_at}
use Rattle.interference.specs.Limits.{is_space_in_limits}

-- of a nest that has an iteration
abbrev pub check_space : HeldNest → IterationSpace → Block → State → Result State Cause
check_space nest space body s =
    if is_space_in_limits space body s then unless_clash s space.axes.items (first_clash (touches_at nest space body s) (iterations_in space)) else fails SpaceLimit
