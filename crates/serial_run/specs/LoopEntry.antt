-- Of private clauses.
-- What comes before the iterations of a loop.
use Rattle.std.specs.Prelude.{Result, Ok}
use Rattle.array_meaning.specs.Faults.{Cause, ◌>>=◌}
use Rattle.array_meaning.specs.Statements.{Loop, Mark}
use Rattle.array_meaning.specs.State.{State}
use Rattle.array_meaning.specs.declared.sections.Sequence.{Sequence}
use Rattle.array_meaning.specs.Expressions.{index_values}
use Rattle.array_meaning.specs.NestEntry.{entered}

-- the values of its index, which are evaluated first, and its entry
abbrev pub loop_entry : Mark → Loop → State → Result Sequence Cause
loop_entry mark loop s = index_values s loop.control >>= (λ p. entered mark s >>= (λ r. Ok p))
