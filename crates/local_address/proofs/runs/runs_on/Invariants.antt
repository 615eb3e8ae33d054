use Rattle.local_address.specs.Runs.{IsTable}
use Rattle.local_address.proofs.runs.runs_on.Given as goal

-- which of the subscripts so far
abbrev pub invariant-loop-place : goal.invariant-loop-place
invariant-loop-place l = IsTable l.axis l.lower l.place l.runs.items
