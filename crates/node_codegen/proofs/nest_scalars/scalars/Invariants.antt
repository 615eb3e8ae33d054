use Rattle.std.proofs.Common.{◌≡◌, ◌++◌, ◌-◌}
use Rattle.array_meaning.specs.Touches.{assigned_in}
use Rattle.statement_trail.specs.NestParts.{among_from}
use Rattle.resolved_program.specs.Resolved.{block_of}
use Rattle.node_codegen.proofs.nest_scalars.scalars.Given as goal

-- those so far, before those that are left
abbrev pub invariant-loop-k : goal.invariant-loop-k
invariant-loop-k l =
    l.found.items ++ among_from (assigned_in (block_of l.body.items)) l.k (l.names - l.k) ≡ among_from (assigned_in (block_of l.body.items)) 0 l.names
