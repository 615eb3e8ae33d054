use Rattle.std.proofs.Common.{◌≡◌, ◌++◌, drop}
use Rattle.statement_trail.specs.NestParts.{all_scalars_in, of_these}
use Rattle.resolved_program.specs.Resolved.{terms_of}
use Rattle.node_codegen.proofs.nest_terms.+scalars.Given as goal

-- those so far, before those of the expressions that are left
abbrev pub invariant-add_all_scalars-loop-t : goal.invariant-add_all_scalars-loop-t
invariant-add_all_scalars-loop-t l =
    l.found.items ++ of_these l.scalars (all_scalars_in (terms_of (drop l.t-index l.t-items))) ≡ l.fn.found.items ++ of_these l.scalars (all_scalars_in (terms_of l.t-items))
