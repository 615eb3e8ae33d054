use Rattle.std.proofs.Common.{◌≡◌, ◌++◌, drop}
use Rattle.std.specs.Prelude.{option_map}
use Rattle.nest_syntax.specs.ClosedTerms.{closed_values}
use Rattle.resolved_program.specs.Resolved.{terms_of}
use Rattle.node_codegen.proofs.nest_steps.+closed_value.Given as goal

-- the values so far, before those of the operands that are left
abbrev pub invariant-closed_values-loop-t : goal.invariant-closed_values-loop-t
invariant-closed_values-loop-t l = option_map (λ vs. l.values.items ++ vs) (closed_values (terms_of (drop l.t-index l.terms))) ≡ closed_values (terms_of l.terms)
