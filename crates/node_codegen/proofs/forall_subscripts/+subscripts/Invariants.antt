use Rattle.std.proofs.Common.{◌≡◌, ◌++◌, drop, map}
use Rattle.array_meaning.specs.Forall.{subscripts_in_all}
use Rattle.node_code.specs.Texts.{flat}
use Rattle.resolved_program.specs.Resolved.{terms_of}
use Rattle.program_code.specs.ExpressionCode.{index_flat}
use Rattle.node_codegen.proofs.forall_subscripts.+subscripts.Given as goal

-- the subscripts so far, before those of the expressions that are left, are all
abbrev pub invariant-add_all_subscripts-loop-t : goal.invariant-add_all_subscripts-loop-t
invariant-add_all_subscripts-loop-t l =
    map flat l.found.items ++ map index_flat (subscripts_in_all (terms_of (drop l.t-index l.terms))) ≡ map flat l.fn.found.items ++ map index_flat (subscripts_in_all (terms_of l.terms))
