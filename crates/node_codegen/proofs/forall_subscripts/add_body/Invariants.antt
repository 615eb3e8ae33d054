use Rattle.std.proofs.Common.{◌≡◌, ◌++◌, drop, map}
use Rattle.array_meaning.specs.Forall.{body_subscripts}
use Rattle.node_code.specs.Texts.{flat}
use Rattle.resolved_program.specs.Resolved.{element_assignment}
use Rattle.program_code.specs.ExpressionCode.{index_flat}
use Rattle.node_codegen.proofs.forall_subscripts.add_body.Given as goal

-- the subscripts so far, before those of the assignments that are left, are all
abbrev pub invariant-loop-x : goal.invariant-loop-x
invariant-loop-x l =
    map flat l.found.items ++ map index_flat (body_subscripts (map element_assignment (drop l.x-index l.body)))
    ≡ map flat l.fn.found.items ++ map index_flat (body_subscripts (map element_assignment l.body))
