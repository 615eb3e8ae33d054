use Rattle.std.proofs.Common.{◌≡◌, ◌++◌, drop, map}
use Rattle.std.specs.Prelude.{option_map}
use Rattle.node_code.specs.Texts.{flat_anchor, instructions, when}
use Rattle.resolved_program.specs.Resolved.{control, element_assignment}
use Rattle.program_code.specs.ExpressionCode.{subs_of}
use Rattle.program_code.specs.StatementCode.{forall_assignments_code, triplets}
use Rattle.node_codegen.proofs.forall.add_assignments.Given as goal

-- the code so far, before that of the assignments that are left, is all
abbrev pub invariant-loop-x : goal.invariant-loop-x
invariant-loop-x l =
    instructions l.code.items ++ forall_assignments_code (subs_of l.b (triplets (map control l.controls))) (option_map when l.branch) (option_map flat_anchor l.beside) (map element_assignment (drop l.x-index l.body))
    ≡ instructions l.fn.code.items ++ forall_assignments_code (subs_of l.b (triplets (map control l.controls))) (option_map when l.branch) (option_map flat_anchor l.beside) (map element_assignment l.body)
