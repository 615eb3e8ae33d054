use Rattle.std.proofs.Common.{◌≡◌, ◌++◌, drop, map}
use Rattle.node_code.specs.Texts.{instructions}
use Rattle.resolved_program.specs.Resolved.{section_assignment, term}
use Rattle.program_code.specs.ExpressionCode.{form_of}
use Rattle.program_code.specs.StatementCode.{masked_code}
use Rattle.node_codegen.specs.Maskings.{masking}
use Rattle.node_codegen.proofs.where_construct.add_masked.Given as goal

-- the code so far, before that of the assignments that are left, is all
abbrev pub invariant-loop-x : goal.invariant-loop-x
invariant-loop-x l =
    instructions l.code.items ++ masked_code l.b (masking (form_of l.free (term l.mask)) l.branch l.beside) (map section_assignment (drop l.x-index l.body))
    ≡ instructions l.fn.code.items ++ masked_code l.b (masking (form_of l.free (term l.mask)) l.branch l.beside) (map section_assignment l.body)
