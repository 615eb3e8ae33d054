use Rattle.std.proofs.Common.{◌≡◌, ◌++◌, drop, map}
use Rattle.node_code.specs.Texts.{instructions}
use Rattle.resolved_program.specs.Resolved.{control}
use Rattle.program_code.specs.ExpressionCode.{subscripts_code}
use Rattle.program_code.specs.StatementCode.{triplets}
use Rattle.node_codegen.proofs.forall_header.add_header.Given as goal

-- the code so far, before that of the indices that are left, is all
abbrev pub invariant-loop-c : goal.invariant-loop-c
invariant-loop-c l =
    instructions l.code.items ++ subscripts_code l.line l.at (triplets (map control (drop l.c-index l.controls))) ≡ instructions l.fn.code.items ++ subscripts_code l.line l.b (triplets (map control l.controls))
