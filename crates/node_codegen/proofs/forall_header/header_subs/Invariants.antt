use Rattle.std.proofs.Common.{◌≡◌, ◌++◌, drop, map}
use Rattle.node_code.specs.Texts.{subs}
use Rattle.resolved_program.specs.Resolved.{control}
use Rattle.program_code.specs.ExpressionCode.{subs_of}
use Rattle.program_code.specs.StatementCode.{triplets}
use Rattle.node_codegen.proofs.forall_header.header_subs.Given as goal

-- what is made so far, before what the rest makes, is all
abbrev pub invariant-loop-c : goal.invariant-loop-c
invariant-loop-c l = subs l.over.items ++ subs_of l.at (triplets (map control (drop l.c-index l.controls))) ≡ subs_of l.b (triplets (map control l.controls))
