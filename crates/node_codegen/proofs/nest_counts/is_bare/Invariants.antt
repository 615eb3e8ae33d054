use Rattle.std.proofs.Common.{◌≡◌, drop}
use Rattle.program_code.specs.NestCode.{plain}
use Rattle.resolved_program.specs.Resolved.{block_of}
use Rattle.node_codegen.specs.NestTexts.{is_bare}
use Rattle.node_codegen.proofs.nest_counts.is_bare.Given as goal

-- it is bare where what is left is
abbrev pub invariant-loop-s : goal.invariant-loop-s
invariant-loop-s l = is_bare (plain (block_of (drop l.s-index l.statements))) ≡ is_bare (plain (block_of l.statements))
