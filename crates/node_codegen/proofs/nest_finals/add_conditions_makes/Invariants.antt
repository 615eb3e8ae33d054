use Rattle.std.proofs.Common.{◌≡◌, ◌++◌}
use Rattle.program_code.specs.NestInstructions.{conditions_makes}
use Rattle.node_code.specs.Texts.{instructions}
use Rattle.node_codegen.specs.NestNames.{beside_by, over_by}
use Rattle.node_codegen.proofs.nest_finals.add_conditions_makes.Given as goal

-- those so far
abbrev pub invariant-loop-k : goal.invariant-loop-k
invariant-loop-k l = instructions l.code.items ≡ instructions l.fn.code.items ++ conditions_makes l.w.line (over_by l.w) (beside_by l.w) l.w.stored l.k
