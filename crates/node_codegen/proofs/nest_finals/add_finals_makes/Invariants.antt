use Rattle.std.proofs.Common.{◌≡◌, ◌++◌, drop, map}
use Rattle.program_code.specs.NestInstructions.{finals_makes}
use Rattle.node_code.specs.Texts.{instructions}
use Rattle.node_codegen.specs.NestFinals.{final}
use Rattle.node_codegen.specs.NestNames.{beside_by, over_by}
use Rattle.node_codegen.proofs.nest_finals.add_finals_makes.Given as goal

-- those so far, before those of what is left
abbrev pub invariant-loop-f : goal.invariant-loop-f
invariant-loop-f l = instructions l.code.items ++ finals_makes l.w.line (over_by l.w) (beside_by l.w) (map final (drop l.f-index l.finals)) ≡ instructions l.fn.code.items ++ finals_makes l.w.line (over_by l.w) (beside_by l.w) (map final l.finals)
