use Rattle.std.proofs.Common.{◌≡◌, ◌++◌, drop, map}
use Rattle.program_code.specs.NestCode.{indices_code}
use Rattle.node_code.specs.Texts.{instructions}
use Rattle.node_codegen.specs.NestNames.{with_index}
use Rattle.node_codegen.proofs.nest_code.add_indices_code.Given as goal

-- the code so far, before that of the loops that are left, is all
abbrev pub invariant-loop-k : goal.invariant-loop-k
invariant-loop-k l =
    instructions l.code.items ++ indices_code l.line l.at l.target (map with_index (drop l.k-index l.indices)) ≡ instructions l.fn.code.items ++ indices_code l.line l.v l.target (map with_index l.indices)
