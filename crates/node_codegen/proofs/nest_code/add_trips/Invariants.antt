use Rattle.std.proofs.Common.{◌≡◌, ◌++◌, drop, map}
use Rattle.program_code.specs.NestCode.{trips_code}
use Rattle.node_code.specs.Texts.{instructions}
use Rattle.node_codegen.specs.NestNames.{with_index}
use Rattle.node_codegen.proofs.nest_code.add_trips.Given as goal

-- the code so far, before that of the loops that are left, is all
abbrev pub invariant-loop-index : goal.invariant-loop-index
invariant-loop-index l =
    instructions l.code.items ++ trips_code l.line l.at l.target (map with_index (drop l._index-index l.indices)) ≡ instructions l.fn.code.items ++ trips_code l.line l.v l.target (map with_index l.indices)
