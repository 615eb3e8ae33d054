use Rattle.std.proofs.Common.{◌≡◌, ◌++◌, drop, map}
use Rattle.nest_syntax.specs.Asked.{none_asked, tested_asked}
use Rattle.program_code.specs.NestInstructions.{whens_of}
use Rattle.node_code.specs.Texts.{when}
use Rattle.node_codegen.proofs.nest_statements.tested_whens.Given as goal

-- those so far, before those of the conditions that are left
abbrev pub invariant-loop-k : goal.invariant-loop-k
invariant-loop-k l = map when l.whens.items ++ whens_of l.stored (none_asked (drop l.k-index l.earlier)) ≡ whens_of l.stored (tested_asked l.fn.guard l.earlier)
