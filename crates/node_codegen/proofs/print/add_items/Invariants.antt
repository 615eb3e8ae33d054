use Rattle.std.proofs.Common.{◌≡◌, ◌++◌, drop, map}
use Rattle.node_code.specs.Texts.{instructions}
use Rattle.resolved_program.specs.Resolved.{item}
use Rattle.program_code.specs.StatementCode.{items_code}
use Rattle.node_codegen.proofs.print.add_items.Given as goal

-- the code so far, before that of the items that are left, is all
abbrev pub invariant-loop-i : goal.invariant-loop-i
invariant-loop-i l = instructions l.code.items ++ items_code l.line l.at (map item (drop l.i-index l.items)) ≡ instructions l.fn.code.items ++ items_code l.line l.b (map item l.items)
