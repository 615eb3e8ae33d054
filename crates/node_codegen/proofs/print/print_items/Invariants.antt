use Rattle.std.proofs.Common.{◌≡◌, ◌++◌, drop, map}
use Rattle.node_code.specs.Texts.{print_item}
use Rattle.resolved_program.specs.Resolved.{item}
use Rattle.program_code.specs.StatementCode.{print_items}
use Rattle.node_codegen.proofs.print.print_items.Given as goal

-- what is made so far, before what the rest makes, is all
abbrev pub invariant-loop-i : goal.invariant-loop-i
invariant-loop-i l = map print_item l.printed.items ++ print_items l.at (map item (drop l.i-index l.items)) ≡ print_items l.b (map item l.items)
