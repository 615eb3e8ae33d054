use Rattle.std.proofs.Common.{◌≡◌, ◌++◌, drop, map}
use Rattle.syntax_tree.specs.Statement as syntax
use Rattle.array_meaning.specs.Resolution.{item_of}
use Rattle.resolved_program.specs.Resolved.{item}
use Rattle.program_plan.proofs.items.items.Given as goal

-- what is made so far, before what the rest makes, is all
abbrev pub invariant-loop-one : goal.invariant-loop-one
invariant-loop-one l = map item l.items.items ++ map (item_of l.names) (map syntax.item_of (drop l.one-index l.listed)) ≡ map (item_of l.names) (map syntax.item_of l.listed)
