use Rattle.std.proofs.Common.{◌≡◌, ◌++◌, drop}
use Rattle.statement_trail.specs.NestParts.{each_once}
use Rattle.node_codegen.proofs.nest_terms.each_once.Given as goal

-- those so far, before those of what is left
abbrev pub invariant-loop-i : goal.invariant-loop-i
invariant-loop-i l = l.once.items ++ each_once (drop l.i l.list) ≡ each_once l.list
