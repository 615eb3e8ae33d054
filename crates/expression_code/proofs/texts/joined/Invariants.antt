use Rattle.std.proofs.Common.{◌≡◌, ◌++◌}
use Rattle.expression_code.proofs.texts.joined.Given as goal

-- the code so far, before what is left, is all
abbrev pub invariant-loop-instruction : goal.invariant-loop-instruction
invariant-loop-instruction l = l.code.items ++ l.instruction-iterator.rest.items ≡ l.fn.code.items ++ l.fn.more.items
