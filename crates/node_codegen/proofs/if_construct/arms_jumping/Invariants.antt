use Rattle.std.proofs.Common.{◌≡◌, ◌++◌}
use Rattle.node_code.specs.Texts.{instructions}
use Rattle.node_codegen.specs.Arms.{codes, jumping_to}
use Rattle.node_codegen.proofs.if_construct.arms_jumping.Given as goal

-- the code so far is that of the arms so far
abbrev pub invariant-loop-c : goal.invariant-loop-c
invariant-loop-c l = (instructions l.code.items ≡ instructions l.fn.code.items ++ jumping_to l.end (codes l.yielded)) × (l.fn.arms.items ≡ l.yielded ++ l.c-iterator.rest.items)
