use Rattle.std.proofs.Common.{◌≡◌, ◌++◌}
use Rattle.node_codegen.proofs.forall_subscripts.put_all.Given as goal

-- what is put so far
abbrev pub invariant-loop-f : goal.invariant-loop-f
invariant-loop-f l = (l.subscripts.items ≡ l.fn.subscripts.items ++ l.yielded) × (l.yielded ++ l.f-iterator.rest.items ≡ l.fn.more.items)
