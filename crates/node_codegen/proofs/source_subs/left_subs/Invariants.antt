use Rattle.std.proofs.Common.{◌≡◌, ◌++◌, drop}
use Rattle.node_code.specs.Texts.{subs}
use Rattle.program_code.specs.ExpressionCode.{index_subs}
use Rattle.statement_trail.specs.TransformedElements.{indices_from}
use Rattle.node_codegen.proofs.source_subs.left_subs.Given as goal

-- those so far, before those of the dimensions that are left, are all
abbrev pub invariant-loop-k : goal.invariant-loop-k
invariant-loop-k l = subs l.made.items ++ index_subs (indices_from l.k (drop l.k l.dims)) ≡ index_subs (indices_from 0 l.dims)
