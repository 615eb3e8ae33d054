use Rattle.std.proofs.Common.{◌≡◌, ◌+◌, ◌++◌, drop}
use Rattle.node_code.specs.Texts.{subs}
use Rattle.program_code.specs.ExpressionCode.{index_subs}
use Rattle.statement_trail.specs.TransformedElements.{same_places}
use Rattle.node_codegen.proofs.source_subs.add_same_places.Given as goal

-- those so far, before those of the dimensions that are left, are all
abbrev pub invariant-loop-k : goal.invariant-loop-k
invariant-loop-k l =
    subs l.made.items ++ index_subs (same_places (l.axis + l.k) (drop l.k l.target) (drop l.k l.source))
    ≡ subs l.fn.made.items ++ index_subs (same_places l.axis l.target l.source)
