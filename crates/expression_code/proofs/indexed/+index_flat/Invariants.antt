use Rattle.std.proofs.Common.{◌≡◌, ◌++◌, drop, map}
use Rattle.program_code.specs.ExpressionCode.{index_flats}
use Rattle.node_code.specs.Texts.{flat}
use Rattle.resolved_program.specs.Resolved.{terms_of}
use Rattle.expression_code.proofs.Lists.{flat_list}
use Rattle.expression_code.proofs.indexed.+index_flat.Given as goal

-- what is made so far, before what the rest makes, is all
abbrev pub invariant-index_flats-loop-t : goal.invariant-index_flats-loop-t
invariant-index_flats-loop-t l = map flat l.flats.items ++ flat_list (index_flats (terms_of (drop l.t-index l.terms))) ≡ flat_list (index_flats (terms_of l.terms))
