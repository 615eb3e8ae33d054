use Rattle.std.proofs.Common.{◌≡◌, ◌++◌, drop, map}
use Rattle.program_code.specs.ExpressionCode.{flats_of}
use Rattle.node_code.specs.Texts.{flat}
use Rattle.resolved_program.specs.Resolved.{terms_of}
use Rattle.expression_code.proofs.Lists.{flat_list}
use Rattle.expression_code.proofs.values.+flat.Given as goal

-- what is made so far, before what the rest makes, is all
abbrev pub invariant-flats_of-loop-t : goal.invariant-flats_of-loop-t
invariant-flats_of-loop-t l = map flat l.flats.items ++ flat_list (flats_of l.at (terms_of (drop l.t-index l.terms))) ≡ flat_list (flats_of l.b (terms_of l.terms))
