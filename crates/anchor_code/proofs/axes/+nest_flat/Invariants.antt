use Rattle.std.proofs.Common.{◌≡◌, ◌++◌, drop, map}
use Rattle.program_code.specs.ExpressionCode.{index_flats}
use Rattle.statement_trail.specs.NestTerms.{all_indexed}
use Rattle.statement_trail.specs.NestParts.{index_in}
use Rattle.node_code.specs.Texts.{flat}
use Rattle.resolved_program.specs.Resolved.{terms_of}
use Rattle.expression_code.proofs.Lists.{flat_list}
use Rattle.anchor_code.proofs.axes.+nest_flat.Given as goal

-- what is made so far, before what the rest makes, is all
abbrev pub invariant-nest_flats-loop-t : goal.invariant-nest_flats-loop-t
invariant-nest_flats-loop-t l =
    map flat l.flats.items ++ flat_list (index_flats (all_indexed (index_in l.axes 0) (terms_of (drop l.t-index l.terms))))
    ≡ flat_list (index_flats (all_indexed (index_in l.axes 0) (terms_of l.terms)))
