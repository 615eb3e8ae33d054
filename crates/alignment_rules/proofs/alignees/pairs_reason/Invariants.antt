use Rattle.std.proofs.Common.{◌≡◌, drop}
use Rattle.std.specs.List.{flat_map}
use Rattle.declarations.specs.Declaring.{least_reason, lesser}
use Rattle.alignment_rules.specs.AlignmentRules.{pair_reasons}
use Rattle.alignment_rules.proofs.alignees.pairs_reason.Given as goal

abbrev pub invariant-loop-pair : goal.invariant-loop-pair
invariant-loop-pair l =
    lesser l.least (least_reason (flat_map (pair_reasons l.dims) (drop l.pair-index l.pairs))) ≡ least_reason (flat_map (pair_reasons l.dims) l.pairs)
