use Rattle.std.proofs.Common.{◌≡◌, drop}
use Rattle.distribution_rules.specs.Distributed.{all_or_none}
use Rattle.alignment_rules.specs.AlignmentEntries.{alignment_with, entry_of}
use Rattle.alignment_rules.specs.WideEntries.{joined}
use Rattle.alignment_rules.proofs.alignees.alignment_with.Given as goal

abbrev pub invariant-loop-pair : goal.invariant-loop-pair
invariant-loop-pair l =
    joined l.found (alignment_with (all_or_none entry_of (drop l.pair-index l.pairs))) ≡ alignment_with (all_or_none entry_of l.pairs)
