use Rattle.std.proofs.Common.{◌≡◌, ◌≤◌, ◌+◌, drop, filter, length}
use Rattle.alignment_rules.specs.AlignmentEntries.{is_triplet}
use Rattle.alignment_rules.proofs.pairs.count_triplets.Given as goal

abbrev pub invariant-loop-value : goal.invariant-loop-value
invariant-loop-value l =
    (l.count ≤ l.value-index) × (l.count + length (filter is_triplet (drop l.value-index l.values)) ≡ length (filter is_triplet l.values))
