use Rattle.alignment_rules.proofs.AlignedLaws.{are_aligned, map_inside}
use Rattle.alignment_rules.proofs.promises.aligned_entries.Goals as goal

pub returns-clause-aligned : goal.returns-clause-aligned
returns-clause-aligned c = are_aligned

pub returns-clause-inside : goal.returns-clause-inside
returns-clause-inside c = map_inside
