use Rattle.std.proofs.Common.{◌≡◌, ◌++◌, drop}
use Rattle.code_meaning.specs.ForallLimits.{sequences_of}
use Rattle.slot_values.proofs.slot_terms.sequences_of.Given as goal

-- the triplets so far, before those that are left
abbrev pub invariant-loop-d : goal.invariant-loop-d
invariant-loop-d l = sequences_of l.ds ≡ l.ps.items ++ sequences_of (drop l.d-index l.ds)
