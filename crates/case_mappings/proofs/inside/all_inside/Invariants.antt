use Rattle.std.proofs.Common.{ℕ, ℤ, ◌<◌, List, get_or}
use Rattle.hpf_base.specs.ElementOrder.{elements}
use Rattle.mappings.specs.Mapping.{MapsInside}
use Rattle.case_mappings.proofs.inside.all_inside.Given as goal

-- the elements so far lie inside
abbrev pub invariant-loop-number : goal.invariant-loop-number
invariant-loop-number l = (k : ℕ) → (d : List ℤ) → k < l.number → MapsInside l.map (get_or (elements l.shape) k d)
