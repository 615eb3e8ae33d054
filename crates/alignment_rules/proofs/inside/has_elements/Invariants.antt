use Rattle.std.proofs.Common.{◌≡◌, drop}
use Rattle.std.specs.Prelude.{◌||◌}
use Rattle.std.specs.List.{list_any}
use Rattle.distribution_rules.specs.Dimensions.{is_empty_dim}
use Rattle.alignment_rules.proofs.inside.has_elements.Given as goal

abbrev pub invariant-loop-dim : goal.invariant-loop-dim
invariant-loop-dim l = (l.empty || list_any is_empty_dim (drop l.dim-index l.dims)) ≡ list_any is_empty_dim l.dims
