-- Of the claim.
-- The spaces of parallel statements.
use Rattle.std.specs.Prelude.{ℕ, nat_le, List, if◌then◌else◌}
use Rattle.hpf_base.specs.declared.limits.TheConstants.{MAX_ELEMENTS}
use Rattle.hpf_base.specs.ElementOrder.{product}

-- how many tuples a space of these extents has. One past the limit is as an empty one; a program is asked for the limit before
abbrev pub space_count : List ℕ → ℕ
space_count extents = if nat_le (product extents) MAX_ELEMENTS then product extents else 0
