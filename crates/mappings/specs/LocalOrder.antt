-- Of the claim.
-- What a node holds of an array, and in which order.
use Rattle.std.specs.Prelude.{ℕ, ℤ, List, ◌==◌, filter}
use Rattle.hpf_base.specs.declared.index.Shape.{Shape}
use Rattle.mappings.specs.declared.mapping.Line.{Line}
use Rattle.mappings.specs.declared.mapping.Mapping.{Mapping}
use Rattle.mappings.specs.Alignment.{owns}
use Rattle.hpf_base.specs.ElementOrder.{elements}
use Rattle.mappings.specs.Owner.{coordinate}
use Rattle.mappings.specs.Positions.{positions}

-- the positions that a processor owns, in array-element order; a local address is a place in this list, from 0
abbrev pub owned : Line → ℕ → List ℕ
owned line node = filter (λ position. coordinate line position == node) (positions line.extent)

-- the elements of a mapped array that a node owns, in array-element order; a local address is a place in this list, from 0
abbrev pub local_elements : Mapping → Shape → ℕ → List (List ℤ)
local_elements mapping shape node = filter (λ index. owns mapping index node) (elements shape)
