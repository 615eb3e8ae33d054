-- Of the claim.
-- Owners of the elements of a mapped array (HPF 2.0, 3.3 and 3.4). Elements that lie outside the template and nodes past
-- the grid have answers by these definitions too; each public call asks for elements inside and nodes of the grid.
use Rattle.std.specs.Prelude.{ℕ, ℤ, pos, ◌+ℤ◌, ◌-ℤ◌, ◌*ℤ◌, unsigned_abs, Bool, true, ◌==◌, List, map, find, slice_index, slice_index_or, Option, Some, None, option_map}
use Rattle.std.specs.List.{list_all, range_with_len}
use Rattle.mappings.specs.declared.mapping.AlignDim.{AlignDim}
use Rattle.mappings.specs.declared.mapping.AlignDim.TheVariants.{Linear, At, Every}
use Rattle.mappings.specs.declared.mapping.Line.{Line}
use Rattle.mappings.specs.declared.mapping.MapDim.{MapDim}
use Rattle.mappings.specs.declared.mapping.Mapping.{Mapping}
use Rattle.hpf_base.specs.ElementOrder.{product}
use Rattle.hpf_base.specs.Grid.{node_coordinates}
use Rattle.mappings.specs.Owner.{coordinate}

-- the subscript that a dimension of the target is given for subscripts of the alignee; None stands for `*`
abbrev pub aligned : AlignDim → List (Option ℤ) → Option ℤ
aligned (Linear dim a b) subscripts = option_map (λ i. (a *ℤ i) +ℤ b) (slice_index_or subscripts dim None)
aligned (At v) subscripts = Some v
aligned Every subscripts = None

-- the position at which a subscript stands in a line, from 1
abbrev pub position_at : Line → ℤ → ℤ
position_at line subscript = (subscript -ℤ line.lower) +ℤ pos 1

-- a processor has the coordinate of the subscript's position; where the subscript is `*` any will do
abbrev pub agrees_at : Line → ℕ → Option ℤ → Bool
agrees_at line own None = true
agrees_at line own (Some subscript) = coordinate line (unsigned_abs (position_at line subscript)) == own

abbrev pub agrees : List ℕ → List (Option ℤ) → MapDim → Bool
agrees coordinates subscripts entry = agrees_at entry.line (slice_index coordinates entry.grid_dim) (aligned entry.align subscripts)

-- the node's coordinate agrees in every distributed dimension
abbrev pub owns_at : Mapping → List (Option ℤ) → ℕ → Bool
owns_at mapping subscripts node = list_all (agrees (node_coordinates mapping.grid node) subscripts) mapping.dims

-- the node owns the element with these subscripts
abbrev pub owns : Mapping → List ℤ → ℕ → Bool
owns mapping index node = owns_at mapping (map Some index) node

-- the owner with the least number
abbrev pub least_owner : Mapping → List ℤ → Option ℕ
least_owner mapping index = find (owns mapping index) (range_with_len 0 (product mapping.grid))

-- `a * i + b`, where the subscript i is itself what an alignment gives
abbrev pub align_through : ℤ → ℤ → AlignDim → AlignDim
align_through a b (Linear dim a2 b2) = Linear dim (a *ℤ a2) ((a *ℤ b2) +ℤ b)
align_through a b (At v) = At ((a *ℤ v) +ℤ b)
align_through a b Every = Every

-- what an entry of the target's mapping gives for subscripts of an alignee with these alignments
abbrev pub composed_align : List AlignDim → AlignDim → AlignDim
composed_align align (Linear dim a b) = align_through a b (slice_index_or align dim Every)
composed_align align (At v) = At v
composed_align align Every = Every

abbrev pub composed_entry : List AlignDim → MapDim → MapDim
composed_entry align entry = record { line = entry.line; grid_dim = entry.grid_dim; align = composed_align align entry.align }

-- the mapping of an array that is aligned with a mapped one
abbrev pub composed : Mapping → List AlignDim → Mapping
composed target align = record { grid = target.grid; dims = map (composed_entry align) target.dims }
