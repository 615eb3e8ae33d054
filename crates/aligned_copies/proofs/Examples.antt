-- Copies beside small arrays, position by position. Who has which follows from the mappings of the arrays and from what is assigned at each
-- tuple, worked out by hand, and not from these definitions.
use Rattle.std.specs.Prelude.{◌≡◌, refl, ℕ, pos, negsuc, List, [], ◌∷◌, filter, map, Some}
use Rattle.std.specs.List.{range_with_len}
use Rattle.mappings.specs.declared.mapping.AlignDim.{AlignDim}
use Rattle.mappings.specs.declared.mapping.AlignDim.TheVariants.{Linear, At}
use Rattle.mappings.specs.declared.mapping.Form.{Form}
use Rattle.mappings.specs.declared.mapping.Form.TheVariants.{Block, Cyclic, Gen}
use Rattle.mappings.specs.declared.mapping.MapDim.{MapDim}
use Rattle.machine_steps.specs.Layout.{Layout, owned_by, size_of}
use Rattle.aligned_copies.specs.Beside.{aligned_layout}

-- of each position of a copy its owners
abbrev owners : ℕ → Layout → List AlignDim → List ℕ → List (List ℕ)
owners nodes layout xs ns =
    map (λ at. filter (λ node. owned_by (aligned_layout nodes (layout ∷ []) (Some (record { row = 0; subscripts = xs })) ns) node at) (range_with_len 0 nodes))
    (range_with_len 0 (size_of (aligned_layout nodes (layout ∷ []) (Some (record { row = 0; subscripts = xs })) ns)))

-- a dimension with so many positions from 1 on, on a dimension of the grid
abbrev dim : ℕ → ℕ → Form → ℕ → MapDim
dim along extent form procs = record { line = record { lower = pos 1; extent = extent; form = form; procs = procs }; grid_dim = along; align = Linear along (pos 1) (pos 0) }

-- A(n) with this format on so many nodes
abbrev line : ℕ → Form → ℕ → Layout
line extent form nodes = record {
  shape = record { lower = pos 1 ∷ []; extent = pos extent ∷ [] };
  mapping = record { grid = nodes ∷ []; dims = dim 0 extent form nodes ∷ [] };
}

-- A(4) on each of two nodes
abbrev everywhere : Layout
everywhere = record { shape = record { lower = pos 1 ∷ []; extent = pos 4 ∷ [] }; mapping = record { grid = 2 ∷ []; dims = [] } }

-- A(4,4), (BLOCK,BLOCK) on two by two nodes
abbrev square : Layout
square = record {
  shape = record { lower = pos 1 ∷ pos 1 ∷ []; extent = pos 4 ∷ pos 4 ∷ [] };
  mapping = record { grid = 2 ∷ 2 ∷ []; dims = dim 0 4 (Block 2) 2 ∷ dim 1 4 (Block 2) 2 ∷ [] };
}

-- A(4,4), (CYCLIC,*) on two nodes
abbrev rows : Layout
rows = record {
  shape = record { lower = pos 1 ∷ pos 1 ∷ []; extent = pos 4 ∷ pos 4 ∷ [] };
  mapping = record { grid = 2 ∷ []; dims = dim 0 4 (Cyclic 1) 2 ∷ [] };
}

-- A(1:4) of an array that is replicated
replicated : owners 2 everywhere (Linear 0 (pos 1) (pos 0) ∷ []) (4 ∷ []) ≡ (0 ∷ 1 ∷ []) ∷ (0 ∷ 1 ∷ []) ∷ (0 ∷ 1 ∷ []) ∷ (0 ∷ 1 ∷ []) ∷ []
unfolding owned_by size_of
replicated = refl

-- A(2:8:2), and A(8:2:-2)
stride : owners 2 (line 8 (Block 4) 2) (Linear 0 (pos 2) (pos 0) ∷ []) (4 ∷ []) ≡ (0 ∷ []) ∷ (0 ∷ []) ∷ (1 ∷ []) ∷ (1 ∷ []) ∷ []
unfolding owned_by size_of
stride = refl

backwards : owners 2 (line 8 (Block 4) 2) (Linear 0 (negsuc 1) (pos 10) ∷ []) (4 ∷ []) ≡ (1 ∷ []) ∷ (1 ∷ []) ∷ (0 ∷ []) ∷ (0 ∷ []) ∷ []
unfolding owned_by size_of
backwards = refl

-- A(3,:)
fixed : owners 4 square (At (pos 3) ∷ Linear 0 (pos 1) (pos 0) ∷ []) (4 ∷ []) ≡ (1 ∷ []) ∷ (1 ∷ []) ∷ (3 ∷ []) ∷ (3 ∷ []) ∷ []
unfolding owned_by size_of
fixed = refl

-- A(I+1) for I = 1 to 3; for I = 1 to 4 the last one is out of bounds, so the copy lies in blocks
shifted : owners 2 (line 4 (Cyclic 1) 2) (Linear 0 (pos 1) (pos 1) ∷ []) (3 ∷ []) ≡ (1 ∷ []) ∷ (0 ∷ []) ∷ (1 ∷ []) ∷ []
unfolding owned_by size_of
shifted = refl

out_of_bounds : owners 2 (line 4 (Cyclic 1) 2) (Linear 0 (pos 1) (pos 1) ∷ []) (4 ∷ []) ≡ (0 ∷ []) ∷ (0 ∷ []) ∷ (1 ∷ []) ∷ (1 ∷ []) ∷ []
unfolding owned_by size_of
out_of_bounds = refl

-- A(I,I) moves two subscripts along one axis, also where I is 3 alone; A(I,I-I+2) doesn't
diagonal : owners 2 rows (Linear 0 (pos 1) (pos 0) ∷ Linear 0 (pos 1) (pos 0) ∷ []) (4 ∷ []) ≡ (0 ∷ []) ∷ (0 ∷ []) ∷ (1 ∷ []) ∷ (1 ∷ []) ∷ []
unfolding owned_by size_of
diagonal = refl

diagonal_of_one : owners 4 square (Linear 0 (pos 1) (pos 2) ∷ Linear 0 (pos 1) (pos 2) ∷ []) (1 ∷ []) ≡ (0 ∷ []) ∷ []
unfolding owned_by size_of
diagonal_of_one = refl

without_factor : owners 2 rows (Linear 0 (pos 1) (pos 0) ∷ Linear 0 (pos 0) (pos 2) ∷ []) (4 ∷ []) ≡ (0 ∷ []) ∷ (1 ∷ []) ∷ (0 ∷ []) ∷ (1 ∷ []) ∷ []
unfolding owned_by size_of
without_factor = refl

-- A(I) for I = 6 to 1, with blocks of 3, 0, 1 and 2
blocks : owners 4 (line 6 (Gen (3 ∷ 0 ∷ 1 ∷ 2 ∷ [])) 4) (Linear 0 (negsuc 0) (pos 7) ∷ []) (6 ∷ []) ≡ (3 ∷ []) ∷ (3 ∷ []) ∷ (2 ∷ []) ∷ (0 ∷ []) ∷ (0 ∷ []) ∷ (0 ∷ []) ∷ []
unfolding owned_by size_of
blocks = refl

-- A(I,J) for I = 1 to 4, J = 1 to 2
two_axes : owners 4 square (Linear 0 (pos 1) (pos 0) ∷ Linear 1 (pos 1) (pos 0) ∷ []) (4 ∷ 2 ∷ [])
    ≡ (0 ∷ []) ∷ (0 ∷ []) ∷ (1 ∷ []) ∷ (1 ∷ []) ∷ (0 ∷ []) ∷ (0 ∷ []) ∷ (1 ∷ []) ∷ (1 ∷ []) ∷ []
unfolding owned_by size_of
two_axes = refl

-- none
empty : owners 2 (line 4 (Cyclic 1) 2) (Linear 0 (pos 1) (pos 0) ∷ []) (0 ∷ []) ≡ []
unfolding owned_by size_of
empty = refl
