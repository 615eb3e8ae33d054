-- Of the claim.
-- Grids of nodes (HPF 2.0, PROCESSORS).
use Rattle.std.specs.Prelude.{ℕ, ◌≤◌, List, [], All, length, slice_index_or}
use Rattle.hpf_base.specs.declared.limits.TheConstants.{MAX_NODES, MAX_RANK}
use Rattle.hpf_base.specs.ElementOrder.{places, product}

-- 1 to 7 extents, none of them 0, of at most 64 nodes together
pub record IsGrid (grid : List ℕ) : Type 0 where
  pub some : 1 ≤ length grid
  pub few : length grid ≤ MAX_RANK
  pub extents : All (λ extent. 1 ≤ extent) grid
  pub nodes : product grid ≤ MAX_NODES

-- a node's coordinates, from 0: the place of its number in array-element order
abbrev pub node_coordinates : List ℕ → ℕ → List ℕ
node_coordinates grid node = slice_index_or (places grid) node []
