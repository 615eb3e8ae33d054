-- Of a promise.
-- What is asked of the rounds of a redistribution.
use Rattle.std.specs.Prelude.{◌≡◌, ◌≢◌, ℕ, ◌<◌, List, All, map}
use Rattle.std.specs.List.{AllPairs, flat_map}
use Rattle.std.specs.List.Sorted.{IsPermutation}
use Rattle.letters.specs.declared.pair.Pair.{Pair}
use Rattle.round_color.specs.Coloring.{degree, load}
use Rattle.round_color.specs.Table.{ends}

-- the pair goes from a node to another
pub record IsBetween (nodes : ℕ) (pair : Pair) : Type 0 where
  pub from : pair.from.0 < nodes
  pub to : pair.to.0 < nodes
  pub other : pair.from.0 ≢ pair.to.0

-- each pair stands in exactly one round, once; and in a round each node sends at most one and takes at most one
pub record AreLegal (pairs : List Pair) (rounds : List (List Pair)) : Type 0 where
  pub each_once : IsPermutation pairs (flat_map (λ round. round) rounds)
  pub one_sent : All (AllPairs (λ one other. one.from.0 ≢ other.from.0)) rounds
  pub one_taken : All (AllPairs (λ one other. one.to.0 ≢ other.to.0)) rounds

-- the least of the nodes that send most, or take most, whichever is more
pub record IsBusiest (nodes : ℕ) (pairs : List Pair) (node : ℕ) : Type 0 where
  pub within : node < nodes
  pub most : load (map ends pairs) node ≡ degree nodes (map ends pairs)
  pub least : (other : ℕ) → other < node → load (map ends pairs) other < degree nodes (map ends pairs)
