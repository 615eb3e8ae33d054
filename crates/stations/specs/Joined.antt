-- Of a promise.
-- Stations whose ends belong together.
use Rattle.std.specs.Prelude.{◌≡◌, ℕ, List, length, map, Some}
use Rattle.std.specs.List.{slice_get}
use Rattle.all_pairs.specs.Rows.{ArePairs}
use Rattle.stations.specs.Stations.{Fixed}

-- These stations began as these nodes, by their numbers, and their ends are those of one queue for each ordered pair of them. It is said of what
-- no step changes, so it stays as it was at the opening.
pub record AreJoined {N : Type 0} (from : List N) (fs : List (Fixed N)) : Type 0 where
  pub openings : from ≡ map (λ f. f.opening) fs
  pub numbered : (p : ℕ) (f : Fixed N) → slice_get fs p ≡ Some f → f.id ≡ p
  pub pairs : ArePairs (length fs) (map (λ f. f.outs) fs) (map (λ f. f.ins) fs)
