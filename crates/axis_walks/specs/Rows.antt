-- Of private clauses.
-- No public clause cites this file.
-- Tuples with one axis more, by their numbers.
use Rattle.std.specs.Prelude.{◌≡◌, ℕ, ◌+◌, ◌*◌, ◌<◌, ◌==◌, Bool, ◌&&◌, not, All, List, map}
use Rattle.std.specs.List.{flat_map, list_any}
use Rattle.hpf_base.specs.ElementOrder.{product}
use Rattle.axis_products.specs.Products.{each, passing, places_at}

-- each of the places before each of the tuples on the axes after
abbrev pub rows : (extent : ℕ) → (after places : List ℕ) → List ℕ
rows extent after places = flat_map (λ n. map (λ p. n * extent + p) places) after

abbrev pub both : Bool → Bool → Bool
both x y = x && y

abbrev pub first_alone : Bool → Bool → Bool
first_alone x y = x && not y

-- tuples that are picked by whether they have a place of each outer list, and of each inner list. The axes are those from one on
pub record ArePicked (pick : Bool → Bool → Bool) (extents : List ℕ) (outer inner : List (List ℕ)) (tuples : List ℕ) : Type 0 where
  pub below : All (λ t. t < product extents) tuples
  pub each : (axis : ℕ) (a b : ℕ → ℕ → Bool) → outer ≡ passing a axis extents → inner ≡ passing b axis extents
      → (t : ℕ) → t < product extents → list_any (λ v. v == t) tuples ≡ pick (each a axis (places_at extents t)) (each b axis (places_at extents t))
