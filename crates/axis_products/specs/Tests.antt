-- Of a promise.
-- Tests of tuples that ask each axis by itself, beside something that is the same at all tuples.
use Rattle.std.specs.Prelude.{◌≡◌, ℕ, Bool, true, false, ◌&&◌, if◌then◌else◌, List, [], Option, Some, None}
use Rattle.axis_products.specs.Products.{combined, each, passing, places_at}

pub record Test : Type 0 where
  pub always : Bool
  pub at : (axis place : ℕ) → Bool

-- a tuple passes, by its places
abbrev pub holds : Test → List ℕ → Bool
holds c places = c.always && each c.at 0 places

abbrev pub and_test : Test → Test → Test
and_test a b = record { always = a.always && b.always; at = λ axis place. a.at axis place && b.at axis place }

-- the tuples that pass, by their places: the passing places of the axes, combined
abbrev pub passing_places : Test → List ℕ → List (List ℕ)
passing_places c extents = if c.always then combined (passing c.at 0 extents) else []

-- the places of each axis that pass, one list an axis; None where no tuple passes
abbrev pub ArePlaces : Test → (extents : List ℕ) → Option (List (List ℕ)) → Type 0
ArePlaces c extents None = (t : ℕ) → holds c (places_at extents t) ≡ false
ArePlaces c extents (Some lists) = (c.always ≡ true) × (lists ≡ passing c.at 0 extents)
