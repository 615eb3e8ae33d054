-- The places that are kept of lists.
use Rattle.std.proofs.Common.{◌≡◌, ℕ, Bool, true, ◌&&◌, ◌||◌, not, List, map, slice_get, Some, sym, ◌∙◌, ap}
use Rattle.machine_steps.specs.Layout.{Layout}
use Rattle.axis_products.specs.Products.{each, passing}
use Rattle.axis_products.specs.Tests.{Test, holds}
use Rattle.courses.specs.Owners.{bounds_test, held_test}
use Rattle.courses.specs.References.{Named}
use Rattle.courses.proofs.Sections.{both}
use Rattle.courses.proofs.Subscripts.{each-and}
use Rattle.visited_tuples.specs.Owned.{owns_if_in, owns_if_named}

-- by a test that is that of the node's places
module _ (layouts : List Layout) (id : ℕ) (r : Named) (layout : Layout) (test : Test) (row : slice_get layouts r.row ≡ Some layout)
    (is : test ≡ held_test r layout id) (always : test.always ≡ true) where
  abbrev if-at : Test → ℕ → ℕ → Bool
  if-at t axis place = not ((bounds_test r.dims r.courses).at axis place) || t.at axis place

  pub kept-owned : {A : Type 0} (a : ℕ → ℕ → Bool) (items : A → List ℕ) (kept : List A) (ns : List ℕ) → map items kept ≡ passing (λ axis place. a axis place && if-at test axis place) 0 ns
      → (b : ℕ → ℕ → Bool) × (map items kept ≡ passing b 0 ns)
      × ((places : List ℕ) → each b 0 places ≡ true → (each a 0 places ≡ true) × (holds (owns_if_named layouts id r) places ≡ true))
  kept-owned a items kept ns e = (
    (λ axis place. a axis place && if-at test axis place),
    e,
    λ places all.
        let h = both (each a 0 places) (each (if-at test) 0 places) (sym (each-and a (if-at test) 0 places) ∙ all) in
        (h.0, ap (λ o. holds (owns_if_in o id r) places) row ∙ (λ i. (sym is i).always && each (if-at (sym is i)) 0 places) ∙ (λ i. always i && h.1 i)),
  )
