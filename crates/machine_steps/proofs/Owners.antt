-- Owners of elements that are there.
use Rattle.std.proofs.Common.{◌≡◌, ℕ, zero, suc, ◌+◌, ◌<◌, ◌&&◌, Bool, true, false, if◌then◌else◌, List, [], ◌∷◌, nat_lt, slice_index_or, refl, ap, ◌∙◌}
use Rattle.std.proofs.lemmas.Bool.{and_parts, lt-ltb, ltb-true}
use Rattle.mappings.specs.Alignment.{owns}
use Rattle.storage.specs.Storage.{Spot}
use Rattle.machine_steps.specs.Layout.{Layout, element_index, first, least_owner_of, owned_by, owned_in, owns_spot, size_of, sizes}

-- such an element is owned as its mapping says
pub owned-inside : (layout : Layout) (node at : ℕ) → at < size_of layout
    → owned_by layout node at ≡ owns layout.mapping (element_index layout.shape at) node
unfolding owned_by
owned-inside layout node at below = ap (λ b. b && owns layout.mapping (element_index layout.shape at) node) (lt-ltb at (size_of layout) below)

-- and no other is owned
pub owned-below : (layout : Layout) (node at : ℕ) → owned_by layout node at ≡ true → at < size_of layout
unfolding owned_by
owned-below layout node at h = ltb-true at (size_of layout) (and_parts _ _ h).0

module _ (layouts : List Layout) (node : ℕ) (spot : Spot) where
  pub spot-below : owns_spot layouts node spot ≡ true → spot.at < slice_index_or (sizes layouts) spot.row 0
  spot-below h = in_row layouts spot.row h
    where
      in_row : (ls : List Layout) (row : ℕ) → owned_in ls row node spot.at ≡ true → spot.at < slice_index_or (sizes ls) row 0
      in_row [] row h = cc
      in_row (layout ∷ ls) zero h = owned-below layout node spot.at h
      in_row (layout ∷ ls) (suc row) h = in_row ls row h

  -- whether it is there needn't be asked
  pub owned_there : (nat_lt spot.at (slice_index_or (sizes layouts) spot.row 0) && owns_spot layouts node spot) ≡ owns_spot layouts node spot
  owned_there = by_case (owns_spot layouts node spot) refl
    where
      by_case : (b : Bool) → owns_spot layouts node spot ≡ b → (nat_lt spot.at (slice_index_or (sizes layouts) spot.row 0) && b) ≡ b
      by_case true e = ap (λ c. c && true) (lt-ltb spot.at (slice_index_or (sizes layouts) spot.row 0) (spot-below e))
      by_case false e = none (nat_lt spot.at (slice_index_or (sizes layouts) spot.row 0))
        where
          none : (c : Bool) → (c && false) ≡ false
          none true = refl
          none false = refl

-- of an element that isn't there the first node stands for the least owner
pub no-owner : (count : ℕ) (layouts : List Layout) (spot : Spot) → (spot.at < slice_index_or (sizes layouts) spot.row 0 → ⊥) → least_owner_of count layouts spot ≡ 0
no-owner count layouts spot outside = none count 0
  where
    unowned : (node : ℕ) (b : Bool) → owns_spot layouts node spot ≡ b → b ≡ false
    unowned node true e = absurd (outside (spot-below layouts node spot e))
    unowned node false e = refl

    none : (len lo : ℕ) → first (λ node. owns_spot layouts node spot) lo len ≡ 0
    none zero lo = refl
    none (suc len) lo =
        ap (λ b. if b then lo else first (λ node. owns_spot layouts node spot) (lo + 1) len) (unowned lo (owns_spot layouts lo spot) refl) ∙ none len (lo + 1)
