-- The least owner of an element, which sends it, owns it.
use Rattle.std.proofs.Common.{◌≡◌, ℕ, zero, suc, ◌+◌, ◌<◌, ◌≤◌, Bool, true, false, if◌then◌else◌, List, [], ◌∷◌, ◌++◌, All, get_or, length, map, filter, refl, sym, ◌∙◌, ap, subst, arith}
use Rattle.std.specs.List.{AllByRecursion, range_with_len}
use Rattle.std.proofs.lemmas.List.{get_or-map, length-map}
use Rattle.storage.specs.Storage.{Spot}
use Rattle.storage.specs.Spots.{spot_of}
use Rattle.storage.specs.declared.spot.Spot as code
use Rattle.machine_steps.specs.Layout.{AreOwned, Layout, least_owner_of, owns_spot, sizes}
use Rattle.machine_steps.specs.Message.{all_spots, spots_from}
use Rattle.owner_tables.proofs.Ranges.{first-passes}

each-append : (Q : Spot → Type 0) (xs ys : List Spot) → AllByRecursion Q xs → AllByRecursion Q ys → AllByRecursion Q (xs ++ ys)
each-append Q [] ys h g = g
each-append Q (x ∷ xs) ys h g = (h.0, each-append Q xs ys h.1 g)

each-all : (Q : Spot → Type 0) (xs : List Spot) → AllByRecursion Q xs → All Q xs
each-all Q [] h k d within = absurd (omega arith)
each-all Q (x ∷ xs) h zero d within = h.0
each-all Q (x ∷ xs) h (suc k) d within = each-all Q xs h.1 k d (omega arith)

-- all elements of rows of these sizes are there
module _ (all : List ℕ) where
  abbrev IsThere : Spot → Type 0
  IsThere s = s.at < get_or all s.row 0

  row-there : (row n lo : ℕ) → lo + n ≤ get_or all row 0 → AllByRecursion IsThere (map (λ at. record { row = row; at = at }) (range_with_len lo n))
  row-there row zero lo upto = tt
  row-there row (suc n) lo upto = (omega arith, row-there row n (lo + 1) (omega arith))

  rows-there : (some : List ℕ) (row : ℕ) → ((k : ℕ) → get_or some k 0 ≡ get_or all (row + k) 0) → AllByRecursion IsThere (spots_from row some)
  rows-there [] row same = tt
  rows-there (size ∷ some) row same =
      let here : row + 0 ≡ row = omega arith in
      let size-is : size ≡ get_or all row 0 = same 0 ∙ ap (λ r. get_or all r 0) here in
      each-append IsThere (map (λ at. record { row = row; at = at }) (range_with_len 0 size)) (spots_from (row + 1) some) (row-there row size 0 (omega (arith, size-is)))
      (rows-there some (row + 1) (λ k. let e : row + suc k ≡ row + 1 + k = omega arith in same (suc k) ∙ ap (λ r. get_or all r 0) e))

module _ (count : ℕ) (layouts : List Layout) (owned : AreOwned count layouts) where
  pub least-owns : (spot : Spot) → spot.at < get_or (sizes layouts) spot.row 0 → owns_spot layouts (least_owner_of count layouts spot) spot ≡ true
  least-owns spot below =
      let owner = owned spot below in
      (first-passes (λ node. owns_spot layouts node spot) 0 count owner.0 (omega arith) (omega (arith, owner.1)) owner.2).0

  -- the elements that a node sends
  pub sent-owned : (P : Spot → Bool) (p : ℕ) → ((s : Spot) → P s ≡ true → least_owner_of count layouts s ≡ p) → All (λ s. owns_spot layouts p s ≡ true) (filter P (all_spots layouts))
  sent-owned P p sends = each-all (λ s. owns_spot layouts p s ≡ true) (filter P (all_spots layouts)) (kept (all_spots layouts) (rows-there (sizes layouts) (sizes layouts) 0 (λ k. let e : k ≡ 0 + k = omega arith in ap (λ r. get_or (sizes layouts) r 0) e)))
    where
      kept : (xs : List Spot) → AllByRecursion (λ s. s.at < get_or (sizes layouts) s.row 0) xs → AllByRecursion (λ s. owns_spot layouts p s ≡ true) (filter P xs)
      kept [] h = tt
      kept (x ∷ xs) h = by_test (P x) refl (kept xs h.1)
        where
          by_test : (b : Bool) → P x ≡ b → AllByRecursion (λ s. owns_spot layouts p s ≡ true) (filter P xs)
              → AllByRecursion (λ s. owns_spot layouts p s ≡ true) (if b then x ∷ filter P xs else filter P xs)
          by_test true e rest = (subst (λ n. owns_spot layouts n x ≡ true) (sends x e) (least-owns x h.0), rest)
          by_test false e rest = rest

-- the same of elements as code holds them
pub listed-owned : (layouts : List Layout) (p : ℕ) (spots : List code.Spot) (message : List Spot) → map spot_of spots ≡ message
    → All (λ s. owns_spot layouts p s ≡ true) message → All (λ s. owns_spot layouts p (spot_of s) ≡ true) spots
listed-owned layouts p spots message is h k d within =
    let many = length-map spots spot_of in
    subst (λ s. owns_spot layouts p s ≡ true) (ap (λ m. get_or m k (spot_of d)) (sym is) ∙ get_or-map spot_of spots k d (spot_of d) within)
    (h k (spot_of d) (omega (arith, within, many, ap length is)))
