-- Values looked up in a list in order.
use Rattle.std.proofs.Common.{◌≡◌, ℕ, zero, suc, ◌+◌, ◌<◌, Bool, true, false, ◌||◌, if◌then◌else◌, ℤ, pos, List, [], ◌∷◌, length, map, get_or, Less, Greater, ◌⊎◌, inl, inr, refl, sym, ◌∙◌, ap, arith}
use Rattle.std.proofs.lemmas.Bool.{cases_order}
use Rattle.std.proofs.lemmas.List.{length-map}
use Rattle.std.proofs.Math.ListN as math
use Rattle.std.proofs.lemmas.List.Folds.{list_any_none}
use Rattle.std.proofs.lemmas.List.Sorted.{searchable_from_sorted}
use Rattle.std.proofs.lemmas.Map.Keys.{Less-from_sorted, sorted_head, sorted_tail}
use Rattle.std.specs.List.{AllWithin}
use Rattle.std.specs.List.Sorted.{IsNonDecreasingBy}
use Rattle.std.specs.Ordering.{eq_by_cmp, is_eq, is_lt, ordering_index, ordering_reverse}
use Rattle.storage.specs.Storage.{Spot}
use Rattle.storage.specs.Storage.{is_same_spot}
use Rattle.machine_steps.specs.Message.{lookup}
use Rattle.message_elements.specs.Ascending.{spot_cmp, Ascends}
use Rattle.message_elements.specs.Elements.{is_among}
use Rattle.message_elements.proofs.Arranging.{among-map}
use Rattle.message_elements.proofs.Ascending.{Above, same-refl, same-tied, spot-total}

-- one that isn't there
pub lookup-none : (spots : List Spot) (values : List ℤ) (spot : Spot) → is_among spots spot ≡ false → lookup spots values spot ≡ pos 0
lookup-none [] values spot none = refl
lookup-none (s ∷ spots) [] spot none = refl
lookup-none (s ∷ spots) (v ∷ values) spot none = by_case (is_same_spot s spot) refl none (λ h. lookup-none spots values spot h)
  where
    by_case : (b : Bool) → is_same_spot s spot ≡ b → (b || is_among spots spot) ≡ false → (is_among spots spot ≡ false → lookup spots values spot ≡ pos 0)
        → (if b then v else lookup spots values spot) ≡ pos 0
    by_case true e h rest = cc
    by_case false e h rest = rest h

-- the one at the place
pub lookup-at : (spots : List Spot) (values : List ℤ) (spot d : Spot) (k : ℕ) → Ascends spots → k < length spots → get_or spots k d ≡ spot → lookup spots values spot ≡ get_or values k (pos 0)
lookup-at [] values spot d k ascends lt is = absurd (omega arith)
lookup-at (s ∷ spots) [] spot d k ascends lt is = refl
lookup-at (s ∷ spots) (v ∷ values) spot d zero ascends lt is = ap (λ (b : Bool). if b then v else lookup spots values spot) (ap (λ (t : Spot). is_same_spot s t) (sym is) ∙ same-refl s)
lookup-at (s ∷ spots) (v ∷ values) spot d (suc k) ascends lt is =
    let other : is_same_spot s spot ≡ false = apart spots k (omega arith) is (sorted_head spot_cmp s spots ascends) in
    ap (λ (b : Bool). if b then v else lookup spots values spot) other ∙ lookup-at spots values spot d k (sorted_tail spot_cmp s spots ascends) (omega arith) is
  where
    apart : (spots : List Spot) (k : ℕ) → k < length spots → get_or spots k d ≡ spot → Above s spots → is_same_spot s spot ≡ false
    apart [] k lt is above = absurd (omega arith)
    apart (x ∷ xs) zero lt is above = same-tied s spot ∙ ap (λ (t : Spot). eq_by_cmp spot_cmp s t) (sym is) ∙ ap is_eq above.0
    apart (x ∷ xs) (suc k) lt is above = apart xs k (omega arith) is above.1

-- a search for the element that finds nothing has found its place
pub none-found : {V : Type 0} (f : V → Spot) (xs : List V) (i : ℕ) (spot : Spot)
    → AllWithin (λ x. spot_cmp (f x) spot ≡ Less) xs 0 i → AllWithin (λ x. spot_cmp (f x) spot ≡ Greater) xs i (length xs) → is_among (map f xs) spot ≡ false
none-found {V} f xs i spot below above =
    among-map f xs spot ∙ list_any_none (λ x. is_same_spot (f x) spot) xs (λ k d lt. same-tied (f (get_or xs k d)) spot ∙ by_order k d lt (cases_order k i))
  where
    by_order : (k : ℕ) (d : V) → k < length xs → (k ≡ i) ⊎ ((k < i) ⊎ (i < k)) → eq_by_cmp spot_cmp (f (get_or xs k d)) spot ≡ false
    by_order k d lt (inl same) = ap is_eq (above k d (omega arith) lt)
    by_order k d lt (inr (inl less)) = ap is_eq (below k d (omega arith) less)
    by_order k d lt (inr (inr more)) = ap is_eq (above k d (omega arith) lt)

-- a list in order may be searched
pub searchable : {V : Type 0} (f : V → Spot) (xs : List V) (spot : Spot) → Ascends (map f xs) → IsNonDecreasingBy (λ x. ordering_index (spot_cmp (f x) spot)) xs
searchable {V} f xs spot ascends = searchable_from_sorted spot-total f xs spot (λ k d le lt. in-order k d lt)
  where
    in-order : (k : ℕ) (d : V) → k + 1 < length xs → is_lt (spot_cmp (f (get_or xs (k + 1) d)) (f (get_or xs k d))) ≡ false
    in-order k d lt =
        let rises : spot_cmp (get_or (map f xs) k (f d)) (get_or (map f xs) (k + 1) (f d)) ≡ Less =
        Less-from_sorted spot_cmp (map f xs) k (k + 1) (f d) ascends (omega arith) (omega (arith, length-map xs f)) in
        let one = math.get_or-map f xs k d in
        let next = math.get_or-map f xs (k + 1) d in
        ap is_lt (spot-total.antisymm (f (get_or xs (k + 1) d)) (f (get_or xs k d)) ∙ ap (λ o. ordering_reverse o) ((λ j. spot_cmp (sym one j) (sym next j)) ∙ rises))
