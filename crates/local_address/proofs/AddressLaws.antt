-- Places in a list without repetition.
use Rattle.std.proofs.Common.{◌≡◌, ◌≢◌, ◌↔◌, ℕ, ◌<◌, ◌≤◌, ◌⊎◌, inl, inr, ℤ, Bool, true, false, List, refl, sym, ◌∙◌, ap, subst, arith, length, get_or, AllPairs, Contains, Option, Some, None, IsNone, slice_get}
use Rattle.std.proofs.lemmas.Bool.{both_ways, cases_order, true≢false}
use Rattle.std.proofs.lemmas.List.Elements.{filter_passes}
use Rattle.std.proofs.lemmas.Option.{get_or_from_slice_get, same_Some, slice_get-get_or, slice_get_within}
use Rattle.hpf_base.specs.declared.index.Shape.{Shape}
use Rattle.mappings.specs.declared.mapping.Mapping.{Mapping}
use Rattle.mappings.specs.Alignment.{owns}
use Rattle.hpf_base.specs.ElementOrder.{elements, IsInside}
use Rattle.mappings.specs.LocalOrder.{local_elements}
use Rattle.hpf_base.specs.Shape.{IsShape}
use Rattle.hpf_base.proofs.Elements.{Contains-filter, elements-contains}

-- an element stands at one address
one_place : (xs : List (List ℤ)) (x : List ℤ) (p q : ℕ) → AllPairs (λ a b. a ≢ b) xs → slice_get xs p ≡ Some x → slice_get xs q ≡ Some x → p ≡ q
one_place xs x p q apart p-at q-at = cases (cases_order p q)
  where
    p-is : get_or xs p x ≡ x
    p-is = get_or_from_slice_get xs p x x p-at

    q-is : get_or xs q x ≡ x
    q-is = get_or_from_slice_get xs q x x q-at

    cases : (p ≡ q) ⊎ ((p < q) ⊎ (q < p)) → p ≡ q
    cases (inl same) = same
    cases (inr (inl less)) = absurd (apart p q x less (slice_get_within xs q x q-at) (p-is ∙ sym q-is))
    cases (inr (inr more)) = absurd (apart q p x more (slice_get_within xs p x p-at) (q-is ∙ sym p-is))

pub at_address : (xs : List (List ℤ)) (x : List ℤ) (p : ℕ) → AllPairs (λ a b. a ≢ b) xs → slice_get xs p ≡ Some x
    → (q : ℕ) → (Some p ≡ Some q) ↔ (slice_get xs q ≡ Some x)
at_address xs x p apart at q = (
  λ same. ap (slice_get xs) (sym (same_Some p q same)) ∙ at,
  λ there. ap Some (one_place xs x p q apart at there),
)

pub at_none : (xs : List (List ℤ)) (x : List ℤ) (n : ℕ) → length xs ≤ n → ((k : ℕ) → k < n → slice_get xs k ≡ Some x → ⊥)
    → (q : ℕ) → (◌≡◌ {A = Option ℕ} None (Some q)) ↔ (slice_get xs q ≡ Some x)
at_none xs x n all none q = (λ same. cc, λ there. absurd (none q (omega (arith, slice_get_within xs q x there)) there))

-- an element inside the shape has no address exactly where the node doesn't own it
pub none_unowned : (xs : List (List ℤ)) (x : List ℤ) (address : Option ℕ) → ((q : ℕ) → (address ≡ Some q) ↔ (slice_get xs q ≡ Some x))
    → (mapping : Mapping) (shape : Shape) (node : ℕ) → xs ≡ local_elements mapping shape node → IsShape shape → IsInside shape x
    → IsNone address ↔ (owns mapping x node ≡ false)
none_unowned xs x address addresses mapping shape node is valid inside = (unowned (owns mapping x node) refl, none address refl)
  where
    unowned : (t : Bool) → owns mapping x node ≡ t → IsNone address → owns mapping x node ≡ false
    unowned false at no_address = at
    unowned true at no_address =
        let element = elements-contains shape x valid inside in
        let local : Contains xs x =
        subst (λ list. Contains list x) (sym is) (Contains-filter (λ index. owns mapping index node) x (elements shape) element.0 element.1 element.2 at) in
        let found : slice_get xs local.0 ≡ Some x = slice_get-get_or xs local.0 x local.1 ∙ ap Some local.2 in
        absurd (true≢false (subst IsNone ((addresses local.0).1 found) no_address))

    none : (o : Option ℕ) → address ≡ o → owns mapping x node ≡ false → IsNone address
    none None at not_owner = subst IsNone (sym at) refl
    none (Some q) at not_owner =
        let there : slice_get xs q ≡ Some x = (addresses q).0 at in
        let here : slice_get (local_elements mapping shape node) q ≡ Some x = ap (λ list. slice_get list q) (sym is) ∙ there in
        let owner : owns mapping (get_or (local_elements mapping shape node) q x) node ≡ true =
        filter_passes (λ index. owns mapping index node) (elements shape) q x (slice_get_within (local_elements mapping shape node) q x here) in
        absurd (both_ways (owns mapping x node) not_owner
        (ap (λ index. owns mapping index node) (sym (get_or_from_slice_get (local_elements mapping shape node) q x x here)) ∙ owner))
