-- One list after the other is put in order.
use Rattle.std.proofs.Common.{◌≡◌, ℕ, ◌+◌, ◌<◌, List, [], length, map, set, get_or, sym, ◌∙◌, ap, subst, arith, ◌⊎◌, inl, inr}
use Rattle.std.proofs.lemmas.Bool.{cases_eq}
use Rattle.std.proofs.lemmas.List.{get_or-map, get_or-set_same, get_or-set_other, length-map, length-set, map-set}
use Rattle.storage.specs.Storage.{Spot}
use Rattle.message_elements.specs.Ascending.{Ascends}
use Rattle.message_elements.specs.Elements.{is_among, SameAmong}
use Rattle.comm_sets.specs.Noted.{Lists, ArrangedTo}

-- one list more
pub arranged-more : {V : Type 0} (f : V → List Spot) (before : Lists) (rows : List V) (node : ℕ) (old new : V) → node < length rows → old ≡ get_or rows node old → Ascends (f new) → SameAmong (f old) (f new)
    → ArrangedTo node before (map f rows) → ArrangedTo (node + 1) before (map f (set rows node new))
arranged-more f before rows node old new lt was ascends same arranged =
    let inside : node < length (map f rows) = omega (arith, length-map rows f) in
    let row : get_or (map f rows) node [] ≡ f old = get_or-map f rows node old [] lt ∙ ap f (sym was) in
    subst (λ (after : Lists). ArrangedTo (node + 1) before after) (sym (map-set f rows node new)) (record {
      nodes = length-set (map f rows) node (f new) ∙ arranged.nodes;
      ascends = λ k less. ordered k less inside (cases_eq k node);
      among = λ k s. kept k s inside row (cases_eq k node);
    })
  where
    ordered : (k : ℕ) → k < node + 1 → node < length (map f rows) → (k ≡ node) ⊎ (k ≡ node → ⊥) → Ascends (get_or (set (map f rows) node (f new)) k [])
    ordered k less inside (inl e) =
        subst (λ (xs : List Spot). Ascends xs) (sym (ap (λ j. get_or (set (map f rows) node (f new)) j []) e ∙ get_or-set_same (map f rows) node (f new) [] inside)) ascends
    ordered k less inside (inr ne) =
        subst (λ (xs : List Spot). Ascends xs) (sym (get_or-set_other (map f rows) node k (f new) [] ne)) (arranged.ascends k (omega (arith, ne)))

    kept : (k : ℕ) (s : Spot) → node < length (map f rows) → get_or (map f rows) node [] ≡ f old → (k ≡ node) ⊎ (k ≡ node → ⊥)
        → is_among (get_or (set (map f rows) node (f new)) k []) s ≡ is_among (get_or before k []) s
    kept k s inside row (inl e) =
        ap (λ xs. is_among xs s) (ap (λ j. get_or (set (map f rows) node (f new)) j []) e ∙ get_or-set_same (map f rows) node (f new) [] inside)
        ∙ same s ∙ ap (λ xs. is_among xs s) (sym row ∙ ap (λ j. get_or (map f rows) j []) (sym e)) ∙ arranged.among k s
    kept k s inside row (inr ne) = ap (λ xs. is_among xs s) (get_or-set_other (map f rows) node k (f new) [] ne) ∙ arranged.among k s
