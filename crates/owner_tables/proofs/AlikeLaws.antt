-- Where a node owns an element, any node owns it exactly where the two are alike.
use Rattle.std.proofs.Common.{◌≡◌, ℕ, ◌<◌, true, ◌==◌, ◌&&◌, ℤ, pos, ◌+ℤ◌, ◌*ℤ◌, List, [], ◌∷◌, Option, Some, None, get_or, length, map, refl, sym, ◌∙◌, ap, subst, arith, eq-eqb, All, filter}
use Rattle.std.proofs.lemmas.Bool.{and_from, and_parts, eqb-true}
use Rattle.std.proofs.lemmas.List.{get_or-map, length-map}
use Rattle.std.proofs.lemmas.List.Elements.{All-head, All-tail}
use Rattle.std.specs.List.{list_all, range_with_len}
use Rattle.std.specs.Prelude.{option_map, unsigned_abs}
use Rattle.hpf_base.specs.declared.index.Shape.{Shape}
use Rattle.mappings.specs.declared.mapping.AlignDim.{AlignDim}
use Rattle.mappings.specs.declared.mapping.AlignDim.TheVariants.{Linear, At, Every}
use Rattle.mappings.specs.declared.mapping.Line.{Line}
use Rattle.mappings.specs.declared.mapping.MapDim.{MapDim}
use Rattle.mappings.specs.declared.mapping.Mapping.{Mapping}
use Rattle.mappings.specs.Alignment.{agrees, agrees_at, aligned, owns}
use Rattle.hpf_base.specs.ElementOrder.{extents_of, product}
use Rattle.hpf_base.specs.Grid.{node_coordinates}
use Rattle.hpf_base.specs.Shape.{IsShape}
use Rattle.mappings.specs.Mapping.{IsAlign, IsMapping}
use Rattle.hpf_base.proofs.Elements.{elements-get}
use Rattle.hpf_base.proofs.Places.{length-place_at, place_at}
use Rattle.mappings.proofs.Sections.{same_test}
use Rattle.local_address.proofs.ElementLaws.{length-index_at}
use Rattle.machine_steps.proofs.Owners.{owned-inside}
use Rattle.machine_steps.specs.Layout.{Layout, element_index, owned_by, size_of}
use Rattle.owner_tables.specs.Alike.{alike_nodes, is_alike, is_alike_at, is_alike_in, leader}
use Rattle.owner_tables.specs.Layouts.{IsLaid}
use Rattle.owner_tables.specs.Numbers.{least_at}
use Rattle.owner_tables.proofs.Ranges.{filter-agree, first-agree, first-passes}

same_coordinate : (line : Line) (one other : ℕ) (given : Option ℤ) (subscript : ℤ) → given ≡ Some subscript
    → agrees_at line one given ≡ true → agrees_at line other given ≡ (one == other)
same_coordinate line one other given subscript is =
    subst (λ g. agrees_at line one g ≡ true → agrees_at line other g ≡ (one == other)) (sym is) (λ h. ap (λ x. x == other) (eqb-true _ _ h))

alike-at : (align : AlignDim) (line : Line) (index : List ℤ) (one other : ℕ) → IsAlign (length index) align
    → agrees_at line one (aligned align (map Some index)) ≡ true → agrees_at line other (aligned align (map Some index)) ≡ is_alike_at align one other
alike-at (Linear dim a b) line index one other within h =
    same_coordinate line one other (aligned (Linear dim a b) (map Some index)) ((a *ℤ get_or index dim (pos 0)) +ℤ b)
    (ap (λ g. option_map (λ i. (a *ℤ i) +ℤ b) g) (get_or-map Some index dim (pos 0) None within)) h
alike-at (At v) line index one other within h = same_coordinate line one other (Some v) v refl h
alike-at Every line index one other within h = refl

alike-entries : (one other : List ℕ) (index : List ℤ) (entries : List MapDim) → All (λ e. IsAlign (length index) e.align) entries
    → list_all (agrees one (map Some index)) entries ≡ true → list_all (agrees other (map Some index)) entries ≡ list_all (is_alike_in one other) entries
alike-entries one other index [] valid h = refl
alike-entries one other index (e ∷ es) valid h =
    let parts = and_parts _ _ h in
    ap (λ b. b && list_all (agrees other (map Some index)) es)
    (alike-at e.align e.line index (get_or one e.grid_dim 0) (get_or other e.grid_dim 0) (All-head (λ x. IsAlign (length index) x.align) e es valid) parts.0)
    ∙ ap (λ b. is_alike_in one other e && b) (alike-entries one other index es (All-tail (λ x. IsAlign (length index) x.align) e es valid) parts.1)

-- ---- alike is an equivalence

alike-self-at : (align : AlignDim) (n : ℕ) → is_alike_at align n n ≡ true
alike-self-at (Linear dim a b) n = eq-eqb n n refl
alike-self-at (At v) n = eq-eqb n n refl
alike-self-at Every n = refl

alike-self-in : (one : List ℕ) (entries : List MapDim) → list_all (is_alike_in one one) entries ≡ true
alike-self-in one [] = refl
alike-self-in one (e ∷ es) = and_from _ _ (alike-self-at e.align (get_or one e.grid_dim 0)) (alike-self-in one es)

alike-self : (mapping : Mapping) (node : ℕ) → is_alike mapping node node ≡ true
alike-self mapping node = alike-self-in (node_coordinates mapping.grid node) mapping.dims

eqb-turned : (m n : ℕ) → (m == n) ≡ (n == m)
eqb-turned m n = same_test _ _ (λ h. eq-eqb n m (sym (eqb-true m n h))) (λ h. eq-eqb m n (sym (eqb-true n m h)))

alike-turned-at : (align : AlignDim) (m n : ℕ) → is_alike_at align m n ≡ is_alike_at align n m
alike-turned-at (Linear dim a b) m n = eqb-turned m n
alike-turned-at (At v) m n = eqb-turned m n
alike-turned-at Every m n = refl

alike-turned-in : (one other : List ℕ) (entries : List MapDim) → list_all (is_alike_in one other) entries ≡ list_all (is_alike_in other one) entries
alike-turned-in one other [] = refl
alike-turned-in one other (e ∷ es) =
    ap (λ b. b && list_all (is_alike_in one other) es) (alike-turned-at e.align (get_or one e.grid_dim 0) (get_or other e.grid_dim 0))
    ∙ ap (λ b. is_alike_in other one e && b) (alike-turned-in one other es)

alike-turned : (mapping : Mapping) (one other : ℕ) → is_alike mapping one other ≡ is_alike mapping other one
alike-turned mapping one other = alike-turned-in (node_coordinates mapping.grid one) (node_coordinates mapping.grid other) mapping.dims

-- ---- owners

pub element_index-rank : (shape : Shape) (at : ℕ) → IsShape shape → at < product (extents_of shape) → length (element_index shape at) ≡ length shape.lower
element_index-rank shape at valid below =
    ap length (elements-get shape at [] below)
    ∙ length-index_at shape.lower (place_at (extents_of shape) at)
    (length-place_at (extents_of shape) at ∙ length-map shape.extent unsigned_abs ∙ sym valid.rank)

module _ (mapping : Mapping) (index : List ℤ) (valid : IsMapping (length index) mapping) where
  alike-owns : (one other : ℕ) → owns mapping index one ≡ true → owns mapping index other ≡ is_alike mapping one other
  alike-owns one other h =
      alike-entries (node_coordinates mapping.grid one) (node_coordinates mapping.grid other) index mapping.dims
      (λ k d within. (valid.entries k d within).align) h

module _ (nodes : ℕ) (layout : Layout) (laid : IsLaid nodes layout) where
  valid-at : (at : ℕ) → at < size_of layout → IsMapping (length (element_index layout.shape at)) layout.mapping
  unfolding size_of
  valid-at at below = subst (λ n. IsMapping n layout.mapping) (sym (element_index-rank layout.shape at laid.shape below)) laid.mapping

  alike-owned : (at one other : ℕ) → at < size_of layout → owned_by layout one at ≡ true → owned_by layout other at ≡ is_alike layout.mapping one other
  alike-owned at one other below h =
      owned-inside layout other at below
      ∙ alike-owns layout.mapping (element_index layout.shape at) (valid-at at below) one other (sym (owned-inside layout one at below) ∙ h)

  -- where a node owns an element, its owners are those alike to the node
  pub sharers-own : (node at : ℕ) → at < size_of layout → owned_by layout node at ≡ true
      → filter (λ other. owned_by layout other at) (range_with_len 0 nodes) ≡ alike_nodes layout.mapping nodes node
  sharers-own node at below h = filter-agree _ _ 0 nodes (λ k from upto. alike-owned at node k below h)

  leader-of-owner : (node at : ℕ) → at < size_of layout → owned_by layout node at ≡ true → least_at nodes layout at ≡ leader layout.mapping nodes node
  leader-of-owner node at below h = first-agree _ _ 0 nodes (λ k from upto. alike-owned at node k below h)

  module _ (dealt : (at : ℕ) → at < size_of layout → owned_by layout (least_at nodes layout at) at ≡ true) where
    -- the nodes alike to the least owner are the owners
    pub owners-alike : (at : ℕ) → at < size_of layout
        → alike_nodes layout.mapping nodes (least_at nodes layout at) ≡ filter (λ node. owned_by layout node at) (range_with_len 0 nodes)
    owners-alike at below =
        filter-agree _ _ 0 nodes (λ k from upto. sym (alike-owned at (least_at nodes layout at) k below (dealt at below)))

    -- a node owns the elements whose least owner is its leader
    pub owned-by-leader : (node at : ℕ) → node < nodes → at < size_of layout → (least_at nodes layout at == leader layout.mapping nodes node) ≡ owned_by layout node at
    owned-by-leader node at within below =
        let mapping = layout.mapping in
        let lead : is_alike mapping node (leader mapping nodes node) ≡ true =
        (first-passes (is_alike mapping node) 0 nodes node (omega arith) (omega arith) (alike-self mapping node)).0 in
        same_test _ _
        (λ h.
        let is : least_at nodes layout at ≡ leader mapping nodes node = eqb-true _ _ h in
        alike-owned at (least_at nodes layout at) node below (dealt at below)
        ∙ alike-turned mapping (least_at nodes layout at) node ∙ ap (is_alike mapping node) is ∙ lead)
        (λ h. eq-eqb _ _ (leader-of-owner node at below h))
