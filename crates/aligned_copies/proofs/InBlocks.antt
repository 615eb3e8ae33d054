-- A copy of one dimension that lies beside nothing lies in blocks, one node's after another's.
use Rattle.std.proofs.Common.{◌≡◌, ℕ, zero, suc, ◌+◌, ◌%◌, ◌<◌, ◌≤◌, Bool, true, false, ◌==◌, ◌&&◌, if◌then◌else◌, pos, ℤ, List, [], ◌∷◌, Some, get_or, length, map, refl, ◌∙◌, ap, arith, eq-eqb, ⊎_elim}
use Rattle.std.specs.List.{flat_map, range_with_len}
use Rattle.std.proofs.Math.Nat.{lt_of_mul-lt-mul_right, mod-eq_of_lt, mul-one}
use Rattle.std.proofs.lemmas.Bool.{cases_eq, ne_eqb}
use Rattle.mappings.specs.declared.mapping.AlignDim.TheVariants.{Linear}
use Rattle.mappings.specs.Alignment.{agrees_at, aligned}
use Rattle.mappings.specs.Owner.{block_line, coordinate, default_block}
use Rattle.mappings.proofs.Blocks.{coordinate-within, default_block-some}
use Rattle.hpf_base.specs.ElementOrder.{product}
use Rattle.machine_steps.specs.Layout.{Layout, IsInBlocks, element_index, owned_by, size_of, values_at}
use Rattle.machine_steps.specs.CopyLayout.{copy_layout, copy_shape, layout_of}
use Rattle.machine_steps.specs.Space.{space_count}
use Rattle.machine_steps.proofs.Owners.{owned-inside}
use Rattle.aligned_copies.proofs.CopyLaws.{block-below, extents-back, last-aligned, line-coordinates, position-of}

-- ---- positions whose owners ascend

none-passes : (P : ℕ → Bool) (values : List ℤ) (lo : ℕ) → ((at : ℕ) → lo ≤ at → at < lo + length values → P at ≡ false) → values_at P lo values ≡ []
none-passes P [] lo h = refl
none-passes P (v ∷ values) lo h = rw (h lo (omega arith) (omega arith)) (none-passes P values (lo + 1) (λ at le lt. h at (omega arith) (omega arith)))

module _ (owned : (node at : ℕ) → Bool) (count size : ℕ) (owner : ℕ → ℕ)
    (is : (node at : ℕ) → node < count → at < size → owned node at ≡ (owner at == node))
    (below : (at : ℕ) → at < size → owner at < count)
    (ascends : (one other : ℕ) → one ≤ other → other < size → owner one ≤ owner other) where
  -- a value comes first in what its owner has, where the nodes below have nothing
  comes-first : (v : ℤ) (has : ℕ → List ℤ) (at : ℕ) → at < size → (len lo : ℕ) → lo ≤ owner at → owner at < lo + len → lo + len ≤ count
      → ((node : ℕ) → node < owner at → has node ≡ [])
      → flat_map (λ node. if owned node at then v ∷ has node else has node) (range_with_len lo len) ≡ v ∷ flat_map has (range_with_len lo len)
  comes-first v has at lt zero lo le upto few none = absurd (omega arith)
  comes-first v has at lt (suc len) lo le upto few none = ⊎_elim
      (λ (same : owner at ≡ lo). rw (is lo at (omega arith) lt, eq-eqb (owner at) lo same, others len (lo + 1) (omega arith) (omega arith)) refl)
      (λ (other : owner at ≡ lo → ⊥).
      rw (is lo at (omega arith) lt, ne_eqb (owner at) lo other, none lo (omega (arith, other)))
      (comes-first v has at lt len (lo + 1) (omega (arith, other)) (omega arith) (omega arith) none))
      (cases_eq (owner at) lo)
    where
      others : (len lo : ℕ) → owner at < lo → lo + len ≤ count
          → flat_map (λ node. if owned node at then v ∷ has node else has node) (range_with_len lo len) ≡ flat_map has (range_with_len lo len)
      others zero lo past few = refl
      others (suc len) lo past few =
          rw (is lo at (omega arith) lt, ne_eqb (owner at) lo (λ e. absurd (omega arith)), others len (lo + 1) (omega arith) (omega arith)) refl

  -- so the nodes' values in a row are all values
  in-a-row : (values : List ℤ) (lo : ℕ) → lo + length values ≡ size → flat_map (λ node. values_at (owned node) lo values) (range_with_len 0 count) ≡ values
  in-a-row [] lo long = nothing count 0
    where
      none : List ℤ
      none = []

      nothing : (len lo : ℕ) → flat_map (λ (node : ℕ). none) (range_with_len lo len) ≡ none
      nothing zero lo = refl
      nothing (suc len) lo = nothing len (lo + 1)
  in-a-row (v ∷ values) lo long =
      comes-first v (λ node. values_at (owned node) (lo + 1) values) lo (omega (arith, long)) count 0 (omega arith) (let in' = below lo (omega (arith, long)) in omega arith) (omega arith)
      (λ node lt. none-passes (owned node) values (lo + 1) (λ at le upto.
      let up = ascends lo at (omega arith) (omega (arith, long)) in
      let in' = below at (omega (arith, long)) in
      is node at (omega arith) (omega (arith, long)) ∙ ne_eqb (owner at) node (λ e. absurd (omega arith))))
      ∙ ap (λ l. v ∷ l) (in-a-row values (lo + 1) (omega (arith, long)))

-- ---- blocks

module _ (nodes n : ℕ) (some : 1 ≤ nodes) where
  abbrev layout : Layout
  layout = layout_of nodes (n ∷ [])

  abbrev owner_of : ℕ → ℕ
  owner_of at = coordinate (block_line n nodes) (at + 1)

  layout-size : size_of layout ≡ n
  unfolding size_of
  layout-size = ap product (extents-back (n ∷ [])) ∙ mul-one n

  owner-is : (node at : ℕ) → node < nodes → at < size_of layout → owned_by layout node at ≡ (owner_of at == node)
  owner-is node at within below =
      let size = layout-size in
      let one : product (n ∷ []) ≡ n = mul-one n in
      let place : at % n ≡ at = mod-eq_of_lt (omega (arith, size)) in
      owned-inside layout node at below
      ∙ ap (λ coordinates. agrees_at (block_line n nodes) (get_or coordinates 0 0) (aligned (Linear 0 (pos 1) (pos 0)) (map Some (element_index (copy_shape (n ∷ [])) at))) && true)
      (line-coordinates nodes node within)
      ∙ ap (λ s. agrees_at (block_line n nodes) node s && true) (last-aligned n [] at (omega (arith, size, one)))
      ∙ ap (λ j. (coordinate (block_line n nodes) j == node) && true) (position-of (block_line n nodes) (at % n) refl ∙ ap (λ k. k + 1) place)
      ∙ and_true (owner_of at == node)
    where
      and_true : (b : Bool) → (b && true) ≡ b
      and_true true = refl
      and_true false = refl

  owners-ascend : (one other : ℕ) → one ≤ other → owner_of one ≤ owner_of other
  owners-ascend one other le =
      let m = default_block n nodes in
      let low = (coordinate-within m (one + 1) (default_block-some n nodes) (omega arith)).0 in
      let high = (coordinate-within m (other + 1) (default_block-some n nodes) (omega arith)).1 in
      let h : owner_of one < owner_of other + 1 = lt_of_mul-lt-mul_right m (omega (arith, low, high)) in
      omega arith

  layout-in-blocks : IsInBlocks nodes layout
  layout-in-blocks row long =
      let size = layout-size in
      let whole : 0 + length row ≡ size_of layout = omega (arith, long) in
      in-a-row (owned_by layout) nodes (size_of layout) owner_of owner-is
      (λ at below. block-below n nodes (at + 1) some (omega arith) (omega (arith, size)))
      (λ one other le lt. owners-ascend one other le)
      row 0 whole

pub blocks-in-a-row : (nodes n : ℕ) → 1 ≤ nodes → IsInBlocks nodes (copy_layout nodes (n ∷ []))
blocks-in-a-row nodes n some = by_space (space_count (n ∷ []) == 0)
  where
    by_space : (b : Bool) → IsInBlocks nodes (layout_of nodes (if b then 0 ∷ [] else n ∷ []))
    by_space true = layout-in-blocks nodes 0 some
    by_space false = layout-in-blocks nodes n some
