-- Copies: their shapes and mappings are valid, they have as many elements as their extents, and each element has an owner.
use Rattle.std.proofs.Common.{◌≡◌, ◌≢◌, ℕ, zero, suc, ◌+◌, ◌*◌, ◌/◌, ◌<◌, ◌≤◌, Bool, true, false, ◌==◌, if◌then◌else◌, pos, ◌+ℤ◌, ◌*ℤ◌, ◌≤ℤ◌, List, [], ◌∷◌, Some, None, get_or, length, map, refl, sym, ◌∙◌, ap, subst, arith, eq-eqb, nat_le, All, AllPairs, unsigned_abs}
use Rattle.std.proofs.Math.Nat.{lt_of_mul-lt-mul_right, mul_comm, mul-one, zero-mul}
use Rattle.std.proofs.lemmas.Bool.{and_from, eqb-true}
use Rattle.std.proofs.lemmas.Grind.{div_ceil_times}
use Rattle.std.proofs.lemmas.Int.{ints}
use Rattle.std.proofs.lemmas.List.{get_or_default, length-map}
use Rattle.std.proofs.lemmas.List.Elements.{All-cons, All-head, All-map, All-nil, All-tail}
use Rattle.std.proofs.lemmas.Nat.{mod_below}
use Rattle.std.specs.Option.{option_map}
use Rattle.hpf_base.specs.declared.limits.TheConstants.{MAX_BOUND, MAX_ELEMENTS, MAX_NODES}
use Rattle.mappings.specs.declared.mapping.AlignDim.TheVariants.{Linear}
use Rattle.mappings.specs.declared.mapping.Line.{Line}
use Rattle.mappings.specs.declared.mapping.MapDim.{MapDim}
use Rattle.mappings.specs.Alignment.{agrees_at, aligned, owns, position_at}
use Rattle.hpf_base.specs.ElementOrder.{elements, extents_of, index_at, product}
use Rattle.hpf_base.specs.Grid.{node_coordinates}
use Rattle.hpf_base.specs.Shape.{IsShape}
use Rattle.mappings.specs.Mapping.{InLine, IsLine, IsMapDim, MapsInside, MoveApart}
use Rattle.mappings.specs.Owner.{block_line, coordinate, default_block}
use Rattle.mappings.proofs.Blocks.{coordinate-within, default_block-all, default_block-some}
use Rattle.hpf_base.proofs.ElementOrder.{factor_some}
use Rattle.hpf_base.proofs.Elements.{elements-get, length-elements}
use Rattle.hpf_base.proofs.Places.{length-place_at, number_of, place_at, place_at-number_of, places-get}
use Rattle.machine_steps.specs.Layout.{IsDealt, element_index, size_of}
use Rattle.machine_steps.proofs.Owners.{owned-inside}
use Rattle.machine_steps.specs.CopyLayout.{copy_dims, copy_extents, copy_layout, copy_mapping, copy_shape}
use Rattle.machine_steps.specs.Space.{space_count}
use Rattle.aligned_copies.specs.Layouts.{IsLaid}

-- ---- the extents

-- where there is an element no extent is 0
pub factors_some : (extents : List ℕ) → 1 ≤ product extents → All (λ e. 1 ≤ e) extents
factors_some [] some = λ k d within. absurd (omega arith)
factors_some (e ∷ es) some =
    All-cons (λ x. 1 ≤ x) e es (factor_some (product es) e (omega (arith, some, mul_comm e (product es))))
    (factors_some es (factor_some e (product es) some))

pub extents-back : (extents : List ℕ) → extents_of (copy_shape extents) ≡ extents
extents-back [] = refl
extents-back (n ∷ ns) = ap (λ es. n ∷ es) (extents-back ns)

zeros-product : (extents : List ℕ) → (product extents ≡ 1 → ⊥) → product (map (λ n. 0) extents) ≡ 0
zeros-product [] other = absurd (other refl)
zeros-product (n ∷ ns) other = zero-mul (product (map (λ n. 0) ns))

pub copy_extents-product : (extents : List ℕ) → product (copy_extents extents) ≡ space_count extents
copy_extents-product extents = by_limit (nat_le (product extents) MAX_ELEMENTS) refl
  where
    by_test : (b : Bool) → (product extents == 0) ≡ b → product (if b then map (λ n. 0) extents else extents) ≡ product extents
    by_test true is = let none : product extents ≡ 0 = eqb-true _ _ is in zeros-product extents (λ e. omega (arith, none, e)) ∙ sym none
    by_test false is = refl

    by_limit : (b : Bool) → nat_le (product extents) MAX_ELEMENTS ≡ b
        → product (if (if b then product extents else 0) == 0 then map (λ n. 0) extents else extents) ≡ (if b then product extents else 0)
    by_limit true is = by_test (product extents == 0) refl
    by_limit false is = zeros-product extents (λ one. cc)

copy-elements : (nodes : ℕ) (extents : List ℕ) → size_of (copy_layout nodes extents) ≡ product (copy_extents extents)
unfolding size_of
copy-elements nodes extents = ap product (extents-back (copy_extents extents))

pub copy-size : (nodes : ℕ) (extents : List ℕ) → size_of (copy_layout nodes extents) ≡ space_count extents
copy-size nodes extents = copy-elements nodes extents ∙ copy_extents-product extents

-- ---- the subscripts

pub place-below : (extents : List ℕ) (n k : ℕ) → All (λ e. 1 ≤ e) extents → k < length extents → get_or (place_at extents n) k 0 < get_or extents k 0
place-below [] n k some within = absurd (omega arith)
place-below (e ∷ es) n zero some within = mod_below n e (All-head (λ x. 1 ≤ x) e es some)
place-below (e ∷ es) n (suc k) some within = place-below es (n / e) k (All-tail (λ x. 1 ≤ x) e es some) (omega arith)

subscript-get : (extents place : List ℕ) (k : ℕ) → length place ≡ length extents → k < length extents
    → get_or (map Some (index_at (map (λ e. pos 1) extents) place)) k None ≡ Some (pos 1 +ℤ pos (get_or place k 0))
subscript-get [] place k same within = absurd (omega arith)
subscript-get (e ∷ es) [] k same within = absurd (omega arith)
subscript-get (e ∷ es) (p ∷ ps) zero same within = refl
subscript-get (e ∷ es) (p ∷ ps) (suc k) same within = subscript-get es ps k (omega arith) (omega arith)

-- the subscript of the last index of an element: from 1 to its extent
module _ (n : ℕ) (ns : List ℕ) where
  abbrev last : ℕ
  last = get_or (n ∷ ns) (length ns) 0

  abbrev place : ℕ → ℕ
  place at = get_or (place_at (n ∷ ns) at) (length ns) 0

  last-below : (at : ℕ) → at < product (n ∷ ns) → place at < last
  last-below at below = place-below (n ∷ ns) at (length ns) (factors_some (n ∷ ns) (omega arith)) (omega arith)

  pub last-aligned : (at : ℕ) → at < product (n ∷ ns)
      → aligned (Linear (length ns) (pos 1) (pos 0)) (map Some (element_index (copy_shape (n ∷ ns)) at)) ≡ Some (pos (place at + 1))
  last-aligned at below =
      let inside : at < product (extents_of (copy_shape (n ∷ ns))) = omega (arith, below, ap product (extents-back (n ∷ ns))) in
      let index : element_index (copy_shape (n ∷ ns)) at ≡ index_at (map (λ e. pos 1) (n ∷ ns)) (place_at (n ∷ ns) at) =
      elements-get (copy_shape (n ∷ ns)) at [] inside ∙ ap (λ es. index_at (map (λ e. pos 1) (n ∷ ns)) (place_at es at)) (extents-back (n ∷ ns)) in
      let number : (pos 1 *ℤ (pos 1 +ℤ pos (place at))) +ℤ pos 0 ≡ pos (place at + 1) = omega (arith, ints) in
      ap (λ i. aligned (Linear (length ns) (pos 1) (pos 0)) (map Some i)) index
      ∙ ap (option_map (λ i. (pos 1 *ℤ i) +ℤ pos 0)) (subscript-get (n ∷ ns) (place_at (n ∷ ns) at) (length ns) (length-place_at (n ∷ ns) at) (omega arith))
      ∙ ap Some number

-- ---- the owners

pub block-below : (extent nodes j : ℕ) → 1 ≤ nodes → 1 ≤ j → j ≤ extent → coordinate (block_line extent nodes) j < nodes
block-below extent nodes j some begins ends =
    let m = default_block extent nodes in
    lt_of_mul-lt-mul_right m
    (omega (arith, (coordinate-within m j (default_block-some extent nodes) begins).0, default_block-all extent nodes some, mul_comm m nodes, ends))

pub line-coordinates : (nodes node : ℕ) → node < nodes → node_coordinates (nodes ∷ []) node ≡ node ∷ []
line-coordinates nodes node below =
    let one : product (nodes ∷ []) ≡ nodes = mul-one nodes in
    let number : number_of (nodes ∷ []) (node ∷ []) ≡ node = omega arith in
    places-get (nodes ∷ []) node [] (omega (arith, one, below))
    ∙ ap (place_at (nodes ∷ [])) (sym number)
    ∙ place_at-number_of (nodes ∷ []) (node ∷ []) (record {
      rank = refl;
      below = λ k within. one_place k within;
    })
  where
    one_place : (k : ℕ) → k < 1 → get_or (node ∷ []) k 0 < get_or (nodes ∷ []) k 0
    one_place zero within = below
    one_place (suc k) within = absurd (omega arith)

pub position-of : (line : Line) (p : ℕ) → line.lower ≡ pos 1 → unsigned_abs (position_at line (pos (p + 1))) ≡ p + 1
position-of line p first =
    let is : position_at line (pos (p + 1)) ≡ pos (p + 1) = omega (arith, ints, first) in ap unsigned_abs is

copy-owner : (nodes at : ℕ) (extents : List ℕ) → 1 ≤ nodes → at < product extents
    → (node : ℕ) × (node < nodes) × (owns (copy_mapping nodes extents) (element_index (copy_shape extents) at) node ≡ true)
copy-owner nodes at [] some below = (0, omega arith, refl)
copy-owner nodes at (n ∷ ns) some below =
    let line = block_line (last n ns) nodes in
    let j = place n ns at + 1 in
    let node = coordinate line j in
    let upto : place n ns at < last n ns = last-below n ns at below in
    let within : node < nodes = block-below (last n ns) nodes j some (omega arith) (omega (arith, upto)) in (
      node,
      within,
      and_from _ _
          (ap (λ coordinates. agrees_at line (get_or coordinates 0 0) (aligned (Linear (length ns) (pos 1) (pos 0))
          (map Some (element_index (copy_shape (n ∷ ns)) at)))) (line-coordinates nodes node within)
          ∙ ap (agrees_at line node) (last-aligned n ns at below)
          ∙ eq-eqb _ _ (ap (coordinate line) (position-of line (place n ns at) refl)))
          refl,
    )

pub copy-dealt : (nodes : ℕ) (extents : List ℕ) → 1 ≤ nodes → IsDealt nodes (copy_layout nodes extents)
copy-dealt nodes extents some at below =
    let owner = copy-owner nodes at (copy_extents extents) some (omega (arith, below, copy-elements nodes extents)) in
    (owner.0, owner.1, owned-inside (copy_layout nodes extents) owner.0 at below ∙ owner.2)

-- ---- valid

pub shape-valid : (extents : List ℕ) → All (λ e. e ≤ MAX_ELEMENTS) extents → product extents ≤ MAX_ELEMENTS → IsShape (copy_shape extents)
shape-valid extents each small =
    let size : product (extents_of (copy_shape extents)) ≡ product extents = ap product (extents-back extents) in
    record {
      rank = length-map extents (λ e. pos 1) ∙ sym (length-map extents pos);
      lower = All-map (λ l. unsigned_abs l ≤ MAX_BOUND) (λ e. pos 1) extents (λ k d within. omega arith);
      extent = All-map (λ x. (pos 0 ≤ℤ x) × (x ≤ℤ pos (2 * MAX_BOUND + 1))) pos extents
          (λ k d within. (omega (arith, ints), omega (arith, ints, each k d within)));
      size = omega (arith, small, size);
    }

module _ (nodes : ℕ) (some : 1 ≤ nodes) (few : nodes ≤ MAX_NODES) where
  block-line : (extent : ℕ) → extent ≤ MAX_ELEMENTS → IsLine (block_line extent nodes)
  block-line extent small = record {
    some = some;
    few = few;
    extent = omega (arith, small);
    lower = omega arith;
    form = (
      default_block-some extent nodes,
      omega (arith, div_ceil_times extent nodes some, small, few, some),
      omega (arith, default_block-all extent nodes some, mul_comm nodes (default_block extent nodes)),
    );
  }

  copy-entries : (extents : List ℕ) → All (λ e. e ≤ MAX_ELEMENTS) extents → All (IsMapDim (nodes ∷ []) (length (map (λ e. pos 1) extents))) (copy_dims nodes extents)
  copy-entries [] each = λ k d within. absurd (omega arith)
  copy-entries (n ∷ ns) each = All-cons (IsMapDim (nodes ∷ []) (length (map (λ e. pos 1) (n ∷ ns)))) _ []
      (record {
        line = block-line (last n ns) (each (length ns) 0 (omega arith));
        distributed = λ e. cc;
        procs = refl;
        align = omega (arith, length-map (n ∷ ns) (λ e. pos 1));
      })
      (All-nil (IsMapDim (nodes ∷ []) (length (map (λ e. pos 1) (n ∷ ns)))))

  pairs : (R : MapDim → MapDim → Type 0) (extents : List ℕ) → AllPairs R (copy_dims nodes extents)
  pairs R [] i j d order within = absurd (omega arith)
  pairs R (n ∷ ns) i j d order within = absurd (omega arith)

  copy-inside : (extents : List ℕ) (at : ℕ) → at < product extents
      → All (λ e. InLine e.line (aligned e.align (map Some (element_index (copy_shape extents) at)))) (copy_dims nodes extents)
  copy-inside [] at below = λ k d within. absurd (omega arith)
  copy-inside (n ∷ ns) at below =
      let upto : place n ns at < last n ns = last-below n ns at below in
      All-cons (λ e. InLine e.line (aligned e.align (map Some (element_index (copy_shape (n ∷ ns)) at))))
      (record { line = block_line (last n ns) nodes; grid_dim = 0; align = Linear (length ns) (pos 1) (pos 0) }) []
      (subst (InLine (block_line (last n ns) nodes)) (sym (last-aligned n ns at below)) (omega (arith, ints), omega (arith, ints, upto)))
      (All-nil (λ e. InLine e.line (aligned e.align (map Some (element_index (copy_shape (n ∷ ns)) at)))))

  pub copy-laid : (extents : List ℕ) → All (λ e. e ≤ MAX_ELEMENTS) extents → product extents ≤ MAX_ELEMENTS
      → IsLaid nodes (record { shape = copy_shape extents; mapping = copy_mapping nodes extents })
  copy-laid extents each small =
      let size : product (extents_of (copy_shape extents)) ≡ product extents = ap product (extents-back extents) in
      record {
        shape = shape-valid extents each small;
        mapping = record {
          entries = copy-entries extents each;
          grid_dims = pairs (λ x y. x.grid_dim ≢ y.grid_dim) extents;
          apart = pairs (λ x y. MoveApart x.align y.align) extents;
        };
        inside = λ k d within.
            let below : k < product extents = omega (arith, within, length-elements (copy_shape extents), size) in
            subst (MapsInside (copy_mapping nodes extents)) (get_or_default (elements (copy_shape extents)) k [] d within) (copy-inside extents k below);
        grid = mul-one nodes;
      }
