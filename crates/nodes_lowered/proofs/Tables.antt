-- Copies on so many nodes lie as the laws of lowered programs ask.
use Rattle.std.proofs.Common.{◌≡◌, ℕ, ◌<◌, ◌≤◌, nat_le, true, if◌then◌else◌, List, [], ◌∷◌, length, map, slice_get, Option, Some, None, refl, sym, ap, ◌∙◌, subst}
use Rattle.std.proofs.Math.Nat.{mul-one}
use Rattle.std.proofs.lemmas.Bool.{le-leb}
use Rattle.hpf_base.specs.declared.limits.TheConstants.{MAX_ELEMENTS}
use Rattle.hpf_base.specs.ElementOrder.{product}
use Rattle.expression_rules.specs.declared.dims.Dim.{Dim}
use Rattle.array_meaning.specs.State.{State}
use Rattle.mappings.specs.declared.mapping.Mapping.{Mapping}
use Rattle.machine_steps.specs.CopyLayout.{copy_extents}
use Rattle.machine_steps.specs.Layout.{IsInBlocks, Layout, size_of}
use Rattle.machine_steps.specs.SameLayouts.{is_same_layout}
use Rattle.code_meaning.specs.Beside.{Anchor, aligned_layout, lies_by}
use Rattle.code_meaning.specs.Instructions.{IsAnchorBelow, lies_alone}
use Rattle.code_meaning.specs.ProgramText.{table_on}
use Rattle.code_meaning.proofs.Beside.{have-sizes}
use Rattle.code_meaning.proofs.InBlocks.{blocks-in-a-row}
use Rattle.owner_tables.proofs.SameLayouts.{layout_itself, same_layouts}
use Rattle.nest_standing.specs.Lowered.{IsTable}

-- by how the first rows lie alone, where what is assigned is one of these
copies-steady : (nodes n : ℕ) (one other : List Layout) (anchor : Option Anchor) (extents : List ℕ) → ((r : ℕ) → r < n → slice_get one r ≡ slice_get other r)
    → IsAnchorBelow n anchor → aligned_layout nodes one anchor extents ≡ aligned_layout nodes other anchor extents
copies-steady nodes n one other None extents same below = refl
copies-steady nodes n one other (Some anchor) extents same below = ap (lies_by nodes (copy_extents extents) anchor.subscripts) (same anchor.row below)

-- one of one dimension lies as another with as many elements
copies-alone : (nodes : ℕ) (maps : List Mapping) (shapes : List (List Dim)) (layouts : List Layout) (m : ℕ) → m ≤ MAX_ELEMENTS
    → lies_alone (table_on nodes maps shapes) (aligned_layout nodes layouts None (m ∷ [])) ≡ true
copies-alone nodes maps shapes layouts m few =
    let layout : Layout = aligned_layout nodes layouts None (m ∷ []) in
    let one : product (m ∷ []) ≡ m = mul-one m in
    let size : size_of layout ≡ m = have-sizes nodes layouts None (m ∷ []) ∙ ap (λ k. if nat_le k MAX_ELEMENTS then k else 0) one
    ∙ ap (λ b. if b then m else 0) (le-leb m MAX_ELEMENTS few) in
    ap (λ k. is_same_layout layout (aligned_layout nodes layouts None (k ∷ []))) size ∙ layout_itself layout

-- what lies so lies in blocks
pub blocks-are : (nodes : ℕ) (maps : List Mapping) (shapes : List (List Dim)) → 1 ≤ nodes → (layout : Layout)
    → lies_alone (table_on nodes maps shapes) layout ≡ true → IsInBlocks nodes layout
blocks-are nodes maps shapes some layout h =
    subst (IsInBlocks nodes) (sym (same_layouts layout (aligned_layout nodes [] None (size_of layout ∷ [])) h)) (blocks-in-a-row nodes (size_of layout) some)

pub tables-are : (nodes : ℕ) (maps : List Mapping) (s : State) → IsTable s (table_on nodes maps (map (λ a. a.dims) s.arrays))
tables-are nodes maps s = record {
  shapes = refl;
  copies = have-sizes nodes;
  steady = copies-steady nodes (length (map (λ a. a.dims) s.arrays));
  alone = copies-alone nodes maps (map (λ a. a.dims) s.arrays);
}
