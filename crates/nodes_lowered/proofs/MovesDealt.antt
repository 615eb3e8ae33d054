-- What the redistributions of a program move gives each element of a declared array an owner.
use Rattle.std.proofs.Common.{◌≡◌, ℕ, zero, suc, ◌+◌, ◌<◌, Bool, true, false, List, [], ◌∷◌, ◌++◌, length, map, take, All, Option, Some, None, get_or, refl, sym, ap, ◌∙◌, subst, arith}
use Rattle.std.specs.Prelude.{if◌then◌else◌, nat_eq, unwrap_or}
use Rattle.std.specs.List.{flat_map, slice_get}
use Rattle.std.proofs.lemmas.Option.{same_Some}
use Rattle.std.proofs.lemmas.List.Elements.{All-append, All-cons, All-head, All-nil, All-tail}
use Rattle.hpf_base.specs.declared.index.Shape.{Shape}
use Rattle.hpf_base.specs.ElementOrder.{product}
use Rattle.hpf_base.specs.Grid.{IsGrid}
use Rattle.mappings.specs.declared.mapping.Mapping.{Mapping}
use Rattle.syntax_tree.specs.Directive as directive
use Rattle.syntax_tree.specs.MainProgram.{MainProgram}
use Rattle.expression_rules.specs.Symbols.{Name, is_among}
use Rattle.statement_walk.specs.Head.{Head}
use Rattle.statement_walk.specs.Head as head
use Rattle.statement_walk.specs.Heads.{PlacedHead, all_heads}
use Rattle.name_table.specs.Entries.{entries}
use Rattle.name_table.specs.declared.names.Entry.{Entry}
use Rattle.name_table.specs.declared.names.What.{What}
use Rattle.name_table.specs.declared.names.What.TheVariants as what
use Rattle.array_maps.specs.Lines.{moves_at}
use Rattle.array_maps.specs.Maps.{IsMapOf, IsNewMap}
use Rattle.array_maps.specs.declared.maps.ArrayMap.{ArrayMap}
use Rattle.array_maps.specs.declared.maps.NewMap.{NewMap}
use Rattle.array_maps.specs.declared.maps.Redistribution.{Redistribution}
use Rattle.distribution_rules.specs.declared.objects.Object.{Object}
use Rattle.distribution_rules.specs.DistributionRules.{distribution_values}
use Rattle.distribution_rules.specs.Setting.{Setting, arrays, dims_of, setting}
use Rattle.directive_check.specs.Chains.{root_of}
use Rattle.directive_check.specs.MappedObjects.{MappedObject, mapped_objects}
use Rattle.directive_check.specs.ProgramMaps.{distributed_as, moves_of, new_map, new_maps_from, program_moves, redistribution, replicated, start_map, start_maps, start_maps_in, with_root}
use Rattle.machine_steps.specs.Agrees.{AreDealt}
use Rattle.machine_steps.specs.Instr.{Remapping}
use Rattle.machine_steps.specs.Layout.{IsDealt, Layout}
use Rattle.node_run.proofs.OwnedPieces.{elements-owned}
use Rattle.nodes_lowered.specs.NewMappings.{array_places, program_mappings, program_remaps, remapping, with_place}
use Rattle.nodes_lowered.specs.OnNodes.{MovesDealt}
use Rattle.nodes_lowered.specs.ProgramLayouts.{program_layouts}
use Rattle.nodes_lowered.proofs.NewMappings.{moves-numbered}
use Rattle.nodes_lowered.proofs.StartGrids.{distributed-grid, known-or, with-root-grid}

-- ---- the grids of new mappings

abbrev OnGrid : NewMap → Type 0
OnGrid new = IsGrid new.map.grid

abbrev AreOnGrid : Redistribution → Type 0
AreOnGrid r = All OnGrid r.maps

module _ (s : Setting) (ms : List MappedObject) (is : IsGrid s.grid) where
  one-on-grid : (d : directive.Distribution) (n : ℕ) (x : Name) → All OnGrid (new_map s ms d n x)
  one-on-grid d n x = by (is_among (root_of s ms x) d.names)
    where
      new : Option Mapping
      new = with_root s ms x (distributed_as s d (root_of s ms x))

      good : IsGrid (unwrap_or new (replicated s.grid)).grid
      good =
          known-or new (replicated s.grid)
          (with-root-grid s ms x (distributed_as s d (root_of s ms x)) (distributed-grid s (distribution_values s d) (dims_of s (root_of s ms x)) is)) is

      by : (b : Bool) → All OnGrid (if b then record { array = record { 0 = n }; map = unwrap_or new (replicated s.grid) } ∷ [] else [])
      by true = All-cons OnGrid _ [] good (All-nil OnGrid)
      by false = All-nil OnGrid

  maps-on-grid : (d : directive.Distribution) (n : ℕ) (os : List Object) → All OnGrid (new_maps_from s ms d n os)
  maps-on-grid d n [] = All-nil OnGrid
  maps-on-grid d n (o ∷ os) = All-append OnGrid (new_map s ms d n o.name) (new_maps_from s ms d (suc n) os) (one-on-grid d n o.name) (maps-on-grid d (suc n) os)

  head-on-grid : (os : List Object) (line : ℕ) (h : Head) → All AreOnGrid (moves_of s ms os line h)
  head-on-grid os line (head.Redistribute d) = All-cons AreOnGrid (redistribution s ms os line d) [] (maps-on-grid d 0 os) (All-nil AreOnGrid)
  head-on-grid os line h = All-nil AreOnGrid

  heads-on-grid : (os : List Object) (hs : List PlacedHead) → All AreOnGrid (flat_map (λ h. moves_of s ms os h.line h.what) hs)
  heads-on-grid os [] = All-nil AreOnGrid
  heads-on-grid os (h ∷ hs) =
      All-append AreOnGrid (moves_of s ms os h.line h.what) (flat_map (λ h. moves_of s ms os h.line h.what) hs) (head-on-grid os h.line h.what) (heads-on-grid os hs)

-- of the redistributions of a line
line-on-grid : (moves : List Redistribution) (line : ℕ) → All AreOnGrid moves → All OnGrid (moves_at moves line)
line-on-grid [] line all = All-nil OnGrid
line-on-grid (r ∷ rs) line all = by (nat_eq r.line line) (line-on-grid rs line (All-tail AreOnGrid r rs all))
  where
    by : (b : Bool) → All OnGrid (moves_at rs line) → All OnGrid ((if b then r.maps else []) ++ moves_at rs line)
    by true rest = All-append OnGrid r.maps (moves_at rs line) (All-head AreOnGrid r rs all) rest
    by false rest = rest

-- ---- the places of arrays

-- there are as many mappings at the start as arrays
starts-many : (s : Setting) (ms : List MappedObject) (at : ℕ) (es : List Entry) → length (start_maps_in s ms es) ≡ length (array_places at es)
starts-many s ms at [] = refl
starts-many s ms at (e ∷ es) = by e.what (starts-many s ms (suc at) es)
  where
    by : (w : What) → length (start_maps_in s ms es) ≡ length (array_places (suc at) es)
        → length (start_map s ms e.name w ++ start_maps_in s ms es) ≡ length (with_place at w (array_places (suc at) es))
    by (what.Array ds v) rest = ap suc rest
    by (what.Scalar v) rest = rest
    by (what.Constant v) rest = rest
    by what.Template rest = rest
    by what.Arrangement rest = rest

pub starts-count : (grid : List ℕ) (p : MainProgram) → length (start_maps grid p) ≡ length (array_places 0 (entries p))
starts-count grid p = starts-many (setting grid p) (mapped_objects p.declarations) 0 (entries p)

module _ (nodes room : ℕ) where
  -- the shapes of the names, by these mappings of the arrays among them
  abbrev shapes_by : List Entry → List ArrayMap → List Shape
  shapes_by es maps = map (λ (l : Layout). l.shape) (take (length es) (program_layouts nodes room es maps))

  -- the array with this number has its place among the names, the first of which has the place `at`, and its shape there
  abbrev HasPlace : ℕ → List Entry → List ArrayMap → ℕ → ArrayMap → Type 0
  HasPlace at es maps k a = (row : ℕ) × (get_or (array_places at es) k 0 ≡ at + row) × (slice_get (shapes_by es maps) row ≡ Some a.shape)

  by_what : (at : ℕ) (w : What) (name : Name) (es : List Entry) (maps : List ArrayMap) (k : ℕ) (a : ArrayMap) → slice_get maps k ≡ Some a
      → k < length (with_place at w (array_places (suc at) es))
      → ((maps : List ArrayMap) (k : ℕ) → slice_get maps k ≡ Some a → k < length (array_places (suc at) es) → HasPlace (suc at) es maps k a)
      → HasPlace at (record { name = name; what = w } ∷ es) maps k a
  by_what at (what.Array ds v) name es [] k a h lt rest = absurd (let g : None ≡ Some a = h in cc)
  by_what at (what.Array ds v) name es (m ∷ maps) zero a h lt rest = (0, omega arith, ap (λ (x : ArrayMap). Some x.shape) (same_Some m a h))
  by_what at (what.Array ds v) name es (m ∷ maps) (suc k) a h lt rest = let p = rest maps k h (omega (arith, lt)) in (suc p.0, p.1 ∙ omega arith, p.2)
  by_what at (what.Scalar v) name es maps k a h lt rest = let p = rest maps k h lt in (suc p.0, p.1 ∙ omega arith, p.2)
  by_what at (what.Constant v) name es maps k a h lt rest = let p = rest maps k h lt in (suc p.0, p.1 ∙ omega arith, p.2)
  by_what at what.Template name es maps k a h lt rest = let p = rest maps k h lt in (suc p.0, p.1 ∙ omega arith, p.2)
  by_what at what.Arrangement name es maps k a h lt rest = let p = rest maps k h lt in (suc p.0, p.1 ∙ omega arith, p.2)

  pub has-place : (at : ℕ) (es : List Entry) (maps : List ArrayMap) (k : ℕ) (a : ArrayMap) → slice_get maps k ≡ Some a → k < length (array_places at es)
      → HasPlace at es maps k a
  has-place at [] maps k a h lt = absurd (omega (arith, lt))
  has-place at (e ∷ es) maps k a h lt = by_what at e.what e.name es maps k a h lt (λ maps k h lt. has-place (suc at) es maps k a h lt)

  none-within : {A : Type 0} (xs : List A) (k : ℕ) → k < length xs → slice_get xs k ≡ None → ⊥
  none-within [] k lt e = omega (arith, lt)
  none-within (x ∷ xs) zero lt e = cc
  none-within (x ∷ xs) (suc k) lt e = none-within xs k (omega (arith, lt)) e

  -- ---- new mappings

  module _ (es : List Entry) (maps : List ArrayMap) (many : length maps ≡ length (array_places 0 es)) where
    abbrev places : List ℕ
    places = array_places 0 es

    abbrev OneDealt : Remapping → Type 0
    OneDealt new = (shape : Shape) × (slice_get (shapes_by es maps) new.row ≡ Some shape) × IsDealt nodes (record { shape = shape; mapping = new.mapping })

    one-dealt : (new : NewMap) → IsNewMap nodes maps new → OnGrid new → OneDealt (remapping places new)
    one-dealt new is grid = by (slice_get maps new.array.0) refl
      where
        by : (o : Option ArrayMap) → slice_get maps new.array.0 ≡ o → OneDealt (remapping places new)
        by None e = absurd (none-within maps new.array.0 is.array e)
        by (Some a) e =
            let p = has-place 0 es maps new.array.0 a e (omega (arith, is.array, many)) in
            let good : IsMapOf nodes a.shape new.map = is.map a e in
            let layout : Layout = record { shape = a.shape; mapping = new.map } in
            let at : (remapping places new).row ≡ p.0 = p.1 ∙ omega arith in (
              a.shape,
              ap (slice_get (shapes_by es maps)) at ∙ p.2,
              subst (λ n. IsDealt n layout) good.onto (elements-owned layout (length a.shape.lower) grid good.valid good.inside),
            )

    all-dealt : (news : List NewMap) → All (IsNewMap nodes maps) news → All OnGrid news → AreDealt nodes (shapes_by es maps) (map (remapping places) news)
    all-dealt [] all grids = tt
    all-dealt (new ∷ news) all grids = (
      one-dealt new (All-head (IsNewMap nodes maps) new news all) (All-head OnGrid new news grids),
      all-dealt news (All-tail (IsNewMap nodes maps) new news all) (All-tail OnGrid new news grids),
    )

pub moves-dealt : (grid : List ℕ) (room : ℕ) (p : MainProgram) → IsGrid grid
    → ((line : ℕ) → All (IsNewMap (product grid) (start_maps grid p)) (moves_at (program_moves grid p) line))
    → MovesDealt (product grid) p (program_mappings grid p) (program_remaps grid p) (program_layouts (product grid) room (entries p) (start_maps grid p))
moves-dealt grid room p is valid line =
    let s : Setting = setting grid p in
    let ms : List MappedObject = mapped_objects p.declarations in
    let es : List Entry = entries p in
    subst (AreDealt (product grid) (shapes_by (product grid) room es (start_maps grid p))) (sym (moves-numbered (array_places 0 es) (program_moves grid p) line))
    (all-dealt (product grid) room es (start_maps grid p) (starts-many s ms 0 es) (moves_at (program_moves grid p) line) (valid line)
    (line-on-grid (program_moves grid p) line (heads-on-grid s ms is (arrays es) (all_heads p.body))))
