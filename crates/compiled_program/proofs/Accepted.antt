-- An accepted program on the nodes of its grid.
use Rattle.std.proofs.Common.{◌≡◌, ℕ, ◌≤◌, List, All, length, sym, ap, subst, ◌∙◌}
use Rattle.hpf_base.specs.ElementOrder.{product}
use Rattle.hpf_base.specs.Grid.{IsGrid}
use Rattle.hpf_base.proofs.ElementOrder.{product-some}
use Rattle.syntax_tree.specs.MainProgram.{MainProgram, main_program}
use Rattle.name_table.specs.Entries.{entries}
use Rattle.name_table.specs.declared.names.Entry.{Entry}
use Rattle.mappings.specs.declared.mapping.Mapping.{Mapping}
use Rattle.array_maps.specs.Maps.{AreMaps, AreNewMaps, IsArrayMap}
use Rattle.array_maps.specs.declared.maps.ArrayMap.{ArrayMap}
use Rattle.array_maps.specs.declared.maps.Redistribution.{Redistribution}
use Rattle.directive_check.specs.ProgramMaps.{program_moves, start_maps}
use Rattle.accepted_program.specs.declared.accepted.AcceptedProgram.{AcceptedProgram}
use Rattle.array_meaning.specs.Faults.{Fault}
use Rattle.machine_steps.specs.Layout.{Layout}
use Rattle.machine_steps.specs.Machine.{Machine}
use Rattle.node_code.specs.Instructions.{NewMapping}
use Rattle.code_meaning.specs.ProgramText.{Text}
use Rattle.nodes_lowered.specs.GridRuns.{grid_opening}
use Rattle.nodes_lowered.specs.NewMappings.{array_places, new_mappings, numbered_at, program_remaps}
use Rattle.nodes_lowered.specs.OnNodes.{LieAsDeclared, program_copies}
use Rattle.nodes_lowered.specs.ProgramLayouts.{program_layouts, start_layouts}
use Rattle.nodes_lowered.specs.ProgramRuns.{text_opening}
use Rattle.nodes_lowered.proofs.MovesDealt.{starts-count}
use Rattle.nodes_lowered.proofs.StartLaid.{program-laid}

-- there are as many mappings at the start as arrays
pub arrays-count : (a : AcceptedProgram) → length a.maps.arrays ≡ length (array_places 0 a.program.names)
arrays-count a = ap length a.starts ∙ starts-count a.grid.now (main_program a.program.tree) ∙ ap (λ es. length (array_places 0 es)) (sym a.names)

-- its mappings are valid on its grid
module _ (a : AcceptedProgram) where
  pub arrays-valid : All (IsArrayMap (product a.grid.now)) (start_maps a.grid.now (main_program a.program.tree))
  arrays-valid = subst (All (IsArrayMap (product a.grid.now))) a.starts a.valid.arrays

  pub moves-valid : All (λ (r : Redistribution). AreNewMaps (product a.grid.now) (start_maps a.grid.now (main_program a.program.tree)) r.maps)
      (program_moves a.grid.now (main_program a.program.tree))
  moves-valid =
      subst (All (λ (r : Redistribution). AreNewMaps (product a.grid.now) (start_maps a.grid.now (main_program a.program.tree)) r.maps)) a.moves
      (subst (λ (ms : List ArrayMap). All (λ (r : Redistribution). AreNewMaps (product a.grid.now) ms r.maps) a.maps.moves) a.starts a.valid.moves)

module _ (a : AcceptedProgram) (nodes : ℕ) (is : IsGrid a.grid.now) (count : nodes ≡ product a.grid.now) where
  abbrev grid : List ℕ
  grid = a.grid.now

  abbrev p : MainProgram
  p = main_program a.program.tree

  abbrev names : List Entry
  names = a.program.names

  abbrev layouts : List Layout
  layouts = program_layouts nodes (program_copies p) names a.maps.arrays

  abbrev mappings : List Mapping
  mappings = new_mappings a.maps.moves

  abbrev remaps : ℕ → List NewMapping
  remaps = numbered_at (array_places 0 names) 0 a.maps.moves

  pub laid : LieAsDeclared nodes (program_copies p) names layouts
  laid =
      subst (λ k. LieAsDeclared k (program_copies p) names (program_layouts k (program_copies p) names a.maps.arrays)) (sym count)
      (subst (λ es. LieAsDeclared (product grid) (program_copies p) es (program_layouts (product grid) (program_copies p) es a.maps.arrays)) (sym a.names)
      (subst (λ ms. LieAsDeclared (product grid) (program_copies p) (entries p) (program_layouts (product grid) (program_copies p) (entries p) ms)) (sym a.starts)
      (program-laid grid (program_copies p) p is (arrays-valid a))))

  pub mapped : AreMaps nodes a.maps
  mapped = subst (λ k. AreMaps k a.maps) (sym count) a.valid

  pub some-nodes : 1 ≤ nodes
  some-nodes = subst (λ (n : ℕ). 1 ≤ n) (sym count) (product-some grid is.extents)

  -- they lie as their mappings say
  starts : layouts ≡ start_layouts grid p
  starts =
      ap (λ k. program_layouts k (program_copies p) names a.maps.arrays) count ∙ ap (λ es. program_layouts (product grid) (program_copies p) es a.maps.arrays) a.names
      ∙ ap (program_layouts (product grid) (program_copies p) (entries p)) a.starts

  -- and move as its REDISTRIBUTEs say
  moving : remaps ≡ program_remaps grid p
  moving = λ i. numbered_at (array_places 0 (a.names i)) 0 (a.moves i)

  -- the machine at the start is the one on the grid
  pub opening-on-grid : (m : Machine Text Fault) → m ≡ text_opening nodes p mappings remaps layouts → m ≡ grid_opening grid p
  opening-on-grid m is =
      is ∙ ap (λ k. text_opening k p mappings remaps layouts) count
      ∙ (λ i. text_opening (product grid) p (new_mappings (a.moves i)) (moving i) (starts i))
