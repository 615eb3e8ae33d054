-- New mappings by their numbers, one after another.
use Rattle.std.proofs.Common.{◌≡◌, ℕ, ◌+◌, ◌<◌, Option, Some, None, List, [], ◌∷◌, length, map, drop, get_or, refl, sym, ◌∙◌, ap}
use Rattle.std.proofs.lemmas.List.{drop_more}
use Rattle.std.specs.List.{slice_get}
use Rattle.mappings.specs.declared.mapping.Mapping.{Mapping}
use Rattle.machine_steps.specs.Instr.{Remapping}
use Rattle.machine_steps.specs.Layout.{Layout}
use Rattle.machine_steps.specs.Machine.{remapped}
use Rattle.owner_tables.specs.Views.{TableView}
use Rattle.code_meaning.specs.Instructions.{remapping_by, remappings}
use Rattle.node_code.specs.Texts.{new_mapping}
use Rattle.node_code.specs.declared.instruction.NewMapping.{NewMapping as HeldMapping}
use Rattle.node_program.specs.Programs.{mappings_of}

-- the first of them, and then the others
pub remapped-first : (row : ℕ) (mapping : Option Mapping) (rest : List Remapping) (layouts : List Layout)
    → remapped rest (remapped (remapping_by row mapping []) layouts) ≡ remapped (remapping_by row mapping rest) layouts
remapped-first row None rest layouts = refl
remapped-first row (Some mapping) rest layouts = refl

-- those that are left, without the first of them
pub remapped-next : (tables : List TableView) (new : List HeldMapping) (k : ℕ) (z : HeldMapping) (before after : List Layout) → k < length new
    → after ≡ remapped (remappings (mappings_of tables) (new_mapping (get_or new k z) ∷ [])) before
    → remapped (remappings (mappings_of tables) (map new_mapping (drop (k + 1) new))) after ≡ remapped (remappings (mappings_of tables) (map new_mapping (drop k new))) before
remapped-next tables new k z before after lt set =
    let maps = mappings_of tables in
    let m = get_or new k z in
    let rest = remappings maps (map new_mapping (drop (k + 1) new)) in
    ap (remapped rest) set
    ∙ remapped-first m.array (slice_get maps m.map) rest before
    ∙ ap (λ xs. remapped (remappings maps (map new_mapping xs)) before) (sym (drop_more new k z lt))
