-- The steps of a redistribution.
use Rattle.std.proofs.Common.{◌≡◌, ℕ, ℤ, zero, suc, ◌+◌, true, false, List, [], ◌∷◌, length, nat_lt, refl, sym, ◌∙◌, ap}
use Rattle.std.proofs.lemmas.List.{length-map}
use Rattle.mappings.specs.declared.mapping.Mapping.{Mapping}
use Rattle.array_meaning.specs.Faults.{Fault}
use Rattle.storage.specs.Storage.{Spot}
use Rattle.machine_steps.specs.Instr.{Instr, Remapping}
use Rattle.machine_steps.specs.Layout.{Layout, size_of, sizes}
use Rattle.machine_steps.specs.Machine.{remapped, with_mapping}
use Rattle.machine_steps.specs.Node.{Node, begun_by, done_by, no_values, pieces_by}
use Rattle.code_meaning.specs.FaultValues.{fault_values}
use Rattle.code_meaning.specs.ProgramText.{Text}
use Rattle.remap_steps.specs.Redistributions.{Redistribution, all_rounds, moved_pieces, value_after}
use Rattle.node_machine.specs.Remaps.{IsRemap, remap_ended, round_next, round_opened}

module _ (r : Redistribution) (a : Node Text Fault) where
  pub round-open : nat_lt a.round (length (all_rounds r)) ≡ true → round_opened r a ≡ round_next r a
  round-open e = rw e refl

  pub round-over : nat_lt a.round (length (all_rounds r)) ≡ false → remap_ended r a ≡ round_next r a
  round-over e = rw e refl

module _ (i : Instr Fault) (a : Node Text Fault) (r : Redistribution) (m : IsRemap i a r) where
  pub remap-begun : round_next r (record a { received = no_values a.nodes; round = 0 }) ≡ begun_by fault_values a.nodes i a
  remap-begun = ap (λ x. round_next x (record a { received = no_values a.nodes; round = 0 })) m.moving ∙ ap (λ x. begun_by fault_values a.nodes x a) (sym m.is)

  pub remap-done : round_next r (record a { round = suc a.round }) ≡ done_by fault_values a.nodes i a
  remap-done = ap (λ x. round_next x (record a { round = suc a.round })) m.moving ∙ ap (λ x. done_by fault_values a.nodes x a) (sym m.is)

-- ---- how many rows there are

mapped-many : (layouts : List Layout) (row : ℕ) (mapping : Mapping) → length (with_mapping layouts row mapping) ≡ length layouts
mapped-many [] row mapping = refl
mapped-many (layout ∷ layouts) zero mapping = refl
mapped-many (layout ∷ layouts) (suc row) mapping = ap suc (mapped-many layouts row mapping)

remapped-many : (new : List Remapping) (layouts : List Layout) → length (remapped new layouts) ≡ length layouts
remapped-many [] layouts = refl
remapped-many (first ∷ new) layouts = remapped-many new (with_mapping layouts first.row first.mapping) ∙ mapped-many layouts first.row first.mapping

pieces-many : (layouts : List Layout) (node : ℕ) (value : Spot → ℤ) (row : ℕ) (sizes : List ℕ) → length (pieces_by layouts node value row sizes) ≡ length sizes
pieces-many layouts node value row [] = refl
pieces-many layouts node value row (size ∷ sizes) = ap suc (pieces-many layouts node value (row + 1) sizes)

-- as many after it as before
pub moved-many : (i : Instr Fault) (a : Node Text Fault) (r : Redistribution) (pieces : List (List ℤ)) (received : List (List ℤ)) → IsRemap i a r
    → length (moved_pieces r pieces received) ≡ length r.new
moved-many i a r pieces received m =
    pieces-many r.new r.id (value_after r pieces received) 0 (sizes r.old) ∙ length-map r.old size_of ∙ ap (λ x. length x.old) m.moving
    ∙ sym (remapped-many m.new a.layouts) ∙ ap (λ x. length x.new) (sym m.moving)
