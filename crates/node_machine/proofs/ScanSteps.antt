-- The steps of instructions that scan a copy.
use Rattle.std.proofs.Common.{◌≡◌, ℕ, suc, ◌+◌, Bool, true, false, List, ℤ, Option, None, slice_get, sym, ◌∙◌, ap, arith}
use Rattle.array_meaning.specs.Faults.{Fault}
use Rattle.storage.specs.Storage.{row_of}
use Rattle.machine_steps.specs.Instr.{Instr, Scan}
use Rattle.machine_steps.specs.Layout.{Layout}
use Rattle.machine_steps.specs.Machine.{lies_so, on}
use Rattle.machine_steps.specs.Node.{Node, begun_by, done_by, join_all, join_options, option_values, scan_begun, scan_next, values_option}
use Rattle.code_meaning.specs.FaultValues.{fault_values}
use Rattle.code_meaning.specs.Parallel.{fold_of}
use Rattle.code_meaning.specs.ProgramText.{Text}
use Rattle.op_tables.specs.Joins.{join}
use Rattle.op_tables.specs.declared.join.Join.{Join}
use Rattle.scan_steps.specs.Rounds.{came_in}

module _ (count : ℕ) (a : Node Text Fault) (i : Instr Fault) (copy : ℕ) (in_blocks : Layout → Bool) (o : Join) (is : i ≡ Scan copy in_blocks (fold_of o)) where
  -- the node with these numbers in a round, where it took this alone
  abbrev pub with_scan : ℕ → List ℤ → Option ℤ → Node Text Fault
  with_scan round folded taken = record a { round = round; folded = folded; joined = taken }

  pub scan-begun : (alone : Bool) (numbers : List ℤ) → alone ≡ lies_so in_blocks (slice_get a.layouts copy) → alone ≡ true
      → numbers ≡ option_values (join_all (join o) (row_of a.pieces copy))
      → scan_next count copy (fold_of o) (with_scan 0 numbers None) ≡ begun_by fault_values count i a
  scan-begun alone numbers lies so e =
      ap (λ v. scan_next count copy (fold_of o) (with_scan 0 v None)) e ∙ ap (λ b. scan_begun count b copy (fold_of o) a) (sym so ∙ lies)
      ∙ ap (λ x. begun_by fault_values count x a) (sym is)

  pub scan-passed : (alone : Bool) → alone ≡ lies_so in_blocks (slice_get a.layouts copy) → alone ≡ false
      → record a { control = on a.control; substep = 0; joined = None } ≡ begun_by fault_values count i a
  scan-passed alone lies so = ap (λ b. scan_begun count b copy (fold_of o) a) (sym so ∙ lies) ∙ ap (λ x. begun_by fault_values count x a) (sym is)

  pub scan-done : (round : ℕ) (numbers : List ℤ) (taken came : Option ℤ) → round ≡ a.round + 1 → came ≡ came_in a.round a.id a.received
      → numbers ≡ option_values (join_options (join o) came (values_option a.folded)) → taken ≡ join_options (join o) came a.joined
      → scan_next count copy (fold_of o) (with_scan round numbers taken) ≡ done_by fault_values count i a
  scan-done round numbers taken came er ec en et =
      let r : round ≡ suc a.round = omega (arith, er) in
      (λ j. scan_next count copy (fold_of o) (with_scan (r j) (en j) (et j)))
      ∙ ap (λ c. scan_next count copy (fold_of o) (with_scan (suc a.round) (option_values (join_options (join o) c (values_option a.folded))) (join_options (join o) c a.joined))) ec
      ∙ ap (λ x. done_by fault_values count x a) (sym is)
