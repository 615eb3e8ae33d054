-- The steps of instructions whose values go round a tree.
use Rattle.std.proofs.Common.{◌≡◌, ℕ, zero, suc, ◌≤◌, ◌+◌, List, ℤ, refl, sym, ◌∙◌, ap, arith}
use Rattle.array_meaning.specs.Faults.{Fault}
use Rattle.machine_steps.specs.Instr.{Instr, FoldCopy, LastCopy, Reduce, Tuples, Verdict}
use Rattle.machine_steps.specs.Machine.{on, stay}
use Rattle.machine_steps.specs.Node.{Node, begun_by, done_by, fold_ended, join_options, kept_values, last_ended, option_values, own_fold, own_last, positioned_values, reduce_begun, reduce_done, reduce_ended, tree_absorbed, tree_next, values_option, verdict_done}
use Rattle.machine_steps.specs.Tree.{levels_of}
use Rattle.code_meaning.specs.FaultValues.{fault_values}
use Rattle.code_meaning.specs.Parallel.{fold_of}
use Rattle.code_meaning.specs.ProgramText.{Text}
use Rattle.machine_steps.specs.SameLayouts.{is_same_layout}
use Rattle.tree_steps.specs.Absorbed.{absorbed_values, joined_values}
use Rattle.tree_steps.specs.declared.joining.Joining.TheVariants.{Kept, Later, Options}
use Rattle.op_tables.specs.declared.join.Join.{Join}

module _ (count : ℕ) (a : Node Text Fault) where
  -- the node with these numbers in a round
  abbrev pub with_round : ℕ → List ℤ → Node Text Fault
  with_round round folded = record a { round = round; folded = folded }

  -- ---- verdicts

  pub verdict-begun : (i : Instr Fault) (numbers : List ℤ) → i ≡ Verdict → numbers ≡ kept_values fault_values a.kept
      → tree_next count (verdict_done count fault_values on 0) (with_round 0 numbers) ≡ begun_by fault_values count i a
  verdict-begun i numbers is e =
      ap (λ v. tree_next count (verdict_done count fault_values on 0) (with_round 0 v)) e ∙ ap (λ x. begun_by fault_values count x a) (sym is)

  pub verdict-done : (i : Instr Fault) (round : ℕ) (numbers : List ℤ) → i ≡ Verdict → round ≡ a.round + 1
      → numbers ≡ absorbed_values (joined_values Kept) (levels_of count) a.round a.id a.folded a.received
      → tree_next count (verdict_done count fault_values on 0) (with_round round numbers) ≡ done_by fault_values count i a
  verdict-done i round numbers is er e =
      let r : round ≡ suc a.round = omega (arith, er) in
      (λ j. tree_next count (verdict_done count fault_values on 0) (with_round (r j) (e j))) ∙ ap (λ x. done_by fault_values count x a) (sym is)

  -- ---- the second and third step of reductions

  module _ (i : Instr Fault) (tuples : Tuples Fault) (o : Join) (slot : ℕ) (is : i ≡ Reduce tuples (fold_of o) slot) where
    pub second-begun : (numbers : List ℤ) → a.substep ≡ 1 → numbers ≡ kept_values fault_values a.kept
        → tree_next count (verdict_done count fault_values stay 2) (with_round 0 numbers) ≡ begun_by fault_values count i a
    second-begun numbers at e =
        ap (λ v. tree_next count (verdict_done count fault_values stay 2) (with_round 0 v)) e
        ∙ ap (λ k. reduce_begun fault_values count k tuples (fold_of o) slot a) (sym at) ∙ ap (λ x. begun_by fault_values count x a) (sym is)

    pub second-done : (round : ℕ) (numbers : List ℤ) → a.substep ≡ 1 → round ≡ a.round + 1
        → numbers ≡ absorbed_values (joined_values Kept) (levels_of count) a.round a.id a.folded a.received
        → tree_next count (verdict_done count fault_values stay 2) (with_round round numbers) ≡ done_by fault_values count i a
    second-done round numbers at er e =
        let r : round ≡ suc a.round = omega (arith, er) in
        (λ j. tree_next count (verdict_done count fault_values stay 2) (with_round (r j) (e j)))
        ∙ ap (λ k. reduce_done fault_values count k tuples (fold_of o) slot a) (sym at) ∙ ap (λ x. done_by fault_values count x a) (sym is)

    third-at : (k : ℕ) → 2 ≤ k → tree_next count (reduce_ended count (fold_of o) slot) (with_round 0 (option_values a.joined)) ≡ reduce_begun fault_values count k tuples (fold_of o) slot a
    third-at zero le = absurd (omega arith)
    third-at (suc zero) le = absurd (omega arith)
    third-at (suc (suc k)) le = refl

    pub third-begun : (numbers : List ℤ) → 2 ≤ a.substep → numbers ≡ option_values a.joined
        → tree_next count (reduce_ended count (fold_of o) slot) (with_round 0 numbers) ≡ begun_by fault_values count i a
    third-begun numbers at e =
        ap (λ v. tree_next count (reduce_ended count (fold_of o) slot) (with_round 0 v)) e ∙ third-at a.substep at ∙ ap (λ x. begun_by fault_values count x a) (sym is)

    third-over : (k : ℕ) → 2 ≤ k → tree_next count (reduce_ended count (fold_of o) slot) (tree_absorbed count (join_options (fold_of o).join) option_values values_option a)
        ≡ reduce_done fault_values count k tuples (fold_of o) slot a
    third-over zero le = absurd (omega arith)
    third-over (suc zero) le = absurd (omega arith)
    third-over (suc (suc k)) le = refl

    pub third-done : (round : ℕ) (numbers : List ℤ) → 2 ≤ a.substep → round ≡ a.round + 1
        → numbers ≡ absorbed_values (joined_values (Options o)) (levels_of count) a.round a.id a.folded a.received
        → tree_next count (reduce_ended count (fold_of o) slot) (with_round round numbers) ≡ done_by fault_values count i a
    third-done round numbers at er e =
        let r : round ≡ suc a.round = omega (arith, er) in
        (λ j. tree_next count (reduce_ended count (fold_of o) slot) (with_round (r j) (e j))) ∙ third-over a.substep at ∙ ap (λ x. done_by fault_values count x a) (sym is)

  -- ---- copies that are folded

  module _ (i : Instr Fault) (copy : ℕ) (o : Join) (slot : ℕ) (is : i ≡ FoldCopy copy (fold_of o) slot) where
    pub fold-begun : (numbers : List ℤ) → numbers ≡ option_values (own_fold count copy (fold_of o) a)
        → tree_next count (fold_ended count (fold_of o) slot) (with_round 0 numbers) ≡ begun_by fault_values count i a
    fold-begun numbers e = ap (λ v. tree_next count (fold_ended count (fold_of o) slot) (with_round 0 v)) e ∙ ap (λ x. begun_by fault_values count x a) (sym is)

    pub fold-done : (round : ℕ) (numbers : List ℤ) → round ≡ a.round + 1
        → numbers ≡ absorbed_values (joined_values (Options o)) (levels_of count) a.round a.id a.folded a.received
        → tree_next count (fold_ended count (fold_of o) slot) (with_round round numbers) ≡ done_by fault_values count i a
    fold-done round numbers er e =
        let r : round ≡ suc a.round = omega (arith, er) in
        (λ j. tree_next count (fold_ended count (fold_of o) slot) (with_round (r j) (e j))) ∙ ap (λ x. done_by fault_values count x a) (sym is)

  -- ---- last values

  module _ (i : Instr Fault) (copy set slot : ℕ) (is : i ≡ LastCopy copy set is_same_layout slot) where
    pub last-begun : (numbers : List ℤ) → numbers ≡ positioned_values (own_last count copy set is_same_layout a)
        → tree_next count (last_ended count slot) (with_round 0 numbers) ≡ begun_by fault_values count i a
    last-begun numbers e = ap (λ v. tree_next count (last_ended count slot) (with_round 0 v)) e ∙ ap (λ x. begun_by fault_values count x a) (sym is)

    pub last-done : (round : ℕ) (numbers : List ℤ) → round ≡ a.round + 1
        → numbers ≡ absorbed_values (joined_values Later) (levels_of count) a.round a.id a.folded a.received
        → tree_next count (last_ended count slot) (with_round round numbers) ≡ done_by fault_values count i a
    last-done round numbers er e =
        let r : round ≡ suc a.round = omega (arith, er) in
        (λ j. tree_next count (last_ended count slot) (with_round (r j) (e j))) ∙ ap (λ x. done_by fault_values count x a) (sym is)
