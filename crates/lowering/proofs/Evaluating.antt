-- Array expressions by themselves: what the machine comes to at a tuple, and reductions.
use Rattle.node_code.specs.Instructions.{NewMapping, Reduce, Instruction, OwnLimits}
use Rattle.code_meaning.specs.Instructions.{ArrayTable, meaning_of, go_on_if}
use Rattle.std.proofs.Common.{◌≡◌, ℕ, zero, suc, ◌+◌, ◌<◌, ◌≤◌, List, [], ◌∷◌, ◌++◌, length, ℤ, Option, Some, None, Result, Ok, Err, refl, sym, ap, ◌∙◌, subst, arith, append-nil, fold, slice_set}
use Rattle.std.specs.Bool.{⊤}
use Rattle.statement_trail.specs.Trail.{Trail, Reduced, after_value, over_own_space, reached}
use Rattle.lowered_expressions.specs.Passed.{Passed, note_at, passed, passed_now, IsTrail}
use Rattle.hpf_base.specs.ElementOrder.{product}
use Rattle.op_tables.specs.declared.op.Op.{Op}
use Rattle.op_tables.specs.declared.reductions.Made.{Made}
use Rattle.op_tables.specs.Joins.{unit}
use Rattle.op_tables.specs.Reductions.{reduction_of, reduced, combined}
use Rattle.expression_rules.specs.declared.dims.Dim.{Dim}
use Rattle.storage.specs.Storage.{Storage, read}
use Rattle.array_meaning.specs.Faults.{Cause, Fault, ◌>>=◌, at_tuple}
use Rattle.array_meaning.specs.State.{State}
use Rattle.array_meaning.specs.Sections.{positions, space_size}
use Rattle.array_meaning.specs.Elementals.{Elemental, sections, first_extents, value_at, each, values_over, ArrayValue, reduction}
use Rattle.machine_steps.specs.Instr.{Running, Faulted, Control, Outcome}
use Rattle.machine_steps.specs.Space.{space_count}
use Rattle.machine_steps.specs.Machine as machine
use Rattle.machine_steps.specs.Machine.{Machine, Kept, keep, folded, verdict_control, stay, step, step_by, steps, instr_of}
use Rattle.code_meaning.specs.Flat.{slot}
use Rattle.node_code.specs.Anchors.{FlatAnchor}
use Rattle.node_code.specs.Forms.{ArrayForm}
use Rattle.code_meaning.specs.Forms.{elemental_in}
use Rattle.code_meaning.specs.Parallel.{at_line, outcome_of, reads_at, value_by_reads, evaluation_extents, evaluation_size, evaluation_tuples, reduction_tuples, made_outcome, fold_of}
use Rattle.node_code.specs.Parallel.{Evaluation}
use Rattle.program_code.specs.ExpressionCode.{copied_evaluation, own_evaluation, reduce_code}
use Rattle.lowered_expressions.proofs.Reach.{still, entries-more, Idle, Place, HasAt, same-refl, same-set, slot-set, stands, one, Comes, comes-on}
use Rattle.lowered_expressions.proofs.Terms.{HoldsScalars, HoldsArrays}
use Rattle.lowered_expressions.proofs.Keeping.{IsOutcome, Keeps, keeps, kept-none, kept-some}
use Rattle.lowered_expressions.proofs.Scatter.{NamesBelow, values_of, value-of-reads, space-size, space-counted}
use Rattle.lowering.proofs.Masks.{shape-first}

pub result-outcome : (line : ℕ) (q : Result ℤ Cause) → IsOutcome line (outcome_of (at_line line q)) q
result-outcome line (Ok v) = λ t. refl
result-outcome line (Err c) = refl

module _ (n : ℕ) (shapes : List (List Dim)) (s : State) (rows : Storage) (arrays : HoldsArrays n shapes s rows) (line : ℕ) (form : ArrayForm) (beside : Option FlatAnchor)
    (slots : List ℤ) (x : Elemental) (right : elemental_in slots form ≡ x) (named : NamesBelow n x) where
  abbrev p : Evaluation
  p = copied_evaluation line form beside

  pub own-shape : evaluation_extents p slots ≡ first_extents (sections x)
  own-shape = sym (shape-first slots p.form) ∙ ap (λ y. first_extents (sections y)) right

  pub own-limits : evaluation_size p slots ≡ space_size (first_extents (sections x)) (sections x)
  own-limits = ap (λ ns. space_size ns (sections (elemental_in slots p.form))) own-shape ∙ ap (λ y. space_size (first_extents (sections x)) (sections y)) right

  pub own-outcome : (u : ℕ) → machine.outcome_of (evaluation_tuples shapes p) slots (read rows) u
      ≡ outcome_of (at_line p.line (at_tuple (positions (first_extents (sections x)) u) (value_at s (positions (first_extents (sections x)) u) x)))
  own-outcome u =
      let y = positions (first_extents (sections x)) u in
      let values : value_by_reads shapes y (values_of rows (reads_at shapes y x)) 0 x ≡ value_at s y x = ap (λ vs. value_by_reads shapes y vs 0 x)
      (sym (append-nil (values_of rows (reads_at shapes y x)))) ∙ value-of-reads n shapes s rows arrays y x [] [] named in
      let here : machine.outcome_of (evaluation_tuples shapes p) slots (read rows) u
      ≡ outcome_of (at_line p.line (at_tuple y (value_by_reads shapes y (values_of rows (reads_at shapes y x)) 0 x))) = rw (own-shape, right) refl in
      here ∙ ap (λ q. outcome_of (at_line p.line (at_tuple y q))) values

-- ---- the values of the first tuples, joined

fold-last : (join : ℤ → ℤ → ℤ) (unit : ℤ) (vs : List ℤ) (v : ℤ) → fold join unit (vs ++ v ∷ []) ≡ join (fold join unit vs) v
fold-last join unit [] v = refl
fold-last join unit (w ∷ vs) v = fold-last join (join unit w) vs v

made-outcome : (m : Made) (line : ℕ) (q : Result ℤ Cause) → IsOutcome line (made_outcome m (outcome_of (at_line line q))) q
made-outcome m line (Ok v) = λ t. refl
made-outcome m line (Err c) = refl

module _ (line : ℕ) (o : Op) (outcome : ℕ → Outcome Fault) where
  abbrev Folds : Result (List ℤ) Cause → ℕ → Type 0
  Folds (Ok vs) t = folded (fold_of (reduction_of o).join) outcome t ≡ reduced o vs
  Folds (Err c) t = ⊤

  fold-one : (t : ℕ) (r : Result (List ℤ) Cause) (q : Result ℤ Cause) → outcome t ≡ made_outcome (reduction_of o).made (outcome_of (at_line line q)) → Folds r t
      → Folds (r >>= (λ vs. q >>= (λ v. Ok (vs ++ v ∷ [])))) (suc t)
  fold-one t (Ok vs) (Ok v) e h = rw (e, h) (sym (fold-last (combined (reduction_of o)) (unit (reduction_of o).join) vs v))
  fold-one t (Ok vs) (Err c) e h = tt
  fold-one t (Err c) q e h = tt

  folds-all : (tuple : ℕ → List ℤ) (g : ℕ → Result ℤ Cause) (t : ℕ) → ((u : ℕ) → outcome u ≡ made_outcome (reduction_of o).made (outcome_of (at_line line (at_tuple (tuple u) (g u)))))
      → Folds (each tuple g t) t
  folds-all tuple g zero h = refl
  folds-all tuple g (suc t) h = fold-one t (each tuple g t) (at_tuple (tuple t) (g t)) (h t) (folds-all tuple g t h)

-- ---- a reduction of what is left of its operand

module _ (table : ArrayTable) (row_count : ℕ) (moves : ℕ → List NewMapping) (code : List Instruction) (line n : ℕ) (s : State) (rows : Storage) (out : List ℕ) (arrays : HoldsArrays n table.shapes s rows) where
  pub reduce-comes : (pc b x : ℕ) (o : Op) (form : ArrayForm) (slots : List ℤ) (r : Elemental) → HasAt code pc (reduce_code line o form x) → elemental_in slots form ≡ r
      → NamesBelow n r → b ≤ x → x < length slots → HoldsScalars n s slots
      → Comes table row_count moves code line rows out (over_own_space line s r (Reduced o)) pc (pc + 2) b slots (λ slots' v. slot slots' x ≡ v) (reduction s o r)
  reduce-comes pc b x o form slots r has right named le lt scalars = by_limits (space_size ns (sections r)) refl
    where
      p : Evaluation
      p = own_evaluation line form

      ns : List ℕ
      ns = first_extents (sections r)

      P : List ℤ → ℤ → Type 0
      P slots' v = slot slots' x ≡ v

      count : ℕ
      count = product ns

      pair : List ℤ → Result ArrayValue Cause
      pair vs = Ok record { extents = ns; elements = vs }

      second : ArrayValue → Result ℤ Cause
      second v = Ok (reduced o v.elements)

      outcome : ℕ → Outcome Fault
      outcome = machine.outcome_of (reduction_tuples table.shapes p (reduction_of o).made) slots (read rows)

      tuple-is : (u : ℕ) → outcome u ≡ made_outcome (reduction_of o).made (outcome_of (at_line line (at_tuple (positions ns u) (value_at s (positions ns u) r))))
      tuple-is u = ap (made_outcome (reduction_of o).made) (own-outcome n table.shapes s rows arrays line form None slots r right named u)

      kept-is : Keeps line outcome (values_over s ns r count) count
      kept-is = keeps line outcome (positions ns) (λ u. value_at s (positions ns u) r) count
          (λ u lt. subst (λ z. IsOutcome line z (at_tuple (positions ns u) (value_at s (positions ns u) r))) (sym (tuple-is u))
          (made-outcome (reduction_of o).made line (at_tuple (positions ns u) (value_at s (positions ns u) r))))

      control : Control Fault
      control = record { at = pc + 1; slots = slots; status = Running }

      joined : ℕ → ℤ
      joined = folded (fold_of (reduction_of o).join) outcome

      begun : Place row_count
      begun = stands table row_count moves code (pc + 1) slots rows out

      -- with the values of so many tuples, and after the verdict
      valued : ℕ → Place row_count
      valued k i = record (begun i) { substep = 1; kept = keep outcome i.parts k None; parts = i.parts + 1; joined = joined k }

      judged : Option (Kept Fault) → ℤ → Place row_count
      judged kept v i = record (begun i) { control = verdict_control kept stay control; substep = 2; parts = 0; joined = v }

      left : ℤ → Idle row_count → Idle row_count
      left v i = record { layouts = i.layouts; parts = 0; joined = v; laid = i.laid }

      entry : Trail
      entry = reached line s (Reduced o ns r)

      noted : Passed
      noted = record { instruction = Reduce p (reduction_of o) x; slots = slots }

      that : IsTrail moves (noted ∷ []) entry
      that = (
        record {
          scalars = λ k lk. scalars k (omega (arith, lk, arrays.places));
          event = (refl, (o, rw (own-shape n table.shapes s rows arrays line form None slots r right named, right) refl, refl));
        },
        tt,
      )

      first-step : space_count ns ≡ count → (i : Idle row_count) → step (meaning_of table) (begun i) ≡ valued count i
      first-step all i = ap (λ z. step_by (instr_of (meaning_of table) z) (begun i)) has.1.0
          ∙ ap (λ k. valued k i) (ap space_count (own-shape n table.shapes s rows arrays line form None slots r right named) ∙ all)

      two : space_count ns ≡ count → (kept : Option (Kept Fault)) (i : Idle row_count) → keep outcome i.parts count None ≡ kept
          → steps (meaning_of table) 2 (begun i) ≡ judged kept (joined count) i
      two all kept i e =
          ap (λ m. step (meaning_of table) m) (first-step all i) ∙ ap (λ z. step_by (instr_of (meaning_of table) z) (valued count i)) has.1.0
          ∙ ap (λ k. judged k (joined count) i) e

      two-noted : space_count ns ≡ count → (i : Idle row_count) → passed table 2 (begun i) ≡ noted ∷ []
      two-noted all i =
          ap (λ z. note_at 0 z slots ++ (passed_now (step (meaning_of table) (begun i)) ++ [])) has.1.0
          ∙ ap (λ m. noted ∷ (passed_now m ++ [])) (first-step all i)

      two-those : space_count ns ≡ count → (i : Idle row_count) → IsTrail moves (passed table 2 (begun i)) entry
      two-those all i = subst (λ l. IsTrail moves l entry) (sym (two-noted all i)) that

      three : (v : ℤ) (i : Idle row_count)
          → steps (meaning_of table) 1 (judged None v i) ≡ stands table row_count moves code (pc + 1 + 1) (slice_set slots x v) rows out (left v i)
      three v i = ap (λ z. step_by (instr_of (meaning_of table) z) (judged None v i)) has.1.0

      by_each : space_count ns ≡ count → (q : Result (List ℤ) Cause) → Keeps line outcome q count → Folds line o outcome q count → Comes table row_count moves code line rows out entry (pc + 1) (pc + 2) b slots P
          (q >>= pair >>= second)
      by_each all (Ok vs) kept joins =
          let v : ℤ = reduced o vs in
          let e : pc + 1 + 1 ≡ pc + 2 = omega arith in (
            slice_set slots x v,
            (λ i.
                let there : steps (meaning_of table) 2 (begun i) ≡ judged None v i = two all None i (kept-none outcome i.parts count kept)
                ∙ ap (λ z. judged None z i) joins in (
                  3,
                  left v i,
                  ap (step (meaning_of table)) there ∙ three v i ∙ ap (λ at. stands table row_count moves code at (slice_set slots x v) rows out (left v i)) e,
                  entries-more table row_count moves code 2 1 (begun i) (judged None v i) entry [] there (two-those all i) tt,
                )),
            same-set b x slots v le,
            slot-set x slots v lt,
          )
      by_each all (Err c) kept joins = λ i.
          let here = kept-some outcome i.parts count kept.0 kept.1 in
          (judged (Some here.0) (joined count) i, (2, two all (Some here.0) i here.1, two-those all i), ap Faulted (here.2 ∙ kept.2), refl, refl)

      limits : (q : Result ℕ Cause) → space_size ns (sections r) ≡ q → (i : Idle row_count)
          → steps (meaning_of table) 1 (stands table row_count moves code pc slots rows out i)
          ≡ record (stands table row_count moves code pc slots rows out i) { control = go_on_if {A = ℕ} (at_line line q) (record { at = pc; slots = slots; status = Running }) }
      limits q e i = one table row_count moves code pc slots rows out (OwnLimits p) has.0 i
          ∙ ap (λ q. record (stands table row_count moves code pc slots rows out i) { control = go_on_if {A = ℕ} (at_line line q) (record { at = pc; slots = slots; status = Running }) })
          (own-limits n table.shapes s rows arrays line form None slots r right named ∙ e)

      by_limits : (q : Result ℕ Cause) → space_size ns (sections r) ≡ q → Comes table row_count moves code line rows out (after_value q (λ k. entry)) pc (pc + 2) b slots P
          (q >>= (λ k. values_over s ns r k >>= pair) >>= second)
      by_limits (Ok k) e =
          let many : k ≡ count = space-size ns (sections r) k e in
          comes-on table row_count moves code line rows out [] entry pc (pc + 1) (pc + 2) b b slots slots P (values_over s ns r k >>= pair >>= second) (omega arith) (λ i. (1, i, limits (Ok k) e i, still table row_count moves code pc slots rows out (OwnLimits p) has.0 refl i))
          (same-refl b slots)
          (subst (λ k. Comes table row_count moves code line rows out entry (pc + 1) (pc + 2) b slots P (values_over s ns r k >>= pair >>= second)) (sym many)
          (by_each (space-counted ns (sections r) k e) (values_over s ns r count) kept-is (folds-all line o outcome (positions ns) (λ t. value_at s (positions ns t) r) count tuple-is)))
      by_limits (Err c) e = λ i. (_, (1, limits (Err c) e i, still table row_count moves code pc slots rows out (OwnLimits p) has.0 refl i), refl, refl, refl)
