-- The statements of a nest do what its texts do, under the same conditions.
use Rattle.std.proofs.Common.{◌≡◌, ℕ, zero, suc, ◌+◌, List, [], ◌∷◌, ◌++◌, length, drop, slice_index_or, ℤ, pos, negsuc, unsigned_abs, Bool, true, false, not, ◌&&◌, arith, Option, Some, Result, Ok, Err, refl, ap, ◌∙◌}
use Rattle.op_tables.specs.declared.reductions.Made.TheVariants.{Value, Truth}
use Rattle.std.proofs.lemmas.Bool.Decides.{Decides-int_eq}
use Rattle.op_tables.specs.Operators.{is_true, is_zero, truth}
use Rattle.expression_rules.specs.declared.dims.Dim.{Dim}
use Rattle.storage.specs.Storage.{Spot}
use Rattle.storage.specs.Truth.{is_set, number_for}
use Rattle.array_meaning.specs.Faults.{Cause, Fault, ◌>>=◌}
use Rattle.array_meaning.specs.State.{if_in_bounds}
use Rattle.machine_steps.specs.Instr as machine
use Rattle.machine_steps.specs.Instr.{Outcome, Instr, Tuples, Nothing, Breaks, Par}
use Rattle.node_code.specs.Forms.{Sub}
use Rattle.node_code.specs.Anchors.{FlatAnchor}
use Rattle.code_meaning.specs.Parallel.{as_asked, at_line, made_outcome, outcome_if, outcome_of}
use Rattle.node_code.specs.NestStatements.{NestStatement}
use Rattle.code_meaning.specs.NestStatements.{are_asked, when_spots, form_reads, form_value, iterations_at, nest_tuples, nest_spot, nest_place}
use Rattle.nest_machine.specs.Asked as nest
use Rattle.nest_syntax.specs.Asked.{Asked}
use Rattle.nest_machine.specs.Asked.{asked_spots, after_asked, outcome_where, tuples_where}
use Rattle.nest_machine.specs.BodyCode.{copy_spot}
use Rattle.nest_machine.specs.ItemsAt.{truth_outcome}
use Rattle.program_code.specs.NestTexts.{NestText, NestTest}
use Rattle.nest_texts.specs.NestTexts.{text_outcome, test_outcome, left_spot}
use Rattle.program_code.specs.NestInstructions.{whens_of, assigning, testing, setting_else, setting_mark}

-- ---- stored conditions

not-zero : (z : ℤ) (n : ℕ) → unsigned_abs z ≡ suc n → is_true z ≡ true
not-zero z n e = by_test (is_zero z) refl
  where
    by_test : (t : Bool) → is_zero z ≡ t → not t ≡ true
    by_test false is = refl
    by_test true is = let none : unsigned_abs z ≡ 0 = ap unsigned_abs ((Decides-int_eq z (pos 0)).0 is) in absurd (omega (arith, e, none))

is-set : (z : ℤ) → is_true z ≡ is_set z
is-set (pos zero) = refl
is-set (pos (suc n)) = not-zero (pos (suc n)) n refl
is-set (negsuc n) = not-zero (negsuc n) n refl

as-asked : (a b : Bool) → as_asked a b ≡ nest.as_asked a b
as-asked true b = refl
as-asked false b = refl

spots-same : (stored : ℕ) (ws : List Asked) (t : ℕ) → when_spots (whens_of stored ws) t ≡ asked_spots stored ws t
spots-same stored [] t = refl
spots-same stored (w ∷ ws) t = ap (λ ss. Some (record { row = stored + w.number; at = t }) ∷ ss) (spots-same stored ws t)

asked-same : (stored : ℕ) (ws : List Asked) (values : List ℤ) → are_asked (whens_of stored ws) values ≡ nest.are_asked ws values
asked-same stored [] values = refl
asked-same stored (w ∷ ws) values =
    let v : ℤ = slice_index_or values 0 (pos 0) in
    λ j. (as-asked w.value (is_true v) ∙ ap (nest.as_asked w.value) (is-set v)) j && asked-same stored ws (drop 1 values) j

after-same : (stored : ℕ) (ws : List Asked) (values : List ℤ) → drop (length (whens_of stored ws)) values ≡ after_asked ws values
after-same stored [] values = refl
after-same stored (w ∷ ws) [] = none ws
  where
    none : (ws : List Asked) → [] ≡ after_asked ws []
    none [] = refl
    none (w ∷ ws) = none ws
after-same stored (w ∷ ws) (v ∷ values) = after-same stored ws values

-- ---- outcomes

value-made : (o : Outcome Fault) → made_outcome Value o ≡ o
value-made Nothing = refl
value-made (machine.Value v) = refl
value-made (Breaks f) = refl

where-asked : (b : Bool) (r : Result ℤ Fault) → made_outcome Value (outcome_if b r) ≡ outcome_where b (outcome_of r)
where-asked true r = value-made (outcome_of r)
where-asked false r = refl

truth-number : (b : Bool) → truth b ≡ number_for b
truth-number true = refl
truth-number false = refl

truth-made : (line : ℕ) (r : Result ℤ Cause) → made_outcome Truth (outcome_of (at_line line r)) ≡ truth_outcome (at_line line (r >>= (λ v. Ok (is_true v))))
truth-made line (Ok v) = ap machine.Value (truth-number (is_true v))
truth-made line (Err c) = refl

truth-asked : (line : ℕ) (b : Bool) (r : Result ℤ Cause)
    → made_outcome Truth (outcome_if b (at_line line r)) ≡ outcome_where b (truth_outcome (at_line line (r >>= (λ v. Ok (is_true v)))))
truth-asked line true r = truth-made line r
truth-asked line false r = refl

module _ (shapes : List (List Dim)) (over : List Sub) (beside : Option FlatAnchor) (stored : ℕ) (ws : List Asked) where
  -- what a statement reads, and whether it is asked for
  abbrev Means : NestStatement → (reads : List ℤ → ℕ → List (Option Spot)) (outcome : List ℤ → ℕ → List ℤ → Outcome Fault) (left : List ℤ → ℕ → Option Spot) → Type 0
  Means p reads outcome left = machine.Par (nest_tuples shapes p) (nest_spot shapes p) ≡ machine.Par (tuples_where (iterations_at over) stored ws reads outcome) left

  pub assigning-means : (p : NestText) → Means (assigning over beside (whens_of stored ws) p) (form_reads shapes over p.copies p.right) (text_outcome shapes over p) (left_spot shapes over p.left)
  assigning-means p = λ j. machine.Par
      (record {
        count = iterations_at over;
        reads = λ slots t. spots-same stored ws t j ++ form_reads shapes over p.copies p.right slots t;
        outcome = λ slots t values. same slots t values j;
      })
      (left_spot shapes over p.left)
    where
      same : (slots : List ℤ) (t : ℕ) (values : List ℤ) → (nest_tuples shapes (assigning over beside (whens_of stored ws) p)).outcome slots t values
          ≡ outcome_where (nest.are_asked ws values) (text_outcome shapes over p slots t (after_asked ws values))
      same slots t values =
          where-asked (are_asked (whens_of stored ws) values) (at_line p.line (if_in_bounds (nest_place shapes over p.left slots t)
          >>= (λ k. form_value shapes over p.copies p.right slots t (drop (length (whens_of stored ws)) values))))
          ∙ (λ i. outcome_where (asked-same stored ws values i) (text_outcome shapes over p slots t (after-same stored ws values i)))

  pub testing-means : (p : NestTest) (copy : ℕ) → Means (testing over beside (whens_of stored ws) p copy) (form_reads shapes over p.copies p.form) (test_outcome shapes over p) (copy_spot copy)
  testing-means p copy = λ j. machine.Par
      (record {
        count = iterations_at over;
        reads = λ slots t. spots-same stored ws t j ++ form_reads shapes over p.copies p.form slots t;
        outcome = λ slots t values. same slots t values j;
      })
      (copy_spot copy)
    where
      same : (slots : List ℤ) (t : ℕ) (values : List ℤ) → (nest_tuples shapes (testing over beside (whens_of stored ws) p copy)).outcome slots t values
          ≡ outcome_where (nest.are_asked ws values) (test_outcome shapes over p slots t (after_asked ws values))
      same slots t values =
          truth-asked p.line (are_asked (whens_of stored ws) values) (form_value shapes over p.copies p.form slots t (drop (length (whens_of stored ws)) values))
          ∙ (λ i. outcome_where (asked-same stored ws values i) (test_outcome shapes over p slots t (after-same stored ws values i)))

  -- what sets a copy reads conditions alone
  setting : (p : NestStatement) (copy : ℕ)
      → ((slots : List ℤ) (t : ℕ) → (nest_tuples shapes p).reads slots t ≡ when_spots (whens_of stored ws) t ++ [])
      → ((slots : List ℤ) (t : ℕ) (values : List ℤ) → (nest_tuples shapes p).outcome slots t values ≡ made_outcome Value (outcome_if (are_asked (whens_of stored ws) values) (Ok (pos 1))))
      → (nest_tuples shapes p).count ≡ iterations_at over → nest_spot shapes p ≡ copy_spot copy
      → Means p (λ slots t. []) (λ slots t values. machine.Value (pos 1)) (copy_spot copy)
  setting p copy reads outcome count left = λ j. machine.Par
      (record {
        count = count j;
        reads = λ slots t. (reads slots t ∙ ap (λ ss. ss ++ []) (spots-same stored ws t)) j;
        outcome = λ slots t values.
            (outcome slots t values ∙ where-asked (are_asked (whens_of stored ws) values) (Ok (pos 1))
            ∙ ap (λ b. outcome_where b (machine.Value (pos 1))) (asked-same stored ws values)) j;
      })
      (left j)

  pub setting-else : (copy : ℕ) → Means (setting_else over beside (whens_of stored ws) copy) (λ slots t. []) (λ slots t values. machine.Value (pos 1)) (copy_spot copy)
  setting-else copy = setting (setting_else over beside (whens_of stored ws) copy) copy (λ slots t. refl) (λ slots t values. refl) refl refl

  pub setting-mark : (copy : ℕ) → Means (setting_mark over beside (whens_of stored ws) copy) (λ slots t. []) (λ slots t values. machine.Value (pos 1)) (copy_spot copy)
  setting-mark copy = setting (setting_mark over beside (whens_of stored ws) copy) copy (λ slots t. refl) (λ slots t values. refl) refl refl
