-- A text of a nest assigns the copies of a scalar and sets its marks, or does neither.
use Rattle.std.proofs.Common.{◌≡◌, ℕ, ◌+◌, ◌<◌, ◌⊎◌, inl, inr, ⊎_elim, List, length, slice_index_or, ℤ, true, Option, Some, None, option_map, Result, Ok, Err, sym, ap, ◌∙◌, subst, arith}
use Rattle.std.proofs.lemmas.Bool.{cases_eq}
use Rattle.nest_syntax.specs.NestKinds.{Kind, Shared, New, Assigned, Reduced, has_copies}
use Rattle.array_meaning.specs.Terms.{Term}
use Rattle.array_meaning.specs.Faults.{Fault, ◌>>=◌}
use Rattle.array_meaning.specs.State.{element_place, if_in_bounds}
use Rattle.array_meaning.specs.Sections.{subscripts_at}
use Rattle.machine_steps.specs.Instr.{Nothing}
use Rattle.code_meaning.specs.Forms.{selections_at}
use Rattle.code_meaning.specs.Parallel.{at_line, outcome_of, shape_of, indices_in}
use Rattle.program_code.specs.ExpressionCode.{index_subs}
use Rattle.code_meaning.specs.NestStatements.{form_value, nest_place}
use Rattle.nest_texts.specs.NestTexts.{left_spot, text_outcome}
use Rattle.nest_syntax.specs.NestTerms.{all_indexed}
use Rattle.nest_syntax.specs.Assigning.{Assigning, ToScalar, ToElement}
use Rattle.nest_machine.specs.BodyCode.{copy_spot}
use Rattle.nest_machine.specs.PlacedEnds.{OffRow, PairedTexts}
use Rattle.statement_trail.specs.NestParts.{index_in}
use Rattle.nest_join.specs.NestNames.{NestNames, index_of, IsText}
use Rattle.nest_join.specs.NestTexts.{assignment_text, texts_of}
use Rattle.program_code.specs.Places.{conditions_from, marks_from, place_by, place_of, marks_by, marks_of, AreScalars}
use Rattle.nest_join.proofs.Names.{in-from}

pub no-mark : (q : ℕ) → None ≡ Some q → ⊥
no-mark q e = cc

never-nothing : (r : Result ℤ Fault) → outcome_of r ≡ Nothing → ⊥
never-nothing (Ok v) e = cc
never-nothing (Err f) e = cc

pub off-element : (a r : ℕ) (o : Option ℕ) → (a ≡ r → ⊥) → OffRow r (option_map (λ k. record { row = a; at = k }) o)
off-element a r None ne = tt
off-element a r (Some k) ne = ne

module _ (w : NestNames) (scalars : List ℕ) (conditions : ℕ) (are : AreScalars w.count scalars)
    (places : (k : ℕ) → w.place k ≡ place_of w.count scalars conditions k) (marks : (k : ℕ) → w.marks k ≡ marks_of w.count scalars conditions w.kinds k)
    (listed : (k : ℕ) → has_copies (w.kinds k) ≡ true → (j : ℕ) × (index_in scalars 0 k ≡ Some j)) where
  abbrev n : ℕ
  n = w.count

  abbrev stored : ℕ
  stored = conditions_from n scalars conditions

  abbrev marks-row : ℕ → ℕ
  marks-row j = marks_from n scalars conditions + j

  -- the marks of a scalar, by its kind
  marks-here : (kind : Kind) (j q : ℕ) → marks_by n scalars conditions kind (Some j) ≡ Some q → q ≡ marks-row j
  marks-here Shared j q e = cc
  marks-here New j q e = let z : n + length scalars + conditions + j ≡ q = cc in sym z
  marks-here Assigned j q e = let z : n + length scalars + conditions + j ≡ q = cc in sym z
  marks-here (Reduced op) j q e = cc

  has-marks : (kind : Kind) (j : ℕ) → (kind ≡ New) ⊎ (kind ≡ Assigned) → marks_by n scalars conditions kind (Some j) ≡ Some (marks-row j)
  has-marks kind j (inl e) = ap (λ k. marks_by n scalars conditions k (Some j)) e
  has-marks kind j (inr e) = ap (λ k. marks_by n scalars conditions k (Some j)) e

  below-many : (k j : ℕ) → index_in scalars 0 k ≡ Some j → j < length scalars
  below-many k j e = let q = in-from scalars 0 k j e in let z = q.1 in let y = q.2 in omega (arith, z, y)

  one-name : (k i j : ℕ) → index_in scalars 0 k ≡ Some i → (k' : ℕ) → index_in scalars 0 k' ≡ Some j → i ≡ j → k ≡ k'
  one-name k i j e k' e' same =
      let q = in-from scalars 0 k i e in
      let q' = in-from scalars 0 k' j e' in
      let z = q.1 in let y = q'.1 in
      let at : q.0 ≡ q'.0 = omega (arith, z, y, same) in
      sym q.3 ∙ ap (λ x. slice_index_or scalars x 0) at ∙ q'.3

  pub place-here : (k j : ℕ) → index_in scalars 0 k ≡ Some j → w.place k ≡ n + j
  place-here k j e = places k ∙ ap (λ o. place_by n scalars conditions o k) e

  mark-here : (k j : ℕ) → index_in scalars 0 k ≡ Some j → w.marks k ≡ marks_by n scalars conditions (w.kinds k) (Some j)
  mark-here k j e = marks k ∙ ap (marks_by n scalars conditions (w.kinds k)) e

  module _ (k j : ℕ) (e : index_in scalars 0 k ≡ Some j) (kind : (w.kinds k ≡ New) ⊎ (w.kinds k ≡ Assigned)) (line : ℕ) (round copies : List ℕ) where
    abbrev IsPaired : Assigning → Type 0
    IsPaired t = (((s : List ℤ) (i : ℕ) → OffRow (n + j) (left_spot w.table.shapes w.over (assignment_text w line copies t).left s i))
        × ((assignment_text w line copies t).mark ≡ Some (marks-row j) → ⊥))
        ⊎ (((s : List ℤ) (i : ℕ) → left_spot w.table.shapes w.over (assignment_text w line copies t).left s i ≡ copy_spot (n + j) s i)
        × ((assignment_text w line copies t).mark ≡ Some (marks-row j))
        × ((s : List ℤ) (i : ℕ) (values : List ℤ) → text_outcome w.table.shapes w.over (assignment_text w line copies t) s i values ≡ Nothing → ⊥))

    of-scalar : (other i : ℕ) (t : Term) → index_in scalars 0 other ≡ Some i → IsPaired (ToScalar other t)
    of-scalar other i t o = ⊎_elim
        (λ (same : i ≡ j).
        let name : k ≡ other = one-name k j i e other o (sym same) in
        let p = assignment_text w line copies (ToScalar other t) in
        inr (
          (λ s at. let row : w.place other ≡ n + j = place-here other i o ∙ ap (λ x. n + x) same in λ x. Some (record { row = row x; at = at })),
          mark-here other i o ∙ ap (λ x. marks_by n scalars conditions (w.kinds other) (Some x)) same
              ∙ has-marks (w.kinds other) j (subst (λ x. (w.kinds x ≡ New) ⊎ (w.kinds x ≡ Assigned)) name kind),
          (λ s at values. never-nothing (at_line line (if_in_bounds (nest_place w.table.shapes w.over p.left s at) >>= (λ x. form_value w.table.shapes w.over p.copies p.right s at values)))),
        ))
        (λ (ne : i ≡ j → ⊥).
        inl (
          (λ s at row. let here = place-here other i o in let same : i ≡ j = omega (arith, here, row) in ne same),
          (λ mark. let here = marks-here (w.kinds other) i (marks-row j) (sym (mark-here other i o) ∙ mark) in let same : i ≡ j = omega (arith, here) in ne same),
        ))
        (cases_eq i j)

    is-paired : (t : Assigning) → IsText w round copies t → IsPaired t
    is-paired (ToScalar other t) ok = let l = listed other ok.0.0 in of-scalar other l.0 t l.1
    is-paired (ToElement a ts t) ok =
        let subs = index_subs (all_indexed (index_of w copies) ts) in
        inl (
          (λ s i. off-element a (n + j) (element_place (shape_of w.table.shapes a) (subscripts_at (selections_at s (indices_in w.over s i) subs) (indices_in w.over s i)))
              (λ z. let lt = ok.0.0.0 in omega (arith, z, lt))),
          no-mark (marks-row j),
        )

  pub are-paired : (k j : ℕ) → index_in scalars 0 k ≡ Some j → (w.kinds k ≡ New) ⊎ (w.kinds k ≡ Assigned) → PairedTexts (texts_of w) stored conditions (n + j) (marks-row j)
  are-paired k j e kind = record {
    text = λ x. is-paired k j e kind x.action.line x.action.round x.action.copies x.action.text x.named;
    apart = λ c lt. let below = below-many k j e in ((λ z. omega (arith, z, below)), (λ z. omega (arith, z, lt)));
  }
