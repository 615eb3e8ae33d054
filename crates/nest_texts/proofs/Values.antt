-- The form of a nest's expression has the value of the expression at the state of its iteration.
use Rattle.std.proofs.Common.{◌≡◌, ℕ, zero, suc, ◌+◌, ◌<◌, List, [], ◌∷◌, ◌++◌, length, map, take, slice_index_or, ℤ, pos, Option, Result, Ok, refl, sym, ap, ◌∙◌, arith, append-nil}
use Rattle.std.proofs.lemmas.List.{map-append}
use Rattle.std.proofs.Math.Seq.{take-append_seam}
use Rattle.expression_rules.specs.declared.dims.Dim.{Dim}
use Rattle.storage.specs.Storage.{Storage, read}
use Rattle.array_meaning.specs.Terms.{Term, Number, Scalar, Index, Element, Section, Apply, Reduce, Terms, NoTerm, More}
use Rattle.array_meaning.specs.Faults.{Cause, ◌>>=◌, with_more}
use Rattle.array_meaning.specs.State.{State, Array, element_place, if_in_bounds}
use Rattle.array_meaning.specs.Sections.{subscripts_at}
use Rattle.array_meaning.specs.Elementals.{operated}
use Rattle.array_meaning.specs.Expressions.{value, values}
use Rattle.machine_steps.specs.Machine.{value_by}
use Rattle.code_meaning.specs.Flat.{flat_value, flat_values, or_zero}
use Rattle.node_code.specs.Forms.{Sub, ArrayForm}
use Rattle.code_meaning.specs.Forms.{selections_at, elemental_at, elementals_at}
use Rattle.code_meaning.specs.Parallel.{spot_of, shape_of, indices_in, reads_at, all_reads_at, value_by_reads, values_by_reads}
use Rattle.code_meaning.specs.NestStatements.{row_spots, nest_elemental, nest_elementals, form_reads, form_value}
use Rattle.program_code.specs.ExpressionCode.{index_flat, index_flats, index_subs, index_form, index_forms}
use Rattle.lowered_expressions.specs.WellFormed.{IsIndexed, AreSubscripts}
use Rattle.lowered_expressions.proofs.Terms.{HoldsScalars, HoldsArrays}
use Rattle.lowered_expressions.proofs.Scatter.{value-of-reads}
use Rattle.lowered_expressions.proofs.Indexed.{subs-are, indexed-value, indexed-names}
use Rattle.nest_syntax.specs.NestTerms.{indexed, all_indexed, NamesFirst, AllNameFirst, SubscriptsFirst, AllSubscriptsFirst}
use Rattle.nest_texts.specs.NestTerms.{IsAlike, AreAlike}

-- ---- the state of an iteration

abbrev element_of : Array → List ℤ → Result ℤ Cause
element_of a subscripts = if_in_bounds (element_place a.dims subscripts) >>= (λ k. Ok (slice_index_or a.elements k (pos 0)))

module _ (index_of : ℕ → Option ℕ) (axes : List ℤ) (entry s : State) where
  mutual
    pub value-alike : (t : Term) → IsAlike index_of axes entry s t → value axes entry (indexed index_of t) ≡ value [] s t
    value-alike (Number v) ok = refl
    value-alike (Scalar k) ok = ok
    value-alike (Index k) ok = absurd ok
    value-alike (Element a ts) ok = λ i. values-alike ts ok.1 i >>= element_of (ok.0 i)
    value-alike (Section a subs) ok = refl
    value-alike (Apply o ts) ok = ap (λ r. r >>= operated o) (values-alike ts ok)
    value-alike (Reduce o t) ok = absurd ok

    pub values-alike : (ts : Terms) → AreAlike index_of axes entry s ts → values axes entry (all_indexed index_of ts) ≡ values [] s ts
    values-alike NoTerm ok = refl
    values-alike (More t ts) ok = λ i. with_more (value-alike t ok.0 i) (values-alike ts ok.1 i)

-- ---- which elements are read doesn't depend on the indices after the first

front : (xs ys : List ℤ) (k : ℕ) → k < length xs → slice_index_or (xs ++ ys) k (pos 0) ≡ slice_index_or xs k (pos 0)
front [] ys k lt = absurd (omega (arith, lt))
front (x ∷ xs) ys zero lt = refl
front (x ∷ xs) ys (suc k) lt = front xs ys k (omega (arith, lt))

module _ (shapes : List (List Dim)) (slots xs ys : List ℤ) where
  mutual
    flat-front : (t : Term) → NamesFirst (length xs) t → flat_value slots (xs ++ ys) [] (index_flat t) ≡ flat_value slots xs [] (index_flat t)
    flat-front (Number v) ok = refl
    flat-front (Scalar k) ok = refl
    flat-front (Index k) ok = ap Ok (front xs ys k ok)
    flat-front (Element a ts) ok = refl
    flat-front (Section a subs) ok = refl
    flat-front (Apply o ts) ok = ap (λ r. r >>= operated o) (flats-front ts ok)
    flat-front (Reduce o t) ok = refl

    flats-front : (ts : Terms) → AllNameFirst (length xs) ts → flat_values slots (xs ++ ys) [] (index_flats ts) ≡ flat_values slots xs [] (index_flats ts)
    flats-front NoTerm ok = refl
    flats-front (More t ts) ok = λ i. with_more (flat-front t ok.0 i) (flats-front ts ok.1 i)

  subs-front : (ts : Terms) → AllNameFirst (length xs) ts
      → subscripts_at (selections_at slots (xs ++ ys) (index_subs ts)) (xs ++ ys) ≡ subscripts_at (selections_at slots xs (index_subs ts)) xs
  subs-front NoTerm ok = refl
  subs-front (More t ts) ok = λ i. or_zero (flat-front t ok.0 i) ∷ subs-front ts ok.1 i

  mutual
    reads-front : (t : Term) → SubscriptsFirst (length xs) t
        → reads_at shapes (xs ++ ys) (elemental_at slots (xs ++ ys) (index_form t)) ≡ reads_at shapes xs (elemental_at slots xs (index_form t))
    reads-front (Number v) ok = refl
    reads-front (Scalar k) ok = refl
    reads-front (Index k) ok = refl
    reads-front (Element a ts) ok = ap (λ is. spot_of shapes a is ∷ []) (subs-front ts ok)
    reads-front (Section a subs) ok = refl
    reads-front (Apply o ts) ok = all-reads-front ts ok
    reads-front (Reduce o t) ok = refl

    all-reads-front : (ts : Terms) → AllSubscriptsFirst (length xs) ts
        → all_reads_at shapes (xs ++ ys) (elementals_at slots (xs ++ ys) (index_forms ts)) ≡ all_reads_at shapes xs (elementals_at slots xs (index_forms ts))
    all-reads-front NoTerm ok = refl
    all-reads-front (More t ts) ok = λ i. reads-front t ok.0 i ++ all-reads-front ts ok.1 i

  -- so an expression has the value that it has where indices and copies are one list
  mutual
    nest-reads : (t : Term) → SubscriptsFirst (length xs) t
        → reads_at shapes xs (nest_elemental slots xs (xs ++ ys) (index_form t)) ≡ reads_at shapes (xs ++ ys) (elemental_at slots (xs ++ ys) (index_form t))
    nest-reads (Number v) ok = refl
    nest-reads (Scalar k) ok = refl
    nest-reads (Index k) ok = refl
    nest-reads (Element a ts) ok = ap (λ is. spot_of shapes a is ∷ []) (sym (subs-front ts ok))
    nest-reads (Section a subs) ok = refl
    nest-reads (Apply o ts) ok = all-nest-reads ts ok
    nest-reads (Reduce o t) ok = refl

    all-nest-reads : (ts : Terms) → AllSubscriptsFirst (length xs) ts
        → all_reads_at shapes xs (nest_elementals slots xs (xs ++ ys) (index_forms ts)) ≡ all_reads_at shapes (xs ++ ys) (elementals_at slots (xs ++ ys) (index_forms ts))
    all-nest-reads NoTerm ok = refl
    all-nest-reads (More t ts) ok = λ i. nest-reads t ok.0 i ++ all-nest-reads ts ok.1 i

  mutual
    value-front : (t : Term) (values : List ℤ) (from : ℕ) → SubscriptsFirst (length xs) t
        → value_by_reads shapes xs values from (nest_elemental slots xs (xs ++ ys) (index_form t))
        ≡ value_by_reads shapes (xs ++ ys) values from (elemental_at slots (xs ++ ys) (index_form t))
    value-front (Number v) values from ok = refl
    value-front (Scalar k) values from ok = refl
    value-front (Index k) values from ok = refl
    value-front (Element a ts) values from ok =
        ap (λ is. if_in_bounds (element_place (shape_of shapes a) is) >>= (λ k. Ok (slice_index_or values from (pos 0)))) (sym (subs-front ts ok))
    value-front (Section a subs) values from ok = refl
    value-front (Apply o ts) values from ok = ap (λ r. r >>= operated o) (values-front ts values from ok)
    value-front (Reduce o t) values from ok = refl

    values-front : (ts : Terms) (values : List ℤ) (from : ℕ) → AllSubscriptsFirst (length xs) ts
        → values_by_reads shapes xs values from (nest_elementals slots xs (xs ++ ys) (index_forms ts))
        ≡ values_by_reads shapes (xs ++ ys) values from (elementals_at slots (xs ++ ys) (index_forms ts))
    values-front NoTerm values from ok = refl
    values-front (More t ts) values from ok =
        (λ i. with_more (value-front t values from ok.0 i)
        (values_by_reads shapes xs values (from + length (nest-reads t ok.0 i)) (nest_elementals slots xs (xs ++ ys) (index_forms ts))))
        ∙ ap (λ r. with_more (value_by_reads shapes (xs ++ ys) values from (elemental_at slots (xs ++ ys) (index_form t))) r)
        (values-front ts values (from + length (reads_at shapes (xs ++ ys) (elemental_at slots (xs ++ ys) (index_form t)))) ok.1)

-- ---- the value of a text

copies-many : (rows : Storage) (copies : List ℕ) (i : ℕ) → length (map (value_by (read rows)) (row_spots copies i)) ≡ length copies
copies-many rows [] i = refl
copies-many rows (r ∷ rs) i = ap suc (copies-many rows rs i)

module _ (n : ℕ) (shapes : List (List Dim)) (over : List Sub) (copies : List ℕ) (entry : State) (slots : List ℤ) (rows : Storage) (i : ℕ)
    (scalars : HoldsScalars n entry slots) (elements : HoldsArrays n shapes entry rows) where
  abbrev own : List ℤ
  own = map (value_by (read rows)) (row_spots copies i)

  abbrev x : List ℤ
  x = indices_in over slots i

  abbrev axes : List ℤ
  axes = x ++ own

  -- as that of FORALL's expression at the values of the indices and of the copies
  form-valued : (t : Term) → IsIndexed n t → SubscriptsFirst (length x) t
      → form_value shapes over copies (index_form t) slots i (map (value_by (read rows)) (form_reads shapes over copies (index_form t) slots i)) ≡ value axes entry t
  form-valued t ok below =
      let f : ArrayForm = index_form t in
      let read_values : List ℤ = map (value_by (read rows)) (reads_at shapes x (elemental_at slots x f)) in
      let all : map (value_by (read rows)) (form_reads shapes over copies f slots i) ≡ own ++ read_values =
      map-append (value_by (read rows)) (row_spots copies i) (reads_at shapes x (elemental_at slots x f)) in
      let many : length own ≡ length copies = copies-many rows copies i in
      let front_is : take (length copies) (own ++ read_values) ≡ own = ap (λ k. take k (own ++ read_values)) (sym many) ∙ take-append_seam own read_values in
      let same_reads : read_values ≡ map (value_by (read rows)) (reads_at shapes axes (elemental_at slots axes f)) =
      ap (map (value_by (read rows))) (sym (reads-front shapes slots x own t below)) in
      ap (λ vs. form_value shapes over copies f slots i vs) all
      ∙ ap (λ ys. value_by_reads shapes x (own ++ read_values) (length copies) (nest_elemental slots x (x ++ ys) f)) front_is
      ∙ value-front shapes slots x own t (own ++ read_values) (length copies) below
      ∙ (λ k. value_by_reads shapes axes (own ++ same_reads k) (sym many k) (elemental_at slots axes f))
      ∙ ap (λ vs. value_by_reads shapes axes (own ++ vs) (length own) (elemental_at slots axes f)) (sym (append-nil (map (value_by (read rows)) (reads_at shapes axes (elemental_at slots axes f)))))
      ∙ value-of-reads n shapes entry rows elements axes (elemental_at slots axes f) own [] (indexed-names n entry slots scalars axes t ok)
      ∙ indexed-value n entry slots scalars axes t ok

  pub nest-value : (index_of : ℕ → Option ℕ) (s : State) (t : Term) → IsIndexed n (indexed index_of t) → SubscriptsFirst (length x) (indexed index_of t)
      → IsAlike index_of axes entry s t
      → form_value shapes over copies (index_form (indexed index_of t)) slots i (map (value_by (read rows)) (form_reads shapes over copies (index_form (indexed index_of t)) slots i))
      ≡ value [] s t
  nest-value index_of s t ok below alike = form-valued (indexed index_of t) ok below ∙ value-alike index_of axes entry s t alike

-- ---- left sides

pub nest-subs : (n : ℕ) (over : List Sub) (index_of : ℕ → Option ℕ) (entry s : State) (slots : List ℤ) (i : ℕ) → HoldsScalars n entry slots → (ts : Terms)
    → AreSubscripts n (all_indexed index_of ts) → AreAlike index_of (indices_in over slots i) entry s ts
    → values [] s ts ≡ Ok (subscripts_at (selections_at slots (indices_in over slots i) (index_subs (all_indexed index_of ts))) (indices_in over slots i))
nest-subs n over index_of entry s slots i scalars ts ok alike =
    let x : List ℤ = indices_in over slots i in
    sym (values-alike index_of x entry s ts alike) ∙ subs-are n entry slots scalars x x (all_indexed index_of ts) ok
