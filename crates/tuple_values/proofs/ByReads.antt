-- Values by what is read are values by elements.
use Rattle.std.proofs.Common.{◌≡◌, ℕ, ◌+◌, List, [], ◌∷◌, ◌++◌, map, take, drop, length, ℤ, pos, Bool, true, false, ◌&&◌, Option, Some, None, Result, Ok, Err, refl, sym, ap, ◌∙◌, length-append, append_assoc, append-nil, slice_index_or, option_map}
use Rattle.std.proofs.lemmas.List.{length-map}
use Rattle.op_tables.specs.declared.reductions.Made.{Made}
use Rattle.expression_rules.specs.declared.dims.Dim.{Dim}
use Rattle.storage.specs.Storage.{Spot}
use Rattle.array_meaning.specs.Elementals.{Elemental, Same, Selected, Operation, Elementals, NoOperand, Operand, operated}
use Rattle.array_meaning.specs.Faults.{Cause, Fault, ◌>>=◌, with_more}
use Rattle.array_meaning.specs.State.{element_place, if_in_bounds}
use Rattle.array_meaning.specs.Sections.{subscripts_at}
use Rattle.machine_steps.specs.Instr.{Outcome, Nothing, Value, Breaks}
use Rattle.machine_steps.specs.Machine.{value_by}
use Rattle.node_code.specs.Forms.{ArrayForm}
use Rattle.code_meaning.specs.Forms.{elemental_at}
use Rattle.code_meaning.specs.NestStatements.{are_asked, nest_elemental, row_spots, when_spots}
use Rattle.node_code.specs.Parallel.{When}
use Rattle.code_meaning.specs.Parallel.{at_line, outcome_if, shape_of, reads_at, all_reads_at, value_by_reads, values_by_reads}
use Rattle.term_values.specs.declared.stops.Stop.{Stop}
use Rattle.term_values.specs.declared.stops.Stop.TheVariants as stop
use Rattle.term_values.specs.Stops.{IsStop, cause}
use Rattle.tuple_values.specs.declared.outcome.Outcome.{Outcome as HeldOutcome}
use Rattle.tuple_values.specs.ByElements.{value_by_elements, values_by_elements}
use Rattle.tuple_values.specs.Outcomes.{located_in, outcome_view, IsBroken}
use Rattle.courses.specs.Entries.{axes_in}
use Rattle.tuple_values.specs.Statements.{Statement, asked_by, asked_outcome, asks, bounded_value, copied_by, made_by, entries, located_at, outcome_made_by, read_form, spot_in_row, tuple_outcome, tuple_place, tuple_reads, tuple_value, value_at}
use Rattle.tuple_values.proofs.NestForms.{same_reads}

value-here : (pre : List ℤ) (v : ℤ) (post : List ℤ) → slice_index_or (pre ++ v ∷ post) (length pre) (pos 0) ≡ v
value-here [] v post = refl
value-here (w ∷ pre) v post = value-here pre v post

module _ (get : Spot → ℤ) where
  abbrev pub values_of : List (Option Spot) → List ℤ
  values_of reads = map (value_by get) reads

  values-append : (xs ys : List (Option Spot)) → values_of (xs ++ ys) ≡ values_of xs ++ values_of ys
  values-append [] ys = refl
  values-append (x ∷ xs) ys = ap (λ vs. value_by get x ∷ vs) (values-append xs ys)

  -- ---- what masks and copies read

  masks-asked : (whens : List When) (t : ℕ) (reads : List (Option Spot)) → are_asked whens (values_of (when_spots whens t ++ reads)) ≡ asked_by get whens t
  masks-asked [] t reads = refl
  masks-asked (w ∷ ws) t reads = ap (λ b. asks get t w && b) (masks-asked ws t reads)

  masks-dropped : (whens : List When) (t : ℕ) (reads : List (Option Spot)) → drop (length whens) (values_of (when_spots whens t ++ reads)) ≡ values_of reads
  masks-dropped [] t reads = refl
  masks-dropped (w ∷ ws) t reads = masks-dropped ws t reads

  copies-before : (copies : List ℕ) (t : ℕ) (reads : List (Option Spot)) → values_of (row_spots copies t ++ reads) ≡ copied_by get copies t ++ values_of reads
  copies-before [] t reads = refl
  copies-before (r ∷ rs) t reads = ap (λ vs. get (spot_in_row r t) ∷ vs) (copies-before rs t reads)

  copies-taken : (copies : List ℕ) (t : ℕ) (reads : List (Option Spot)) → take (length copies) (values_of (row_spots copies t ++ reads)) ≡ copied_by get copies t
  copies-taken [] t reads = refl
  copies-taken (r ∷ rs) t reads = ap (λ vs. get (spot_in_row r t) ∷ vs) (copies-taken rs t reads)

  copies-counted : (copies : List ℕ) (t : ℕ) → length copies ≡ length (copied_by get copies t)
  copies-counted copies t = sym (length-map copies (λ row. get (spot_in_row row t)))

module _ (shapes : List (List Dim)) (get : Spot → ℤ) (x : List ℤ) where
  element-here : (a : ℕ) (p : Option ℕ) (pre post : List ℤ)
      → (if_in_bounds p >>= (λ k. Ok (slice_index_or (pre ++ value_by get (option_map (λ k. record { row = a; at = k }) p) ∷ post) (length pre) (pos 0))))
      ≡ (if_in_bounds p >>= (λ k. Ok (get (record { row = a; at = k }))))
  element-here a None pre post = refl
  element-here a (Some k) pre post = ap Ok (value-here pre (get (record { row = a; at = k })) post)

  mutual
    -- whatever stands before and after what the expression reads
    by-reads : (e : Elemental) (pre post : List ℤ)
        → value_by_reads shapes x (pre ++ (values_of get (reads_at shapes x e) ++ post)) (length pre) e ≡ value_by_elements shapes get x e
    by-reads (Same v) pre post = refl
    by-reads (Selected a ds) pre post = element-here a (element_place (shape_of shapes a) (subscripts_at ds x)) pre post
    by-reads (Operation o es) pre post = ap (λ r. r >>= operated o) (all-by-reads es pre post)

    all-by-reads : (es : Elementals) (pre post : List ℤ)
        → values_by_reads shapes x (pre ++ (values_of get (all_reads_at shapes x es) ++ post)) (length pre) es ≡ values_by_elements shapes get x es
    all-by-reads NoOperand pre post = refl
    all-by-reads (Operand e es) pre post =
        let xs : List ℤ = values_of get (reads_at shapes x e) in
        let ys : List ℤ = values_of get (all_reads_at shapes x es) in
        let all : pre ++ (values_of get (reads_at shapes x e ++ all_reads_at shapes x es) ++ post) ≡ pre ++ (xs ++ (ys ++ post)) = ap (λ vs. pre ++ (vs ++ post))
        (values-append get (reads_at shapes x e) (all_reads_at shapes x es)) ∙ ap (λ vs. pre ++ vs) (append_assoc xs ys post) in
        let from : length pre + length (reads_at shapes x e) ≡ length (pre ++ xs) = ap (λ k. length pre + k) (sym (length-map (reads_at shapes x e) (value_by get)))
        ∙ sym (length-append pre xs) in
        ap (λ vs. with_more (value_by_reads shapes x vs (length pre) e) (values_by_reads shapes x vs (length pre + length (reads_at shapes x e)) es)) all
        ∙ ap (λ q. with_more q (values_by_reads shapes x (pre ++ (xs ++ (ys ++ post))) (length pre + length (reads_at shapes x e)) es)) (by-reads e pre (ys ++ post))
        ∙ ap (λ q. with_more (value_by_elements shapes get x e) q)
        (ap (λ vs. values_by_reads shapes x vs (length pre + length (reads_at shapes x e)) es) (sym (append_assoc pre xs (ys ++ post)))
        ∙ ap (λ k. values_by_reads shapes x ((pre ++ xs) ++ (ys ++ post)) k es) from ∙ all-by-reads es (pre ++ xs) post)

  -- the values of copies stand before
  after-copies : (slots axes : List ℤ) (copies : List ℕ) (t : ℕ) (f : ArrayForm)
      → (let values : List ℤ = values_of get (row_spots copies t ++ reads_at shapes x (elemental_at slots axes f)) in
      value_by_reads shapes x values (length copies) (nest_elemental slots axes (axes ++ take (length copies) values) f))
      ≡ value_by_elements shapes get x (nest_elemental slots axes (axes ++ copied_by get copies t) f)
  after-copies slots axes copies t f =
      let copied : List ℤ = copied_by get copies t in
      let reads : List (Option Spot) = reads_at shapes x (elemental_at slots axes f) in
      let e : Elemental = nest_elemental slots axes (axes ++ copied) f in
      let values : values_of get (row_spots copies t ++ reads) ≡ copied ++ (values_of get (reads_at shapes x e) ++ []) = copies-before get copies t reads
      ∙ ap (λ rs. copied ++ values_of get rs) (sym (same_reads shapes x slots axes (axes ++ copied) f)) ∙ ap (λ vs. copied ++ vs) (sym (append-nil (values_of get (reads_at shapes x e)))) in
      ap (λ vs. value_by_reads shapes x (values_of get (row_spots copies t ++ reads)) (length copies) (nest_elemental slots axes (axes ++ vs) f)) (copies-taken get copies t reads)
      ∙ (λ i. value_by_reads shapes x (values i) (copies-counted get copies t i) e) ∙ by-reads e copied []

made-nothing : (m : Option Made) → Nothing ≡ outcome_made_by m Nothing
made-nothing None = refl
made-nothing (Some m) = refl

made-value : (m : Option Made) (v : ℤ) → Value (made_by m v) ≡ outcome_made_by m (Value v)
made-value None v = refl
made-value (Some m) v = refl

made-breaks : (m : Option Made) (f : Fault) → Breaks f ≡ outcome_made_by m (Breaks f)
made-breaks None f = refl
made-breaks (Some m) f = refl

-- a value has no place, and a fault has the tuple or its own
value-located : (located : Bool) (x : List ℤ) (v : ℤ) → Ok v ≡ located_at located x (Ok v)
value-located true x v = refl
value-located false x v = refl

fault-located : (line : ℕ) (located : Bool) (x : List ℤ) (c : Cause)
    → Breaks (record { line = line; kind = c.kind; at = located_in located x c.at }) ≡ outcome_if true (at_line line (located_at located x (Err c)))
fault-located line true x c = refl
fault-located line false x c = refl

module _ (w : Statement) (get : Spot → ℤ) (t : ℕ) where
  abbrev outcome_by : Bool → Result ℤ Cause → Outcome Fault
  outcome_by asked r = outcome_made_by w.made (outcome_if asked (at_line w.line (located_at w.located (entries w t) r)))

  abbrev values : List ℤ
  values = values_of get (tuple_reads w t)

  -- what is read after the masks
  abbrev rest : List (Option Spot)
  rest = row_spots w.copies t ++ reads_at w.shapes (entries w t) (read_form w (entries w t))

  value-is : tuple_value w t (drop (length w.whens) values) ≡ value_at w get t (entries w t)
  value-is =
      ap (tuple_value w t) (masks-dropped get w.whens t rest)
      ∙ after-copies w.shapes get (entries w t) w.slots (axes_in w.indices (entries w t)) w.copies t w.form

  by-elements : outcome_by (asked_by get w.whens t) (bounded_value w get t) ≡ tuple_outcome w t values
  by-elements = λ i. outcome_by (sym (masks-asked get w.whens t rest) i) (if_in_bounds (tuple_place w t) >>= (λ k. sym value-is i))

  pub where_not_asked : asked_by get w.whens t ≡ false → Nothing ≡ tuple_outcome w t values
  where_not_asked h = made-nothing w.made ∙ ap (λ b. outcome_by b (bounded_value w get t)) (sym h) ∙ by-elements

  pub where_asked : asked_by get w.whens t ≡ true → asked_outcome w get t ≡ tuple_outcome w t values
  where_asked h = ap (λ b. outcome_by b (bounded_value w get t)) (sym h) ∙ by-elements

  -- the outcome that a value is
  pub value_asked : (v : ℤ) → bounded_value w get t ≡ Ok v → Value (made_by w.made v) ≡ asked_outcome w get t
  value_asked v is =
      made-value w.made v ∙ ap (λ r. outcome_made_by w.made (outcome_if true (at_line w.line r))) (value-located w.located (entries w t) v)
      ∙ ap (outcome_by true) (sym is)

  pub has_value : (v : ℤ) (o : HeldOutcome) → bounded_value w get t ≡ Ok v → outcome_view o ≡ Value (made_by w.made v) → outcome_view o ≡ asked_outcome w get t
  has_value v o is counts = counts ∙ value_asked v is

  pub is_broken : (x : List ℤ) (e : Stop) (o : HeldOutcome) → IsStop (bounded_value w get t) e → x ≡ entries w t → IsBroken w.line w.located x e o
      → outcome_view o ≡ asked_outcome w get t
  is_broken x stop.Memory o stops same h = absurd h
  is_broken x (stop.Fault c) o stops same h =
      h ∙ ap (λ y. Breaks (record { line = w.line; kind = (cause c).kind; at = located_in w.located y (cause c).at })) same ∙ made-breaks w.made _
      ∙ ap (outcome_made_by w.made) (fault-located w.line w.located (entries w t) (cause c)) ∙ ap (outcome_by true) (sym stops)
