-- Values of array expressions at the tuples of a strip.
use Rattle.std.proofs.Common.{◌≡◌, ℕ, ◌+◌, ◌<◌, List, [], ◌∷◌, ◌++◌, length, map, take, drop, ℤ, pos, arith, Option, Some, None, Result, Ok, Err, IfOk, IfSome, refl, ap, sym, subst, ◌∙◌}
use Rattle.std.specs.List.{range_with_len}
use Rattle.std.specs.Prelude.{option_map, slice_index_or}
use Rattle.std.proofs.Math.Seq.{drop-append_seam, take-append_seam}
use Rattle.std.proofs.lemmas.List.{append-nil, drop-map, length-append, take-map}
use Rattle.std.proofs.lemmas.List.FromFn.{get_or-map-range_with_len, length-map-range_with_len}
use Rattle.std.proofs.lemmas.Option.{same_Some}
use Rattle.op_tables.specs.declared.op.Op.{Op}
use Rattle.expression_rules.specs.declared.dims.Dim.{Dim}
use Rattle.storage.specs.Storage.{Spot}
use Rattle.array_meaning.specs.Elementals.{operated}
use Rattle.array_meaning.specs.Faults.{◌>>=◌, with_more}
use Rattle.array_meaning.specs.Sections.{subscripts_at}
use Rattle.array_meaning.specs.State.{element_place, if_in_bounds}
use Rattle.node_code.specs.Flat.{Flat}
use Rattle.code_meaning.specs.Flat.{or_zero}
use Rattle.node_code.specs.Forms.{ArrayForm, FlatForm, SectionForm, OperationForm, Forms, NoForm, AndForm, Sub}
use Rattle.code_meaning.specs.Forms.{elemental_at, elementals_at, selections_at}
use Rattle.node_code.specs.declared.form.ArrayForm.{ArrayForm as HeldForm}
use Rattle.node_code.specs.Texts.{form, subs}
use Rattle.code_meaning.specs.Parallel.{reads_at, all_reads_at, shape_of}
use Rattle.courses.specs.Entries.{axes_in}
use Rattle.strip_operators.specs.Operated.{AreOfOne, AreOfTwo, AreWithNumber}
use Rattle.tuple_values.specs.declared.strips.ElementLine.{ElementLine}
use Rattle.tuple_values.specs.declared.strips.Strip.{Strip}
use Rattle.tuple_values.specs.Fixed.{IsFixed, IsFixedForm}
use Rattle.tuple_values.specs.FormStrips.{FormReads, FormValues, IsFormStrip, all_section_counts, entries_in_strip, form_in_strip, seen_in_strip, section_count, value_in_strip}
use Rattle.tuple_values.specs.declared.form_strips.SplitLines.{SplitLines}
use Rattle.tuple_values.specs.SplitLines.{AreSplit}
use Rattle.tuple_values.specs.Statements.{Statement}
use Rattle.tuple_values.specs.declared.right.Right.{Right}
use Rattle.tuple_values.specs.declared.right.Right.TheVariants as held_right
use Rattle.tuple_values.specs.Targets.{form_of}
use Rattle.tuple_values.specs.Strips.{line_spot, spots_at}
use Rattle.tuple_values.proofs.FlatStrips.{same-value}

-- ---- what is read, and in which order

module _ (shapes : List (List Dim)) (x slots axes : List ℤ) where
  mutual
    reads-counted : (f : ArrayForm) → length (reads_at shapes x (elemental_at slots axes f)) ≡ section_count f
    reads-counted (FlatForm f) = refl
    reads-counted (SectionForm a subs) = refl
    reads-counted (OperationForm o fs) = all-reads-counted fs

    all-reads-counted : (fs : Forms) → length (all_reads_at shapes x (elementals_at slots axes fs)) ≡ all_section_counts fs
    all-reads-counted NoForm = refl
    all-reads-counted (AndForm f fs) =
        length-append (reads_at shapes x (elemental_at slots axes f)) (all_reads_at shapes x (elementals_at slots axes fs))
        ∙ (λ i. reads-counted f i + all-reads-counted fs i)

pub front-spots : (xs ys : List (Option Spot)) (n : ℕ) (ls : List ElementLine) (k : ℕ) → length xs ≡ n → xs ++ ys ≡ spots_at ls k → xs ≡ spots_at (take n ls) k
front-spots xs ys n ls k long is = sym (take-append_seam xs ys) ∙ ap (take (length xs)) is ∙ ap (λ m. take m (spots_at ls k)) long ∙ take-map (λ l. Some (line_spot l k)) n ls

pub rest-spots : (xs ys : List (Option Spot)) (n : ℕ) (ls : List ElementLine) (k : ℕ) → length xs ≡ n → xs ++ ys ≡ spots_at ls k → ys ≡ spots_at (drop n ls) k
rest-spots xs ys n ls k long is = sym (drop-append_seam xs ys) ∙ ap (drop (length xs)) is ∙ ap (λ m. drop m (spots_at ls k)) long ∙ drop-map (λ l. Some (line_spot l k)) n ls

module _ (w : Statement) (s : Strip) (o : Op) where
  pub one-reads : (f : ArrayForm) (ls : List ElementLine) → FormReads w s (OperationForm o (AndForm f NoForm)) ls → FormReads w s f ls
  one-reads f ls reads k lt = sym (append-nil (reads_at w.shapes (entries_in_strip w s k) (elemental_at w.slots (axes_in w.indices (entries_in_strip w s k)) f))) ∙ reads k lt

  pub first-reads : (f : ArrayForm) (fs : Forms) (ls : List ElementLine) → FormReads w s (OperationForm o (AndForm f fs)) ls → FormReads w s f (take (section_count f) ls)
  first-reads f fs ls reads k lt =
      front-spots _ _ (section_count f) ls k (reads-counted w.shapes (entries_in_strip w s k) w.slots (axes_in w.indices (entries_in_strip w s k)) f) (reads k lt)

  pub second-reads : (f g : ArrayForm) (ls : List ElementLine) → FormReads w s (OperationForm o (AndForm f (AndForm g NoForm))) ls → FormReads w s g (drop (section_count f) ls)
  second-reads f g ls reads = one-reads g (drop (section_count f) ls) (λ k lt.
      rest-spots _ _ (section_count f) ls k (reads-counted w.shapes (entries_in_strip w s k) w.slots (axes_in w.indices (entries_in_strip w s k)) f) (reads k lt))

same-first : {A : Type 0} (x y : A) → (let l : List A = x ∷ [] in l) ≡ y ∷ [] → x ≡ y
same-first x y e = cc

-- ---- values

-- numbers that were written in the place of all
pub written-back : (vs us : List ℤ) (n : ℕ) → length vs ≡ n → length us ≡ length vs → take n (us ++ drop (length us) vs) ≡ us
written-back vs us n all long =
    ap (λ m. take m (us ++ drop (length us) vs)) (sym (long ∙ all)) ∙ take-append_seam us (drop (length us) vs)

pub fixed_form : (slots : List ℤ) (f : Flat) (v : ℤ) → IsFixed slots f v → IsFixedForm slots (FlatForm f) v
fixed_form slots f v is = record { at = λ shapes get x axes seen. ap (λ r. Ok (or_zero r)) (same-value slots seen [] f is.fixed ∙ is.value) }

module _ (get : Spot → ℤ) where
  section-value : (p : Option ℕ) (a : ℕ) (spot : Spot) → option_map (λ k. record { row = a; at = k }) p ≡ Some spot
      → (if_in_bounds p >>= (λ k. Ok (get (record { row = a; at = k })))) ≡ Ok (get spot)
  section-value None a spot is = absurd cc
  section-value (Some q) a spot is = ap (λ s. Ok (get s)) (same_Some _ spot is)

module _ (w : Statement) (s : Strip) (get : Spot → ℤ) where
  pub line_values : (l : ElementLine) (vs : List ℤ) → vs ≡ map (λ k. get (line_spot l k)) (range_with_len 0 s.count) → (a : ℕ) (ds : List Sub)
      → IsFormStrip w s get (SectionForm a ds) (l ∷ []) vs
  line_values l vs is a ds = record { count = count; values = λ reads. (count, at reads) } where
    count : length vs ≡ s.count
    count = ap length is ∙ length-map-range_with_len (λ k. get (line_spot l k)) 0 s.count

    at : FormReads w s (SectionForm a ds) (l ∷ []) → (k : ℕ) → k < s.count → value_in_strip w s get (form_in_strip w s get (SectionForm a ds) k) k ≡ Ok (slice_index_or vs k (pos 0))
    at reads k lt =
        let here : 0 + k ≡ k = omega arith in
        section-value get (element_place (shape_of w.shapes a) (subscripts_at (selections_at w.slots (axes_in w.indices (entries_in_strip w s k)) ds) (entries_in_strip w s k))) a (line_spot l k)
        (same-first _ _ (reads k lt))
        ∙ ap Ok (sym (ap (λ l. slice_index_or l k (pos 0)) is ∙ get_or-map-range_with_len (λ k. get (line_spot l k)) 0 s.count k k (pos 0) lt here))

  -- of operators
  module _ (o : Op) (vs us : List ℤ) (count : length vs ≡ s.count) (long : length us ≡ length vs) where
    pub of_one : (f : ArrayForm) (ls : List ElementLine) → (FormReads w s f ls → FormValues w s get f vs) → AreOfOne o vs us → IsFormStrip w s get (OperationForm o (AndForm f NoForm)) ls us
    of_one f ls values made = record { count = long ∙ count; values = λ reads. (long ∙ count, at (values (one-reads w s o f ls reads))) } where
      at : FormValues w s get f vs → (k : ℕ) → k < s.count → value_in_strip w s get (form_in_strip w s get (OperationForm o (AndForm f NoForm)) k) k ≡ Ok (slice_index_or us k (pos 0))
      at xs k lt = ap (λ r. with_more r (Ok []) >>= operated o) (xs.1 k lt) ∙ made k (subst (λ m. k < m) (sym count) lt)

    module _ (f g : HeldForm) (split : SplitLines) (first : FormReads w s (form f) split.first.now → FormValues w s get (form f) vs) (ls : List ElementLine) (are : AreSplit f split ls) where
      abbrev both : ArrayForm
      both = OperationForm o (AndForm (form f) (AndForm (form g) NoForm))

      first-values : FormReads w s both ls → FormValues w s get (form f) vs
      first-values reads = first (subst (FormReads w s (form f)) (sym are.first) (first-reads w s o (form f) (AndForm (form g) NoForm) ls reads))

      of-two : (ws : List ℤ) → (FormReads w s (form g) split.rest.now → FormValues w s get (form g) ws) → AreOfTwo o vs ws us → IsFormStrip w s get both ls us
      of-two ws second made = record {
        count = long ∙ count;
        values = λ reads. (
          long ∙ count,
          at (first-values reads)
              (second (subst (FormReads w s (form g)) (sym are.rest) (second-reads w s o (form f) (form g) ls reads))),
        );
      } where
        at : FormValues w s get (form f) vs → FormValues w s get (form g) ws → (k : ℕ) → k < s.count
            → value_in_strip w s get (form_in_strip w s get both k) k ≡ Ok (slice_index_or us k (pos 0))
        at xs ys k lt =
            ap (λ r. with_more r (with_more (value_in_strip w s get (form_in_strip w s get (form g) k) k) (Ok [])) >>= operated o) (xs.1 k lt)
            ∙ ap (λ r. with_more (Ok (slice_index_or vs k (pos 0))) (with_more r (Ok [])) >>= operated o) (ys.1 k lt)
            ∙ made k (subst (λ m. k < m) (sym count) lt)

      with-number : (v : ℤ) → IsFixedForm w.slots (form g) v → AreWithNumber o vs v us → IsFormStrip w s get both ls us
      with-number v second made = record { count = long ∙ count; values = λ reads. (long ∙ count, at (first-values reads)) } where
        at : FormValues w s get (form f) vs → (k : ℕ) → k < s.count → value_in_strip w s get (form_in_strip w s get both k) k ≡ Ok (slice_index_or us k (pos 0))
        at xs k lt =
            ap (λ r. with_more r (with_more (value_in_strip w s get (form_in_strip w s get (form g) k) k) (Ok [])) >>= operated o) (xs.1 k lt)
            ∙ ap (λ r. with_more (Ok (slice_index_or vs k (pos 0))) (with_more r (Ok [])) >>= operated o)
            (second.at w.shapes get (entries_in_strip w s k) (axes_in w.indices (entries_in_strip w s k)) (seen_in_strip w s get k))
            ∙ made k (subst (λ m. k < m) (sym count) lt)

    pub of_two : (f g : HeldForm) (split : SplitLines) (ws : List ℤ) → (FormReads w s (form f) split.first.now → FormValues w s get (form f) vs)
        → (FormReads w s (form g) split.rest.now → FormValues w s get (form g) ws) → AreOfTwo o vs ws us → (ls : List ElementLine) → AreSplit f split ls
        → IsFormStrip w s get (OperationForm o (AndForm (form f) (AndForm (form g) NoForm))) ls us
    of_two f g split ws first second made ls are = of-two f g split first ls are ws second made

    pub with_number : (f g : HeldForm) (split : SplitLines) (v : ℤ) → (FormReads w s (form f) split.first.now → FormValues w s get (form f) vs) → IsFixedForm w.slots (form g) v
        → AreWithNumber o vs v us → (ls : List ElementLine) → AreSplit f split ls → IsFormStrip w s get (OperationForm o (AndForm (form f) (AndForm (form g) NoForm))) ls us
    with_number f g split v first second made ls are = with-number f g split first ls are v second made

  -- of a section, whatever its subscripts
  pub line_strips : {V E : Type 0} (items : V → List ℤ) (r : Result (Option V) E) (l : ElementLine) (ls : List ElementLine) → ls ≡ l ∷ []
      → IfOk r (λ p. IfSome p (λ v. items v ≡ map (λ k. get (line_spot l k)) (range_with_len 0 s.count)))
      → IfOk r (λ p. IfSome p (λ v. (a : ℕ) (ds : List Sub) → IsFormStrip w s get (SectionForm a ds) ls (items v)))
  line_strips items (Err e) l ls only h = h
  line_strips items (Ok None) l ls only h = h
  line_strips items (Ok (Some v)) l ls only h = λ a ds. subst (λ ls. IsFormStrip w s get (SectionForm a ds) ls (items v)) (sym only) (line_values l (items v) h a ds)

  pub for_section : {V E : Type 0} (items : V → List ℤ) (r : Result (Option V) E) (ls : List ElementLine) → IfOk r (λ p. IfSome p (λ v. (a : ℕ) (ds : List Sub) → IsFormStrip w s get (SectionForm a ds) ls (items v)))
      → (a : ℕ) (ds : List Sub) → IfOk r (λ p. IfSome p (λ v. IsFormStrip w s get (SectionForm a ds) ls (items v)))
  for_section items (Err e) ls h a ds = h
  for_section items (Ok None) ls h a ds = h
  for_section items (Ok (Some v)) ls h a ds = h a ds

  pub right_section : {V E : Type 0} (items : V → List ℤ) (r : Result (Option V) E) (ls : List ElementLine) → IfOk r (λ p. IfSome p (λ v. (a : ℕ) (ds : List Sub) → IsFormStrip w s get (SectionForm a ds) ls (items v)))
      → (right : Right) (a : ℕ) (ds : _) → right ≡ held_right.Section a ds → IfOk r (λ p. IfSome p (λ v. IsFormStrip w s get (form_of right) ls (items v)))
  right_section items r ls h right a ds is = subst (λ right. IfOk r (λ p. IfSome p (λ v. IsFormStrip w s get (form_of right) ls (items v)))) (sym is) (for_section items r ls h a (subs ds.now))
