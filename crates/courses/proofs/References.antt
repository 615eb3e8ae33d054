-- What is read at the tuples of a statement.
use Rattle.std.proofs.Common.{◌≡◌, ℕ, ◌<◌, ◌==◌, List, [], ◌∷◌, ◌++◌, append_assoc, length, map, ℤ, Option, Some, None, option_map, refl, sym, ◌∙◌, ap, subst}
use Rattle.std.proofs.lemmas.List.{map-append}
use Rattle.std.proofs.lemmas.Option.{none-some, cond_some}
use Rattle.hpf_base.specs.ElementOrder.{product}
use Rattle.expression_rules.specs.declared.dims.Dim.{Dim}
use Rattle.storage.specs.Storage.{Spot}
use Rattle.array_meaning.specs.declared.sections.Selection.{Selection}
use Rattle.array_meaning.specs.Sections.{subscripts_at, positions}
use Rattle.code_meaning.specs.Flat.{or_zero}
use Rattle.node_code.specs.Forms.{Sub, SubAt, SubAlong, ArrayForm, FlatForm, SectionForm, OperationForm, Forms, NoForm, AndForm}
use Rattle.code_meaning.specs.Forms.{selections_at, elemental_at, elementals_at}
use Rattle.code_meaning.specs.NestStatements.{row_spots, when_spots}
use Rattle.node_code.specs.Parallel.{When}
use Rattle.code_meaning.specs.Parallel.{shape_of, spot_of, reads_at, all_reads_at}
use Rattle.axis_products.specs.Products.{places_at}
use Rattle.courses.specs.Courses.{Course, course_at, courses_at, section_courses, is_section_small}
use Rattle.courses.specs.Entries.{axes_in, entries_in}
use Rattle.courses.specs.References.{Named, all_names, and_course, and_names, copy_names, form_names, forms_names, index_courses, indexed_courses, named_copy, named_element, named_spot, selected_courses, subs_courses, when_names}
use Rattle.courses.specs.StraightForms.{AllFit, flat_course}
use Rattle.courses.proofs.Copies.{copies}
use Rattle.courses.proofs.Sections.{sections, fitting}
use Rattle.courses.proofs.StraightForms.{same, flats}

pub and-course : (c : Option Course) (cs : Option (List Course)) (ds : List Course) → and_course c cs ≡ Some ds
    → (d : Course) × (es : List Course) × (c ≡ Some d) × (cs ≡ Some es) × (d ∷ es ≡ ds)
and-course (Some d) (Some es) ds e = (d, es, refl, refl, same e)
and-course (Some d) None ds e = absurd (none-some ds e)
and-course None cs ds e = absurd (none-some ds e)

indexed : (slots : List ℤ) (ns : List ℕ) (is : List Course) (subs : List Sub) (cs : List Course) (x : List ℤ) (t : ℕ) → t < product ns
    → AllFit (courses_at (places_at ns t) is) → indexed_courses slots ns is subs ≡ Some cs
    → subscripts_at (selections_at slots (courses_at (places_at ns t) is) subs) x ≡ courses_at (places_at ns t) cs
indexed slots ns is [] cs x t below fit e = ap (courses_at (places_at ns t)) (same e)
indexed slots ns is (SubAt f ∷ subs) cs x t below fit e =
    let h = and-course (flat_course slots ns is f) (indexed_courses slots ns is subs) cs e in
    ap (λ v. or_zero v ∷ subscripts_at (selections_at slots (courses_at (places_at ns t) is) subs) x) (flats slots ns is f h.0 t below fit h.2)
    ∙ ap (λ js. course_at (places_at ns t) h.0 ∷ js) (indexed slots ns is subs h.1 x t below fit h.3)
    ∙ ap (courses_at (places_at ns t)) h.4
indexed slots ns is (SubAlong v ∷ subs) cs x t below fit e = absurd (none-some cs e)

pub selected : (ns : List ℕ) (ds : List Selection) (cs : List Course) (t : ℕ) → t < product ns → selected_courses ns ds ≡ Some cs
    → (subscripts_at ds (positions ns t) ≡ courses_at (places_at ns t) cs) × AllFit (courses_at (places_at ns t) cs)
selected ns ds cs t below e =
    let h = cond_some (is_section_small ns ds) (section_courses 0 ns ds) cs e in
    let is = sections ns ds t below h.0 ∙ ap (courses_at (places_at ns t)) h.1 in
    (is, subst AllFit is (fitting ns ds t below h.0))

index-are : (ns : List ℕ) (ds : List Selection) (o : Option (List Course)) (is : List Course) (t : ℕ) → t < product ns → selected_courses ns ds ≡ o
    → option_map Some o ≡ Some (Some is)
    → (subscripts_at ds (positions ns t) ≡ courses_at (places_at ns t) is) × AllFit (courses_at (places_at ns t) is)
index-are ns ds None is t below e h = absurd (none-some (Some is) h)
index-are ns ds (Some js) is t below e h = selected ns ds is t below (e ∙ same h)

section-known : (ns : List ℕ) (ds : List Selection) (o : Option (List Course)) → option_map Some o ≡ Some None → ⊥
section-known ns ds None h = none-some None h
section-known ns ds (Some js) h = none-some js (sym (same h))

pub subs : (slots : List ℤ) (ns : List ℕ) (indices : Option (List Selection)) (is : Option (List Course)) (ss : List Sub) (cs : List Course) (t : ℕ) → t < product ns
    → index_courses ns indices ≡ Some is → subs_courses slots ns is ss ≡ Some cs
    → subscripts_at (selections_at slots (axes_in indices (entries_in indices ns t)) ss) (entries_in indices ns t) ≡ courses_at (places_at ns t) cs
subs slots ns None None ss cs t below known e = (selected ns (selections_at slots [] ss) cs t below e).0
subs slots ns None (Some is) ss cs t below known e = absurd (none-some is (same known))
subs slots ns (Some ds) None ss cs t below known e = absurd (section-known ns ds (selected_courses ns ds) known)
subs slots ns (Some ds) (Some is) ss cs t below known e =
    let h = index-are ns ds (selected_courses ns ds) is t below refl known in
    let x = subscripts_at ds (positions ns t) in
    ap (λ y. subscripts_at (selections_at slots y ss) x) h.0 ∙ indexed slots ns is ss cs x t below h.1 e

-- ---- copies

whens-are : (ns : List ℕ) (t : ℕ) → t < product ns → (whens : List When) → when_spots whens t ≡ map (named_spot ns t) (when_names ns whens)
whens-are ns t below [] = refl
whens-are ns t below (w ∷ whens) =
    ap (λ o. o ∷ when_spots whens t) (sym (copies w.copy ns t below)) ∙ ap (λ l. named_spot ns t (named_copy ns w.copy) ∷ l) (whens-are ns t below whens)

rows-are : (ns : List ℕ) (t : ℕ) → t < product ns → (rows : List ℕ) → row_spots rows t ≡ map (named_spot ns t) (copy_names ns rows)
rows-are ns t below [] = refl
rows-are ns t below (row ∷ rows) =
    ap (λ o. o ∷ row_spots rows t) (sym (copies row ns t below)) ∙ ap (λ l. named_spot ns t (named_copy ns row) ∷ l) (rows-are ns t below rows)

-- ---- array expressions

-- an element of an array, by subscripts that are its courses
pub element-named : (shapes : List (List Dim)) (ns : List ℕ) (t a : ℕ) (js : List ℤ) (o : Option (List Course)) (r : Named)
    → ((cs : List Course) → o ≡ Some cs → js ≡ courses_at (places_at ns t) cs) → named_element shapes a o ≡ Some r → spot_of shapes a js ≡ named_spot ns t r
element-named shapes ns t a js None r by e = absurd (none-some r e)
element-named shapes ns t a js (Some cs) r by e =
    let h = cond_some (length cs == length (shape_of shapes a)) (record { row = a; dims = shape_of shapes a; courses = cs }) r e in
    ap (spot_of shapes a) (by cs refl) ∙ ap (named_spot ns t) h.1

pub and-names : (r q : Option (List Named)) (rs : List Named) → and_names r q ≡ Some rs
    → (ms : List Named) × (ps : List Named) × (r ≡ Some ms) × (q ≡ Some ps) × (ms ++ ps ≡ rs)
and-names (Some ms) (Some ps) rs e = (ms, ps, refl, refl, same e)
and-names (Some ms) None rs e = absurd (none-some rs e)
and-names None q rs e = absurd (none-some rs e)

module _ (shapes : List (List Dim)) (slots : List ℤ) (ns : List ℕ) (indices : Option (List Selection)) (is : Option (List Course)) (t : ℕ) (below : t < product ns)
    (known : index_courses ns indices ≡ Some is) where
  abbrev x : List ℤ
  x = entries_in indices ns t

  abbrev axes : List ℤ
  axes = axes_in indices (entries_in indices ns t)

  abbrev spots : List Named → List (Option Spot)
  spots rs = map (named_spot ns t) rs

  section : (a : ℕ) (ss : List Sub) (o : Option Named) (rs : List Named) → named_element shapes a (subs_courses slots ns is ss) ≡ o → option_map (λ r. r ∷ []) o ≡ Some rs
      → spot_of shapes a (subscripts_at (selections_at slots axes ss) x) ∷ [] ≡ spots rs
  section a ss None rs by e = absurd (none-some rs e)
  section a ss (Some r) rs by e =
      let js = subscripts_at (selections_at slots axes ss) x in
      ap (λ o. o ∷ []) (element-named shapes ns t a js (subs_courses slots ns is ss) r (λ cs h. subs slots ns indices is ss cs t below known h) by) ∙ ap spots (same e)

  mutual
    form-is : (f : ArrayForm) (rs : List Named) → form_names shapes slots ns is f ≡ Some rs → reads_at shapes x (elemental_at slots axes f) ≡ spots rs
    form-is (FlatForm f) rs e = ap spots (same e)
    form-is (SectionForm a ss) rs e = section a ss (named_element shapes a (subs_courses slots ns is ss)) rs refl e
    form-is (OperationForm o fs) rs e = forms-are fs rs e

    forms-are : (fs : Forms) (rs : List Named) → forms_names shapes slots ns is fs ≡ Some rs → all_reads_at shapes x (elementals_at slots axes fs) ≡ spots rs
    forms-are NoForm rs e = ap spots (same e)
    forms-are (AndForm f fs) rs e =
        let h = and-names (form_names shapes slots ns is f) (forms_names shapes slots ns is fs) rs e in
        ap (λ l. l ++ all_reads_at shapes x (elementals_at slots axes fs)) (form-is f h.0 h.2) ∙ ap (λ l. spots h.0 ++ l) (forms-are fs h.1 h.3)
        ∙ sym (map-append (named_spot ns t) h.0 h.1) ∙ ap spots h.4

  pub all-are : (whens : List When) (rows : List ℕ) (o : Option (List Named)) (rs : List Named) (back : List (Option Spot)) → ((ms : List Named) → o ≡ Some ms → back ≡ spots ms)
      → option_map (λ ms. (when_names ns whens ++ copy_names ns rows) ++ ms) o ≡ Some rs → when_spots whens t ++ (row_spots rows t ++ back) ≡ spots rs
  all-are whens rows None rs back each e = absurd (none-some rs e)
  all-are whens rows (Some ms) rs back each e =
      let W = when_names ns whens in
      let C = copy_names ns rows in
      ap (λ l. l ++ (row_spots rows t ++ back)) (whens-are ns t below whens)
      ∙ ap (λ l. spots W ++ (l ++ back)) (rows-are ns t below rows)
      ∙ ap (λ l. spots W ++ (spots C ++ l)) (each ms refl)
      ∙ ap (λ l. spots W ++ l) (sym (map-append (named_spot ns t) C ms))
      ∙ sym (map-append (named_spot ns t) W (C ++ ms))
      ∙ ap spots (sym (append_assoc W C ms) ∙ same e)

pub reads : (shapes : List (List Dim)) (slots : List ℤ) (ns : List ℕ) (indices : Option (List Selection)) (is : Option (List Course)) (whens : List When) (rows : List ℕ)
    (form : ArrayForm) (rs : List Named) (t : ℕ) → t < product ns → index_courses ns indices ≡ Some is → all_names shapes slots ns is whens rows form ≡ Some rs
    → when_spots whens t ++ (row_spots rows t ++ reads_at shapes (entries_in indices ns t) (elemental_at slots (axes_in indices (entries_in indices ns t)) form))
    ≡ map (named_spot ns t) rs
reads shapes slots ns indices is whens rows form rs t below known e =
    all-are shapes slots ns indices is t below known whens rows (form_names shapes slots ns is form) rs
    (reads_at shapes (entries_in indices ns t) (elemental_at slots (axes_in indices (entries_in indices ns t)) form))
    (λ ms h. form-is shapes slots ns indices is t below known form ms h) e
