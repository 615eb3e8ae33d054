-- The axes of courses are axes of the space.
use Rattle.std.proofs.Common.{◌≡◌, ℕ, zero, suc, ◌+◌, ◌<◌, ◌==◌, ◌||◌, Bool, true, false, if◌then◌else◌, List, [], ◌∷◌, ◌++◌, length, ℤ, pos, ◌+ℤ◌, ◌*ℤ◌, nat_le, slice_index_or, Option, Some, None, option_map, All, refl, sym, ◌∙◌, ap, subst, arith}
use Rattle.std.proofs.lemmas.Bool.{eqb-true}
use Rattle.std.proofs.lemmas.List.{length-map}
use Rattle.std.proofs.lemmas.List.Elements.{All-append, All-cons, All-nil}
use Rattle.std.proofs.lemmas.Option.{none-some, cond_some}
use Rattle.op_tables.specs.Operators.{is_zero}
use Rattle.expression_rules.specs.declared.dims.Dim.{Dim}
use Rattle.array_meaning.specs.declared.sections.Selection.{Selection}
use Rattle.array_meaning.specs.declared.sections.Selection.TheVariants.{At, Along}
use Rattle.node_code.specs.Forms.{Sub, SubAt, SubAlong, ArrayForm, FlatForm, SectionForm, OperationForm, Forms, NoForm, AndForm}
use Rattle.code_meaning.specs.Forms.{selections_at}
use Rattle.node_code.specs.Parallel.{When}
use Rattle.code_meaning.specs.Parallel.{shape_of}
use Rattle.courses.specs.Courses.{Course, Fixed, Moving, are_small, along, section_courses, is_section_small}
use Rattle.courses.specs.References.{IsAlongAxes, Named, all_names, copy_names, form_names, forms_names, index_courses, indexed_courses, named_copy, named_element, own_courses, selected_courses, subs_courses, when_names}
use Rattle.courses.specs.StraightForms.{Straight, Constant, Sloped, straight, sloped_course, course_if, flat_course}
use Rattle.courses.specs.Subscripts.{AxisBelow, AxesBelow}
use Rattle.courses.proofs.References.{and-course, and-names}
use Rattle.courses.proofs.StraightForms.{same}

pub along-below : (n axis m : ℕ) (first step : ℤ) → axis < n → AxisBelow n (along axis m first step)
along-below n axis m first step below = by_test (nat_le m 1 || is_zero step)
  where
    by_test : (b : Bool) → AxisBelow n (if b then Fixed first else Moving axis first step)
    by_test true = tt
    by_test false = below

section-below : (n axis : ℕ) (ns : List ℕ) (ds : List Selection) → axis + length ns ≡ n → AxesBelow n (section_courses axis ns ds)
section-below n axis ns [] is = tt
section-below n axis ns (At i ∷ ds) is = (tt, section-below n axis ns ds is)
section-below n axis [] (Along p ∷ ds) is = (tt, section-below n axis [] ds is)
section-below n axis (m ∷ ns) (Along p ∷ ds) is =
    (along-below n axis m p.first p.step (omega (arith, is)), section-below n (axis + 1) ns ds (omega (arith, is)))

one-below : (n : ℕ) (cs : List Course) (k : ℕ) → AxesBelow n cs → AxisBelow n (slice_index_or cs k (Fixed (pos 0)))
one-below n [] k ok = tt
one-below n (c ∷ cs) zero ok = ok.0
one-below n (c ∷ cs) (suc k) ok = one-below n cs k ok.1

sloped-below : (n : ℕ) (ns : List ℕ) (f o : ℤ) (d c : Course) → AxisBelow n d → sloped_course ns f o d ≡ Some c → AxisBelow n c
sloped-below n ns f o (Fixed i) c ok e = subst (AxisBelow n) (same e) tt
sloped-below n ns f o (Moving axis first step) c ok e =
    let m = slice_index_or ns axis 0 in
    let h = cond_some (are_small m ((f *ℤ first) +ℤ o) (f *ℤ step)) (along axis m ((f *ℤ first) +ℤ o) (f *ℤ step)) c e in
    subst (AxisBelow n) h.1 (along-below n axis m ((f *ℤ first) +ℤ o) (f *ℤ step) ok)

flat-below : (n : ℕ) (ns : List ℕ) (is : List Course) (r : Option Straight) (c : Course) → AxesBelow n is → course_if ns is r ≡ Some c → AxisBelow n c
flat-below n ns is None c ok e = absurd (none-some c e)
flat-below n ns is (Some (Constant v)) c ok e = subst (AxisBelow n) (same e) tt
flat-below n ns is (Some (Sloped k f o)) c ok e = sloped-below n ns f o (slice_index_or is k (Fixed (pos 0))) c (one-below n is k ok) e

indexed-below : (n : ℕ) (slots : List ℤ) (ns : List ℕ) (is : List Course) (subs : List Sub) (cs : List Course) → AxesBelow n is
    → indexed_courses slots ns is subs ≡ Some cs → AxesBelow n cs
indexed-below n slots ns is [] cs ok e = subst (AxesBelow n) (same e) tt
indexed-below n slots ns is (SubAt f ∷ subs) cs ok e =
    let h = and-course (flat_course slots ns is f) (indexed_courses slots ns is subs) cs e in
    subst (AxesBelow n) h.4 (flat-below n ns is (straight slots f) h.0 ok h.2, indexed-below n slots ns is subs h.1 ok h.3)
indexed-below n slots ns is (SubAlong v ∷ subs) cs ok e = absurd (none-some cs e)

pub selected-below : (ns : List ℕ) (ds : List Selection) (cs : List Course) → selected_courses ns ds ≡ Some cs → AxesBelow (length ns) cs
selected-below ns ds cs e =
    let h = cond_some (is_section_small ns ds) (section_courses 0 ns ds) cs e in subst (AxesBelow (length ns)) h.1 (section-below (length ns) 0 ns ds (omega arith))

index-below : (ns : List ℕ) (ds : List Selection) (o : Option (List Course)) (is : List Course) → selected_courses ns ds ≡ o → option_map Some o ≡ Some (Some is)
    → AxesBelow (length ns) is
index-below ns ds None is e h = absurd (none-some (Some is) h)
index-below ns ds (Some js) is e h = selected-below ns ds is (e ∙ same h)

-- the courses of a reference
pub axes : (slots : List ℤ) (ns : List ℕ) (indices : Option (List Selection)) (is : Option (List Course)) (subs : List Sub) (cs : List Course)
    → index_courses ns indices ≡ Some is → subs_courses slots ns is subs ≡ Some cs → AxesBelow (length ns) cs
axes slots ns indices None ss cs known e = selected-below ns (selections_at slots [] ss) cs e
axes slots ns None (Some is) ss cs known e = absurd (none-some is (same known))
axes slots ns (Some ds) (Some is) ss cs known e =
    indexed-below (length ns) slots ns is ss cs (index-below ns ds (selected_courses ns ds) is refl known) e

-- ---- all that is read

own-length : (axis : ℕ) (ns : List ℕ) → length (own_courses axis ns) ≡ length ns
own-length axis [] = refl
own-length axis (n ∷ ns) = ap suc (own-length (axis + 1) ns)

own-below : (m axis : ℕ) (ns : List ℕ) → axis + length ns ≡ m → AxesBelow m (own_courses axis ns)
own-below m axis [] is = tt
own-below m axis (n ∷ ns) is = (omega (arith, is), own-below m (axis + 1) ns (omega (arith, is)))

-- that a copy is named
pub copy-along : (ns : List ℕ) (row : ℕ) → IsAlongAxes (length ns) (named_copy ns row)
copy-along ns row = record {
  rank = own-length 0 ns ∙ sym (length-map ns (λ n. record { lower = pos 1; upper = pos n }));
  axes = own-below (length ns) 0 ns (omega arith);
}

-- that an element of an array is
pub element-along : (shapes : List (List Dim)) (ns : List ℕ) (a : ℕ) (o : Option (List Course)) (r : Named) → ((cs : List Course) → o ≡ Some cs → AxesBelow (length ns) cs)
    → named_element shapes a o ≡ Some r → IsAlongAxes (length ns) r
element-along shapes ns a None r by e = absurd (none-some r e)
element-along shapes ns a (Some cs) r by e =
    let h = cond_some (length cs == length (shape_of shapes a)) (record { row = a; dims = shape_of shapes a; courses = cs }) r e in
    subst (IsAlongAxes (length ns)) h.1 (record { rank = eqb-true (length cs) (length (shape_of shapes a)) h.0; axes = by cs refl })

module _ (shapes : List (List Dim)) (slots : List ℤ) (ns : List ℕ) (indices : Option (List Selection)) (is : Option (List Course))
    (known : index_courses ns indices ≡ Some is) where
  abbrev Lies : Named → Type 0
  Lies = IsAlongAxes (length ns)

  one-along : (o : Option Named) (rs : List Named) → ((r : Named) → o ≡ Some r → Lies r) → option_map (λ r. r ∷ []) o ≡ Some rs → All Lies rs
  one-along None rs each e = absurd (none-some rs e)
  one-along (Some r) rs each e = subst (All Lies) (same e) (All-cons Lies r [] (each r refl) (All-nil Lies))

  mutual
    form-along : (f : ArrayForm) (rs : List Named) → form_names shapes slots ns is f ≡ Some rs → All Lies rs
    form-along (FlatForm f) rs e = subst (All Lies) (same e) (All-nil Lies)
    form-along (SectionForm a ss) rs e =
        one-along (named_element shapes a (subs_courses slots ns is ss)) rs
        (λ r h. element-along shapes ns a (subs_courses slots ns is ss) r (λ cs g. axes slots ns indices is ss cs known g) h) e
    form-along (OperationForm o fs) rs e = forms-along fs rs e

    forms-along : (fs : Forms) (rs : List Named) → forms_names shapes slots ns is fs ≡ Some rs → All Lies rs
    forms-along NoForm rs e = subst (All Lies) (same e) (All-nil Lies)
    forms-along (AndForm f fs) rs e =
        let h = and-names (form_names shapes slots ns is f) (forms_names shapes slots ns is fs) rs e in
        subst (All Lies) h.4 (All-append Lies h.0 h.1 (form-along f h.0 h.2) (forms-along fs h.1 h.3))

  copies-along : (rows : List ℕ) → All Lies (copy_names ns rows)
  copies-along [] = All-nil Lies
  copies-along (row ∷ rows) = All-cons Lies (named_copy ns row) (copy_names ns rows) (copy-along ns row) (copies-along rows)

  whens-along : (whens : List When) → All Lies (when_names ns whens)
  whens-along [] = All-nil Lies
  whens-along (w ∷ whens) = All-cons Lies (named_copy ns w.copy) (when_names ns whens) (copy-along ns w.copy) (whens-along whens)

  pub all-along : (whens : List When) (rows : List ℕ) (o : Option (List Named)) (rs : List Named) → ((ms : List Named) → o ≡ Some ms → All Lies ms)
      → option_map (λ ms. (when_names ns whens ++ copy_names ns rows) ++ ms) o ≡ Some rs → All Lies rs
  all-along whens rows None rs each e = absurd (none-some rs e)
  all-along whens rows (Some ms) rs each e =
      subst (All Lies) (same e) (All-append Lies (when_names ns whens ++ copy_names ns rows) ms
      (All-append Lies (when_names ns whens) (copy_names ns rows) (whens-along whens) (copies-along rows)) (each ms refl))

pub names-along : (shapes : List (List Dim)) (slots : List ℤ) (ns : List ℕ) (indices : Option (List Selection)) (is : Option (List Course)) (whens : List When) (rows : List ℕ)
    (form : ArrayForm) (rs : List Named) → index_courses ns indices ≡ Some is → all_names shapes slots ns is whens rows form ≡ Some rs → All (IsAlongAxes (length ns)) rs
names-along shapes slots ns indices is whens rows form rs known e =
    all-along shapes slots ns indices is known whens rows (form_names shapes slots ns is form) rs
    (λ ms h. form-along shapes slots ns indices is known form ms h) e
