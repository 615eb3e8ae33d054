-- What either of two references names.
use Rattle.std.proofs.Common.{◌≡◌, ◌⊎◌, inl, inr, ℕ, ◌-◌, ◌<◌, ◌||◌, Bool, true, false, if◌then◌else◌, List, [], ◌∷◌, ◌++◌, All, length, map, slice_index_or, ℤ, pos, ◌+ℤ◌, ◌-ℤ◌, ◌*ℤ◌, int_le, Option, Some, None, option_map, Ok, refl, sym, ◌∙◌, ap, subst, arith}
use Rattle.std.proofs.lemmas.Int.{ints}
use Rattle.std.proofs.lemmas.List.Elements.{All-cons, All-nil}
use Rattle.std.proofs.lemmas.Option.{none-some, cond_some, option_and_then_some, some_pair_parts}
use Rattle.std.specs.Option.{option_or}
use Rattle.hpf_base.specs.ElementOrder.{product}
use Rattle.op_tables.specs.Operators.{wrapped}
use Rattle.storage.specs.Storage.{Spot, is_same_spot}
use Rattle.expression_rules.specs.declared.dims.Dim.{Dim}
use Rattle.array_meaning.specs.declared.sections.Selection.{Selection}
use Rattle.array_meaning.specs.Sections.{subscripts_at}
use Rattle.machine_steps.specs.Message.{names_spot}
use Rattle.node_code.specs.Flat.{Flat}
use Rattle.node_code.specs.Forms.{Sub, SubAt, ArrayForm, SectionForm}
use Rattle.node_code.specs.Parallel.{When}
use Rattle.code_meaning.specs.Flat.{flat_value, or_zero}
use Rattle.code_meaning.specs.Forms.{elemental_at, selections_at}
use Rattle.code_meaning.specs.NestStatements.{row_spots, when_spots}
use Rattle.code_meaning.specs.Parallel.{reads_at, shape_of, spot_of}
use Rattle.axis_products.specs.Products.{places_at}
use Rattle.courses.specs.Courses.{Course, Fixed, Moving, along, are_small, course_at, courses_at, is_small}
use Rattle.courses.specs.Entries.{axes_in, entries_in}
use Rattle.courses.specs.References.{IsAlongAxes, Named, and_course, copy_names, index_courses, indexed_courses, named_element, named_spot, selected_courses, when_names}
use Rattle.courses.specs.StraightForms.{AllFit, course_if, straight_course}
use Rattle.courses.specs.Subscripts.{AxisBelow, AxesBelow}
use Rattle.courses.proofs.Axes.{all-along, along-below, axes, element-along}
use Rattle.courses.proofs.References.{all-are, element-named, selected, subs}
use Rattle.courses.proofs.Sections.{along-is, between, both, small}
use Rattle.courses.proofs.StraightForms.{flats, inside, same}
use Rattle.courses.specs.TurnedForms.{Turned, turned_in}
use Rattle.courses.specs.TurnedNames.{all_turned_names, and_both, both_named, first_courses, further, is_of_first, turned_courses, turned_names}
use Rattle.courses.proofs.TurnedForms.{moved, parts, turned-value}
use Rattle.courses.proofs.TurnedBounds.{outside, unmoved}

-- ---- what both references are made of

and-both : {A : Type 0} (a b : Option A) (x y : A) → and_both a b ≡ Some (x, y) → (a ≡ Some x) × (b ≡ Some y)
and-both (Some u) (Some v) x y e = let h = some_pair_parts u x v y e in (ap Some h.0, ap Some h.1)
and-both (Some u) None x y e = absurd (none-some (x, y) e)
and-both None b x y e = absurd (none-some (x, y) e)

record Made (shapes : List (List Dim)) (slots : List ℤ) (ns : List ℕ) (is : List Course) (a : ℕ) (f : Flat) (ss : List Sub) (r q : Named) : Type 0 where
  pub turn : Turned
  pub above : Course
  pub low : Course
  pub high : Course
  pub rest : List Course
  pub form : turned_in slots f ≡ Some turn
  pub first : is_of_first turn (shape_of shapes a) ≡ true
  pub course : straight_course ns is turn.above ≡ Some above
  pub stays : further ns turn.lower above ≡ Some low
  pub goes : further ns (turn.lower -ℤ turn.count) above ≡ Some high
  pub others : indexed_courses slots ns is ss ≡ Some rest
  pub one : named_element shapes a (Some (low ∷ rest)) ≡ Some r
  pub other : named_element shapes a (Some (high ∷ rest)) ≡ Some q

module _ (shapes : List (List Dim)) (slots : List ℤ) (ns : List ℕ) (is : List Course) (a : ℕ) (f : Flat) (ss : List Sub) (r q : Named) where
  made-by : (o : Option (Course × Course)) (cs : Option (List Course)) → first_courses slots ns is (shape_of shapes a) f ≡ o → indexed_courses slots ns is ss ≡ cs
      → both_named shapes a o cs ≡ Some (r, q) → Made shapes slots ns is a f ss r q
  made-by (Some p) (Some cs) courses others e =
      option_and_then_some (λ x. if is_of_first x (shape_of shapes a) then turned_courses ns is x else None) (turned_in slots f) p courses
      (λ x form h. by_first x form (is_of_first x (shape_of shapes a)) refl h)
    where
      by_first : (x : Turned) → turned_in slots f ≡ Some x → (b : Bool) → is_of_first x (shape_of shapes a) ≡ b
          → (if b then turned_courses ns is x else None) ≡ Some p → Made shapes slots ns is a f ss r q
      by_first x form false first h = absurd (none-some p h)
      by_first x form true first h =
          let names = and-both (named_element shapes a (Some (p.0 ∷ cs))) (named_element shapes a (Some (p.1 ∷ cs))) r q e in
          option_and_then_some (λ c. and_both (further ns x.lower c) (further ns (x.lower -ℤ x.count) c)) (straight_course ns is x.above) p h
          (λ c course g. let ends = and-both (further ns x.lower c) (further ns (x.lower -ℤ x.count) c) p.0 p.1 g in record {
            turn = x;
            above = c;
            low = p.0;
            high = p.1;
            rest = cs;
            form = form;
            first = first;
            course = course;
            stays = ends.0;
            goes = ends.1;
            others = others;
            one = names.0;
            other = names.1;
          })
  made-by (Some p) None courses others e = absurd (none-some (r, q) e)
  made-by None cs courses others e = absurd (none-some (r, q) e)

  made : turned_names shapes slots ns is (SectionForm a (SubAt f ∷ ss)) ≡ Some (r, q) → Made shapes slots ns is a f ss r q
  made e = made-by (first_courses slots ns is (shape_of shapes a) f) (indexed_courses slots ns is ss) refl refl e

-- ---- axes

further-below : (n : ℕ) (ns : List ℕ) (z : ℤ) (c d : Course) → further ns z c ≡ Some d → AxisBelow n c → AxisBelow n d
further-below n ns z (Fixed i) d e below = subst (AxisBelow n) (cond_some (is_small (i +ℤ z)) (Fixed (i +ℤ z)) d e).1 tt
further-below n ns z (Moving axis first step) d e below =
    let m = slice_index_or ns axis 0 in
    subst (AxisBelow n) (cond_some (are_small m (first +ℤ z) step) (along axis m (first +ℤ z) step) d e).1 (along-below n axis m (first +ℤ z) step below)

both-along : (shapes : List (List Dim)) (slots : List ℤ) (ns : List ℕ) (indices : Option (List Selection)) (is : List Course) (form : ArrayForm) (r q : Named)
    → index_courses ns indices ≡ Some (Some is) → turned_names shapes slots ns is form ≡ Some (r, q) → IsAlongAxes (length ns) r × IsAlongAxes (length ns) q
both-along shapes slots ns indices is (SectionForm a (SubAt f ∷ ss)) r q known e =
    let m = made shapes slots ns is a f ss r q e in
    let p = parts slots f m.turn m.form in
    let line : indexed_courses slots ns is (SubAt p.first ∷ []) ≡ Some (m.above ∷ []) =
    ap (λ o. and_course o (Some [])) (ap (course_if ns is) p.form ∙ m.course) in
    let here = axes slots ns indices (Some is) (SubAt p.first ∷ []) (m.above ∷ []) known line in
    let there = axes slots ns indices (Some is) ss m.rest known m.others in (
      element-along shapes ns a (Some (m.low ∷ m.rest)) r
          (λ cs h. subst (AxesBelow (length ns)) (same h) (further-below (length ns) ns m.turn.lower m.above m.low m.stays here.0, there)) m.one,
      element-along shapes ns a (Some (m.high ∷ m.rest)) q
          (λ cs h. subst (AxesBelow (length ns)) (same h)
          (further-below (length ns) ns (m.turn.lower -ℤ m.turn.count) m.above m.high m.goes here.0, there)) m.other,
    )
both-along shapes slots ns indices is form r q known e = absurd (none-some (r, q) e)

-- ---- one of both is named

-- an element is one of two, of which the other is none
abbrev IsEither : (o a b : Option Spot) → Type 0
IsEither o a b = ((o ≡ a) × (b ≡ None)) ⊎ ((o ≡ b) × (a ≡ None))

either-or : (o a b : Option Spot) → IsEither o a b → o ∷ [] ≡ option_or a b ∷ []
either-or o a b (inl (e, none)) = ap (λ z. z ∷ []) e ∙ alone a ∙ ap (λ z. option_or a z ∷ []) (sym none)
  where
    alone : (a : Option Spot) → a ∷ [] ≡ option_or a None ∷ []
    alone None = refl
    alone (Some s) = refl
either-or o a b (inr (e, none)) = ap (λ z. z ∷ []) e ∙ ap (λ z. option_or z b ∷ []) (sym none)

either-names : (o a b : Option Spot) (spot : Spot) → IsEither o a b → names_spot (o ∷ []) spot ≡ names_spot (a ∷ b ∷ []) spot
either-names o a b spot (inl (e, none)) = ap (λ z. names_spot (z ∷ []) spot) e ∙ alone a ∙ ap (λ z. names_spot (a ∷ z ∷ []) spot) (sym none)
  where
    alone : (a : Option Spot) → names_spot (a ∷ []) spot ≡ names_spot (a ∷ None ∷ []) spot
    alone None = refl
    alone (Some s) = refl
either-names o a b spot (inr (e, none)) = ap (λ z. names_spot (z ∷ []) spot) e ∙ ap (λ z. names_spot (z ∷ b ∷ []) spot) (sym none)

module _ (ns : List ℕ) (t : ℕ) (below : t < product ns) where
  abbrev places : List ℕ
  places = places_at ns t

  -- a course that goes further
  further-is : (z : ℤ) (c d : Course) → further ns z c ≡ Some d → (course_at places d ≡ course_at places c +ℤ z) × (is_small (course_at places d) ≡ true)
  further-is z (Fixed i) d e =
      let h = cond_some (is_small (i +ℤ z)) (Fixed (i +ℤ z)) d e in
      subst (λ d. (course_at places d ≡ i +ℤ z) × (is_small (course_at places d) ≡ true)) h.1 (refl, h.0)
  further-is z (Moving axis first step) d e =
      let n = slice_index_or ns axis 0 in
      let k = slice_index_or places axis 0 in
      let h = cond_some (are_small n (first +ℤ z) step) (along axis n (first +ℤ z) step) d e in
      let ends = both (is_small (first +ℤ z)) (is_small ((first +ℤ z) +ℤ (step *ℤ pos (n - 1)))) h.0 in
      let within = inside ns t axis below in
      let here = along-is places axis n (first +ℤ z) step within in
      subst (λ d. (course_at places d ≡ (first +ℤ (step *ℤ pos k)) +ℤ z) × (is_small (course_at places d) ≡ true)) h.1
      (here ∙ turn first z (step *ℤ pos k), ap is_small here ∙ between (first +ℤ z) step (n - 1) k within ends.0 ends.1)
    where
      turn : (a b c : ℤ) → (a +ℤ b) +ℤ c ≡ (a +ℤ c) +ℤ b
      turn a b c = omega (arith, ints)

  -- the values of the indices are their courses
  indices-are : (indices : Option (List Selection)) (is : List Course) → index_courses ns indices ≡ Some (Some is)
      → (axes_in indices (entries_in indices ns t) ≡ courses_at places is) × AllFit (courses_at places is)
  indices-are None is known = absurd (none-some is (same known))
  indices-are (Some ds) is known = selected ns ds is t below (by_selected (selected_courses ns ds) known)
    where
      by_selected : (o : Option (List Course)) → option_map Some o ≡ Some (Some is) → o ≡ Some is
      by_selected None e = absurd (none-some (Some is) e)
      by_selected (Some js) e = same e

  module _ (shapes : List (List Dim)) (slots : List ℤ) (indices : Option (List Selection)) (is : List Course) (a : ℕ) (f : Flat) (ss : List Sub) (r q : Named)
      (known : index_courses ns indices ≡ Some (Some is)) (m : Made shapes slots ns is a f ss r q) where
    abbrev x : List ℤ
    x = entries_in indices ns t

    abbrev axis_values : List ℤ
    axis_values = axes_in indices (entries_in indices ns t)

    abbrev js : List ℤ
    js = courses_at places m.rest

    abbrev v : ℤ
    v = course_at places m.above

    first-value : flat_value slots axis_values [] f ≡ Ok (wrapped (v +ℤ moved m.turn (int_le m.turn.count v)))
    first-value =
        let p = parts slots f m.turn m.form in
        let h = indices-are indices is known in
        let values = courses_at places is in
        let one = flats slots ns is p.first m.above t below h.1 (ap (course_if ns is) p.form ∙ m.course) in
        let two = flats slots ns is p.second m.above t below h.1 (ap (course_if ns is) p.same ∙ m.course) in
        ap (λ y. flat_value slots y [] f) h.0 ∙ ap (flat_value slots values []) p.is ∙ turned-value slots values m.turn p.first p.second v one two

    spot-is : spot_of shapes a (subscripts_at (selections_at slots axis_values (SubAt f ∷ ss)) x)
        ≡ spot_of shapes a (wrapped (v +ℤ moved m.turn (int_le m.turn.count v)) ∷ js)
    spot-is =
        ap (λ o. spot_of shapes a (or_zero o ∷ subscripts_at (selections_at slots axis_values ss) x)) first-value
        ∙ ap (λ ls. spot_of shapes a (wrapped (v +ℤ moved m.turn (int_le m.turn.count v)) ∷ ls))
        (subs slots ns indices (Some is) ss m.rest t below known m.others)

    -- a reference by a course that goes so much further
    named : (z : ℤ) (c : Course) (w : Named) → further ns z m.above ≡ Some c → named_element shapes a (Some (c ∷ m.rest)) ≡ Some w
        → (spot_of shapes a (wrapped (v +ℤ z) ∷ js) ≡ named_spot ns t w) × (spot_of shapes a ((v +ℤ z) ∷ js) ≡ named_spot ns t w)
    named z c w e name =
        let h = further-is z m.above c e in
        let there = element-named shapes ns t a (course_at places c ∷ js) (Some (c ∷ m.rest)) w (λ cs g. ap (courses_at places) (same g)) name in
        let exact : spot_of shapes a ((v +ℤ z) ∷ js) ≡ named_spot ns t w = ap (λ i. spot_of shapes a (i ∷ js)) (sym h.0) ∙ there in
        (ap (λ i. spot_of shapes a (i ∷ js)) (ap wrapped (sym h.0) ∙ small (course_at places c) h.1) ∙ there, exact)

    none-named : (b : Bool) → int_le m.turn.count v ≡ b → spot_of shapes a ((v +ℤ unmoved m.turn b) ∷ js) ≡ None
    none-named b e = ap (option_map (λ k. record { row = a; at = k })) (outside m.turn (shape_of shapes a) v js b m.first e)

    is-either : IsEither (spot_of shapes a (subscripts_at (selections_at slots axis_values (SubAt f ∷ ss)) x)) (named_spot ns t r) (named_spot ns t q)
    is-either = by_test (int_le m.turn.count v) refl
      where
        low : (spot_of shapes a (wrapped (v +ℤ m.turn.lower) ∷ js) ≡ named_spot ns t r) × (spot_of shapes a ((v +ℤ m.turn.lower) ∷ js) ≡ named_spot ns t r)
        low = named m.turn.lower m.low r m.stays m.one

        high : (spot_of shapes a (wrapped (v +ℤ (m.turn.lower -ℤ m.turn.count)) ∷ js) ≡ named_spot ns t q)
            × (spot_of shapes a ((v +ℤ (m.turn.lower -ℤ m.turn.count)) ∷ js) ≡ named_spot ns t q)
        high = named (m.turn.lower -ℤ m.turn.count) m.high q m.goes m.other

        by_test : (b : Bool) → int_le m.turn.count v ≡ b
            → IsEither (spot_of shapes a (subscripts_at (selections_at slots axis_values (SubAt f ∷ ss)) x)) (named_spot ns t r) (named_spot ns t q)
        by_test true e =
            inr (spot-is ∙ ap (λ b. spot_of shapes a (wrapped (v +ℤ moved m.turn b) ∷ js)) e ∙ high.0, sym low.1 ∙ none-named true e)
        by_test false e =
            inl (spot-is ∙ ap (λ b. spot_of shapes a (wrapped (v +ℤ moved m.turn b) ∷ js)) e ∙ low.0, sym high.1 ∙ none-named false e)

pub elements : (shapes : List (List Dim)) (slots : List ℤ) (ns : List ℕ) (indices : Option (List Selection)) (is : List Course) (form : ArrayForm) (r q : Named)
    (t : ℕ) → t < product ns → index_courses ns indices ≡ Some (Some is) → turned_names shapes slots ns is form ≡ Some (r, q)
    → reads_at shapes (entries_in indices ns t) (elemental_at slots (axes_in indices (entries_in indices ns t)) form)
    ≡ option_or (named_spot ns t r) (named_spot ns t q) ∷ []
elements shapes slots ns indices is (SectionForm a (SubAt f ∷ ss)) r q t below known e =
    let x = entries_in indices ns t in
    either-or (spot_of shapes a (subscripts_at (selections_at slots (axes_in indices x) (SubAt f ∷ ss)) x)) (named_spot ns t r) (named_spot ns t q)
    (is-either ns t below shapes slots indices is a f ss r q known (made shapes slots ns is a f ss r q e))
elements shapes slots ns indices is form r q t below known e = absurd (none-some (r, q) e)

spots : (shapes : List (List Dim)) (slots : List ℤ) (ns : List ℕ) (indices : Option (List Selection)) (is : List Course) (form : ArrayForm) (r q : Named)
    (t : ℕ) (spot : Spot) → t < product ns → index_courses ns indices ≡ Some (Some is) → turned_names shapes slots ns is form ≡ Some (r, q)
    → names_spot (reads_at shapes (entries_in indices ns t) (elemental_at slots (axes_in indices (entries_in indices ns t)) form)) spot
    ≡ names_spot (named_spot ns t r ∷ named_spot ns t q ∷ []) spot
spots shapes slots ns indices is (SectionForm a (SubAt f ∷ ss)) r q t spot below known e =
    let x = entries_in indices ns t in
    either-names (spot_of shapes a (subscripts_at (selections_at slots (axes_in indices x) (SubAt f ∷ ss)) x)) (named_spot ns t r) (named_spot ns t q) spot
    (is-either ns t below shapes slots indices is a f ss r q known (made shapes slots ns is a f ss r q e))
spots shapes slots ns indices is form r q t spot below known e = absurd (none-some (r, q) e)

-- ---- all that is read

-- where others are named before
names-after : (xs ys zs : List (Option Spot)) (spot : Spot) → names_spot ys spot ≡ names_spot zs spot → names_spot (xs ++ ys) spot ≡ names_spot (xs ++ zs) spot
names-after [] ys zs spot e = e
names-after (None ∷ xs) ys zs spot e = names-after xs ys zs spot e
names-after (Some s ∷ xs) ys zs spot e = ap (λ b. is_same_spot s spot || b) (names-after xs ys zs spot e)

module _ (shapes : List (List Dim)) (slots : List ℤ) (ns : List ℕ) (whens : List When) (rows : List ℕ) (form : ArrayForm) (rs : List Named) where
  record All-made (is : Option (List Course)) : Type 0 where
    courses : List Course
    low : Named
    high : Named
    known : is ≡ Some courses
    names : turned_names shapes slots ns courses form ≡ Some (low, high)
    all : Some ((when_names ns whens ++ copy_names ns rows) ++ (low ∷ high ∷ [])) ≡ Some rs

  all-made : (is : Option (List Course)) → all_turned_names shapes slots ns is whens rows form ≡ Some rs → All-made is
  all-made None e = absurd (none-some rs e)
  all-made (Some js) e = by_names (turned_names shapes slots ns js form) refl e
    where
      by_names : (o : Option (Named × Named)) → turned_names shapes slots ns js form ≡ o
          → option_map (λ p. (when_names ns whens ++ copy_names ns rows) ++ (p.0 ∷ p.1 ∷ [])) o ≡ Some rs → All-made (Some js)
      by_names None is e = absurd (none-some rs e)
      by_names (Some p) is e = record { courses = js; low = p.0; high = p.1; known = refl; names = is; all = e }

  module _ (indices : Option (List Selection)) (is : Option (List Course)) (known : index_courses ns indices ≡ Some is)
      (e : all_turned_names shapes slots ns is whens rows form ≡ Some rs) where
    pub all-spots : (t : ℕ) (spot : Spot) → t < product ns
        → names_spot (when_spots whens t
        ++ (row_spots rows t ++ reads_at shapes (entries_in indices ns t) (elemental_at slots (axes_in indices (entries_in indices ns t)) form))) spot
        ≡ names_spot (map (named_spot ns t) rs) spot
    all-spots t spot below =
        let m = all-made is e in
        let read = reads_at shapes (entries_in indices ns t) (elemental_at slots (axes_in indices (entries_in indices ns t)) form) in
        let named = map (named_spot ns t) (m.low ∷ m.high ∷ []) in
        names-after (when_spots whens t) (row_spots rows t ++ read) (row_spots rows t ++ named) spot
        (names-after (row_spots rows t) read named spot (spots shapes slots ns indices m.courses form m.low m.high t spot below (known ∙ ap Some m.known) m.names))
        ∙ ap (λ l. names_spot l spot) (all-are shapes slots ns indices is t below known whens rows (Some (m.low ∷ m.high ∷ [])) rs named
        (λ ms h. ap (map (named_spot ns t)) (same h)) m.all)

    pub all-turned-along : All (IsAlongAxes (length ns)) rs
    all-turned-along =
        let m = all-made is e in
        let Lies = IsAlongAxes (length ns) in
        let h = both-along shapes slots ns indices m.courses form m.low m.high (known ∙ ap Some m.known) m.names in
        all-along shapes slots ns indices is known whens rows (Some (m.low ∷ m.high ∷ [])) rs
        (λ ms g. subst (All Lies) (same g) (All-cons Lies m.low (m.high ∷ []) h.0 (All-cons Lies m.high [] h.1 (All-nil Lies)))) m.all
