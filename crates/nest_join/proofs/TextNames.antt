-- What the names in a text come to on the machine is what they come to in the iteration.
use Rattle.std.proofs.Common.{◌≡◌, ℕ, suc, ◌+◌, ◌/◌, ◌<◌, ◌≤◌, inl, inr, ⊎_elim, List, [], ◌∷◌, ◌++◌, length, map, slice_index_or, ℤ, pos, false, Option, Some, None, Ok, if◌then◌else◌, refl, sym, ap, ◌∙◌, subst, arith}
use Rattle.std.proofs.lemmas.Bool.{cases_lt}
use Rattle.std.proofs.lemmas.List.{length-map, length-reverse, get_or_append_left, get_or-append-add}
use Rattle.storage.specs.Storage.{Storage, row_of, read}
use Rattle.nest_syntax.specs.NestKinds.{has_copies}
use Rattle.nest_order.specs.Copies.{scalar_at, seen_by}
use Rattle.nest_order.proofs.Copying.{seen-copy}
use Rattle.array_meaning.specs.Terms.{Term, Number, Scalar, Index, Element, Section, Apply, Reduce, Terms, NoTerm, More}
use Rattle.array_meaning.specs.State.{State, Array, no_array, array, scalar}
use Rattle.array_meaning.specs.Expressions.{value}
use Rattle.array_meaning.specs.Statements.{Nest}
use Rattle.array_meaning.specs.declared.sections.Sequence.{Sequence}
use Rattle.array_meaning.specs.Forall.{indices_at}
use Rattle.array_meaning.specs.Iterations.{values_of, nest_axes, nest_indices, at_iteration}
use Rattle.machine_steps.specs.Machine.{value_by}
use Rattle.code_meaning.specs.Flat.{slot}
use Rattle.code_meaning.specs.Parallel.{shape_of}
use Rattle.nest_items.specs.Naming.{IsNaming, AreNaming}
use Rattle.nest_items.specs.StateStorage.{state_of}
use Rattle.nest_items.proofs.Storing.{scalar-at, array-at, fixed-scalar, if_so, if_not}
use Rattle.nest_machine.specs.Slots.{SameSlots}
use Rattle.nest_machine.specs.Placed.{Placed}
use Rattle.nest_machine.proofs.PlacedCopies.{row-each, length-each}
use Rattle.nest_machine.proofs.Rows.{row-beyond}
use Rattle.code_meaning.specs.NestStatements.{row_spots}
use Rattle.nest_syntax.specs.NestTerms.{scalar_or_index, HasNoIndex, HaveNoIndex}
use Rattle.nest_texts.specs.NestTerms.{IsAlike, AreAlike}
use Rattle.statement_trail.specs.NestParts.{index_in}
use Rattle.nest_join.specs.NestNames.{NestNames, indices_of, index_of, IsFixedHere, IsCopyName, IsScalarName, IsArrayName}
use Rattle.nest_join.specs.MachineState.{machine_state}
use Rattle.nest_join.specs.NestTexts.{state_at, HoldsEntry}
use Rattle.nest_join.proofs.Names.{in-from, machine-scalar, machine-array, in-values, in-both-none, in-both-some, in-later, with-arrays, with-scalars, with-other, with-here, with-values, none-later}

-- ---- an expression by what its names are

module _ (index : ℕ → Option ℕ) (axes : List ℤ) (e s : State) (OfScalar OfArray : ℕ → Type 0)
    (scalars : (k : ℕ) → OfScalar k → value axes e (scalar_or_index (index k) k) ≡ Ok (scalar s k)) (arrays : (a : ℕ) → OfArray a → array e a ≡ array s a) where
  mutual
    pub is-alike : (t : Term) → IsNaming OfScalar OfArray t → HasNoIndex t → IsAlike index axes e s t
    is-alike (Number v) names plain = tt
    is-alike (Scalar k) names plain = scalars k names
    is-alike (Index k) names plain = absurd plain
    is-alike (Element a ts) names plain = (arrays a names.0, are-alike ts names.1 plain)
    is-alike (Section a subs) names plain = tt
    is-alike (Apply o ts) names plain = are-alike ts names plain
    is-alike (Reduce o t) names plain = absurd names

    pub are-alike : (ts : Terms) → AreNaming OfScalar OfArray ts → HaveNoIndex ts → AreAlike index axes e s ts
    are-alike NoTerm names plain = tt
    are-alike (More t ts) names plain = (is-alike t names.0 plain.0, are-alike ts names.1 plain.1)

-- ---- the indices of a nest

each-index : (axes : List Sequence) (i : ℕ) → length (indices_at axes i) ≡ length axes
each-index [] i = refl
each-index (p ∷ axes) i = ap suc (each-index axes (i / p.count))

pub indices-many : (s : State) (nest : Nest) (i : ℕ) → length (indices_at (nest_axes s nest) i) ≡ length (nest_indices nest)
indices-many s nest i =
    each-index (nest_axes s nest) i ∙ length-reverse (map (values_of s) nest.loops) ∙ length-map nest.loops (values_of s)
    ∙ sym (length-map nest.loops (λ l. l.index)) ∙ sym (length-reverse (map (λ l. l.index) nest.loops))

-- ---- the rows that an iteration sees

own-values : (rows : Storage) (place : ℕ → ℕ) (i : ℕ) (cs : List ℕ)
    → map (value_by (read rows)) (row_spots (map place cs) i) ≡ map (λ c. read rows (record { row = place c; at = i })) cs
own-values rows place i [] = refl
own-values rows place i (c ∷ cs) = ap (λ vs. read rows (record { row = place c; at = i }) ∷ vs) (own-values rows place i cs)

module _ (w : NestNames) where
  seen-row : (i : ℕ) (m : Storage) (a : ℕ) → has_copies (w.kinds a) ≡ false → row_of (seen_by w.kinds i m) a ≡ row_of m a
  seen-row i m a none =
      let f : ℕ → List ℤ → List ℤ = λ row elements. if has_copies (w.kinds row) then slice_index_or elements i (pos 0) ∷ [] else elements in
      ⊎_elim
      (λ (lt : a < length m). row-each f 0 m a lt ∙ (let e : 0 + a ≡ a = omega arith in ap (λ z. f z (row_of m a)) e)
      ∙ if_not (has_copies (w.kinds a)) (slice_index_or (row_of m a) i (pos 0) ∷ []) (row_of m a) none)
      (λ (le : length m ≤ a). row-beyond (seen_by w.kinds i m) a (let l = length-each f 0 m in omega (arith, l, le)) ∙ sym (row-beyond m a le))
      (cases_lt a (length m))

  -- ---- names in an iteration

  module _ (b : ℕ) (entry : List ℤ) (s0 : State) (holds : HoldsEntry w b entry s0) (slots : List ℤ) (same : SameSlots w.is_index b entry slots) (i : ℕ) (m rows : Storage)
      (placed : Placed w.place w.is_row m rows) (round copies : List ℕ) where
    abbrev n : ℕ
    n = w.count

    abbrev indices : List ℕ
    indices = indices_of w

    abbrev tuple : List ℤ
    tuple = indices_at (nest_axes s0 w.nest) i

    -- the machine's state, the meaning's at the entry of the iteration, that of the text, and that with the copies of the iteration
    abbrev pub E : State
    E = machine_state n w.table.shapes slots rows

    abbrev base : State
    base = at_iteration w.nest s0 i

    abbrev here : State
    here = state_at w s0 round slots i

    abbrev pub S : State
    S = state_of w.kinds here (seen_by w.kinds i m)

    many-base : length base.scalars ≡ n
    many-base = with-scalars indices tuple s0 ∙ holds.scalars

    many : length here.scalars ≡ n
    many = with-scalars round (map (slot slots) round) base ∙ many-base

    arrays-are : here.arrays ≡ s0.arrays
    arrays-are = with-arrays round (map (slot slots) round) base ∙ with-arrays indices tuple s0

    long : length tuple ≡ length indices
    long = indices-many s0 w.nest i

    abbrev Agrees : List ℤ → ℕ → Type 0
    Agrees ys k = value (tuple ++ ys) E (scalar_or_index (index_of w copies k) k) ≡ Ok (scalar S k)

    no-index : (k : ℕ) → index_in indices 0 k ≡ None → index_in copies 0 k ≡ None → index_of w copies k ≡ None
    no-index k off none =
        let e : length indices + 0 ≡ 0 + length indices = omega arith in
        in-both-none indices copies 0 k off ∙ subst (λ x. index_in copies x k ≡ None) e (none-later (length indices) k copies 0 none)

    pub fixed-agrees : (ys : List ℤ) (k : ℕ) → IsFixedHere w round copies k → Agrees ys k
    fixed-agrees ys k ((lt, fixed, inl (off, j, h)), none) =
        let mb = many-base in
        ap (λ o. value (tuple ++ ys) E (scalar_or_index o k)) (no-index k off none)
        ∙ ap Ok (machine-scalar n w.table.shapes slots rows k lt
        ∙ sym (fixed-scalar w.kinds here (seen_by w.kinds i m) k fixed ∙ with-values round (slot slots) base 0 k j (omega (arith, lt, mb)) h))
    fixed-agrees ys k ((lt, fixed, inr (inl (off, out, no_index))), none) =
        let le = holds.below in
        ap (λ o. value (tuple ++ ys) E (scalar_or_index o k)) (no-index k off none)
        ∙ ap Ok (machine-scalar n w.table.shapes slots rows k lt ∙ sym (same.1 k (omega (arith, lt, le)) no_index) ∙ holds.slots k lt no_index
        ∙ sym (fixed-scalar w.kinds here (seen_by w.kinds i m) k fixed ∙ with-other round (map (slot slots) round) base 0 k out ∙ with-other indices tuple s0 0 k off))
    fixed-agrees ys k ((lt, fixed, inr (inr (out, j, h))), none) =
        let sn = holds.scalars in
        let v = with-here indices tuple s0 0 k j (omega (arith, lt, sn)) (sym long) h in
        let r = in-from indices 0 k j h in
        let q_is : j ≡ v.0 = (let e = v.1 in omega (arith, e)) in
        let inside : j < length tuple = (let e = r.1 in let l = r.2 in let g = long in omega (arith, e, l, g)) in
        ap (λ o. value (tuple ++ ys) E (scalar_or_index o k)) (in-both-some indices copies 0 k j h)
        ∙ ap Ok (get_or_append_left tuple ys (pos 0) j inside ∙ ap (λ x. slice_index_or tuple x (pos 0)) q_is ∙ sym v.2
        ∙ sym (fixed-scalar w.kinds here (seen_by w.kinds i m) k fixed ∙ with-other round (map (slot slots) round) base 0 k out))

    -- the values of the copies that the text reads
    abbrev pub own : List ℤ
    own = map (value_by (read rows)) (row_spots (map w.place copies) i)

    copy-agrees : (k : ℕ) → IsCopyName w copies k → Agrees own k
    copy-agrees k (lt, has, of_row, off, j, h) =
        let f : ℕ → ℤ = λ c. read rows (record { row = w.place c; at = i }) in
        let z : index_of w copies k ≡ Some (length indices + j) = in-both-none indices copies 0 k off ∙ (let e : length indices ≡ 0 + length indices = omega arith in
        subst (λ x. index_in copies x k ≡ Some (length indices + j)) e (in-later copies (length indices) k j h)) in
        let v = in-values f copies 0 k j h in
        let q_is : j ≡ v.0 = (let e = v.1 in omega (arith, e)) in
        let mh = many in
        ap (λ o. value (tuple ++ own) E (scalar_or_index o k)) z
        ∙ ap Ok (ap (λ x. slice_index_or (tuple ++ own) (x + j) (pos 0)) (sym long) ∙ get_or-append-add tuple own j (pos 0)
        ∙ ap (λ vs. slice_index_or vs j (pos 0)) (own-values rows w.place i copies) ∙ ap (λ x. slice_index_or (map f copies) x (pos 0)) q_is ∙ v.2
        ∙ ap (λ r. slice_index_or r i (pos 0)) (placed k of_row)
        ∙ sym (scalar-at w.kinds here (seen_by w.kinds i m) k (omega (arith, lt, mh))
        ∙ if_so (has_copies (w.kinds k)) (read (seen_by w.kinds i m) (scalar_at k)) (scalar here k) has
        ∙ seen-copy w.kinds i m k has))

    pub scalar-agrees : (k : ℕ) → IsScalarName w round copies k → Agrees own k
    scalar-agrees k (inl h) = fixed-agrees own k h
    scalar-agrees k (inr h) = copy-agrees k h

    pub array-is : (a : ℕ) → IsArrayName w a → array S a ≡ record { dims = shape_of w.table.shapes a; elements = row_of rows a }
    array-is a (lt, none, of_row, lies) =
        let am = ap length arrays-are ∙ holds.arrays in
        let dims : (array here a).dims ≡ shape_of w.table.shapes a = ap (λ (xs : List Array). (slice_index_or xs a no_array).dims) arrays-are ∙ holds.shapes a lt in
        array-at w.kinds here (seen_by w.kinds i m) a (omega (arith, lt, am))
        ∙ if_not (has_copies (w.kinds a)) (array here a) (record (array here a) { elements = row_of (seen_by w.kinds i m) a }) none
        ∙ (λ j. record { dims = dims j; elements = (seen-row i m a none ∙ sym (placed a of_row) ∙ ap (row_of rows) lies) j })

    pub array-agrees : (a : ℕ) → IsArrayName w a → array E a ≡ array S a
    array-agrees a h = machine-array n w.table.shapes slots rows a h.0 ∙ sym (array-is a h)
