-- A statement of a nest that is passed has the lines of the part that it is.
use Rattle.std.proofs.Common.{◌≡◌, ℕ, zero, suc, ◌+◌, ◌-◌, ◌<◌, ◌≤◌, ◌⊎◌, inl, inr, ⊎_elim, nat_eq, List, [], ◌∷◌, ◌++◌, length, map, replicate, slice_index_or, ℤ, pos, Bool, true, false, Option, Some, None, unwrap_or, refl, sym, ap, ◌∙◌, subst, arith, append_assoc, option_map, if◌then◌else◌}
use Rattle.std.specs.Prelude.{◌||◌, ◌&&◌}
use Rattle.std.proofs.lemmas.Bool.{true≢false, cases_lt}
use Rattle.std.proofs.lemmas.Bool.Decides.{nat_tests}
use Rattle.std.proofs.lemmas.List.{length-append, length-replicate}
use Rattle.expression_rules.specs.declared.dims.Dim.{Dim}
use Rattle.storage.specs.Storage.{Spot}
use Rattle.array_meaning.specs.Forall.{index_extents, indices_at}
use Rattle.array_meaning.specs.Iterations.{is_in}
use Rattle.array_meaning.specs.Sections.{extents, subscripts_at}
use Rattle.array_meaning.specs.Terms.{Term, Number, Scalar, Index, Element, Section, Apply, Reduce, Terms, NoTerm, More}
use Rattle.array_meaning.specs.declared.sections.Selection.TheVariants.{Along}
use Rattle.statement_trail.specs.NestParts.{EnteredNest, NestPart, ScalarPart, ElementPart, ConditionPart, index_in, of_these, scalars_in, copied_in, scalar_copy, condition_copy}
use Rattle.nest_syntax.specs.Asked.{Asked}
use Rattle.statement_trail.specs.Trail.{OfNest}
use Rattle.machine_steps.specs.Layout.{Layout, in_bounds}
use Rattle.machine_steps.specs.Message.{computes_left, par_part}
use Rattle.machine_steps.specs.Space.{space_count}
use Rattle.code_meaning.specs.Beside.{Anchor, aligned_layout}
use Rattle.code_meaning.specs.Anchors.{anchor_in}
use Rattle.code_meaning.specs.Flat.{slot}
use Rattle.code_meaning.specs.Forms.{selections_in, selections_at, elemental_at}
use Rattle.code_meaning.specs.Parallel.{reads_at, spot_of, indices_in}
use Rattle.node_code.specs.NestStatements.{NestStatement, NestLeft, CopyLeft}
use Rattle.code_meaning.specs.NestStatements.{when_spots, row_spots, form_reads, nest_tuples, nest_spot, copies_extents}
use Rattle.program_code.specs.ExpressionCode.{index_form, index_subs}
use Rattle.lowered_expressions.specs.Anchors.{IsBeside}
use Rattle.lowered_expressions.specs.NestEvents.{whens_for, AreStored, index_for, Evaluates, IsPart}
use Rattle.nest_syntax.specs.NestTerms.{scalar_or_index, indexed, all_indexed, NamesFirst, AllNameFirst, SubscriptsFirst, AllSubscriptsFirst}
use Rattle.lowered_expressions.specs.WellFormed.{IsSubscript, AreSubscripts, IsIndexed, AreIndexed}
use Rattle.message_text.specs.Parts.{Setting, subscripts_in, named_in, all_named_in, copy_at, conditions_read, right_read, part_read, part_assigned, anchor_over, part_of, with_copies, with_copied, copies_of}
use Rattle.message_text.specs.MessageText.{scalar_of, name_by, row_name, part_lines}
use Rattle.message_text.specs.InstructionLines.{copy_rows, left_rows, rows_after}
use Rattle.well_formed.proofs.JoinedNames.{eq-is, ne-is, in-from, in-both-some, in-both-none}
use Rattle.well_formed.proofs.Listed.{in-some, once-in, these-in}
use Rattle.lowered_expressions.proofs.Indexed.{axes-extents}
use Rattle.messages_lowered.proofs.Anchors.{beside-same}
use Rattle.messages_lowered.proofs.NamedElements.{subscripts-same, named-same, indices-same}
use Rattle.messages_lowered.proofs.MoreRows.{ReadsIn, reads-both, part-lines-same}

-- ---- indices of the nest in expressions

module _ (xs ys : List ℕ) where
  abbrev F : ℕ → Option ℕ
  F = index_in (xs ++ ys) 0

  abbrev G : ℕ → Option ℕ
  G = index_in xs 0

  first-same : (k : ℕ) → NamesFirst (length xs) (scalar_or_index (F k) k) → scalar_or_index (F k) k ≡ scalar_or_index (G k) k
  first-same k h = by_place (G k) refl
    where
      later : (o : Option ℕ) → index_in ys (0 + length xs) k ≡ o → NamesFirst (length xs) (scalar_or_index o k) → o ≡ None
      later None e h = refl
      later (Some j) e h = let q = in-from ys (0 + length xs) k j e in let z = q.1 in absurd (omega (arith, z, h))

      by_place : (o : Option ℕ) → G k ≡ o → scalar_or_index (F k) k ≡ scalar_or_index (G k) k
      by_place (Some j) e = ap (λ o. scalar_or_index o k) (in-both-some xs ys 0 k j e ∙ sym e)
      by_place None e =
          let f = in-both-none xs ys 0 k e in
          ap (λ o. scalar_or_index o k) (f ∙ later (index_in ys (0 + length xs) k) refl (subst (λ o. NamesFirst (length xs) (scalar_or_index o k)) f h) ∙ sym e)

  mutual
    subscript-same : (n : ℕ) (t : Term) → NamesFirst (length xs) (indexed F t) → IsSubscript n (indexed F t) → indexed F t ≡ indexed G t
    subscript-same n (Number v) h ok = refl
    subscript-same n (Scalar k) h ok = first-same k h
    subscript-same n (Index k) h ok = refl
    subscript-same n (Element a ts) h ok = absurd ok
    subscript-same n (Section a subs) h ok = refl
    subscript-same n (Apply o ts) h ok = ap (Apply o) (all-subscripts-same n ts h ok.1)
    subscript-same n (Reduce o t) h ok = refl

    all-subscripts-same : (n : ℕ) (ts : Terms) → AllNameFirst (length xs) (all_indexed F ts) → AreSubscripts n (all_indexed F ts) → all_indexed F ts ≡ all_indexed G ts
    all-subscripts-same n NoTerm h ok = refl
    all-subscripts-same n (More t ts) h ok = λ i. More (subscript-same n t h.0 ok.0 i) (all-subscripts-same n ts h.1 ok.1 i)

  module _ (shapes : List (List Dim)) (scalars y : List ℤ) where
    no-name : (o : Option ℕ) (k : ℕ) → named_in shapes scalars y (scalar_or_index o k) ≡ []
    no-name None k = refl
    no-name (Some j) k = refl

    mutual
      names-same : (n : ℕ) (t : Term) → SubscriptsFirst (length xs) (indexed F t) → IsIndexed n (indexed F t) → named_in shapes scalars y (indexed F t) ≡ named_in shapes scalars y (indexed G t)
      names-same n (Number v) h ok = refl
      names-same n (Scalar k) h ok = no-name (F k) k ∙ sym (no-name (G k) k)
      names-same n (Index k) h ok = refl
      names-same n (Element a ts) h ok = ap (λ us. spot_of shapes a (subscripts_in scalars y us) ∷ []) (all-subscripts-same n ts h ok.1)
      names-same n (Section a subs) h ok = refl
      names-same n (Apply o ts) h ok = all-names-same n ts h ok
      names-same n (Reduce o t) h ok = absurd ok

      all-names-same : (n : ℕ) (ts : Terms) → AllSubscriptsFirst (length xs) (all_indexed F ts) → AreIndexed n (all_indexed F ts)
          → all_named_in shapes scalars y (all_indexed F ts) ≡ all_named_in shapes scalars y (all_indexed G ts)
      all-names-same n NoTerm h ok = refl
      all-names-same n (More t ts) h ok = λ i. names-same n t h.0 ok.0 i ++ all-names-same n ts h.1 ok.1 i

-- ---- what is read lies in rows of declared names, or of copies

module _ (shapes : List (List Dim)) (scalars y : List ℤ) (R : ℕ → Type 0) (n : ℕ) (own : (a : ℕ) → a < n → R a) where
  spot-in : (a : ℕ) (o : Option ℕ) → a < n → ReadsIn R (option_map (λ k. record { row = a; at = k }) o ∷ [])
  spot-in a None lt = tt
  spot-in a (Some k) lt = (own a lt, tt)

  mutual
    named-rows : (t : Term) → IsIndexed n t → ReadsIn R (named_in shapes scalars y t)
    named-rows (Number v) ok = tt
    named-rows (Scalar k) ok = tt
    named-rows (Index k) ok = tt
    named-rows (Element a ts) ok = spot-in a _ ok.0
    named-rows (Section a subs) ok = tt
    named-rows (Apply o ts) ok = all-named-rows ts ok
    named-rows (Reduce o t) ok = absurd ok

    all-named-rows : (ts : Terms) → AreIndexed n ts → ReadsIn R (all_named_in shapes scalars y ts)
    all-named-rows NoTerm ok = tt
    all-named-rows (More t ts) ok = reads-both R (named_in shapes scalars y t) (all_named_in shapes scalars y ts) (named-rows t ok.0) (all-named-rows ts ok.1)

-- ---- rows after the declared names

abbrev IsAmong : ℕ → List ℕ → Type 0
IsAmong r [] = ⊥
IsAmong r (x ∷ xs) = (x ≡ r) ⊎ IsAmong r xs

among-front : (r : ℕ) (xs ys : List ℕ) → IsAmong r xs → IsAmong r (xs ++ ys)
among-front r [] ys h = absurd h
among-front r (x ∷ xs) ys (inl e) = inl e
among-front r (x ∷ xs) ys (inr h) = inr (among-front r xs ys h)

among-back : (r : ℕ) (xs ys : List ℕ) → IsAmong r ys → IsAmong r (xs ++ ys)
among-back r [] ys h = h
among-back r (x ∷ xs) ys h = inr (among-back r xs ys h)

-- a row that is named is among so many
named-before : (n r : ℕ) (rows : List ℕ) → n ≤ r → IsAmong r rows → r < n + rows_after n rows
named-before n r [] le h = absurd h
named-before n r (x ∷ rows) le (inl e) = omega (arith, e, le)
named-before n r (x ∷ rows) le (inr h) = let z = named-before n r rows le h in omega (arith, z)

-- there are no more than those of a nest where each is one of its
few-after : (n c : ℕ) (rows : List ℕ) → ((r : ℕ) → IsAmong r rows → r < n + c) → rows_after n rows ≤ c
few-after n c [] h = omega arith
few-after n c (x ∷ rows) h =
    let a = h x (inl refl) in
    let b = few-after n c rows (λ r among. h r (inr among)) in
    omega (arith, a, b)

replicate-both : {A : Type 0} (a b : ℕ) (x : A) → replicate (a + b) x ≡ replicate a x ++ replicate b x
replicate-both zero b x = let e : 0 + b ≡ b = omega arith in ap (λ c. replicate c x) e
replicate-both (suc a) b x = let e : suc a + b ≡ suc (a + b) = omega arith in ap (λ c. replicate c x) e ∙ ap (λ l. x ∷ l) (replicate-both a b x)

is-among : (k : ℕ) (xs : List ℕ) → IsAmong k xs → is_in k xs ≡ true
is-among k [] h = absurd h
is-among k (x ∷ xs) (inl e) = let f : nat_eq k x ≡ true = grind (arith, nat_tests, e) in ap (λ t. t || is_in k xs) f
is-among k (x ∷ xs) (inr h) = ap (λ t. nat_eq k x || t) (is-among k xs h) ∙ on (nat_eq k x)
  where
    on : (t : Bool) → (t || true) ≡ true
    on true = refl
    on false = refl

among-map : (f : ℕ → ℕ) (k : ℕ) (ks : List ℕ) → IsAmong k ks → IsAmong (f k) (map f ks)
among-map f k [] h = absurd h
among-map f k (x ∷ ks) (inl e) = inl (ap f e)
among-map f k (x ∷ ks) (inr h) = inr (among-map f k ks h)

copied-assigned : (assigned : List ℕ) (t : Term) (k : ℕ) → IsAmong k (copied_in assigned t) → is_in k assigned ≡ true
copied-assigned assigned t k h =
    second (is_in k (scalars_in t)) (is_in k assigned) (sym (once-in (of_these assigned (scalars_in t)) k ∙ these-in assigned (scalars_in t) k) ∙ is-among k (copied_in assigned t) h)
  where
    second : (a b : Bool) → (a && b) ≡ true → b ≡ true
    second true b e = e
    second false b e = absurd (true≢false (sym e))

-- the scalar whose copies these are
module _ (N : EnteredNest) (k : ℕ) (h : is_in k N.assigned ≡ true) where
  copy-at-place : (q : ℕ) × (q < length N.assigned) × (slice_index_or N.assigned q 0 ≡ k) × (scalar_copy N k ≡ q)
  copy-at-place =
      let j = in-some N.assigned 0 k h in
      let z = in-from N.assigned 0 k j.0 j.1 in
      (z.0, z.2, z.3, ap (λ o. unwrap_or o 0) j.1 ∙ (let e = z.1 in omega (arith, e)))

  pub copy-below : scalar_copy N k < length N.assigned
  copy-below = let z = copy-at-place in let a = z.1 in let b = z.3 in omega (arith, a, b)

  pub copy-is : slice_index_or N.assigned (scalar_copy N k) 0 ≡ k
  copy-is = let z = copy-at-place in ap (λ q. slice_index_or N.assigned q 0) z.3 ∙ z.2

in-among : (k : ℕ) (xs : List ℕ) → is_in k xs ≡ true → IsAmong k xs
in-among k [] h = absurd (true≢false (sym h))
in-among k (x ∷ xs) h = by_test (nat_eq k x) refl h (in-among k xs)
  where
    by_test : (t : Bool) → nat_eq k x ≡ t → (t || is_in k xs) ≡ true → (is_in k xs ≡ true → IsAmong k xs) → IsAmong k (x ∷ xs)
    by_test true e h rest = inl (sym (eq-is k x e))
    by_test false e h rest = inr (rest h)

-- a row of copies has its scalar where no two scalars have one row, and another row has none
scalar-is : (f : ℕ → ℕ) (ks : List ℕ) (k : ℕ) → ((x : ℕ) → IsAmong x ks → f x ≡ f k → x ≡ k) → IsAmong k ks → scalar_of (map f ks) ks (f k) ≡ Some k
scalar-is f [] k one h = absurd h
scalar-is f (x ∷ ks) k one h = by_test (nat_eq (f x) (f k)) refl (λ g. scalar-is f ks k (λ y a. one y (inr a)) g)
  where
    by_test : (t : Bool) → nat_eq (f x) (f k) ≡ t → (IsAmong k ks → scalar_of (map f ks) ks (f k) ≡ Some k) → (if t then Some x else scalar_of (map f ks) ks (f k)) ≡ Some k
    by_test true e rest = ap Some (one x (inl refl) (eq-is (f x) (f k) e))
    by_test false e rest = ⊎_elim (λ (same : x ≡ k). absurd (ne-is (f x) (f k) e (ap f (sym same)))) rest h

scalar-none : (f : ℕ → ℕ) (ks : List ℕ) (r : ℕ) → ((x : ℕ) → IsAmong x ks → f x ≡ r → ⊥) → scalar_of (map f ks) ks r ≡ None
scalar-none f [] r off = refl
scalar-none f (x ∷ ks) r off = by_test (nat_eq (f x) r) refl (scalar-none f ks r (λ y a. off y (inr a)))
  where
    by_test : (t : Bool) → nat_eq (f x) r ≡ t → scalar_of (map f ks) ks r ≡ None → (if t then Some x else scalar_of (map f ks) ks r) ≡ None
    by_test true e rest = absurd (off x (inl refl) (eq-is (f x) r e))
    by_test false e rest = rest

-- ---- the lines of a statement

some-row : (x y : Spot) → Some x ≡ Some y → x.row ≡ y.row
some-row x y e = ap (row_of x.row) e
  where
    row_of : ℕ → Option Spot → ℕ
    row_of d None = d
    row_of d (Some z) = z.row

module _ (s : Setting) (layouts : List Layout) (line : ℕ) (scalars slots : List ℤ) (holds : (k : ℕ) → k < length scalars → slot slots k ≡ slice_index_or scalars k (pos 0))
    (laid : length layouts ≡ length scalars) (N : EnteredNest) (p : NestStatement) (asked : List Asked) (part : NestPart)
    (over : selections_in slots p.over ≡ map Along N.axes) (whens : p.whens ≡ whens_for (length scalars) N asked) (stored : AreStored (length scalars) N asked) (is : IsPart (length scalars) N p part)
    (besides : IsBeside (length scalars) p.beside N.beside) where
  abbrev n : ℕ
  n = length scalars

  abbrev rows : List ℕ
  rows = copy_rows p

  abbrev count : ℕ
  count = rows_after (length layouts) rows

  -- ---- what is read and assigned

  sizes-same : extents (selections_in slots p.over) ≡ index_extents N.axes
  sizes-same = ap extents over ∙ axes-extents N.axes

  whens-same : (ws : List Asked) (u : ℕ) → when_spots (whens_for n N ws) u ≡ conditions_read N scalars ws u
  whens-same [] u = refl
  whens-same (w ∷ ws) u = ap (λ l. copy_at N scalars (condition_copy N w.number) u ∷ l) (whens-same ws u)

  copies-same : (ks : List ℕ) (u : ℕ) → row_spots (map (λ k. n + scalar_copy N k) ks) u ≡ map (λ k. copy_at N scalars (scalar_copy N k) u) ks
  copies-same [] u = refl
  copies-same (k ∷ ks) u = ap (λ l. copy_at N scalars (scalar_copy N k) u ∷ l) (copies-same ks u)

  right-same : (e : Term) → Evaluates n N p e → (u : ℕ) → form_reads s.shapes p.over p.copies p.right slots u ≡ right_read N scalars s.shapes e u
  right-same e h u =
      let at : ℕ → List ℤ = λ t. indices_in p.over slots t in
      (λ i. row_spots (h.copies i) u ++ reads_at s.shapes (at u) (elemental_at slots (at u) (h.right i)))
      ∙ ap (λ y. row_spots (map (λ k. n + scalar_copy N k) p.names) u ++ reads_at s.shapes y (elemental_at slots y (index_form (indexed (index_for n N p.names) e)))) (indices-same p.over slots N.axes over u)
      ∙ (λ i. copies-same p.names u i ++ named-same s.shapes scalars slots holds (indices_at N.axes u) (indexed (index_for n N p.names) e) h.form i)
      ∙ (λ i. map (λ k. copy_at N scalars (scalar_copy N k) u) (h.names i) ++ names-same N.indices p.names s.shapes scalars (indices_at N.axes u) n e h.first h.form i)

  part-reads : (q : NestPart) → IsPart n N p q → (u : ℕ) → form_reads s.shapes p.over p.copies p.right slots u ≡ part_read N scalars s.shapes q u
  part-reads (ScalarPart k e) h u = right-same e h.3 u
  part-reads (ElementPart a ts e) h u = right-same e h.3 u
  part-reads (ConditionPart k (Some e)) h u = right-same e h.3 u
  part-reads (ConditionPart k None) h u = λ i. row_spots (h.4 i) u ++ reads_at s.shapes (indices_in p.over slots u) (elemental_at slots (indices_in p.over slots u) (h.5 i))

  reads-same : (u : ℕ) → when_spots p.whens u ++ form_reads s.shapes p.over p.copies p.right slots u ≡ conditions_read N scalars asked u ++ part_read N scalars s.shapes part u
  reads-same u = λ i. (ap (λ ws. when_spots ws u) whens ∙ whens-same asked u) i ++ part-reads part is u i

  abbrev spot_by : NestLeft → ℕ → Option Spot
  spot_by l u = nest_spot s.shapes (record p { left = l }) slots u

  left-same : (q : NestPart) → IsPart n N p q → (u : ℕ) → spot_by p.left u ≡ part_assigned N scalars s.shapes q u
  left-same (ScalarPart k e) h u = ap (λ l. spot_by l u) h.2
  left-same (ElementPart a ts e) h u =
      let f = index_for n N p.names in
      ap (λ l. spot_by l u) h.2
      ∙ ap (λ y. spot_of s.shapes a (parallel_subscripts y (all_indexed f ts))) (indices-same p.over slots N.axes over u)
      ∙ ap (λ is. spot_of s.shapes a is) (subscripts-same s.shapes scalars slots holds (indices_at N.axes u) (all_indexed f ts) h.4)
      ∙ ap (λ us. spot_of s.shapes a (subscripts_in scalars (indices_at N.axes u) us)) (all-subscripts-same N.indices p.names n ts h.5 h.4)
    where
      parallel_subscripts : List ℤ → Terms → List ℤ
      parallel_subscripts y us = subscripts_at (selections_at slots y (index_subs us)) y
  left-same (ConditionPart k (Some e)) h u = ap (λ l. spot_by l u) h.2
  left-same (ConditionPart k None) h u = ap (λ l. spot_by l u) h.2

  -- ---- the rows of these

  abbrev IsCondition : ℕ → Type 0
  IsCondition r = (k : ℕ) × (r ≡ n + condition_copy N k) × IsAmong r rows

  abbrev IsCopy : ℕ → Type 0
  IsCopy r = (k : ℕ) × IsAmong k p.names × (is_in k N.assigned ≡ true) × (r ≡ n + scalar_copy N k) × IsAmong r rows

  abbrev IsRow : ℕ → Type 0
  IsRow r = (r < n) ⊎ (IsCondition r ⊎ IsCopy r)

  of-whens : (r : ℕ) → IsAmong r (map (λ w. w.copy) p.whens) → IsAmong r rows
  of-whens r h = among-front r (map (λ w. w.copy) p.whens) (p.copies ++ left_rows p.left) h

  of-copies : (r : ℕ) → IsAmong r p.copies → IsAmong r rows
  of-copies r h = among-back r (map (λ w. w.copy) p.whens) (p.copies ++ left_rows p.left) (among-front r p.copies (left_rows p.left) h)

  of-left : (r : ℕ) → p.left ≡ CopyLeft r → IsAmong r rows
  of-left r e =
      among-back r (map (λ w. w.copy) p.whens) (p.copies ++ left_rows p.left) (among-back r p.copies (left_rows p.left) (subst (λ l. IsAmong r (left_rows l)) (sym e) (inl refl)))

  conditions-in : (ws : List Asked) → ((r : ℕ) → IsAmong r (map (λ w. w.copy) (whens_for n N ws)) → IsAmong r rows) → (u : ℕ) → ReadsIn IsRow (conditions_read N scalars ws u)
  conditions-in [] sub u = tt
  conditions-in (w ∷ ws) sub u = (inr (inl (w.number, refl, sub (n + condition_copy N w.number) (inl refl))), conditions-in ws (λ r h. sub r (inr h)) u)

  copies-in : (ks : List ℕ) → ((k : ℕ) → IsAmong k ks → IsAmong k p.names × (is_in k N.assigned ≡ true) × IsAmong (n + scalar_copy N k) rows) → (u : ℕ)
      → ReadsIn IsRow (map (λ k. copy_at N scalars (scalar_copy N k) u) ks)
  copies-in [] own u = tt
  copies-in (k ∷ ks) own u = let o = own k (inl refl) in (inr (inr (k, o.0, o.1, refl, o.2)), copies-in ks (λ j h. own j (inr h)) u)

  right-in : (e : Term) → Evaluates n N p e → (u : ℕ) → ReadsIn IsRow (right_read N scalars s.shapes e u)
  right-in e h u =
      reads-both IsRow (map (λ k. copy_at N scalars (scalar_copy N k) u) (copied_in N.assigned e)) (named_in s.shapes scalars (indices_at N.axes u) (indexed (index_in N.indices 0) e))
      (copies-in (copied_in N.assigned e) (λ k a. (
        subst (IsAmong k) (sym h.names) a,
        copied-assigned N.assigned e k a,
        of-copies (n + scalar_copy N k) (subst (IsAmong (n + scalar_copy N k)) (sym h.copies) (among-map (λ k. n + scalar_copy N k) k p.names (subst (IsAmong k) (sym h.names) a))),
      )) u)
      (subst (ReadsIn IsRow) (names-same N.indices p.names s.shapes scalars (indices_at N.axes u) n e h.first h.form)
      (named-rows s.shapes scalars (indices_at N.axes u) IsRow n (λ a lt. inl lt) (indexed (index_for n N p.names) e) h.form))

  part-in : (q : NestPart) → IsPart n N p q → (u : ℕ) → ReadsIn IsRow (part_read N scalars s.shapes q u)
  part-in (ScalarPart k e) h u = right-in e h.3 u
  part-in (ElementPart a ts e) h u = right-in e h.3 u
  part-in (ConditionPart k (Some e)) h u = right-in e h.3 u
  part-in (ConditionPart k None) h u = tt

  reads-in : (u : ℕ) → ReadsIn IsRow (conditions_read N scalars asked u ++ part_read N scalars s.shapes part u)
  reads-in u =
      reads-both IsRow (conditions_read N scalars asked u) (part_read N scalars s.shapes part u)
      (conditions-in asked (λ r h. of-whens r (subst (λ ws. IsAmong r (map (λ w. w.copy) ws)) (sym whens) h)) u) (part-in part is u)

  row-before : (r : ℕ) → IsAmong r rows → r < n + count
  row-before r h = ⊎_elim (λ (lt : r < n). (omega (arith, lt))) (λ (le : n ≤ r). let z = named-before (length layouts) r rows (omega (arith, laid, le)) h in omega (arith, laid, z)) (cases_lt r n)

  is-before : (r : ℕ) → IsRow r → r < n + count
  is-before r (inl lt) = omega (arith, lt)
  is-before r (inr (inl h)) = row-before r h.2
  is-before r (inr (inr h)) = row-before r h.4

  left-before : (q : NestPart) → IsPart n N p q → (u : ℕ) (x : Spot) → part_assigned N scalars s.shapes q u ≡ Some x → x.row < n + count
  left-before (ScalarPart k e) h u x has = let r = some-row (record { row = n + scalar_copy N k; at = u }) x has in let z = row-before (n + scalar_copy N k) (of-left (n + scalar_copy N k) h.2) in omega (arith, r, z)
  left-before (ElementPart a ts e) h u x has = by_place _ has
    where
      by_place : (o : Option ℕ) → option_map (λ k. record { row = a; at = k }) o ≡ Some x → x.row < n + count
      by_place None e = absurd cc
      by_place (Some k) e = let r = some-row (record { row = a; at = k }) x e in let lt = h.0 in omega (arith, r, lt)
  left-before (ConditionPart k (Some e)) h u x has =
      let r = some-row (record { row = n + condition_copy N k; at = u }) x has in let z = row-before (n + condition_copy N k) (of-left (n + condition_copy N k) h.2) in omega (arith, r, z)
  left-before (ConditionPart k None) h u x has =
      let r = some-row (record { row = n + condition_copy N k; at = u }) x has in let z = row-before (n + condition_copy N k) (of-left (n + condition_copy N k) h.2) in omega (arith, r, z)

  -- no row is after those of the nest's copies
  whens-few : (ws : List Asked) → AreStored n N ws → (r : ℕ) → IsAmong r (map (λ w. w.copy) (whens_for n N ws)) → r < n + (length N.assigned + N.conditions)
  whens-few [] st r h = absurd h
  whens-few (w ∷ ws) st r (inl e) = let lt = st.0 in omega (arith, e, lt)
  whens-few (w ∷ ws) st r (inr h) = whens-few ws st.1 r h

  copies-few : (ks : List ℕ) → ((k : ℕ) → IsAmong k ks → is_in k N.assigned ≡ true) → (r : ℕ) → IsAmong r (map (λ k. n + scalar_copy N k) ks) → r < n + (length N.assigned + N.conditions)
  copies-few [] own r h = absurd h
  copies-few (k ∷ ks) own r (inl e) = let lt = copy-below N k (own k (inl refl)) in omega (arith, e, lt)
  copies-few (k ∷ ks) own r (inr h) = copies-few ks (λ j a. own j (inr a)) r h

  left-few : (l : NestLeft) (row : ℕ) → l ≡ CopyLeft row → row < n + (length N.assigned + N.conditions) → (r : ℕ) → IsAmong r (left_rows l) → r < n + (length N.assigned + N.conditions)
  left-few l row e lt r h = by_row (subst (λ l. IsAmong r (left_rows l)) e h)
    where
      by_row : IsAmong r (row ∷ []) → r < n + (length N.assigned + N.conditions)
      by_row (inl same) = omega (arith, same, lt)
      by_row (inr z) = absurd z

  both-few : (xs ys : List ℕ) (c : ℕ) → ((r : ℕ) → IsAmong r xs → r < c) → ((r : ℕ) → IsAmong r ys → r < c) → (r : ℕ) → IsAmong r (xs ++ ys) → r < c
  both-few [] ys c f g r h = g r h
  both-few (x ∷ xs) ys c f g r (inl e) = f r (inl e)
  both-few (x ∷ xs) ys c f g r (inr h) = both-few xs ys c (λ j a. f j (inr a)) g r h

  right-few : (e : Term) → Evaluates n N p e → (r : ℕ) → IsAmong r p.copies → r < n + (length N.assigned + N.conditions)
  right-few e h r a = copies-few p.names (λ k b. copied-assigned N.assigned e k (subst (IsAmong k) h.names b)) r (subst (IsAmong r) h.copies a)

  rows-few : (q : NestPart) → IsPart n N p q → (r : ℕ) → IsAmong r (p.copies ++ left_rows p.left) → r < n + (length N.assigned + N.conditions)
  rows-few (ScalarPart k e) h = both-few p.copies (left_rows p.left) _ (right-few e h.3) (left-few p.left (n + scalar_copy N k) h.2 (let lt = copy-below N k h.0 in omega (arith, lt)))
  rows-few (ElementPart a ts e) h =
      both-few p.copies (left_rows p.left) _ (right-few e h.3) (λ r z. absurd (subst (λ l. IsAmong r (left_rows l)) h.2 z))
  rows-few (ConditionPart k (Some e)) h = both-few p.copies (left_rows p.left) _ (right-few e h.3) (left-few p.left (n + condition_copy N k) h.2 (let lt = h.0 in omega (arith, lt)))
  rows-few (ConditionPart k None) h =
      both-few p.copies (left_rows p.left) _ (λ r z. absurd (subst (IsAmong r) h.4 z)) (left-few p.left (n + condition_copy N k) h.2 (let lt = h.0 in omega (arith, lt)))

  few : count ≤ length N.assigned + N.conditions
  few =
      few-after (length layouts) (length N.assigned + N.conditions) rows (λ r h. subst (λ m. r < m + (length N.assigned + N.conditions)) (sym laid)
      (both-few (map (λ w. w.copy) p.whens) (p.copies ++ left_rows p.left) (n + (length N.assigned + N.conditions))
      (λ j a. whens-few asked stored j (subst (λ ws. IsAmong j (map (λ w. w.copy) ws)) whens a)) (rows-few part is) r h))

  -- ---- names

  abbrev event_setting : Setting
  event_setting = with_copied s (copies_of N scalars) N.assigned

  abbrev own_setting : Setting
  own_setting = with_copied s p.copies p.names

  part-copies : (q : NestPart) → IsPart n N p q → p.copies ≡ map (λ k. n + scalar_copy N k) p.names
  part-copies (ScalarPart k e) h = h.3.copies
  part-copies (ElementPart a ts e) h = h.3.copies
  part-copies (ConditionPart k (Some e)) h = h.3.copies
  part-copies (ConditionPart k None) h = h.4 ∙ ap (map (λ k. n + scalar_copy N k)) (sym h.3)

  part-assigned : (q : NestPart) → IsPart n N p q → (k : ℕ) → IsAmong k p.names → is_in k N.assigned ≡ true
  part-assigned (ScalarPart k e) h j a = copied-assigned N.assigned e j (subst (IsAmong j) h.3.names a)
  part-assigned (ElementPart b ts e) h j a = copied-assigned N.assigned e j (subst (IsAmong j) h.3.names a)
  part-assigned (ConditionPart k (Some e)) h j a = copied-assigned N.assigned e j (subst (IsAmong j) h.3.names a)
  part-assigned (ConditionPart k None) h j a = absurd (subst (IsAmong j) h.3 a)

  abbrev place : ℕ → ℕ
  place k = n + scalar_copy N k

  one-place : (x k : ℕ) → is_in x N.assigned ≡ true → is_in k N.assigned ≡ true → place x ≡ place k → x ≡ k
  one-place x k h g e =
      let same : scalar_copy N x ≡ scalar_copy N k = omega (arith, e) in sym (copy-is N x h) ∙ ap (λ q. slice_index_or N.assigned q 0) same ∙ copy-is N k g

  -- the scalars of a row
  scalars-agree : (r : ℕ) → IsRow r → scalar_of (map place N.assigned) N.assigned r ≡ scalar_of (map place p.names) p.names r
  scalars-agree r (inl lt) = scalar-none place N.assigned r (λ x a e. omega (arith, e, lt)) ∙ sym (scalar-none place p.names r (λ x a e. omega (arith, e, lt)))
  scalars-agree r (inr (inl (k, e, among))) =
      scalar-none place N.assigned r (λ x a f. let lt = copy-below N x (is-among x N.assigned a) in omega (arith, e, f, lt))
      ∙ sym (scalar-none place p.names r (λ x a f. let lt = copy-below N x (part-assigned part is x a) in omega (arith, e, f, lt)))
  scalars-agree r (inr (inr (k, own, in_it, e, among))) =
      ap (scalar_of (map place N.assigned) N.assigned) e
      ∙ scalar-is place N.assigned k (λ x a f. one-place x k (is-among x N.assigned a) in_it f) (in-among k N.assigned in_it)
      ∙ sym (ap (scalar_of (map place p.names) p.names) e ∙ scalar-is place p.names k (λ x a f. one-place x k (part-assigned part is x a) in_it f) own)

  names-agree : (r : ℕ) → IsRow r → row_name event_setting r ≡ row_name own_setting r
  names-agree r h = ap (λ o. name_by s o r) (scalars-agree r h ∙ ap (λ cs. scalar_of cs p.names r) (sym (part-copies part is)))

  -- ---- all together

  -- what they lie beside, and how
  abbrev anchor : Option Anchor
  anchor = anchor_in slots p.over p.beside

  abbrev lying : Layout
  lying = aligned_layout s.nodes layouts anchor (copies_extents p.over slots)

  abbrev copies_of_event : List Layout
  copies_of_event = with_copies s layouts (length N.assigned + N.conditions) (anchor_over scalars N.axes N.beside) (index_extents N.axes)

  abbrev copies_here : List Layout
  copies_here = with_copies s layouts count anchor (copies_extents p.over slots)

  abbrev more : List Layout
  more = replicate (length N.assigned + N.conditions - count) lying

  event-layouts : copies_of_event ≡ copies_here ++ more
  event-layouts =
      let f = few in
      let e : length N.assigned + N.conditions ≡ count + (length N.assigned + N.conditions - count) = omega (arith, f) in
      let same : anchor ≡ anchor_over scalars N.axes N.beside = beside-same scalars slots holds p.over N.axes p.beside N.beside over besides in
      (λ i. with_copies s layouts (length N.assigned + N.conditions) (sym same i) (sym sizes-same i))
      ∙ ap (λ c. layouts ++ replicate c lying) e
      ∙ ap (λ l. layouts ++ l) (replicate-both count (length N.assigned + N.conditions - count) lying)
      ∙ sym (append_assoc layouts (replicate count lying) more)

  long-here : length copies_here ≡ n + count
  long-here = let a = length-append layouts (replicate count lying) in let b = length-replicate count lying in omega (arith, a, b, laid)

  pub nest-lines-same : part_lines own_setting copies_here line (par_part copies_here (nest_tuples s.shapes p) (nest_spot s.shapes p) slots)
      ≡ part_lines event_setting copies_of_event line (part_of s copies_of_event scalars (OfNest N asked part))
  nest-lines-same =
      let reads : ℕ → List (Option Spot) = λ u. conditions_read N scalars asked u ++ part_read N scalars s.shapes part u in
      let left : ℕ → Option Spot = λ u. part_assigned N scalars s.shapes part u in
      let here : (r : ℕ) → r < n + count → r < length copies_here = λ r lt. let l = long-here in omega (arith, l, lt) in
      (λ i. part_lines own_setting copies_here line (record {
        tuples = space_count (sizes-same i);
        reads = λ u. reads-same u i;
        computes = λ node t. computes_left copies_here node (in_bounds copies_here (left-same part is t i));
      }))
      ∙ sym (part-lines-same s.nodes (space_count (index_extents N.axes)) reads IsRow reads-in left copies_here more (λ r h. here r (is-before r h)) (λ u x e. here x.row (left-before part is u x e))
      event_setting own_setting names-agree line refl refl)
      ∙ ap (λ ls. part_lines event_setting ls line (part_of s ls scalars (OfNest N asked part))) (sym event-layouts)
