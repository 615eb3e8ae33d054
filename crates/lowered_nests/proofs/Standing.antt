-- Slots and rows at the entry of a nest, by what it is and by the numbers of its rows.
use Rattle.std.proofs.Common.{◌≡◌, ℕ, zero, suc, ◌+◌, ◌*◌, ◌<◌, ◌≤◌, nat_eq, nat_lt, List, [], ◌∷◌, ◌++◌, length, map, slice_index_or, ℤ, Bool, true, false, Some, if◌then◌else◌, refl, sym, ap, ◌∙◌, subst, arith}
use Rattle.std.specs.Prelude.{nat_le}
use Rattle.std.specs.List.{Contains}
use Rattle.std.proofs.lemmas.Bool.Decides.{nat_tests}
use Rattle.std.proofs.lemmas.List.Elements.{Contains-append_left, Contains-append_right}
use Rattle.array_meaning.specs.declared.limits.TheConstants.{MAX_TUPLES}
use Rattle.hpf_base.specs.ElementOrder.{product}
use Rattle.machine_steps.specs.Space.{space_count}
use Rattle.array_meaning.specs.declared.sections.Sequence.{Sequence}
use Rattle.array_meaning.specs.declared.sections.Selection.TheVariants.{At, Along}
use Rattle.op_tables.specs.Operators.{wrapped}
use Rattle.array_meaning.specs.Sections.{value_count, extents, subscripts_at, positions}
use Rattle.array_meaning.specs.Forall.{index_extents, indices_at}
use Rattle.array_meaning.specs.Statements.{Loop}
use Rattle.code_meaning.specs.Flat.{slot, flat_value, or_zero}
use Rattle.node_code.specs.Forms.{Sub, SubAt, SubAlong}
use Rattle.code_meaning.specs.Forms.{sequence_in, selections_in}
use Rattle.code_meaning.specs.Parallel.{indices_in}
use Rattle.lowered_expressions.proofs.Indexed.{axes-extents}
use Rattle.nest_syntax.specs.NestKinds.{Kind, Shared, New, Assigned, Reduced}
use Rattle.nest_syntax.specs.Finals.{Final}
use Rattle.nest_machine.specs.Entries.{Entry, at_zero, final_entries, finals_entries, conditions_entries, nest_entries}
use Rattle.statement_trail.specs.NestParts.{index_in}
use Rattle.program_code.specs.Places.{conditions_from, final_by, finals_from, finals_of}
use Rattle.nest_join.proofs.Names.{eq-is}
use Rattle.program_code.specs.NestCode.{along}

-- ---- the values of the nest's indices

selections-both : (xs : List ℤ) (a b : List Sub) → selections_in xs (a ++ b) ≡ selections_in xs a ++ selections_in xs b
selections-both xs [] b = refl
selections-both xs (SubAt f ∷ a) b = ap (λ ds. At (or_zero (flat_value xs [] [] f)) ∷ ds) (selections-both xs a b)
selections-both xs (SubAlong v ∷ a) b = ap (λ ds. Along (sequence_in xs v) ∷ ds) (selections-both xs a b)

same-sequence : (xs ys : List ℤ) (v : ℕ) → ((x : ℕ) → v ≤ x → x < v + 4 → slot xs x ≡ slot ys x) → Along (sequence_in xs v) ≡ Along (sequence_in ys v)
same-sequence xs ys v h =
    let a = h v (omega arith) (omega arith) in
    let b = h (v + 1) (omega arith) (omega arith) in
    let c = h (v + 2) (omega arith) (omega arith) in
    three a b c
  where
    three : slot xs v ≡ slot ys v → slot xs (v + 1) ≡ slot ys (v + 1) → slot xs (v + 2) ≡ slot ys (v + 2)
        → Along (sequence_in xs v) ≡ Along (sequence_in ys v)
    three a b c = λ i. Along (record {
      first = a i;
      step = c i;
      count = value_count (wrapped (a i)) (wrapped (b i)) (wrapped (c i));
    })

pub same-along : (ls : List Loop) (v : ℕ) (xs ys : List ℤ) → ((x : ℕ) → v ≤ x → x < v + 4 * length ls → slot xs x ≡ slot ys x)
    → selections_in xs (along v ls) ≡ selections_in ys (along v ls)
same-along [] v xs ys h = refl
same-along (l ∷ ls) v xs ys h =
    let inner = same-along ls (v + 4) xs ys (λ x le lt. h x (omega (arith, le)) (omega (arith, lt))) in
    let own = same-sequence xs ys v (λ x le lt. h x le (omega (arith, lt))) in
    selections-both xs (along (v + 4) ls) (SubAlong v ∷ []) ∙ (λ i. inner i ++ own i ∷ []) ∙ sym (selections-both ys (along (v + 4) ls) (SubAlong v ∷ []))

module _ (over : List Sub) (axes : List Sequence) (slots : List ℤ) (gives : selections_in slots over ≡ map Along axes) where
  pub these-extents : extents (selections_in slots over) ≡ index_extents axes
  these-extents = ap extents gives ∙ axes-extents axes

  pub these-indices : (t : ℕ) → indices_in over slots t ≡ indices_at axes t
  these-indices t =
      ap (λ ds. subscripts_at ds (positions (extents ds) t)) gives ∙ ap (λ ms. subscripts_at (map Along axes) (positions ms t)) (axes-extents axes)

  pub these-many : product (index_extents axes) ≤ MAX_TUPLES → space_count (extents (selections_in slots over)) ≡ product (index_extents axes)
  these-many le = ap space_count these-extents ∙ small (product (index_extents axes)) le
    where
      small : (m : ℕ) → m ≤ MAX_TUPLES → (if nat_le m MAX_TUPLES then m else 0) ≡ m
      small m le = let e : nat_le m MAX_TUPLES ≡ true = grind (arith, nat_tests, le) in ap (λ b. if b then m else 0) e

-- ---- the rows that are made

abbrev AllBelow : ℕ → List Entry → Type 0
AllBelow m [] = Unit {0}
AllBelow m (e ∷ es) = (e.row < m) × AllBelow m es

pub below-of : (m : ℕ) (es : List Entry) (e : Entry) → AllBelow m es → Contains es e → e.row < m
below-of m es e h c = at es c.0 h c.1 c.2
  where
    at : (es : List Entry) (k : ℕ) → AllBelow m es → k < length es → slice_index_or es k e ≡ e → e.row < m
    at [] k h lt z = absurd (omega (arith, lt))
    at (x ∷ es) zero h lt z = subst (λ (y : Entry). y.row < m) z h.0
    at (x ∷ es) (suc k) h lt z = at es k h.1 (omega (arith, lt)) z

below-both : (m : ℕ) (xs ys : List Entry) → AllBelow m xs → AllBelow m ys → AllBelow m (xs ++ ys)
below-both m [] ys h g = g
below-both m (x ∷ xs) ys h g = (h.0, below-both m xs ys h.1 g)

conditions-below : (m stored c : ℕ) → stored + c ≤ m → AllBelow m (conditions_entries stored c)
conditions-below m stored zero le = tt
conditions-below m stored (suc c) le =
    below-both m (conditions_entries stored c) (at_zero (stored + c) ∷ []) (conditions-below m stored c (omega (arith, le))) ((omega (arith, le)), tt)

module _ (n : ℕ) (scalars : List ℕ) (conditions : ℕ) (kinds : ℕ → Kind) where
  abbrev total : ℕ
  total = n + (length scalars + conditions + length scalars)

  final-below : (kind : Kind) (j k : ℕ) → j < length scalars → AllBelow total (final_entries (final_by n scalars conditions kind j k))
  final-below Shared j k lt = ((omega (arith, lt)), ((omega (arith, lt)), tt))
  final-below New j k lt = ((omega (arith, lt)), ((omega (arith, lt)), tt))
  final-below Assigned j k lt = ((omega (arith, lt)), ((omega (arith, lt)), tt))
  final-below (Reduced op) j k lt = ((omega (arith, lt)), tt)

  finals-below : (ks : List ℕ) (j : ℕ) → j + length ks ≤ length scalars → AllBelow total (finals_entries (finals_from n scalars conditions kinds j ks))
  finals-below [] j le = tt
  finals-below (k ∷ ks) j le =
      below-both total (final_entries (final_by n scalars conditions (kinds k) j k)) (finals_entries (finals_from n scalars conditions kinds (suc j) ks))
      (final-below (kinds k) j k (omega (arith, le))) (finals-below ks (suc j) (omega (arith, le)))

  abbrev entries : List Entry
  entries = nest_entries (finals_of n scalars conditions kinds) (conditions_from n scalars conditions) conditions

  pub entries-below : AllBelow total entries
  entries-below =
      below-both total (finals_entries (finals_of n scalars conditions kinds)) (conditions_entries (conditions_from n scalars conditions) conditions)
      (finals-below scalars 0 (omega arith)) (conditions-below total (conditions_from n scalars conditions) conditions (omega arith))

  -- a condition is made
  made-in : (stored m c : ℕ) → c < m → Contains (conditions_entries stored m) (at_zero (stored + c))
  made-in stored zero c lt = absurd (omega (arith, lt))
  made-in stored (suc m) c lt = by_test (nat_lt c m) refl (made-in stored m c)
    where
      by_test : (t : Bool) → nat_lt c m ≡ t → (c < m → Contains (conditions_entries stored m) (at_zero (stored + c)))
          → Contains (conditions_entries stored m ++ at_zero (stored + m) ∷ []) (at_zero (stored + c))
      by_test true e g =
          let lt' : c < m = grind (arith, nat_tests, e) in
          Contains-append_left (conditions_entries stored m) (at_zero (stored + m) ∷ []) (at_zero (stored + c)) (g lt')
      by_test false e g =
          let same : m ≡ c = grind (arith, nat_tests, e, lt) in
          subst (λ x. Contains (conditions_entries stored m ++ at_zero (stored + m) ∷ []) (at_zero (stored + x))) same
          (Contains-append_right (conditions_entries stored m) (at_zero (stored + m) ∷ []) (at_zero (stored + m)) (0, omega arith, refl))

  pub condition-made : (c : ℕ) → c < conditions → Contains entries (at_zero (conditions_from n scalars conditions + c))
  condition-made c lt =
      Contains-append_right (finals_entries (finals_of n scalars conditions kinds)) (conditions_entries (conditions_from n scalars conditions) conditions)
      (at_zero (conditions_from n scalars conditions + c)) (made-in (conditions_from n scalars conditions) conditions c lt)

  -- the first entry of a final
  abbrev first_of : Final → Entry → Type 0
  first_of f e = Contains (final_entries f) e

  pub final-made : (k j : ℕ) (e : Entry) → index_in scalars 0 k ≡ Some j → first_of (final_by n scalars conditions (kinds k) j k) e → Contains entries e
  final-made k j e at has =
      Contains-append_left (finals_entries (finals_of n scalars conditions kinds)) (conditions_entries (conditions_from n scalars conditions) conditions) e (among scalars 0 at)
    where
      among : (ks : List ℕ) (i : ℕ) → index_in ks i k ≡ Some j → Contains (finals_entries (finals_from n scalars conditions kinds i ks)) e
      among [] i h = absurd cc
      among (x ∷ ks) i h = by_test (nat_eq x k) refl h (among ks (suc i))
        where
          by_test : (t : Bool) → nat_eq x k ≡ t → (if t then Some i else index_in ks (suc i) k) ≡ Some j
              → (index_in ks (suc i) k ≡ Some j → Contains (finals_entries (finals_from n scalars conditions kinds (suc i) ks)) e)
              → Contains (final_entries (final_by n scalars conditions (kinds x) i x) ++ finals_entries (finals_from n scalars conditions kinds (suc i) ks)) e
          by_test true same h g =
              let name : k ≡ x = sym (eq-is x k same) in
              let at' : j ≡ i = (let y : i ≡ j = cc in sym y) in
              Contains-append_left (final_entries (final_by n scalars conditions (kinds x) i x)) (finals_entries (finals_from n scalars conditions kinds (suc i) ks)) e
              (subst (λ f. first_of f e) (λ p. final_by n scalars conditions (kinds (name p)) (at' p) (name p)) has)
          by_test false same h g =
              Contains-append_right (final_entries (final_by n scalars conditions (kinds x) i x)) (finals_entries (finals_from n scalars conditions kinds (suc i) ks)) e (g h)
