-- The bounds of a nest's loops in slots.
use Rattle.std.proofs.Common.{◌≡◌, ℕ, ◌+◌, ◌*◌, ◌<◌, ◌≤◌, List, [], ◌∷◌, ◌++◌, map, reverse, length, ℤ, pos, Bool, true, false, if◌then◌else◌, Ok, refl, sym, ap, ◌∙◌, arith, slice_set, get_or-set_other}
use Rattle.std.specs.Result.{result_unwrap_or}
use Rattle.std.proofs.lemmas.List.{reverse-append, map-append}
use Rattle.op_tables.specs.Operators.{wrapped, is_zero}
use Rattle.array_meaning.specs.Faults.{fails}
use Rattle.array_meaning.specs.declared.faults.FaultKind.TheVariants.{ZeroStride}
use Rattle.array_meaning.specs.declared.sections.Sequence.{Sequence}
use Rattle.array_meaning.specs.declared.sections.Selection.TheVariants.{At, Along}
use Rattle.array_meaning.specs.Sections.{sequence, value_count}
use Rattle.array_meaning.specs.State.{State}
use Rattle.array_meaning.specs.Statements.{Loop}
use Rattle.array_meaning.specs.Iterations.{values_of}
use Rattle.code_meaning.specs.Flat.{slot, flat_value, or_zero}
use Rattle.node_code.specs.Forms.{Sub, SubAt, SubAlong}
use Rattle.code_meaning.specs.Forms.{sequence_in, selections_in}
use Rattle.program_code.specs.NestCode.{along}

-- ---- the values of a triplet

pub sequence-parts : (a z d : ℤ) (p : Sequence) → sequence a z d ≡ Ok p → (p.first ≡ a) × (p.step ≡ d)
sequence-parts a z d p h = by_test (is_zero d) h
  where
    q : Sequence
    q = record { first = a; step = d; count = value_count (wrapped a) (wrapped z) (wrapped d) }

    by_test : (t : Bool) → (if t then fails ZeroStride else Ok q) ≡ Ok p → (p.first ≡ a) × (p.step ≡ d)
    by_test true h = absurd cc
    by_test false h = (ap (λ r. (result_unwrap_or r q).first) (sym h), ap (λ r. (result_unwrap_or r q).step) (sym h))

sequence-whole : (slots : List ℤ) (v : ℕ) (p : Sequence) → sequence (slot slots v) (slot slots (v + 1)) (slot slots (v + 2)) ≡ Ok p → sequence_in slots v ≡ p
sequence-whole slots v p h = by_test (is_zero (slot slots (v + 2))) h
  where
    by_test : (t : Bool) → (if t then fails ZeroStride else Ok (sequence_in slots v)) ≡ Ok p → sequence_in slots v ≡ p
    by_test true h = absurd cc
    by_test false h = ap (λ r. result_unwrap_or r p) h

-- ---- bounds in slots

pub set-past : (x k : ℕ) (slots : List ℤ) (v : ℤ) → (k ≡ x → ⊥) → slot (slice_set slots x v) k ≡ slot slots k
set-past x k slots v ne = get_or-set_other slots x k v (pos 0) ne

module _ (s : State) where
  -- the bounds of loops are in slots from v on, four for each
  abbrev pub HaveBounds : List ℤ → ℕ → List Loop → Type 0
  HaveBounds slots v [] = Unit {0}
  HaveBounds slots v (l ∷ ls) = (sequence (slot slots v) (slot slots (v + 1)) (slot slots (v + 2)) ≡ Ok (values_of s l)) × HaveBounds slots (v + 4) ls

  pub first-kept : (slots slots' : List ℤ) (v : ℕ) (p : Sequence) → ((k : ℕ) → v ≤ k → k < v + 3 → slot slots' k ≡ slot slots k)
      → sequence (slot slots v) (slot slots (v + 1)) (slot slots (v + 2)) ≡ Ok p → sequence (slot slots' v) (slot slots' (v + 1)) (slot slots' (v + 2)) ≡ Ok p
  first-kept slots slots' v p same h =
      let e0 = same v (omega arith) (omega arith) in
      let e1 = same (v + 1) (omega arith) (omega arith) in
      let e2 = same (v + 2) (omega arith) (omega arith) in
      (λ i. sequence (e0 i) (e1 i) (e2 i)) ∙ h

  pub bounds-kept : (ls : List Loop) (v : ℕ) (slots slots' : List ℤ) → ((k : ℕ) → v ≤ k → k < v + 4 * length ls → slot slots' k ≡ slot slots k) → HaveBounds slots v ls
      → HaveBounds slots' v ls
  bounds-kept [] v slots slots' same h = tt
  bounds-kept (l ∷ ls) v slots slots' same h = (
    first-kept slots slots' v (values_of s l) (λ k from lt. same k from (omega (arith, lt))) h.0,
    bounds-kept ls (v + 4) slots slots' (λ k from lt. same k (omega (arith, from)) (omega (arith, lt))) h.1,
  )

  -- the bounds after one loop has begun
  pub begun : (l : Loop) (ls : List Loop) (v c : ℕ) (slots : List ℤ) → HaveBounds slots v (l ∷ ls) → HaveBounds (slice_set slots (v + 3) (wrapped (pos c))) v (l ∷ ls)
  begun l ls v c slots h = (
    first-kept slots (slice_set slots (v + 3) (wrapped (pos c))) v (values_of s l) (λ k from lt. set-past (v + 3) k slots (wrapped (pos c)) (λ e. omega (arith, e, lt))) h.0,
    bounds-kept ls (v + 4) slots (slice_set slots (v + 3) (wrapped (pos c))) (λ k from lt. set-past (v + 3) k slots (wrapped (pos c)) (λ e. omega (arith, e, from))) h.1,
  )

  selections-join : (slots : List ℤ) (xs ys : List Sub) → selections_in slots (xs ++ ys) ≡ selections_in slots xs ++ selections_in slots ys
  selections-join slots [] ys = refl
  selections-join slots (SubAlong v ∷ xs) ys = ap (λ ds. Along (sequence_in slots v) ∷ ds) (selections-join slots xs ys)
  selections-join slots (SubAt f ∷ xs) ys = ap (λ ds. At (or_zero (flat_value slots [] [] f)) ∷ ds) (selections-join slots xs ys)

  pub axes-in : (ls : List Loop) (v : ℕ) (slots : List ℤ) → HaveBounds slots v ls → selections_in slots (along v ls) ≡ map Along (reverse (map (values_of s) ls))
  axes-in [] v slots h = refl
  axes-in (l ∷ ls) v slots h =
      selections-join slots (along (v + 4) ls) (SubAlong v ∷ [])
      ∙ ap (λ ds. ds ++ Along (sequence_in slots v) ∷ []) (axes-in ls (v + 4) slots h.1)
      ∙ ap (λ p. map Along (reverse (map (values_of s) ls)) ++ Along p ∷ []) (sequence-whole slots v (values_of s l) h.0)
      ∙ sym (map-append Along (reverse (map (values_of s) ls)) (values_of s l ∷ []))
      ∙ sym (ap (map Along) (reverse-append (values_of s l ∷ []) (map (values_of s) ls)))
