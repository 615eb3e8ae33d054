-- The code of a nest's indices on the machine gives each its value after the loops.
use Rattle.std.proofs.Common.{◌≡◌, ℕ, zero, suc, ◌+◌, ◌*◌, ◌<◌, ◌≤◌, ◌⊎◌, inl, inr, ⊎_elim, List, [], ◌∷◌, length, ℤ, pos, ◌+ℤ◌, ◌*ℤ◌, Ok, refl, sym, ap, ◌∙◌, subst, arith, slice_set, length-set, get_or-set_same}
use Rattle.std.specs.List.{AllByRecursion}
use Rattle.std.proofs.lemmas.Bool.{cases_eq}
use Rattle.op_tables.specs.declared.op.Op.TheVariants as op
use Rattle.op_tables.specs.Operators.{wrapped}
use Rattle.storage.specs.Storage.{Storage}
use Rattle.array_meaning.specs.declared.sections.Sequence.{Sequence}
use Rattle.array_meaning.specs.State.{State}
use Rattle.array_meaning.specs.Statements.{Loop}
use Rattle.array_meaning.specs.Iterations.{values_of, turn_value}
use Rattle.code_meaning.specs.Flat.{slot, flat_value}
use Rattle.node_code.specs.Flat.{Int, Slot, Operated, NoFlat, AndFlat}
use Rattle.node_code.specs.Instructions.{Instruction, NewMapping}
use Rattle.code_meaning.specs.Instructions.{ArrayTable}
use Rattle.lowered_expressions.proofs.Reach.{HasAt}
use Rattle.program_code.specs.NestCode.{indices_code}
use Rattle.lowered_nests.proofs.IndexValues.{AreOther, AreApart, by_trips, code-last, last-none, last-some, left, left-here, left-past, left-none}
use Rattle.lowered_nests.proofs.LoopBounds.{sequence-parts, HaveBounds, bounds-kept, set-past, begun}
use Rattle.lowered_nests.proofs.LoopTrips.{Steps, on, stay, sets, no-trip, some-trips}

module _ (table : ArrayTable) (row_count : ℕ) (moves : ℕ → List NewMapping) (code : List Instruction) (n many line : ℕ) (s : State) (rows : Storage) (out : List ℕ) where
  -- what is so after the code of the indices from v on
  pub record Settled (ls : List Loop) (v : ℕ) (slots slots' : List ℤ) : Type 0 where
    pub size : length slots' ≡ length slots
    pub indices : (k : ℕ) → k < n → slot slots' k ≡ left s ls k (slot slots k)
    pub others : (k : ℕ) → n ≤ k → k < v → slot slots' k ≡ slot slots k

  -- one loop, which ends the code where it makes no trip
  module _ (l : Loop) (ls : List Loop) (v pc target : ℕ) (slots : List ℤ) (has : HasAt code pc (indices_code line v target (l ∷ ls))) (bounds : HaveBounds s slots v (l ∷ ls)) (below : l.index < n)
      (apart : AreOther l.index ls) (le : n ≤ v) (few : v + 4 ≤ length slots) where
    abbrev x : ℕ
    x = l.index

    abbrev p : Sequence
    p = values_of s l

    abbrev slots1 : List ℤ
    slots1 = slice_set slots x (slot slots v)

    parts : (p.first ≡ slot slots v) × (p.step ≡ slot slots (v + 2))
    parts = sequence-parts (slot slots v) (slot slots (v + 1)) (slot slots (v + 2)) p bounds.0

    long1 : length slots1 ≡ length slots
    long1 = length-set slots x (slot slots v)

    past1 : (k : ℕ) → n ≤ k → slot slots1 k ≡ slot slots k
    past1 k from = set-past x k slots (slot slots v) (λ e. omega (arith, e, from, below))

    bounds1 : HaveBounds s slots1 v (l ∷ ls)
    bounds1 = bounds-kept s (l ∷ ls) v slots slots1 (λ k from lt. past1 k (omega (arith, from, le))) bounds

    first-set : Steps table row_count moves code n many line s rows out pc slots (pc + 1) slots1
    first-set = sets table row_count moves code n many line s rows out pc x slots (Slot v) (slot slots v) has.0 refl

    pub index-stays : p.count ≡ 0 → (slots' : List ℤ) × Steps table row_count moves code n many line s rows out pc slots target slots' × Settled (l ∷ ls) v slots slots'
    index-stays e = (
      slots1,
      on table row_count moves code n many line s rows out pc (pc + 1) target slots slots1 slots1 first-set (no-trip table row_count moves code n many line s rows out (pc + 1) v target slots1 p has.1.0 bounds1.0 e),
      record {
        size = long1;
        indices = λ k lt. ⊎_elim
            (λ (same : k ≡ x). subst (λ j. slot slots1 j ≡ slot slots v) (sym same) (get_or-set_same slots x (slot slots v) (pos 0) (omega (arith, below, le, few)))
            ∙ sym parts.0 ∙ sym (last-none p e) ∙ sym (left-here s l ls k (slot slots k) (sym same)))
            (λ (ne : k ≡ x → ⊥). set-past x k slots (slot slots v) ne
            ∙ sym (left-past s l ls k (slot slots k) (λ z. ne (sym z)) ∙ ap (λ m. by_trips m (slot slots k) (left s ls k (slot slots k))) e))
            (cases_eq k x);
        others = λ k from lt. past1 k from;
      },
    )

    module _ (c : ℕ) (count : p.count ≡ suc c) where
      abbrev w : ℤ
      w = turn_value p (suc c)

      abbrev slots2 : List ℤ
      slots2 = slice_set slots1 (v + 3) (wrapped (pos c))

      abbrev pub slots3 : List ℤ
      slots3 = slice_set slots2 x w

      long2 : length slots2 ≡ length slots1
      long2 = length-set slots1 (v + 3) (wrapped (pos c))

      pub long3 : length slots3 ≡ length slots
      long3 = length-set slots2 x w ∙ long2 ∙ long1

      bounds2 : HaveBounds s slots2 v (l ∷ ls)
      bounds2 = begun s l ls v c slots1 bounds1

      past3 : (k : ℕ) → n ≤ k → slot slots3 k ≡ slot slots2 k
      past3 k from = set-past x k slots2 w (λ e. omega (arith, e, from, below))

      pub bounds3 : HaveBounds s slots3 v (l ∷ ls)
      bounds3 = bounds-kept s (l ∷ ls) v slots2 slots3 (λ k from lt. past3 k (omega (arith, from, le))) bounds2

      value2 : flat_value slots2 [] []
          (Operated op.Add (AndFlat (Slot v)
          (AndFlat (Operated op.Mul (AndFlat (Operated op.Add (AndFlat (Slot (v + 3)) (AndFlat (Int (pos 1)) NoFlat))) (AndFlat (Slot (v + 2)) NoFlat))) NoFlat)))
          ≡ Ok w
      value2 =
          let ea : slot slots2 v ≡ p.first = set-past (v + 3) v slots1 (wrapped (pos c)) (λ e. omega (arith, e)) ∙ past1 v le ∙ sym parts.0 in
          let el : slot slots2 (v + 3) ≡ wrapped (pos c) = get_or-set_same slots1 (v + 3) (wrapped (pos c)) (pos 0) (let long = long1 in omega (arith, few, long)) in
          let ed : slot slots2 (v + 2) ≡ p.step = set-past (v + 3) (v + 2) slots1 (wrapped (pos c)) (λ e. omega (arith, e)) ∙ past1 (v + 2) (omega (arith, le)) ∙ sym parts.1 in
          ap Ok ((λ i. wrapped (ea i +ℤ wrapped (wrapped (el i +ℤ pos 1) *ℤ ed i))) ∙ code-last p c)

      pub index-ends : Steps table row_count moves code n many line s rows out pc slots (pc + 1 + 1 + 1) slots3
      index-ends =
          on table row_count moves code n many line s rows out pc (pc + 1) (pc + 1 + 1 + 1) slots slots1 slots3 first-set
          (on table row_count moves code n many line s rows out (pc + 1) (pc + 1 + 1) (pc + 1 + 1 + 1) slots1 slots2 slots3 (some-trips table row_count moves code n many line s rows out (pc + 1) v target slots1 p has.1.0 bounds1.0 c count)
          (sets table row_count moves code n many line s rows out (pc + 1 + 1) x slots2
          (Operated op.Add (AndFlat (Slot v)
          (AndFlat (Operated op.Mul (AndFlat (Operated op.Add (AndFlat (Slot (v + 3)) (AndFlat (Int (pos 1)) NoFlat))) (AndFlat (Slot (v + 2)) NoFlat))) NoFlat)))
          w has.1.1.0 value2))

      pub index-settled : (slots' : List ℤ) → Settled ls (v + 4) slots3 slots' → Settled (l ∷ ls) v slots slots'
      index-settled slots' rest = record {
        size = rest.size ∙ long3;
        indices = λ k lt. rest.indices k lt ∙ ⊎_elim
            (λ (same : k ≡ x).
            ap (left s ls k) (subst (λ j. slot slots3 j ≡ w) (sym same)
            (get_or-set_same slots2 x w (pos 0) (let l1 = long1 in let l2 = long2 in omega (arith, below, le, few, l1, l2))))
            ∙ left-none s ls k w (subst (λ j. AreOther j ls) (sym same) apart) ∙ ap (turn_value p) (sym count) ∙ sym (last-some p c count)
            ∙ sym (left-here s l ls k (slot slots k) (sym same)))
            (λ (ne : k ≡ x → ⊥).
            ap (left s ls k) (set-past x k slots2 w ne ∙ set-past (v + 3) k slots1 (wrapped (pos c)) (λ e. omega (arith, e, lt, le)) ∙ set-past x k slots (slot slots v) ne)
            ∙ sym (left-past s l ls k (slot slots k) (λ z. ne (sym z)) ∙ ap (λ m. by_trips m (slot slots k) (left s ls k (slot slots k))) count))
            (cases_eq k x);
        others = λ k from lt.
            rest.others k from (omega (arith, lt)) ∙ past3 k from ∙ set-past (v + 3) k slots1 (wrapped (pos c)) (λ e. omega (arith, e, lt)) ∙ past1 k from;
      }

    none-or-some : (p.count ≡ 0) ⊎ ((c : ℕ) × (p.count ≡ suc c))
    none-or-some = by_count p.count refl
      where
        by_count : (c : ℕ) → p.count ≡ c → (p.count ≡ 0) ⊎ ((c : ℕ) × (p.count ≡ suc c))
        by_count zero e = inl e
        by_count (suc c) e = inr (c, e)

  pub indices-go : (ls : List Loop) (v pc target : ℕ) (slots : List ℤ) → HasAt code pc (indices_code line v target ls) → pc + 3 * length ls ≡ target → HaveBounds s slots v ls
      → AllByRecursion (λ (l : Loop). l.index < n) ls → AreApart ls → n ≤ v → v + 4 * length ls ≤ length slots
      → (slots' : List ℤ) × Steps table row_count moves code n many line s rows out pc slots target slots' × Settled ls v slots slots'
  indices-go [] v pc target slots has to bounds below apart le few =
      let e : pc ≡ target = omega (arith, to) in
      (slots, stay table row_count moves code n many line s rows out pc target slots e, record { size = refl; indices = λ k lt. refl; others = λ k from lt. refl })
  indices-go (l ∷ ls) v pc target slots has to bounds below apart le few =
      let fit : v + 4 ≤ length slots = omega (arith, few) in
      ⊎_elim
      (λ e. index-stays l ls v pc target slots has bounds below.0 apart.0 le fit e)
      (λ r.
      let long = long3 l ls v pc target slots has bounds below.0 apart.0 le fit r.0 r.1 in
      let mid : List ℤ = slots3 l ls v pc target slots has bounds below.0 apart.0 le fit r.0 r.1 in
      let rest = indices-go ls (v + 4) (pc + 1 + 1 + 1) target mid has.1.1.1 (omega (arith, to)) (bounds3 l ls v pc target slots has bounds below.0 apart.0 le fit r.0 r.1).1 below.1 apart.1
      (omega (arith, le)) (omega (arith, few, long)) in (
        rest.0,
        on table row_count moves code n many line s rows out pc (pc + 1 + 1 + 1) target slots mid rest.0 (index-ends l ls v pc target slots has bounds below.0 apart.0 le fit r.0 r.1) rest.1,
        index-settled l ls v pc target slots has bounds below.0 apart.0 le fit r.0 r.1 rest.0 rest.2,
      ))
      (none-or-some l ls v pc target slots has bounds below.0 apart.0 le fit)
