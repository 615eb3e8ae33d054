-- The code of a nest's loops on the machine: their bounds, and whether they make trips.
use Rattle.std.proofs.Common.{◌≡◌, ℕ, suc, ◌+◌, ◌*◌, ◌≤◌, inl, inr, List, [], ◌∷◌, length, ℤ, pos, Bool, Some, None, unwrap_or, Ok, refl, sym, ap, ◌∙◌, subst, arith, slice_get, slice_set, length-set, get_or-set_same}
use Rattle.std.specs.List.{AllByRecursion}
use Rattle.op_tables.specs.Operators.{wrapped}
use Rattle.storage.specs.Storage.{Storage}
use Rattle.machine_steps.specs.Instr.{Control, Running}
use Rattle.nest_syntax.specs.NestKinds.{Kind}
use Rattle.array_meaning.specs.Faults.{Fault}
use Rattle.array_meaning.specs.declared.sections.Sequence.{Sequence}
use Rattle.array_meaning.specs.Sections.{sequence}
use Rattle.array_meaning.specs.State.{State}
use Rattle.array_meaning.specs.Statements.{Loop}
use Rattle.array_meaning.specs.Iterations.{values_of}
use Rattle.code_meaning.specs.Flat.{slot, flat_value}
use Rattle.node_code.specs.Flat.{Flat}
use Rattle.code_meaning.specs.Parallel.{at_line}
use Rattle.node_code.specs.Instructions.{Instruction, NewMapping, Set, Trips}
use Rattle.code_meaning.specs.Instructions.{ArrayTable, begin_trips}
use Rattle.program_code.specs.ExpressionCode.{index_flat}
use Rattle.lowered_expressions.proofs.Reach.{HasAt, Reaches, reaches-on, stands, one, still, Place, SameBelow, same-refl, same-on, same-set}
use Rattle.lowered_expressions.proofs.Terms.{HoldsScalars, holds-same}
use Rattle.lowered_expressions.proofs.Goes.{set-reaches}
use Rattle.program_code.specs.NestCode.{step_flat, bounds_code, trips_code}
use Rattle.lowered_nests.proofs.IndexValues.{HaveTurns, IsEmpty}
use Rattle.lowered_nests.proofs.NestLoops.{has-bounds, fixed-flat, IsLoop}
use Rattle.lowered_nests.proofs.LoopBounds.{HaveBounds, first-kept, set-past, begun}

module _ (table : ArrayTable) (row_count : ℕ) (moves : ℕ → List NewMapping) (code : List Instruction) (n many line : ℕ) (s : State) (rows : Storage) (out : List ℕ) where
  abbrev here : ℕ → List ℤ → Place row_count
  here pc slots = stands table row_count moves code pc slots rows out

  abbrev control : ℕ → List ℤ → Control Fault
  control pc slots = record { at = pc; slots = slots; status = Running }

  abbrev pub Steps : ℕ → List ℤ → ℕ → List ℤ → Type 0
  Steps pc slots pc' slots' = Reaches table row_count moves code [] (stands table row_count moves code pc slots rows out) (stands table row_count moves code pc' slots' rows out)

  pub on : (pc pc1 pc2 : ℕ) (a b c : List ℤ) → Steps pc a pc1 b → Steps pc1 b pc2 c → Steps pc a pc2 c
  on pc pc1 pc2 a b c r q = reaches-on table row_count moves code (here pc a) (here pc1 b) (here pc2 c) r q

  pub stay : (pc pc' : ℕ) (slots : List ℤ) → pc ≡ pc' → Steps pc slots pc' slots
  stay pc pc' slots e = subst (λ q. Steps pc slots q slots) e (λ i. (0, i, refl, tt))

  pub ends-at : (pc pc1 pc2 : ℕ) (a b : List ℤ) → pc1 ≡ pc2 → Steps pc a pc1 b → Steps pc a pc2 b
  ends-at pc pc1 pc2 a b e r = subst (λ q. Steps pc a q b) e r

  pub sets : (pc x : ℕ) (slots : List ℤ) (f : Flat) (v : ℤ) → slice_get code pc ≡ Some (Set line x f) → flat_value slots [] [] f ≡ Ok v → Steps pc slots (pc + 1) (slice_set slots x v)
  sets pc x slots f v h e = set-reaches table row_count moves code n many None line pc x slots rows out f v h e

  -- ---- the trips of a loop

  module _ (pc v target : ℕ) (slots : List ℤ) (p : Sequence) (has : slice_get code pc ≡ Some (Trips line v (v + 1) (v + 2) (v + 3) target))
      (is : sequence (slot slots v) (slot slots (v + 1)) (slot slots (v + 2)) ≡ Ok p) where
    trips-by : (c : ℕ) → p.count ≡ c → sequence (slot slots v) (slot slots (v + 1)) (slot slots (v + 2)) ≡ Ok record { first = p.first; step = p.step; count = c }
    trips-by c e = is ∙ (λ i. Ok record { first = p.first; step = p.step; count = e i })

    pub no-trip : p.count ≡ 0 → Steps pc slots target slots
    no-trip e i = (
      1,
      i,
      one table row_count moves code pc slots rows out (Trips line v (v + 1) (v + 2) (v + 3) target) has i
          ∙ ap (λ r. record (here pc slots i) { control = begin_trips (v + 3) target (at_line line r) (control pc slots) }) (trips-by 0 e),
      still table row_count moves code pc slots rows out (Trips line v (v + 1) (v + 2) (v + 3) target) has refl i,
    )

    pub some-trips : (c : ℕ) → p.count ≡ suc c → Steps pc slots (pc + 1) (slice_set slots (v + 3) (wrapped (pos c)))
    some-trips c e i = (
      1,
      i,
      one table row_count moves code pc slots rows out (Trips line v (v + 1) (v + 2) (v + 3) target) has i
          ∙ ap (λ r. record (here pc slots i) { control = begin_trips (v + 3) target (at_line line r) (control pc slots) }) (trips-by (suc c) e),
      still table row_count moves code pc slots rows out (Trips line v (v + 1) (v + 2) (v + 3) target) has refl i,
    )

  -- ---- whether all loops make trips

  abbrev Comes : ℕ → ℕ → ℕ → List ℤ → List Loop → Type 0
  Comes pc to v slots ls = (slots' : List ℤ) × Steps pc slots to slots' × SameBelow v slots slots' × HaveBounds s slots' v ls

  next-loop : (l : Loop) (ls : List Loop) (v pc to c : ℕ) (slots : List ℤ) → Steps pc slots (pc + 1) (slice_set slots (v + 3) (wrapped (pos c)))
      → HaveBounds s (slice_set slots (v + 3) (wrapped (pos c))) v (l ∷ ls) → Comes (pc + 1) to (v + 4) (slice_set slots (v + 3) (wrapped (pos c))) ls → Comes pc to v slots (l ∷ ls)
  next-loop l ls v pc to c slots step bounds rest =
      let slots1 : List ℤ = slice_set slots (v + 3) (wrapped (pos c)) in (
        rest.0,
        on pc (pc + 1) to slots slots1 rest.0 step rest.1,
        same-on v v (v + 4) slots slots1 rest.0 (omega arith) (omega arith) (same-set v (v + 3) slots (wrapped (pos c)) (omega arith)) rest.2,
        (first-kept s slots1 rest.0 v (values_of s l) (λ k from lt. sym (rest.2.1 k (omega (arith, lt)))) bounds.0, rest.3),
      )

  pub trips-go : (ls : List Loop) (v pc target : ℕ) (slots : List ℤ) → HasAt code pc (trips_code line v target ls) → HaveBounds s slots v ls → HaveTurns s ls
      → (slots' : List ℤ) × Steps pc slots (pc + length ls) slots' × SameBelow v slots slots' × HaveBounds s slots' v ls
  trips-go [] v pc target slots has bounds some = let e : pc ≡ pc + 0 = omega arith in (slots, stay pc (pc + 0) slots e, same-refl v slots, tt)
  trips-go (l ∷ ls) v pc target slots has bounds some =
      let e : pc + 1 + length ls ≡ pc + suc (length ls) = omega arith in
      let bounds1 = begun s l ls v some.0 slots bounds in
      let rest = trips-go ls (v + 4) (pc + 1) target (slice_set slots (v + 3) (wrapped (pos some.0))) has.1 bounds1.1 some.2 in
      subst (λ to. Comes pc to v slots (l ∷ ls)) e
      (next-loop l ls v pc (pc + 1 + length ls) some.0 slots (some-trips pc v target slots (values_of s l) has.0 bounds.0 some.0 some.1) bounds1 rest)

  pub trips-skip : (ls : List Loop) (v pc target : ℕ) (slots : List ℤ) → HasAt code pc (trips_code line v target ls) → HaveBounds s slots v ls → IsEmpty s ls
      → (slots' : List ℤ) × Steps pc slots target slots' × SameBelow v slots slots' × HaveBounds s slots' v ls
  trips-skip [] v pc target slots has bounds empty = absurd empty
  trips-skip (l ∷ ls) v pc target slots has bounds (inl e) = (slots, no-trip pc v target slots (values_of s l) has.0 bounds.0 e, same-refl v slots, bounds)
  trips-skip (l ∷ ls) v pc target slots has bounds (inr h) =
      let bounds1 = begun s l ls v h.0.0 slots bounds in
      next-loop l ls v pc target h.0.0 slots (some-trips pc v target slots (values_of s l) has.0 bounds.0 h.0.0 h.0.1) bounds1
      (trips-skip ls (v + 4) (pc + 1) target (slice_set slots (v + 3) (wrapped (pos h.0.0))) has.1 bounds1.1 h.1)

  -- ---- the bounds of inner loops

  module _ (kinds : ℕ → Kind) (all : ℕ → Bool) where
    pub bounds-go : (ls : List Loop) (v pc : ℕ) (slots : List ℤ) → HasAt code pc (bounds_code line v ls) → AllByRecursion (IsLoop n kinds all) ls → HoldsScalars n s slots → n ≤ v
        → v + 4 * length ls ≤ length slots
        → (slots' : List ℤ) × Steps pc slots (pc + length (bounds_code line v ls)) slots' × SameBelow v slots slots' × HaveBounds s slots' v ls
    bounds-go [] v pc slots has named held le few = let e : pc ≡ pc + 0 = omega arith in (slots, stay pc (pc + 0) slots e, same-refl v slots, tt)
    bounds-go (l ∷ ls) v pc slots has named held le few =
        let kept = named.0.2 in
        let names = named.0.1 in
        let b = has-bounds n kinds all s l kept in
        let slots1 : List ℤ = slice_set slots v b.first in
        let slots2 : List ℤ = slice_set slots1 (v + 1) b.last in
        let slots3 : List ℤ = slice_set slots2 (v + 2) b.step.number in
        let same1 : SameBelow v slots slots1 = same-set v v slots b.first (omega arith) in
        let same2 : SameBelow v slots1 slots2 = same-set v (v + 1) slots1 b.last (omega arith) in
        let same3 : SameBelow v slots2 slots3 = same-set v (v + 2) slots2 b.step.number (omega arith) in
        let held1 : HoldsScalars n s slots1 = holds-same n v s slots slots1 le held same1 in
        let held2 : HoldsScalars n s slots2 = holds-same n v s slots1 slots2 le held1 same2 in
        let held3 : HoldsScalars n s slots3 = holds-same n v s slots2 slots3 le held2 same3 in
        let l1 : length slots1 ≡ length slots = length-set slots v b.first in
        let l2 : length slots2 ≡ length slots1 = length-set slots1 (v + 1) b.last in
        let l3 : length slots3 ≡ length slots2 = length-set slots2 (v + 2) b.step.number in
        let r1 = sets pc v slots (index_flat l.control.first) b.first has.0 (fixed-flat n kinds all s slots held l.control.first kept.first names.0 ∙ b.is_first) in
        let r2 = sets (pc + 1) (v + 1) slots1 (index_flat l.control.last) b.last has.1.0 (fixed-flat n kinds all s slots1 held1 l.control.last kept.last names.1 ∙ b.is_last) in
        let r3 = sets (pc + 1 + 1) (v + 2) slots2 (step_flat l.control.step) b.step.number has.1.1.0 (ap (λ o. Ok (unwrap_or o (pos 0))) b.step.is) in
        let rest = bounds-go ls (v + 4) (pc + 1 + 1 + 1) slots3 has.1.1.1 named.1 held3 (omega (arith, le)) (omega (arith, few, l1, l2, l3)) in
        let e : pc + 1 + 1 + 1 + length (bounds_code line (v + 4) ls) ≡ pc + length (bounds_code line v (l ∷ ls)) = omega arith in
        let a0 : slot slots3 v ≡ b.first =
        set-past (v + 2) v slots2 b.step.number (λ z. omega (arith, z)) ∙ set-past (v + 1) v slots1 b.last (λ z. omega (arith, z)) ∙ get_or-set_same slots v b.first (pos 0) (omega (arith, few)) in
        let a1 : slot slots3 (v + 1) ≡ b.last =
        set-past (v + 2) (v + 1) slots2 b.step.number (λ z. omega (arith, z)) ∙ get_or-set_same slots1 (v + 1) b.last (pos 0) (omega (arith, few, l1)) in
        let a2 : slot slots3 (v + 2) ≡ b.step.number = get_or-set_same slots2 (v + 2) b.step.number (pos 0) (omega (arith, few, l1, l2)) in (
          rest.0,
          ends-at pc (pc + 1 + 1 + 1 + length (bounds_code line (v + 4) ls)) (pc + length (bounds_code line v (l ∷ ls))) slots rest.0 e
              (on pc (pc + 1) (pc + 1 + 1 + 1 + length (bounds_code line (v + 4) ls)) slots slots1 rest.0 r1
              (on (pc + 1) (pc + 1 + 1) (pc + 1 + 1 + 1 + length (bounds_code line (v + 4) ls)) slots1 slots2 rest.0 r2
              (on (pc + 1 + 1) (pc + 1 + 1 + 1) (pc + 1 + 1 + 1 + length (bounds_code line (v + 4) ls)) slots2 slots3 rest.0 r3 rest.1))),
          same-on v v v slots slots1 rest.0 (omega arith) (omega arith) same1
              (same-on v v v slots1 slots2 rest.0 (omega arith) (omega arith) same2 (same-on v v (v + 4) slots2 slots3 rest.0 (omega arith) (omega arith) same3 rest.2)),
          (
            first-kept s slots3 rest.0 v (values_of s l) (λ k from lt. sym (rest.2.1 k (omega (arith, lt)))) ((λ i. sequence (a0 i) (a1 i) (a2 i)) ∙ b.values_are),
            rest.3,
          ),
        )
