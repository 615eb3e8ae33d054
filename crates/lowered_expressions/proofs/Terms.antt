-- The code of a scalar expression evaluates it.
use Rattle.node_code.specs.Instructions.{NewMapping, Instruction, Set, Fetch}
use Rattle.code_meaning.specs.Instructions.{set_result, spot_in, meaning_of, ArrayTable}
use Rattle.std.proofs.Common.{◌≡◌, ℕ, ◌+◌, ◌<◌, ◌≤◌, List, [], ◌∷◌, ◌++◌, length, ℤ, pos, Bool, true, false, Some, Result, Ok, Err, refl, sym, ap, ◌∙◌, subst, arith, length-append, slice_get, slice_set, slice_index_or}
use Rattle.array_meaning.specs.Elementals.{operated}
use Rattle.array_meaning.specs.Expressions.{value, values}
use Rattle.array_meaning.specs.Faults.{Cause, ◌>>=◌, Fault}
use Rattle.array_meaning.specs.State.{State, scalar, array, element, if_in_bounds, element_place}
use Rattle.array_meaning.specs.Terms.{Apply, Terms}
use Rattle.expression_rules.specs.declared.dims.Dim.{Dim}
use Rattle.statement_trail.specs.Trail.{Trail}
use Rattle.lowered_expressions.proofs.Reach.{still, Idle, HasAt, has-back, SameBelow, same-refl, same-set, slot-set, stands, one, Comes, comes-last, comes-at, comes-but, comes-here}
use Rattle.program_code.specs.ExpressionCode.{all_slots_of, flats_of, codes_of, operated_flat, set_if, one_if}
use Rattle.machine_steps.specs.Instr.{Running, Control}
use Rattle.machine_steps.specs.Machine.{fetch_control, faulted, steps}
use Rattle.storage.specs.Storage.{Storage, row_of, read}
use Rattle.code_meaning.specs.Flat.{slot, flat_value, flat_values}
use Rattle.node_code.specs.Flat.{Flat, Slot, Flats, Operated}
use Rattle.code_meaning.specs.Parallel.{fault_at, at_line, shape_of}
use Rattle.op_tables.specs.Operators.{can_divide, value_of}
use Rattle.op_tables.specs.declared.op.Op.{Op}

-- the slots hold a state's scalars, and the rows its arrays
abbrev pub HoldsScalars : ℕ → State → List ℤ → Type 0
HoldsScalars n s slots = (k : ℕ) → k < n → slot slots k ≡ scalar s k

pub holds-same : (n b : ℕ) (s : State) (slots slots' : List ℤ) → n ≤ b → HoldsScalars n s slots → SameBelow b slots slots' → HoldsScalars n s slots'
holds-same n b s slots slots' le h same k lt = sym (same.1 k (omega (arith, lt, le))) ∙ h k lt

pub record HoldsArrays (n : ℕ) (shapes : List (List Dim)) (s : State) (rows : Storage) : Type 0 where
  pub elements : (a : ℕ) → a < n → row_of rows a ≡ (array s a).elements
  pub shape : (a : ℕ) → a < n → (array s a).dims ≡ shape_of shapes a
  pub places : length s.scalars ≡ n

-- a flat expression gives a value, whatever becomes of the slots from b on
abbrev pub Gives : ℕ → Flat → List ℤ → ℤ → Type 0
Gives b f slots v = (later : List ℤ) → SameBelow b slots later → flat_value later [] [] f ≡ Ok v

abbrev pub GiveAll : ℕ → Flats → List ℤ → List ℤ → Type 0
GiveAll b fs slots vs = (later : List ℤ) → SameBelow b slots later → flat_values later [] [] fs ≡ Ok vs

pub total : (o : Op) (vs : List ℤ) → can_divide o ≡ false → operated o vs ≡ Ok (value_of o vs)
total o vs e = rw (e) refl

module _ (table : ArrayTable) (row_count : ℕ) (moves : ℕ → List NewMapping) (code : List Instruction) (line n : ℕ) (s : State) (rows : Storage) (out : List ℕ) (arrays : HoldsArrays n table.shapes s rows) where
  pub nothing : (pc b : ℕ) (slots : List ℤ) (f : Flat) (v : ℤ) → Gives b f slots v → Comes table row_count moves code line rows out [] pc (pc + 0) b slots (Gives (b + 0) f) (Ok v)
  nothing pc b slots f v g =
      let e : pc ≡ pc + 0 = omega arith in
      let e2 : b ≡ b + 0 = omega arith in
      subst (λ p. Comes table row_count moves code line rows out [] pc p b slots (Gives (b + 0) f) (Ok v)) e
      (subst (λ c. Comes table row_count moves code line rows out [] pc pc b slots (Gives c f) (Ok v)) e2 (comes-here table row_count moves code line rows out pc b slots (Gives b f) v g))

  abbrev control : ℕ → List ℤ → Control Fault
  control pc slots = record { at = pc; slots = slots; status = Running }

  -- a Set of a flat expression
  pub set-comes : (pc b x : ℕ) (slots : List ℤ) (f : Flat) (r : Result ℤ Cause) → slice_get code pc ≡ Some (Set line x f) → flat_value slots [] [] f ≡ r → b ≤ x
      → x < length slots
      → Comes table row_count moves code line rows out [] pc (pc + 1) b slots (λ slots' v. slot slots' x ≡ v) r
  set-comes pc b x slots f r h e le lt =
      by_result r (λ i. one table row_count moves code pc slots rows out (Set line x f) h i
      ∙ ap (λ r. record (stands table row_count moves code pc slots rows out i) { control = set_result (at_line line r) x (control pc slots) }) e)
    where
      by_result : (r : Result ℤ Cause)
          → ((i : Idle row_count) → steps (meaning_of table) 1 (stands table row_count moves code pc slots rows out i)
          ≡ record (stands table row_count moves code pc slots rows out i) { control = set_result (at_line line r) x (control pc slots) })
          → Comes table row_count moves code line rows out [] pc (pc + 1) b slots (λ slots' v. slot slots' x ≡ v) r
      by_result (Ok v) g = (slice_set slots x v, (λ i. (1, i, g i, still table row_count moves code pc slots rows out (Set line x f) h refl i)), same-set b x slots v le, slot-set x slots v lt)
      by_result (Err c) g = λ i. (record (stands table row_count moves code pc slots rows out i) { control = faulted (control pc slots) (fault_at line c) }, (1, g i, still table row_count moves code pc slots rows out (Set line x f) h refl i), refl, refl, refl)

  -- a fetch of an element
  pub fetch-comes : (pc b x a : ℕ) (slots : List ℤ) (fs : Flats) (is : List ℤ) → slice_get code pc ≡ Some (Fetch line a fs x) → flat_values slots [] [] fs ≡ Ok is → a < n
      → b ≤ x → x < length slots
      → Comes table row_count moves code line rows out [] pc (pc + 1) b slots (λ slots' v. slot slots' x ≡ v) (element s a is)
  fetch-comes pc b x a slots fs is h e la le lt =
      subst (λ d. Comes table row_count moves code line rows out [] pc (pc + 1) b slots (λ slots' v. slot slots' x ≡ v)
      (if_in_bounds (element_place d is) >>= (λ k. Ok (slice_index_or (array s a).elements k (pos 0))))) (sym (arrays.shape a la))
      (by_place (if_in_bounds (element_place (shape_of table.shapes a) is))
      (λ i. one table row_count moves code pc slots rows out (Fetch line a fs x) h i
      ∙ ap (λ r. record (stands table row_count moves code pc slots rows out i) {
        control = fetch_control (at_line line (r >>= spot_in a (shape_of table.shapes a))) (read rows) x
            (control pc slots);
      }) e))
    where
      by_place : (p : Result ℕ Cause)
          → ((i : Idle row_count) → steps (meaning_of table) 1 (stands table row_count moves code pc slots rows out i)
          ≡ record (stands table row_count moves code pc slots rows out i) {
            control = fetch_control (at_line line (p >>= (λ k. Ok (record { row = a; at = k })))) (read rows) x
                (control pc slots);
          })
          → Comes table row_count moves code line rows out [] pc (pc + 1) b slots (λ slots' v. slot slots' x ≡ v) (p >>= (λ k. Ok (slice_index_or (array s a).elements k (pos 0))))
      by_place (Ok k) g = (
        slice_set slots x (slice_index_or (row_of rows a) k (pos 0)),
        (λ i. (1, i, g i, still table row_count moves code pc slots rows out (Fetch line a fs x) h refl i)),
        same-set b x slots (slice_index_or (row_of rows a) k (pos 0)) le,
        slot-set x slots
            (slice_index_or (row_of rows a) k (pos 0)) lt ∙ ap (λ r. slice_index_or r k (pos 0)) (arrays.elements a la),
      )
      by_place (Err c) g = λ i. (record (stands table row_count moves code pc slots rows out i) { control = faulted (control pc slots) (fault_at line c) }, (1, g i, still table row_count moves code pc slots rows out (Fetch line a fs x) h refl i), refl, refl, refl)

  pub apply-comes : (T : Trail) (o : Op) (ts : Terms) (pc b : ℕ) (slots : List ℤ) (c : Bool) → can_divide o ≡ c
      → HasAt code pc (codes_of line b ts ++ set_if c line (b + all_slots_of ts) (Operated o (flats_of b ts))) → b + (all_slots_of ts + one_if c) ≤ length slots
      → Comes table row_count moves code line rows out T pc (pc + length (codes_of line b ts)) b slots (GiveAll (b + all_slots_of ts) (flats_of b ts)) (values [] s ts)
      → Comes table row_count moves code line rows out T pc (pc + length (codes_of line b ts ++ set_if c line (b + all_slots_of ts) (Operated o (flats_of b ts)))) b slots
      (Gives (b + (all_slots_of ts + one_if c)) (operated_flat c o (flats_of b ts) (b + all_slots_of ts))) (value [] s (Apply o ts))
  apply-comes T o ts pc b slots true k has few args =
      let cs = codes_of line b ts in
      let x : ℕ = b + all_slots_of ts in
      let set = Set line x (Operated o (flats_of b ts)) in
      let long : pc + length cs + 1 ≡ pc + length (cs ++ set ∷ []) = omega (arith, length-append cs (set ∷ [])) in
      comes-at table row_count moves code line rows out T pc (pc + length cs + 1) (pc + length (cs ++ set ∷ [])) b slots (Gives (b + (all_slots_of ts + 1)) (Slot x)) (value [] s (Apply o ts)) long
      (comes-last table row_count moves code line rows out T pc (pc + length cs) (pc + length cs + 1) b x slots (GiveAll x (flats_of b ts)) (Gives (b + (all_slots_of ts + 1)) (Slot x))
      (values [] s ts) (operated o) (omega arith)
      args
      (λ slots1 vs e same gives.
      comes-but table row_count moves code line rows out [] (pc + length cs) (pc + length cs + 1) x slots1 (λ slots' v. slot slots' x ≡ v) (Gives (b + (all_slots_of ts + 1)) (Slot x))
      (operated o vs)
      (λ slots' v here later same2. ap Ok (sym (same2.1 x (omega arith)) ∙ here))
      (set-comes (pc + length cs) x x slots1 (Operated o (flats_of b ts)) (operated o vs) (has-back code pc cs (set ∷ []) has).0
      (ap (λ r. r >>= operated o) (gives slots1 (same-refl x slots1))) (omega arith) (omega (arith, few, same.0)))))
  apply-comes T o ts pc b slots false k has few args =
      let cs = codes_of line b ts in
      let x : ℕ = b + all_slots_of ts in
      let long : pc + length cs ≡ pc + length (cs ++ []) = omega (arith, length-append cs []) in
      let few' : b + all_slots_of ts ≡ b + (all_slots_of ts + 0) = omega arith in
      comes-at table row_count moves code line rows out T pc (pc + length cs) (pc + length (cs ++ [])) b slots (Gives (b + (all_slots_of ts + 0)) (Operated o (flats_of b ts)))
      (value [] s (Apply o ts)) long
      (subst (λ u. Comes table row_count moves code line rows out T pc (pc + length cs) b slots (Gives u (Operated o (flats_of b ts))) (value [] s (Apply o ts))) few'
      (comes-last table row_count moves code line rows out T pc (pc + length cs) (pc + length cs) b x slots (GiveAll x (flats_of b ts)) (Gives x (Operated o (flats_of b ts))) (values [] s ts)
      (operated o) (omega arith)
      args
      (λ slots1 vs e same gives.
      subst (λ r. Comes table row_count moves code line rows out [] (pc + length cs) (pc + length cs) x slots1 (Gives x (Operated o (flats_of b ts))) r) (sym (total o vs k))
      (comes-here table row_count moves code line rows out (pc + length cs) x slots1 (Gives x (Operated o (flats_of b ts))) (value_of o vs)
      (λ later same2. ap (λ r. r >>= operated o) (gives later same2) ∙ total o vs k)))))
