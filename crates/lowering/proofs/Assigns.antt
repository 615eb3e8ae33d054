-- The code of scalar and element assignments, and of an arm's test.
use Rattle.node_code.specs.Instructions.{NewMapping, TestBounds, Instruction, Set, Store}
use Rattle.code_meaning.specs.Instructions.{go_on_if, spot_in, meaning_of, ArrayTable}
use Rattle.std.proofs.Common.{◌≡◌, ℕ, ◌+◌, ◌<◌, ◌≤◌, List, [], ◌∷◌, ◌++◌, length, ℤ, pos, Option, Some, Result, Ok, Err, refl, sym, ap, ◌∙◌, subst, arith, length-append, slice_get, slice_set, get_or-set_other}
use Rattle.std.specs.Bool.{⊤}
use Rattle.array_meaning.specs.Execution.{assign_scalar, assign_element}
use Rattle.array_meaning.specs.Expressions.{value, values}
use Rattle.array_meaning.specs.Faults.{Cause, Fault, ◌>>=◌}
use Rattle.array_meaning.specs.Runs.{normal, one_step, with_value}
use Rattle.array_meaning.specs.State.{State, set_scalar, store, place_in, if_in_bounds, element_place}
use Rattle.array_meaning.specs.Terms.{Term, Terms}
use Rattle.lowered_expressions.proofs.Goes.{Holds, kept-refl, Goes, goes-at, goes-value, ends-bind, value-bind, set-reaches, holds-scalar, holds-store, goes-as, goes-value-last}
use Rattle.lowering.proofs.Parts.{term-comes, terms-come}
use Rattle.array_meaning.specs.Statements.{AssignElement}
use Rattle.statement_trail.specs.Trail.{Trail, after_value, value_trail, values_trail, trail}
use Rattle.lowered_expressions.proofs.Reach.{still, Idle, HasAt, has-front, has-back, same-refl, same-on, stands, one, Comes, Place}
use Rattle.lowered_expressions.proofs.Terms.{HoldsArrays, Gives, GiveAll}
use Rattle.program_code.specs.ExpressionCode.{slots_of, all_slots_of, flat_of, flats_of, code_of, codes_of}
use Rattle.lowered_expressions.specs.WellFormed.{IsScalar, AreScalar}
use Rattle.machine_steps.specs.Instr.{Running, Control}
use Rattle.machine_steps.specs.Machine.{store_control, store_in, write_to, faulted, steps}
use Rattle.storage.specs.Storage.{Storage, Spot, write}
use Rattle.node_code.specs.Flat.{Flat, Flats}
use Rattle.code_meaning.specs.Flat.{flat_value, flat_values}
use Rattle.code_meaning.specs.Parallel.{fault_at, at_line, shape_of}

pub after-bind : {A B : Type 0} (r : Result A Cause) (f : A → Result B Cause) (F : B → Trail) → after_value (r >>= f) F ≡ after_value r (λ a. after_value (f a) F)
after-bind (Ok a) f F = refl
after-bind (Err c) f F = refl

module _ (table : ArrayTable) (row_count : ℕ) (moves : ℕ → List NewMapping) (code : List Instruction) (n many : ℕ) (copy : Option (List ℤ)) (leave again : ℕ) where
  -- a scalar gets a value
  pub sets : (line pc b k : ℕ) (slots : List ℤ) (rows : Storage) (s : State) (f : Flat) (v : ℤ) → k < n → n ≤ many → slice_get code pc ≡ Some (Set line k f)
      → flat_value slots [] [] f ≡ Ok v → Holds table row_count moves code n many copy s slots rows
      → Goes table row_count moves code n many copy leave again [] (pc + 1) b slots (stands table row_count moves code pc slots rows s.printed) (normal (set_scalar s k v))
  sets line pc b k slots rows s f v lt few h e holds = (
    slice_set slots k v,
    rows,
    set-reaches table row_count moves code n many copy line pc k slots rows s.printed f v h e,
    (λ j from lj. sym (get_or-set_other slots k j v (pos 0) (λ e. absurd (omega (arith, e, lt, from))))),
    holds-scalar table row_count moves code n many copy s slots rows k v lt few holds,
  )

  pub assigns : (line b pc k : ℕ) (t : Term) (slots : List ℤ) (rows : Storage) (s : State) → k < n → IsScalar n t
      → HasAt code pc (code_of line b t ++ Set line k (flat_of b t) ∷ []) → n ≤ b → b + slots_of t ≤ many → Holds table row_count moves code n many copy s slots rows
      → Goes table row_count moves code n many copy leave again (value_trail line s t) (pc + length (code_of line b t ++ Set line k (flat_of b t) ∷ [])) b slots (stands table row_count moves code pc slots rows s.printed)
      (one_step line s (assign_scalar k t s))
  assigns line b pc k t slots rows s lt ok has le few holds =
      let c = code_of line b t in
      let set = Set line k (flat_of b t) in
      let pc1 : ℕ = pc + length c in
      let b1 : ℕ = b + slots_of t in
      let long : pc1 + 1 ≡ pc + length (c ++ set ∷ []) = omega (arith, length-append c (set ∷ [])) in
      goes-at table row_count moves code n many copy leave again (value_trail line s t) (pc1 + 1) (pc + length (c ++ set ∷ [])) b slots (stands table row_count moves code pc slots rows s.printed)
      (one_step line s (assign_scalar k t s)) long
      (subst (Goes table row_count moves code n many copy leave again (value_trail line s t) (pc1 + 1) b slots (stands table row_count moves code pc slots rows s.printed))
      (sym (ends-bind line s (value [] s t) (λ v. Ok (set_scalar s k v))))
      (goes-value-last table row_count moves code n many copy leave again (value_trail line s t) line pc pc1 (pc1 + 1) b b1 slots rows s (Gives b1 (flat_of b t)) (value [] s t) (λ v. normal (set_scalar s k v))
      (omega arith) le holds
      (term-comes table row_count moves code line n s rows s.printed holds.arrays t pc b slots ok (has-front code pc c (set ∷ []) has) holds.scalars le (omega (arith, few, holds.size)))
      (λ slots1 v e same gives holds1. sets line pc1 b1 k slots1 rows s (flat_of b t) v lt (omega (arith, few, le)) (has-back code pc c (set ∷ []) has).0
      (gives slots1 (same-refl b1 slots1)) holds1)))

  -- a test of bounds
  bounds-come : (line pc b a : ℕ) (slots : List ℤ) (rows : Storage) (s : State) (fs : Flats) (is : List ℤ) → slice_get code pc ≡ Some (TestBounds line a fs)
      → flat_values slots [] [] fs ≡ Ok is → a < n → HoldsArrays n table.shapes s rows
      → Comes table row_count moves code line rows s.printed [] pc (pc + 1) b slots (λ slots' k. ⊤) (place_in s a is)
  bounds-come line pc b a slots rows s fs is h e la arrays =
      subst (λ d. Comes table row_count moves code line rows s.printed [] pc (pc + 1) b slots (λ slots' k. ⊤) (if_in_bounds (element_place d is))) (sym (arrays.shape a la))
      (by_place (if_in_bounds (element_place (shape_of table.shapes a) is))
      (λ i. one table row_count moves code pc slots rows s.printed (TestBounds line a fs) h i
      ∙ ap (λ r. record (stands table row_count moves code pc slots rows s.printed i) { control = go_on_if {A = Spot} (at_line line (r >>= spot_in a (shape_of table.shapes a))) control })
      e))
    where
      control : Control Fault
      control = record { at = pc; slots = slots; status = Running }

      by_place : (p : Result ℕ Cause)
          → ((i : Idle row_count) → steps (meaning_of table) 1 (stands table row_count moves code pc slots rows s.printed i)
          ≡ record (stands table row_count moves code pc slots rows s.printed i) { control = go_on_if {A = Spot} (at_line line (p >>= (λ k. Ok (record { row = a; at = k })))) control })
          → Comes table row_count moves code line rows s.printed [] pc (pc + 1) b slots (λ slots' k. ⊤) p
      by_place (Ok k) g = (slots, (λ i. (1, i, g i, still table row_count moves code pc slots rows s.printed (TestBounds line a fs) h refl i)), same-refl b slots, tt)
      by_place (Err c) g = λ i. (record (stands table row_count moves code pc slots rows s.printed i) { control = faulted control (fault_at line c) }, (1, g i, still table row_count moves code pc slots rows s.printed (TestBounds line a fs) h refl i), refl, refl, refl)

  -- an element gets a value
  stores : (line pc b a k : ℕ) (slots : List ℤ) (rows : Storage) (s : State) (fs : Flats) (f : Flat) (is : List ℤ) (v : ℤ) → a < n → slice_get code pc ≡ Some (Store line a fs f)
      → flat_values slots [] [] fs ≡ Ok is → place_in s a is ≡ Ok k → flat_value slots [] [] f ≡ Ok v
      → Holds table row_count moves code n many copy s slots rows → Goes table row_count moves code n many copy leave again [] (pc + 1) b slots (stands table row_count moves code pc slots rows s.printed) (normal (store s a k v))
  stores line pc b a k slots rows s fs f is v la h e p ev holds =
      let where_is : spot_in a (shape_of table.shapes a) is ≡ Ok (record { row = a; at = k }) = ap
      (λ d. if_in_bounds (element_place d is) >>= (λ k. Ok (record { row = a; at = k }))) (sym (holds.arrays.shape a la))
      ∙ ap (λ r. r >>= (λ k. Ok (record { row = a; at = k }))) p in
      let spot : (flat_values slots [] [] fs >>= spot_in a (shape_of table.shapes a)) ≡ Ok (record { row = a; at = k }) = ap (λ r. r >>= spot_in a (shape_of table.shapes a)) e
      ∙ where_is in (
        slots,
        write rows (record { row = a; at = k }) v,
        (λ i. (
          1,
          i,
          one table row_count moves code pc slots rows s.printed (Store line a fs f) h i ∙ ap (λ r. after r (flat_value slots [] [] f) i) spot
              ∙ ap (λ w. after (Ok (record { row = a; at = k })) w i) ev,
          still table row_count moves code pc slots rows s.printed (Store line a fs f) h refl i,
        )),
        kept-refl table row_count moves code n many copy b slots,
        holds-store table row_count moves code n many copy s slots rows a k v la holds,
      )
    where
      after : Result Spot Cause → Result ℤ Cause → Place row_count
      after p v i = record (stands table row_count moves code pc slots rows s.printed i) {
        control = store_control (at_line line p) (at_line line v) (record { at = pc; slots = slots; status = Running });
        rows = store_in write_to (at_line line p) (at_line line v) rows;
      }

  pub assigns-element : (line b pc a : ℕ) (ts : Terms) (t : Term) (slots : List ℤ) (rows : Storage) (s : State) → a < n → AreScalar n ts → IsScalar n t
      → HasAt code pc (codes_of line b ts
      ++ TestBounds line a (flats_of b ts) ∷ (code_of line (b + all_slots_of ts) t ++ Store line a (flats_of b ts) (flat_of (b + all_slots_of ts) t) ∷ []))
      → n ≤ b → b + (all_slots_of ts + slots_of t) ≤ many → Holds table row_count moves code n many copy s slots rows
      → Goes table row_count moves code n many copy leave again (trail (AssignElement a ts t) line s)
      (pc + length (codes_of line b ts
      ++ TestBounds line a (flats_of b ts) ∷ (code_of line (b + all_slots_of ts) t ++ Store line a (flats_of b ts) (flat_of (b + all_slots_of ts) t) ∷ []))) b slots
      (stands table row_count moves code pc slots rows s.printed) (one_step line s (assign_element a ts t s))
  assigns-element line b pc a ts t slots rows s la oks ok has le few holds =
      let x : ℕ = b + all_slots_of ts in
      let fs = flats_of b ts in
      let f = flat_of x t in
      let c1 = codes_of line b ts in
      let c2 = code_of line x t in
      let test = TestBounds line a fs in
      let last = Store line a fs f ∷ [] in
      let b2 : ℕ = x + slots_of t in
      let pc1 : ℕ = pc + length c1 in
      let pc2 : ℕ = pc1 + 1 in
      let pc3 : ℕ = pc2 + length c2 in
      let to : ℕ = pc3 + 1 in
      let next = λ (k : ℕ). value [] s t >>= (λ v. Ok (store s a k v)) in
      let h1 : HasAt code pc1 (test ∷ (c2 ++ last)) = has-back code pc c1 (test ∷ (c2 ++ last)) has in
      let long : to ≡ pc + length (c1 ++ test ∷ (c2 ++ last)) = omega (arith, length-append c1 (test ∷ (c2 ++ last)), length-append c2 last) in
      goes-at table row_count moves code n many copy leave again (trail (AssignElement a ts t) line s) to (pc + length (c1 ++ test ∷ (c2 ++ last))) b slots (stands table row_count moves code pc slots rows s.printed)
      (one_step line s (assign_element a ts t s)) long
      (goes-as table row_count moves code n many copy leave again (values_trail line s ts ++ after_value (values [] s ts) (λ is. after_value (place_in s a is) (λ k. value_trail line s t))) (trail (AssignElement a ts t) line s) to b slots
      (stands table row_count moves code pc slots rows s.printed) (one_step line s (assign_element a ts t s))
      (ap (λ T. values_trail line s ts ++ T) (sym (after-bind (values [] s ts) (place_in s a) (λ k. value_trail line s t))))
      (subst (Goes table row_count moves code n many copy leave again (values_trail line s ts ++ after_value (values [] s ts) (λ is. after_value (place_in s a is) (λ k. value_trail line s t))) to b slots (stands table row_count moves code pc slots rows s.printed))
      (sym (ends-bind line s (values [] s ts >>= place_in s a) next ∙ value-bind line s (values [] s ts) (place_in s a) (λ k. one_step line s (next k))))
      (goes-value table row_count moves code n many copy leave again (values_trail line s ts) (λ is. after_value (place_in s a is) (λ k. value_trail line s t)) line pc pc1 to b x slots rows s (GiveAll x fs) (values [] s ts)
      (λ is. with_value line s (place_in s a is) (λ k. one_step line s (next k))) (omega arith) le holds
      (terms-come table row_count moves code line n s rows s.printed holds.arrays ts pc b slots oks (has-front code pc c1 (test ∷ (c2 ++ last)) has) holds.scalars le
      (omega (arith, few, holds.size)))
      (λ slots1 is e same gives holds1.
      goes-value table row_count moves code n many copy leave again [] (λ k. value_trail line s t) line pc1 pc2 to x x slots1 rows s (λ slots' k. ⊤) (place_in s a is) (λ k. one_step line s (next k)) (omega arith)
      (omega (arith, le)) holds1
      (bounds-come line pc1 x a slots1 rows s fs is h1.0 (gives slots1 (same-refl x slots1)) la holds1.arrays)
      (λ slots2 k inside same2 nothing holds2.
      subst (Goes table row_count moves code n many copy leave again (value_trail line s t) to x slots2 (stands table row_count moves code pc2 slots2 rows s.printed)) (sym (ends-bind line s (value [] s t) (λ v. Ok (store s a k v))))
      (goes-value-last table row_count moves code n many copy leave again (value_trail line s t) line pc2 pc3 to x b2 slots2 rows s (Gives b2 f) (value [] s t) (λ v. normal (store s a k v)) (omega arith)
      (omega (arith, le)) holds2
      (term-comes table row_count moves code line n s rows s.printed holds2.arrays t pc2 x slots2 ok (has-front code pc2 c2 last h1.1) holds2.scalars (omega (arith, le))
      (omega (arith, few, holds2.size)))
      (λ slots3 v e3 same3 gives3 holds3.
      stores line pc3 b2 a k slots3 rows s fs f is v la (has-back code pc2 c2 last h1.1).0
      (gives slots3 (same-on x x x slots1 slots2 slots3 (omega arith) (omega arith) same2 same3)) inside (gives3 slots3 (same-refl b2 slots3)) holds3)))))))
