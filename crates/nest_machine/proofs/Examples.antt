-- The example nest meets the premises of the law of nests.
use Rattle.std.proofs.Common.{◌≡◌, ℕ, zero, suc, ◌+◌, ◌<◌, ◌≤◌, ◌⊎◌, inl, inr, List, [], ◌∷◌, ◌++◌, length, replicate, ℤ, pos, Bool, true, false, Some, None, refl, sym, ap, ◌∙◌, subst, arith}
use Rattle.std.specs.List.{Contains}
use Rattle.std.proofs.lemmas.Bool.{true≢false}
use Rattle.std.proofs.lemmas.List.{length-append, append_assoc}
use Rattle.op_tables.specs.declared.join.Join.{Join}
use Rattle.op_tables.specs.Joins.{join, unit}
use Rattle.storage.specs.Storage.{Storage, Spot, row_of, read}
use Rattle.storage.specs.Effect.{Effect, Skip, Put, Fail}
use Rattle.storage.specs.Parted.{parted, kept, NoneKept, IsLeastKept}
use Rattle.nest_order.specs.Nest.{nest_act}
use Rattle.nest_order.specs.LastValue.{last_value}
use Rattle.nest_order.specs.Reduction.{folded}
use Rattle.nest_syntax.specs.NestKinds.{Shared, New, Assigned, Reduced}
use Rattle.nest_order.specs.Copies.{scalar_at, entry_copies, with_copies}
use Rattle.nest_order.specs.Scalars.{PartedAgrees}
use Rattle.machine_steps.specs.Layout.{size_of}
use Rattle.machine_steps.specs.Instr.{Outcome, Nothing, Value, Instr}
use Rattle.machine_steps.specs.Machine.{Kept, steps, instr_at}
use Rattle.machine_steps.specs.Parted.{act_by, AreRising}
use Rattle.nest_machine.specs.Counting.{slot, IsCounting}
use Rattle.nest_machine.specs.Body.{TakeSteps}
use Rattle.nest_machine.specs.Slots.{slots_after}
use Rattle.nest_machine.specs.Trace.{Data, trace}
use Rattle.nest_machine.specs.Stands.{stands, HasAt}
use Rattle.nest_machine.specs.ItemsAt.{items_at}
use Rattle.nest_syntax.specs.Finals.{Final, Lasts}
use Rattle.nest_machine.specs.Finals.{final_slot, EndsFaulted}
use Rattle.nest_machine.specs.Entries.{Entry, NotMade, nest_entries, rows_after}
use Rattle.nest_machine.specs.Placed.{IsPlace, PlacedMean, PlacedTexts}
use Rattle.nest_machine.specs.PlacedEntry.{IsPlacedMemory}
use Rattle.nest_machine.specs.PlacedEnds.{IsPlacedFinal, PlacedAfter}
use Rattle.nest_machine.specs.Example.{everywhere, example_texts, example_counting, example_body, example_finals, example_size, two_elements, example_layout, always_alike, example_code, as_it_is, example_slots, example_data, example_kinds, example_start, example_place, example_rows, example_indices, example_interpretation, example_action, example_condition}
use Rattle.nest_machine.proofs.KeptFaults.{faults, no_left, kept_acts}
use Rattle.nest_machine.proofs.PlacedActs.{act_number}
use Rattle.nest_machine.proofs.Nests.{nest-runs}

pub counting : IsCounting example_counting
counting = record {
  most = 2;
  enters = λ b target c ok. refl;
  bound = λ first last step. let e : 2 ≤ 2 = omega arith in e;
  none = refl;
  some = λ k lt. refl;
  less = λ k. refl;
}

-- code is at its own place
has-from : (before after : List (Instr Bool)) (pc : ℕ) → length before ≡ pc → HasAt as_it_is (before ++ after) everywhere pc after
has-from before [] pc e = tt
has-from before (i ∷ after) pc e = (
  (ap (instr_at as_it_is (before ++ i ∷ after)) (sym e) ∙ at-end before, refl),
  subst (λ code. HasAt as_it_is code everywhere (pc + 1) after) (append_assoc before (i ∷ []) after)
      (has-from (before ++ i ∷ []) after (pc + 1) (length-append before (i ∷ []) ∙ ap (λ n. n + 1) e)),
)
  where
    at-end : (xs : List (Instr Bool)) → instr_at as_it_is (xs ++ i ∷ after) (length xs) ≡ i
    at-end [] = refl
    at-end (x ∷ xs) = at-end xs

pub has : HasAt as_it_is example_code everywhere 0 example_code
has = has-from [] example_code 0 refl

pub takes : TakeSteps example_counting example_indices example_body
takes = (((λ s. refl), refl), ((tt, tt), tt), tt)

pub mean : PlacedMean example_texts example_interpretation example_action example_condition example_place example_rows example_indices 2 example_slots
mean = record { action = λ a s same i m rows placed. (refl, refl); condition = λ c s same i m rows placed. refl }

pub place : IsPlace example_place example_rows
place r q hr hq e = let z : r + 1 ≡ q + 1 = e in omega (arith, z)

no-row : (r : ℕ) → example_rows (suc (suc r)) ≡ true → ⊥
no-row r h = true≢false (sym h)

-- the row of marks is no row of the nest
off : (r : ℕ) → example_rows r ≡ true → example_place r ≡ 3 → ⊥
off zero h e = let z : 1 ≡ 3 = e in omega (arith, z)
off (suc zero) h e = let z : 2 ≡ 3 = e in omega (arith, z)
off (suc (suc r)) h e = no-row r h

same-number : (p q : ℕ) → Some p ≡ Some q → p ≡ q
same-number p q e = cc

two-many : size_of two_elements ≡ 2
unfolding size_of
two-many = refl

pub fit : PlacedTexts example_texts example_size example_layout 2 1 1 example_place example_rows example_indices (with_copies example_kinds 2 example_start) 2 2 example_slots
fit = record { sized = λ s same. refl; laid = λ layouts s same. two-many; conditions = conditions; marks = λ a q e r h z. off r h (z ∙ sym (same-number 3 q e)) }
  where
    conditions : (k : ℕ) → k < 1
        → (example_place (1 + k) ≡ 2 + k) × (example_rows (1 + k) ≡ true) × (length (row_of (with_copies example_kinds 2 example_start) (1 + k)) ≡ 2)
    conditions zero lt = (refl, refl, refl)
    conditions (suc k) lt = absurd (omega (arith, lt))

-- ---- the entry

abbrev es : List Entry
es = nest_entries example_finals 2 1

three-one : ◌≡◌ {A = ℕ} 3 1 → ⊥
three-one e = omega (arith, e)

two-one : ◌≡◌ {A = ℕ} 2 1 → ⊥
two-one e = omega (arith, e)

two-three : ◌≡◌ {A = ℕ} 2 3 → ⊥
two-three e = omega (arith, e)

few-rows : (e : Entry) → Contains es e → e.row < 4
few-rows e (zero, lt, z) = let r : 1 ≡ e.row = ap (λ (x : Entry). x.row) z in omega (arith, r)
few-rows e (suc zero, lt, z) = let r : 3 ≡ e.row = ap (λ (x : Entry). x.row) z in omega (arith, r)
few-rows e (suc (suc zero), lt, z) = let r : 2 ≡ e.row = ap (λ (x : Entry). x.row) z in omega (arith, r)
few-rows e (suc (suc (suc k)), lt, z) = let l : suc (suc (suc k)) < 3 = lt in absurd (omega (arith, l))

inside-start : (r : ℕ) → example_rows r ≡ true → r < 2
inside-start zero h = omega arith
inside-start (suc zero) h = omega arith
inside-start (suc (suc r)) h = absurd (no-row r h)

rows-made : (r : ℕ) → example_rows r ≡ true
    → ((e : Entry) × Contains es e × (e.row ≡ example_place r) × (entry_copies (example_kinds r) 2 (row_of example_start r) ≡ replicate 2 (e.start example_slots)))
    ⊎ (NotMade (example_place r) es × (entry_copies (example_kinds r) 2 (row_of example_start r) ≡ row_of example_data.rows (example_place r)))
rows-made zero h = inl (record { row = 1; start = λ s. slot s 0 }, (0, (let l : 0 < 3 = omega arith in l), refl), refl, refl)
rows-made (suc zero) h = inl (record { row = 2; start = λ s. pos 0 }, (2, (let l : 2 < 3 = omega arith in l), refl), refl, refl)
rows-made (suc (suc r)) h = absurd (no-row r h)

pub memory : IsPlacedMemory example_layout example_slots example_place example_rows example_kinds 2 example_start es example_data
memory = record {
  apart = ((three-one, (two-one, tt)), ((two-three, tt), (tt, tt)));
  as_many = refl;
  few = few-rows;
  steady = λ layouts same. refl;
  inside = inside-start;
  rows = rows-made;
}

no-skip : (v : ℤ) → ◌≡◌ {A = Outcome Bool} (Value v) Nothing → ⊥
no-skip v e = cc

pub scalar : IsPlacedFinal example_texts 2 1 1 2 example_place example_rows example_indices example_kinds example_start example_slots (Lasts 1 3 0) 0
scalar = (
  record { lies = refl; own = refl; below = (let l : 0 < 1 = omega arith in l); slot_below = (let l : 0 < 2 = omega arith in l); value = refl; no_index = refl },
  inr refl,
  record {
    off = off;
    paired = record {
      text = λ a. inr ((λ s i. refl), refl, (λ s i values e. no-skip (pos 7) e));
      apart = λ k lt. ((λ e. omega (arith, e)), (λ e. omega (arith, e, lt)));
    };
  },
)

-- ---- what the law says of it

abbrev pub copies : Storage
copies = with_copies example_kinds 2 example_start

abbrev pub act : ℕ → ℕ → Storage → Effect Bool
act = nest_act example_interpretation 1 (λ i. items_at example_counting example_action example_condition i example_body 2 example_slots)

abbrev pub number : ℕ → ℕ
number = act_number 0 (trace example_texts example_counting example_size 2 example_body None 0 2 example_slots)

abbrev is_fault : Effect Bool → Bool
is_fault Skip = false
is_fault (Put spot v) = false
is_fault (Fail f) = true

-- no act faults
never-at : (i j : ℕ) → i < 2 → j < 6 → is_fault (kept act copies 2 i j) ≡ false
never-at zero zero li lj = refl
never-at zero (suc zero) li lj = refl
never-at zero (suc (suc zero)) li lj = refl
never-at zero (suc (suc (suc zero))) li lj = refl
never-at zero (suc (suc (suc (suc zero)))) li lj = refl
never-at zero (suc (suc (suc (suc (suc zero))))) li lj = refl
never-at zero (suc (suc (suc (suc (suc (suc j)))))) li lj = absurd (omega (arith, lj))
never-at (suc zero) zero li lj = refl
never-at (suc zero) (suc zero) li lj = refl
never-at (suc zero) (suc (suc zero)) li lj = refl
never-at (suc zero) (suc (suc (suc zero))) li lj = refl
never-at (suc zero) (suc (suc (suc (suc zero)))) li lj = refl
never-at (suc zero) (suc (suc (suc (suc (suc zero))))) li lj = refl
never-at (suc zero) (suc (suc (suc (suc (suc (suc j)))))) li lj = absurd (omega (arith, lj))
never-at (suc (suc i)) j li lj = absurd (omega (arith, li))

never : (i j : ℕ) (f : Bool) → i < 2 → j < 6 → kept act copies 2 i j ≡ Fail f → ⊥
never i j f li lj h = true≢false (sym (ap is_fault h) ∙ never-at i j li lj)

-- the loops leave 7 in T
abbrev left : Storage
left = (pos 7 ∷ []) ∷ (pos 0 ∷ pos 0 ∷ []) ∷ []

not-shared : Assigned ≡ Shared → ⊥
not-shared e = cc

not-reduced : (op : Join) → Assigned ≡ Reduced op → ⊥
not-reduced op e = cc

agrees : PartedAgrees example_kinds 1 (kept act copies 2) 6 2 example_start left (parted act copies 2 6)
agrees = record { shared = shared; reduced = reduced; scalars = scalars }
  where
    shared : (spot : Spot) → spot.row < 1 → example_kinds spot.row ≡ Shared → read left spot ≡ read (parted act copies 2 6) spot
    shared spot lt h = let z : spot.row ≡ 0 = omega (arith, lt) in absurd (not-shared (sym (ap example_kinds z) ∙ h))

    reduced : (row : ℕ) (op : Join) → row < 1 → example_kinds row ≡ Reduced op
        → read left (scalar_at row) ≡ join op (read example_start (scalar_at row)) (folded (join op) (unit op) (row_of (parted act copies 2 6) row))
    reduced zero op lt h = absurd (not-reduced op h)
    reduced (suc row) op lt h = absurd (omega (arith, lt))

    scalars : (row : ℕ) → row < 1 → (example_kinds row ≡ New) ⊎ (example_kinds row ≡ Assigned)
        → read left (scalar_at row) ≡ last_value (kept act copies 2) row 6 (read example_start (scalar_at row)) (parted act copies 2 6) 2
    scalars zero lt h = refl
    scalars (suc row) lt h = absurd (omega (arith, lt))

abbrev pub Runs : Type 0
Runs = (k : ℕ) × (slots : List ℤ) × (d : Data Bool)
    × (steps as_it_is k (stands as_it_is example_code (pos 0) [] [] 0 example_slots example_data) ≡ stands as_it_is example_code (pos 0) [] [] 19 slots d)
    × (slot slots 0 ≡ pos 7)

abbrev Ends : Type 0
Ends = (NoneKept act copies 2 6 × ((m : Storage) → PartedAgrees example_kinds 1 (kept act copies 2) 6 2 example_start m (parted act copies 2 6)
    → PlacedAfter as_it_is example_code everywhere (pos 0) [] [] 0 (0 + length example_code) example_texts 2 1 1 2 example_place example_rows example_indices example_kinds example_start
    example_finals (slots_after example_counting example_body 2 example_slots) example_slots
    (rows_after example_texts example_counting example_size example_layout 2 example_finals example_body 2 example_slots example_data) example_data m))
    ⊎ ((i : ℕ) × (j : ℕ) × (f : Bool) × IsLeastKept act copies 2 6 i j f × EndsFaulted as_it_is example_code everywhere (pos 0) [] [] 0 example_slots example_data f)

module _ (none_law : (k : ℕ) → kept_acts act copies 2 number k ≡ None → NoneKept (act_by (faults act copies 2 number) (no_left act copies 2 number)) copies 2 k)
    (least_law : (k : ℕ) (l : Kept Bool) → AreRising (faults act copies 2 number) (no_left act copies 2 number) number k → kept_acts act copies 2 number k ≡ Some l
    → (j : ℕ) × IsLeastKept (act_by (faults act copies 2 number) (no_left act copies 2 number)) copies 2 k l.tuple j l.fault × (number j ≡ l.part)) where
  ends : Ends
  ends = nest-runs as_it_is example_code everywhere (pos 0) [] [] example_texts example_counting counting example_size example_layout 2 1 example_interpretation example_action example_condition
      example_body 2 0 2 example_slots example_data example_place example_rows example_indices always_alike example_finals example_kinds example_start
      has (let l : 6 ≤ 6 = omega arith in l) takes hidden mean fit place memory refl (tt, tt) few (λ l. refl) none_law least_law
    where
      hidden : (x : ℕ) → 2 ≤ x → example_indices x ≡ false
      hidden zero le = absurd (omega (arith, le))
      hidden (suc zero) le = absurd (omega (arith, le))
      hidden (suc (suc x)) le = refl

      few : (f : Final) → Contains example_finals f → final_slot f < 2
      few f (zero, lt, z) = let e : 0 ≡ final_slot f = ap final_slot z in omega (arith, e)
      few f (suc k, lt, z) = let l : suc k < 1 = lt in absurd (omega (arith, l))

  pub runs : Runs
  runs = by_end ends
    where
      by_end : Ends → Runs
      by_end (inl (none, places)) =
          let p = places left agrees in (p.count', p.slots, p.data', p.reach, p.scalars (Lasts 1 3 0) 0 (0, (let l : 0 < 1 = omega arith in l), refl) scalar)
      by_end (inr (i, j, f, least, ended)) = absurd (never i j f least.iteration least.part least.here)
