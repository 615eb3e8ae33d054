-- Of a promise.
-- The statements of an iteration, by the slots at the nest's entry.
use Rattle.std.specs.Prelude.{ℕ, ◌+◌, List, ℤ, Option, Some, None, Result, Ok, Err, Bool}
use Rattle.storage.specs.Truth.{number_for}
use Rattle.nest_order.specs.Items.{Items, Done, Then, If, Repeat, Branches, EndIf, Branch}
use Rattle.machine_steps.specs.Instr.{Outcome, Value, Breaks}
use Rattle.nest_machine.specs.Counting.{Counting, trips_at}
use Rattle.nest_machine.specs.Body.{Body, NoText, AndText, AndIf, AndLoop, Arms, NoArm, AndArm}
use Rattle.nest_machine.specs.Slots.{headed, trip_slots, first_trip, left_slots, slots_after, slots_after_arms}

-- the condition of an arm; ELSE has none
abbrev pub test_at : {C Q : Type 0} → (C → List ℤ → ℕ → Q) → (i : ℕ) → Option C → List ℤ → Option Q
test_at condition_at i None s = None
test_at condition_at i (Some c) s = Some (condition_at c s i)

-- `action_at` and `condition_at` are what texts are to the nest, by the slots at which they stand and the iteration
module _ {A C F P Q : Type 0} (counting : Counting F) (action_at : A → List ℤ → ℕ → P) (condition_at : C → List ℤ → ℕ → Q) (i : ℕ) where
  abbrev mutual
    -- the same body, with each text at the slots that the machine has there
    pub items_at : Body A C → ℕ → List ℤ → Items P Q
    items_at NoText b s = Done
    items_at (AndText a rest) b s = Then (action_at a s i) (items_at rest b s)
    items_at (AndIf arms rest) b s = If (branches_at arms b s) (items_at rest b (slots_after_arms counting arms b s))
    items_at (AndLoop bounds inner rest) b s =
        let after = slots_after counting inner (b + 4) in
        let h = headed bounds b s in
        let n = trips_at counting b h in
        Repeat n (λ x. items_at inner (b + 4) (trip_slots counting after bounds.index b (first_trip counting b h n) x))
        (items_at rest b (left_slots counting after bounds.index b h n))

    pub branches_at : Arms A C → ℕ → List ℤ → Branches P Q
    branches_at NoArm b s = EndIf
    branches_at (AndArm test body others) b s = Branch (test_at condition_at i test s) (items_at body b s) (branches_at others b (slots_after counting body b s))

-- the value that a condition comes to
abbrev pub truth_outcome : {F : Type 0} → Result Bool F → Outcome F
truth_outcome (Ok holds) = Value (number_for holds)
truth_outcome (Err fault) = Breaks fault
