-- Of a promise.
-- What the code of a nest's body does to rows, one instruction after another, with the slots that each then has.
use Rattle.std.specs.Prelude.{ℕ, ◌+◌, List, [], ◌∷◌, ◌++◌, slice_set, replicate, ℤ, pos, Option, Some, None}
use Rattle.storage.specs.Storage.{Storage, Spot, read}
use Rattle.storage.specs.Effect.{scatter}
use Rattle.nest_order.specs.Turns.{joined_up_to}
use Rattle.machine_steps.specs.Layout.{Layout, size_of}
use Rattle.machine_steps.specs.Instr.{Tuples}
use Rattle.machine_steps.specs.Machine.{Kept, keep, outcome_of, effect_of}
use Rattle.nest_machine.specs.Counting.{Counting, trips_at}
use Rattle.nest_machine.specs.Body.{Body, NoText, AndText, AndIf, AndLoop, Arms, NoArm, AndArm, count_body, count_arms}
use Rattle.nest_machine.specs.BodyCode.{Texts, copy_spot, text_tuples, mark_tuples, test_tuples}
use Rattle.nest_machine.specs.Slots.{headed, trip_slots, first_trip, left_slots, slots_after, slots_after_arms}

-- a parallel statement, a mark that is set, and a stored condition that is made anew
pub data Traced (F : Type 0) : Type 0 where
  Does : Tuples F → (left : List ℤ → ℕ → Option Spot) → (slots : List ℤ) → Traced F
  Marks : Tuples F → (row : ℕ) → (slots : List ℤ) → Traced F
  Makes : (row : ℕ) → (slots : List ℤ) → Traced F

-- what of the machine these change
pub record Data (F : Type 0) : Type 0 where
  pub rows : Storage
  pub layouts : List Layout
  pub kept : Option (Kept F)
  pub parts : ℕ

module _ {F : Type 0} where
  -- a parallel statement: values are stored where they are assigned, and the fault of the least key is kept
  abbrev pub does : Tuples F → (List ℤ → ℕ → Option Spot) → List ℤ → Data F → Data F
  does tuples left slots d = record {
    rows = scatter (effect_of tuples left slots (read d.rows)) (tuples.count slots) d.rows;
    layouts = d.layouts;
    kept = keep (outcome_of tuples slots (read d.rows)) d.parts (tuples.count slots) d.kept;
    parts = d.parts + 1;
  }

  module _ (layout : List Layout → List ℤ → Layout) where
    -- what each does
    abbrev pub traced : Traced F → Data F → Data F
    traced (Does tuples left slots) d = does tuples left slots d
    traced (Marks tuples r slots) d = does tuples (copy_spot r) slots d
    traced (Makes r slots) d = record {
      rows = slice_set d.rows r (replicate (size_of (layout d.layouts slots)) (pos 0));
      layouts = slice_set d.layouts r (layout d.layouts slots);
      kept = d.kept;
      parts = d.parts;
    }

    abbrev pub all_traced : List (Traced F) → Data F → Data F
    all_traced [] d = d
    all_traced (x ∷ xs) d = all_traced xs (traced x d)

  -- those that are acts of the nest: all but the marks
  abbrev pub acts : List (Traced F) → List (Traced F)
  acts [] = []
  acts (Does tuples left slots ∷ xs) = Does tuples left slots ∷ acts xs
  acts (Marks tuples r slots ∷ xs) = acts xs
  acts (Makes r slots ∷ xs) = Makes r slots ∷ acts xs

-- the mark of an assignment, if its scalar has marks
abbrev pub mark_trace : {A C F : Type 0} → Texts A C F → (size : List ℤ → ℕ) → (stored : ℕ) → Option ℕ → Option ℕ → List ℤ → List (Traced F)
mark_trace texts size stored guard None s = []
mark_trace texts size stored guard (Some r) s = Marks (mark_tuples texts size stored guard) r s ∷ []

module _ {A C F : Type 0} (texts : Texts A C F) (counting : Counting F) (size : List ℤ → ℕ) (stored : ℕ) where
  abbrev mutual
    -- what a body does under a guard, with conditions numbered from k on and slots from b on, from these slots
    pub trace : Body A C → Option ℕ → (k b : ℕ) → List ℤ → List (Traced F)
    trace NoText guard k b s = []
    trace (AndText a rest) guard k b s =
        (Does (text_tuples texts size stored guard a) (texts.left a) s ∷ mark_trace texts size stored guard (texts.mark a) s) ++ trace rest guard k b s
    trace (AndIf arms rest) guard k b s = trace_arms arms guard [] k b s ++ trace rest guard (k + count_arms arms) b (slots_after_arms counting arms b s)
    trace (AndLoop bounds inner rest) guard k b s =
        let h = headed bounds b s in
        let n = trips_at counting b h in
        let after = slots_after counting inner (b + 4) in
        joined_up_to n (λ x. trace inner guard k (b + 4) (trip_slots counting after bounds.index b (first_trip counting b h n) x))
        ++ trace rest guard (k + count_body inner) b (left_slots counting after bounds.index b h n)

    pub trace_arms : Arms A C → Option ℕ → List ℕ → (k b : ℕ) → List ℤ → List (Traced F)
    trace_arms NoArm guard earlier k b s = []
    trace_arms (AndArm test body others) guard earlier k b s =
        (Makes (stored + k) s ∷ Does (test_tuples texts size stored guard earlier test) (copy_spot (stored + k)) s ∷ trace body (Some k) (k + 1) b s)
        ++ trace_arms others guard (k ∷ earlier) (k + 1 + count_body body) b (slots_after counting body b s)
