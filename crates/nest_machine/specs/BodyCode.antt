-- Of a promise.
-- The code of a nest's body, by what its instructions mean. It is over any texts.
use Rattle.std.specs.Prelude.{ℕ, ◌+◌, List, [], ◌∷◌, ◌++◌, length, ℤ, pos, Bool, Option, Some, None, if◌then◌else◌}
use Rattle.storage.specs.Storage.{Spot}
use Rattle.machine_steps.specs.Layout.{Layout}
use Rattle.machine_steps.specs.Instr.{Outcome, Value, Tuples, Instr, Local, Par, MakeCopy}
use Rattle.machine_steps.specs.Machine.{on, set_slot}
use Rattle.nest_machine.specs.Counting.{slot, Counting}
use Rattle.nest_machine.specs.Body.{Bounds, Body, NoText, AndText, AndIf, AndLoop, Arms, NoArm, AndArm, count_body, count_arms}
use Rattle.nest_syntax.specs.Asked.{guard_asked, tested_asked}
use Rattle.nest_machine.specs.Asked.{tuples_where}

-- What texts read, come to and assign at an iteration, by the slots. A condition comes to 1 or 0. An assignment to a scalar that has marks
-- sets its mark, in a row of marks
pub record Texts (A C F : Type 0) : Type 0 where
  pub reads : A → List ℤ → ℕ → List (Option Spot)
  pub outcome : A → List ℤ → ℕ → List ℤ → Outcome F
  pub left : A → List ℤ → ℕ → Option Spot
  pub mark : A → Option ℕ
  pub condition_reads : C → List ℤ → ℕ → List (Option Spot)
  pub condition : C → List ℤ → ℕ → List ℤ → Outcome F

-- the element of a row at the iteration
abbrev pub copy_spot : ℕ → List ℤ → ℕ → Option Spot
copy_spot r slots t = Some (record { row = r; at = t })

-- `size` is how many iterations there are, and `stored` the first of the machine's rows of stored conditions
module _ {A C F : Type 0} (texts : Texts A C F) (size : List ℤ → ℕ) (stored : ℕ) where
  -- an assignment, where its guard holds
  abbrev pub text_tuples : Option ℕ → A → Tuples F
  text_tuples guard a = tuples_where size stored (guard_asked guard) (texts.reads a) (texts.outcome a)

  -- the setting of a mark or of ELSE, which reads nothing but conditions
  abbrev pub no_reads : List ℤ → ℕ → List (Option Spot)
  no_reads slots t = []

  abbrev pub always_one : List ℤ → ℕ → List ℤ → Outcome F
  always_one slots t values = Value (pos 1)

  abbrev pub mark_tuples : Option ℕ → Tuples F
  mark_tuples guard = tuples_where size stored (guard_asked guard) no_reads always_one

  -- the condition of an arm
  abbrev pub test_tuples : Option ℕ → List ℕ → Option C → Tuples F
  test_tuples guard earlier None = tuples_where size stored (tested_asked guard earlier) no_reads always_one
  test_tuples guard earlier (Some c) = tuples_where size stored (tested_asked guard earlier) (texts.condition_reads c) (texts.condition c)

  -- a scalar that has no marks has no code for them
  abbrev pub mark_code : Option ℕ → Option ℕ → List (Instr F)
  mark_code guard None = []
  mark_code guard (Some r) = Par (mark_tuples guard) (copy_spot r) ∷ []

  -- an assignment, and then its mark under the same guard
  abbrev pub text_code : Option ℕ → A → List (Instr F)
  text_code guard a = Par (text_tuples guard a) (texts.left a) ∷ mark_code guard (texts.mark a)

-- ---- inner loops

module _ {F : Type 0} where
  -- the run goes on at a target; it does so unless a test of the slots is true; a slot gets a value by the slots
  abbrev pub goes_to : ℕ → Instr F
  goes_to target = Local (λ c. record c { at = target })

  abbrev pub goes_unless : (List ℤ → Bool) → ℕ → Instr F
  goes_unless test target = Local (λ c. if test c.slots then on c else record c { at = target })

  abbrev pub sets : ℕ → (List ℤ → ℤ) → Instr F
  sets x f = Local (λ c. set_slot c x (f c.slots))

  module _ (counting : Counting F) where
    -- the instructions after the body of a loop
    abbrev pub loop_tail : Bounds → (b inside after : ℕ) → List (Instr F)
    loop_tail bounds b inside after =
        sets b (λ slots. counting.advance (slot slots b) (slot slots (b + 2)))
        ∷ sets bounds.index (λ slots. slot slots b)
        ∷ goes_unless (λ slots. counting.is_left (slot slots (b + 3))) after
        ∷ sets (b + 3) (λ slots. counting.less (slot slots (b + 3)))
        ∷ goes_to inside
        ∷ []

    -- A loop at a place. Its index is in its own slot and in slot b; the last value, the step and how many trips are left are in the three
    -- slots after. After the loop its index is what Fortran's is
    abbrev pub loop_code : Bounds → (b pc : ℕ) → List (Instr F) → List (Instr F)
    loop_code bounds b pc body =
        sets b bounds.first ∷ sets (b + 1) bounds.last ∷ sets (b + 2) bounds.step ∷ sets bounds.index (λ slots. slot slots b)
        ∷ Local (counting.trips b (pc + 5 + length body + 5))
        ∷ (body ++ loop_tail bounds b (pc + 5) (pc + 5 + length body + 5))

-- ---- bodies

-- a condition that isn't evaluated doesn't hold
abbrev pub zero_start : List ℤ → ℤ
zero_start slots = pos 0

-- `layout` is how copies lie, by the layouts of all rows and the slots
module _ {A C F : Type 0} (texts : Texts A C F) (counting : Counting F) (size : List ℤ → ℕ) (layout : List Layout → List ℤ → Layout) (stored : ℕ) where
  abbrev mutual
    -- under a guard, with conditions numbered from k on and slots from b on, at a place
    pub body_code : Body A C → Option ℕ → (k b pc : ℕ) → List (Instr F)
    body_code NoText guard k b pc = []
    body_code (AndText a rest) guard k b pc =
        text_code texts size stored guard a ++ body_code rest guard k b (pc + length (text_code texts size stored guard a))
    body_code (AndIf arms rest) guard k b pc =
        let c = arms_code arms guard [] k b pc in
        c ++ body_code rest guard (k + count_arms arms) b (pc + length c)
    body_code (AndLoop bounds inner rest) guard k b pc =
        let c = loop_code counting bounds b pc (body_code inner guard k (b + 4) (pc + 5)) in
        c ++ body_code rest guard (k + count_body inner) b (pc + length c)

    -- each arm makes its condition anew, with 0 at each iteration, and stores its value; the conditions of earlier arms are `earlier`
    pub arms_code : Arms A C → Option ℕ → List ℕ → (k b pc : ℕ) → List (Instr F)
    arms_code NoArm guard earlier k b pc = []
    arms_code (AndArm test body others) guard earlier k b pc =
        let c = body_code body (Some k) (k + 1) b (pc + 2) in
        MakeCopy (stored + k) layout zero_start ∷ Par (test_tuples texts size stored guard earlier test) (copy_spot (stored + k))
        ∷ (c ++ arms_code others guard (k ∷ earlier) (k + 1 + count_body body) b (pc + 2 + length c))
