-- Of a promise.
-- A nest of statements as acts of parts on one storage, with the stored conditions in rows of their own.
use Rattle.std.specs.Prelude.{◌≡◌, ℕ, zero, suc, ◌+◌, ◌<◌, List, [], ◌∷◌, ◌++◌, length, slice_get, ℤ, pos, Option, Some, None, Result, Ok, Err, Bool, if◌then◌else◌}
use Rattle.std.specs.List.{Contains}
use Rattle.nest_order.specs.Turns.{in_turn, joined_up_to}
use Rattle.storage.specs.Storage.{Storage, Spot, row_of, read, Alike}
use Rattle.storage.specs.Truth.{is_set, number_for}
use Rattle.storage.specs.Effect.{Effect, Skip, Put, Fail, then_apply}
use Rattle.nest_order.specs.Items.{Items, Evaluation, holds_in, EachIn, exec}
use Rattle.nest_order.specs.Parts.{Conditions, guard_holds, is_tested, NestPart, Acts, Tests, flat, count_items}
use Rattle.nest_order.specs.Listed.{Names, listed, AreKnown}

-- what assignments do to a storage of spots, and what conditions are in it: one store at most, and not a change of any kind
pub record Interpretation (A C F : Type 0) : Type 0 where
  pub effect : A → Storage → Effect F
  pub condition : C → Storage → Result Bool F

-- the same as an evaluation, in which a fault ends what follows
abbrev pub evaluated : {A C F : Type 0} → Interpretation A C F → Evaluation A C Storage F
evaluated interpretation = record { action = λ action m. then_apply (interpretation.effect action m) m; condition = interpretation.condition }

-- `row` is the first of the rows of conditions, and i the iteration
module _ {A C F : Type 0} (interpretation : Interpretation A C F) (row i : ℕ) where
  -- each condition has a row of its own, with a position for each iteration. Iterations don't share one
  abbrev pub condition_at : ℕ → Spot
  condition_at number = record { row = row + number; at = i }

  -- the conditions of this iteration as they stand in a storage
  abbrev pub conditions_in : Storage → Conditions
  conditions_in m = λ number. is_set (read m (condition_at number))

  -- a condition's value is stored, and its fault isn't
  abbrev pub put_truth : Spot → Result Bool F → Effect F
  put_truth spot (Ok holds) = Put spot (number_for holds)
  put_truth spot (Err fault) = Fail fault

  -- what a part does in its turn. A condition is made anew with 0 first, at every iteration, and then stored where it is
  -- evaluated: these are two acts, and the first never faults
  abbrev pub effects_of : NestPart A C → List (Storage → Effect F)
  effects_of (Acts guard action) = (λ m. if guard_holds guard (conditions_in m) then interpretation.effect action m else Skip) ∷ []
  effects_of (Tests number guard earlier test) =
      (λ m. Put (condition_at number) (pos 0))
      ∷ (λ m. if is_tested guard earlier (conditions_in m) then put_truth (condition_at number) (holds_in (evaluated interpretation) test m) else Skip)
      ∷ []

  -- the acts of the parts, in order
  abbrev pub effects : List (NestPart A C) → List (Storage → Effect F)
  effects [] = []
  effects (part ∷ parts) = effects_of part ++ effects parts

-- the number of parts before the one that an act belongs to, from 0. It isn't the number of acts before, since a part that
-- stores a condition has two acts
abbrev pub part_of : {A C : Type 0} → List (NestPart A C) → ℕ → ℕ
part_of [] act = act
part_of (Acts guard action ∷ parts) zero = 0
part_of (Acts guard action ∷ parts) (suc act) = suc (part_of parts act)
part_of (Tests number guard earlier test ∷ parts) zero = 0
part_of (Tests number guard earlier test ∷ parts) (suc zero) = 0
part_of (Tests number guard earlier test ∷ parts) (suc (suc act)) = suc (part_of parts act)

-- past the last act there is none, and no fault: an iteration may have fewer than another one
abbrev pub effect_at : {F : Type 0} → Option (Storage → Effect F) → Storage → Effect F
effect_at None m = Skip
effect_at (Some effect) m = effect m

module _ {A C F : Type 0} (interpretation : Interpretation A C F) (row : ℕ) (items : ℕ → Items A C) where
  -- what the parts of an iteration do, in order
  abbrev pub nest_effects : ℕ → List (Storage → Effect F)
  nest_effects i = effects interpretation row i (flat (items i) None 0)

  -- the acts of a nest: what act j is at iteration i
  abbrev pub nest_act : ℕ → ℕ → Storage → Effect F
  nest_act i j m = effect_at (slice_get (nest_effects i) j) m

-- of what assignments and conditions name, what assignments write. Conditions write nothing
abbrev pub writes : {A C L : Type 0} → Names A C L → (A → List L) → Names A C L
writes names written = record { of_action = written; of_condition = λ condition. []; known = names.known }

-- the storages have the same value at each of the spots. Elsewhere they may differ
abbrev pub AgreeOn : List Spot → Storage → Storage → Type 0
AgreeOn spots m m' = (spot : Spot) → Contains spots spot → read m spot ≡ read m' spot

module _ {A C F : Type 0} (interpretation : Interpretation A C F) (names : Names A C Spot) (written : A → List Spot) (start : Storage) where
  -- what an assignment does depends on what it names alone, and it writes only what it names as written
  pub record IsNamed (action : A) : Type 0 where
    pub near : (m m' : Storage) → Alike m start → Alike m' start → AgreeOn (names.of_action action) m m'
        → interpretation.effect action m ≡ interpretation.effect action m'
    pub stores : (m : Storage) (spot : Spot) (value : ℤ) → interpretation.effect action m ≡ Put spot value
        → Contains (written action) spot × Contains (names.of_action action) spot

  -- what a condition is depends on what it names alone
  abbrev pub IsNear : C → Type 0
  IsNear condition =
      (m m' : Storage) → Alike m start → Alike m' start → AgreeOn (names.of_condition condition) m m'
      → interpretation.condition condition m ≡ interpretation.condition condition m'

  module _ (row n : ℕ) (items : ℕ → Items A C) where
    -- No two of the n iterations interfere: none writes what is listed for another one. Two that write one value to one spot do.
    -- The rows of conditions stand after those that are named, and have a position for each iteration
    pub record IsParallel : Type 0 where
      pub named : (i : ℕ) → i < n → EachIn IsNamed IsNear (items i)
      pub known : (i : ℕ) → i < n → AreKnown (evaluated interpretation) names (items i)
      pub rows : (i number : ℕ) → i < n → number < count_items (items i) → i < length (row_of start (row + number))
      pub below : (i : ℕ) (spot : Spot) → i < n → Contains (listed names (items i)) spot → spot.row < row
      pub apart : (i i' : ℕ) (spot : Spot) → i < n → i' < n → (i ≡ i' → ⊥)
          → Contains (listed (writes names written) (items i)) spot → Contains (listed names (items i')) spot → ⊥

    -- what is listed for an iteration, and its stored conditions: what it may touch, also where it touches less
    abbrev pub touches_of : ℕ → List Spot
    touches_of i = listed names (items i) ++ joined_up_to (count_items (items i)) (λ number. condition_at interpretation row i number ∷ [])

-- storages that differ in the stored conditions alone
pub record SameBelow (row : ℕ) (m m' : Storage) : Type 0 where
  pub alike : Alike m m'
  pub same : (spot : Spot) → spot.row < row → read m spot ≡ read m' spot

-- both end with such storages, or both with one fault
abbrev pub EndAlike : {F : Type 0} → ℕ → Result Storage F → Result Storage F → Type 0
EndAlike row (Ok m) (Ok m') = SameBelow row m m'
EndAlike row (Ok m) (Err fault) = ⊥
EndAlike row (Err fault) (Ok m) = ⊥
EndAlike row (Err fault) (Err other) = fault ≡ other

module _ {A C F : Type 0} (interpretation : Interpretation A C F) where
  -- the plain loops: the statements of one iteration after those of another, up to the first fault, with no stored conditions.
  -- Whether a scalar is one object or has a copy for each iteration, the statements say: where they name copies, an iteration
  -- reads its own, and not what an earlier one assigned
  abbrev pub plain_loops : (ℕ → Items A C) → Storage → ℕ → Result Storage F
  plain_loops items start n = in_turn n (λ i. exec (evaluated interpretation) (items i)) start
