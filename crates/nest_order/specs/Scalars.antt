-- Of a promise.
-- What has to hold for the copies of a nest's scalars to do what the scalars do.
use Rattle.std.specs.Prelude.{◌≡◌, ℕ, ◌<◌, ◌⊎◌, List, length, nat_eq, ℤ, Option, Some, None, Result, Ok, Err, Bool, true, false, ◌&&◌, ◌||◌, FitsSigned}
use Rattle.std.specs.Int.{w64}
use Rattle.std.specs.List.{Contains, list_all}
use Rattle.op_tables.specs.declared.join.Join.{Join}
use Rattle.op_tables.specs.Joins.{IsOverNumbers, join, unit}
use Rattle.nest_order.specs.Turns.{after_turns}
use Rattle.storage.specs.Storage.{Storage, Spot, row_of, read, Alike}
use Rattle.storage.specs.Effect.{Effect, Skip, Put, Fail}
use Rattle.nest_order.specs.Items.{Items, Done, Then, If, Repeat, Branches, EndIf, Branch, EachIn}
use Rattle.nest_order.specs.Listed.{Names, names_in, listed, AreKnown}
use Rattle.nest_order.specs.Nest.{Interpretation, evaluated, writes, AgreeOn}
use Rattle.nest_order.specs.LastValue.{last_value}
use Rattle.nest_order.specs.Reduction.{Statement, IsOf, value_in, assigned, folded}
use Rattle.nest_syntax.specs.NestKinds.{Kind, Shared, New, Assigned, Reduced, has_copies}
use Rattle.nest_order.specs.Copies.{scalar_at}

-- `reads` is what assignments and conditions read, and `written` what an assignment may write
module _ {A C : Type 0} (kinds : ℕ → Kind) (reads : Names A C Spot) (written : A → List Spot) where
  -- an assignment that ends has assigned the row: it can write nowhere else
  abbrev pub assigns_row : A → ℕ → Bool
  assigns_row action row = list_all (λ spot. nat_eq spot.row row) (written action)

  abbrev mutual
    -- the rows that each path through the statements has assigned, where those were assigned before. A path takes one
    -- branch of an IF, or none where it has no ELSE
    pub assigned_by : Items A C → (ℕ → Bool) → ℕ → Bool
    assigned_by Done before = before
    assigned_by (Then action rest) before = assigned_by rest (λ row. before row || assigns_row action row)
    assigned_by (If branches rest) before = assigned_by rest (assigned_by_branches branches before)
    assigned_by (Repeat trips body rest) before = assigned_by rest (after_turns trips (λ x. assigned_by (body x)) before)

    pub assigned_by_branches : Branches A C → (ℕ → Bool) → ℕ → Bool
    assigned_by_branches EndIf before = before
    assigned_by_branches (Branch None body others) before = assigned_by body before
    assigned_by_branches (Branch (Some condition) body others) before = λ row. assigned_by body before row && assigned_by_branches others before row

  -- each NEW variable among the spots was assigned
  abbrev pub AreAssigned : List Spot → (ℕ → Bool) → Type 0
  AreAssigned spots before = (spot : Spot) → Contains spots spot → kinds spot.row ≡ New → before spot.row ≡ true

  abbrev mutual
    -- a NEW variable is read only where each path of the iteration has assigned it
    pub ReadsLate : Items A C → (ℕ → Bool) → Type 0
    ReadsLate Done before = Unit {0}
    ReadsLate (Then action rest) before = AreAssigned (reads.of_action action) before × ReadsLate rest (λ row. before row || assigns_row action row)
    ReadsLate (If branches rest) before = ReadsLateBranches branches before × ReadsLate rest (assigned_by_branches branches before)
    ReadsLate (Repeat trips body rest) before =
        ((x : ℕ) → x < trips → ReadsLate (body x) (after_turns x (λ y. assigned_by (body y)) before))
        × ReadsLate rest (after_turns trips (λ x. assigned_by (body x)) before)

    pub ReadsLateBranches : Branches A C → (ℕ → Bool) → Type 0
    ReadsLateBranches EndIf before = Unit {0}
    ReadsLateBranches (Branch test body others) before = AreAssigned (names_in reads test) before × ReadsLate body before × ReadsLateBranches others before

-- a spot that an assignment or a condition may name outside reduction statements: a scalar is one element, and a REDUCTION
-- variable isn't named
abbrev pub MayName : Kind → Spot → Type 0
MayName Shared spot = Unit {0}
MayName New spot = spot.at ≡ 0
MayName Assigned spot = spot.at ≡ 0
MayName (Reduced op) spot = ⊥

abbrev pub MayNameAll : (ℕ → Kind) → List Spot → Type 0
MayNameAll kinds spots = (spot : Spot) → Contains spots spot → MayName (kinds spot.row) spot

-- all values fit 64 bits
abbrev pub AllFit : Storage → Type 0
AllFit m = (spot : Spot) → FitsSigned w64 (read m spot)

-- an assignment that is a reduction statement: the row of its variable, and the statement with the value that its expression
-- has in a storage
pub record Reducing (F : Type 0) : Type 0 where
  pub row : ℕ
  pub statement : Storage → Result Statement F

-- what a reduction statement does to its variable
abbrev pub reduced_effect : {F : Type 0} → ℕ → Join → Result Statement F → ℤ → Effect F
reduced_effect row op (Ok statement) value = Put (scalar_at row) (assigned op statement value)
reduced_effect row op (Err fault) value = Fail fault

module _ {A C F : Type 0} (one : Interpretation A C F) (kinds : ℕ → Kind) (reads : Names A C Spot) (written : A → List Spot)
    (reducing : A → Option (Reducing F)) (start : Storage) where
  -- an assignment that is no reduction statement depends on what it reads alone, and writes one value of 64 bits unless it
  -- faults
  pub record IsPlain (action : A) : Type 0 where
    pub near : (m m' : Storage) → Alike m start → Alike m' start → AgreeOn (reads.of_action action) m m' → one.effect action m ≡ one.effect action m'
    pub stores : (m : Storage) (spot : Spot) (value : ℤ) → one.effect action m ≡ Put spot value → Contains (written action) spot
    pub ends : (m : Storage) → one.effect action m ≡ Skip → ⊥
    pub writable : MayNameAll kinds (written action)
    pub fits : (m : Storage) (spot : Spot) (value : ℤ) → AllFit m → one.effect action m ≡ Put spot value → FitsSigned w64 value

  -- a reduction statement is one of its variable's operator, over 64 bits: what it stores is said where its variable and its expression have
  -- such values. Its expression depends on what it reads alone
  pub record IsReduction (action : A) (by : Reducing F) : Type 0 where
    pub op : Join
    pub kind : kinds by.row ≡ Reduced op
    pub near : (m m' : Storage) → Alike m start → Alike m' start → AgreeOn (reads.of_action action) m m' → by.statement m ≡ by.statement m'
    pub is : (m : Storage) → FitsSigned w64 (read m (scalar_at by.row))
        → ((statement : Statement) → by.statement m ≡ Ok statement → FitsSigned w64 (value_in statement))
        → one.effect action m ≡ reduced_effect by.row op (by.statement m) (read m (scalar_at by.row))
    pub good : (m : Storage) (statement : Statement) → AllFit m → by.statement m ≡ Ok statement → IsOf op statement × FitsSigned w64 (value_in statement)
    pub stores : Contains (written action) (scalar_at by.row)

  abbrev pub IsPlainOr : A → Option (Reducing F) → Type 0
  IsPlainOr action None = IsPlain action
  IsPlainOr action (Some by) = IsReduction action by

  abbrev pub IsAction : A → Type 0
  IsAction action = MayNameAll kinds (reads.of_action action) × IsPlainOr action (reducing action)

  pub record IsCondition (condition : C) : Type 0 where
    pub readable : MayNameAll kinds (reads.of_condition condition)
    pub near : (m m' : Storage) → Alike m start → Alike m' start → AgreeOn (reads.of_condition condition) m m'
        → one.condition condition m ≡ one.condition condition m'

  -- what is listed for an iteration as read or written
  abbrev pub Touches : Items A C → Spot → Type 0
  Touches items spot = Contains (listed reads items) spot ⊎ Contains (listed (writes reads written) items) spot

  -- The nest's scalars may have copies. A NEW variable is assigned before it is read. Any other scalar that one iteration
  -- assigns is touched by no other one. A REDUCTION variable is named in reduction statements alone, and is joined over all numbers of
  -- 64 bits
  pub record MayCopy (n : ℕ) (items : ℕ → Items A C) : Type 0 where
    pub scalars : (row : ℕ) → has_copies (kinds row) ≡ true → length (row_of start row) ≡ 1
    pub numbers : (row : ℕ) (op : Join) → kinds row ≡ Reduced op → IsOverNumbers op
    pub fit : AllFit start
    pub texts : (i : ℕ) → i < n → EachIn IsAction IsCondition (items i)
    pub known : (i : ℕ) → i < n → AreKnown (evaluated one) reads (items i)
    pub late : (i : ℕ) → i < n → ReadsLate kinds reads written (items i) (λ row. false)
    pub apart : (i i' : ℕ) (row : ℕ) → i < n → i' < n → (i ≡ i' → ⊥) → kinds row ≡ Assigned
        → Contains (listed (writes reads written) (items i)) (scalar_at row) → Touches (items i') (scalar_at row) → ⊥

-- The storages agree: what is shared has the same values, and a REDUCTION variable is its entry value joined with the fold of
-- its copies
pub record CopiesAgree (kinds : ℕ → Kind) (start m copies : Storage) : Type 0 where
  pub shared : (spot : Spot) → kinds spot.row ≡ Shared → read m spot ≡ read copies spot
  pub reduced : (row : ℕ) (op : Join) → kinds row ≡ Reduced op
      → read m (scalar_at row) ≡ join op (read start (scalar_at row)) (folded (join op) (unit op) (row_of copies row))

-- both loops end with such storages, or both with one fault
abbrev pub EndWithCopies : {F : Type 0} → (ℕ → Kind) → Storage → Result Storage F → Result Storage F → Type 0
EndWithCopies kinds start (Ok m) (Ok copies) = CopiesAgree kinds start m copies
EndWithCopies kinds start (Ok m) (Err fault) = ⊥
EndWithCopies kinds start (Err fault) (Ok copies) = ⊥
EndWithCopies kinds start (Err fault) (Err other) = fault ≡ other

-- What Fortran's loops leave, against what the parted order leaves in the rows before those of the conditions. What is shared
-- is the same. A REDUCTION variable is its entry value joined with the fold of its copies. Any other scalar is the copy of the
-- last iteration that assigned it, or its entry value
pub record PartedAgrees {F : Type 0} (kinds : ℕ → Kind) (conditions : ℕ) (effect : ℕ → ℕ → Effect F) (parts n : ℕ) (start m last : Storage) : Type 0 where
  pub shared : (spot : Spot) → spot.row < conditions → kinds spot.row ≡ Shared → read m spot ≡ read last spot
  pub reduced : (row : ℕ) (op : Join) → row < conditions → kinds row ≡ Reduced op
      → read m (scalar_at row) ≡ join op (read start (scalar_at row)) (folded (join op) (unit op) (row_of last row))
  pub scalars : (row : ℕ) → row < conditions → (kinds row ≡ New) ⊎ (kinds row ≡ Assigned)
      → read m (scalar_at row) ≡ last_value effect row parts (read start (scalar_at row)) last n
