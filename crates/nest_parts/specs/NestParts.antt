-- Of a promise.
-- A nest against its parts over copies: what has to hold at its entry, and the storage from which it begins.
use Rattle.std.specs.Prelude.{◌≡◌, ℕ, ◌+◌, ◌<◌, ◌≤◌, ◌++◌, replicate, pos, length, Bool, true, false, Ok, FitsSigned}
use Rattle.std.specs.Int.{w64}
use Rattle.storage.specs.Storage.{Storage, row_of, Alike}
use Rattle.storage.specs.Effect.{Effect}
use Rattle.storage.specs.Parted.{parted, kept}
use Rattle.nest_order.specs.Parts.{count_items}
use Rattle.nest_order.specs.Nest.{nest_act, nest_effects}
use Rattle.nest_syntax.specs.NestKinds.{Kind, Shared, has_copies}
use Rattle.nest_order.specs.Copies.{items_in, with_copies, copied}
use Rattle.nest_order.specs.Scalars.{AllFit, PartedAgrees}
use Rattle.array_meaning.specs.Statements.{Loop, Nest, Block, Do, Outermost}
use Rattle.array_meaning.specs.Faults.{Fault}
use Rattle.array_meaning.specs.State.{State, scalar}
use Rattle.array_meaning.specs.Runs.{normal}
use Rattle.array_meaning.specs.Execution.{run}
use Rattle.array_meaning.specs.Iterations.{iteration_count}
use Rattle.array_meaning.specs.NestEntry.{check_nest}
use Rattle.nest_items.specs.StateStorage.{state_of, storage_of}
use Rattle.nest_items.specs.NestItems.{one, iteration_items}
use Rattle.nest_items.specs.Naming.{BlockBelow}
use Rattle.nest_items.specs.Settled.{SameBut, SameIn, settled_by}
use Rattle.nest_items.specs.Standing.{NestStands, AreKinds}
use Rattle.nest_items.specs.NestEnds.{IsOpening}
use Rattle.nest_items.specs.Paths.{PathsAssign}

-- the scalars at the entry are of 64 bits, and each assigned one is there
pub record IsGood (kinds : ℕ → Kind) (s : State) : Type 0 where
  pub fit : (k : ℕ) → FitsSigned w64 (scalar s k)
  pub there : (k : ℕ) → has_copies (kinds k) ≡ true → k < length s.scalars

-- the rows of the conditions: after all that is named, and with a position for each of n iterations
pub record HasRoom (kinds : ℕ → Kind) (s : State) (nest : Nest) (body : Block) (start : Storage) (row n : ℕ) : Type 0 where
  pub rows : (i number : ℕ) → i < n → number < count_items (items_in i (iteration_items nest body s i))
      → (kinds (row + number) ≡ Shared) × (length (row_of start (row + number)) ≡ n)
  pub below : BlockBelow row body

-- a storage at the entry: the state's, and after it so many rows of conditions for n iterations
abbrev pub opened : (ℕ → Kind) → State → ℕ → ℕ → Storage
opened kinds s conditions n = storage_of kinds s ++ replicate conditions (replicate n (pos 0))

-- the acts of a nest over copies, with the rows of conditions from a row on
abbrev pub acts : (ℕ → Kind) → Nest → Block → State → ℕ → ℕ → ℕ → Storage → Effect Fault
acts kinds nest body s row = nest_act (copied kinds (one kinds)) row (λ i. items_in i (iteration_items nest body s i))

-- the storage with the copies of all iterations
abbrev pub copies : (ℕ → Kind) → Nest → State → Storage → Storage
copies kinds nest s start = with_copies kinds (iteration_count nest s) start

-- a nest that keeps the rules and is entered, and a storage at its entry with rows for conditions from a row on. No iteration has more
-- acts than `parts`
pub record IsEntered (kinds : ℕ → Kind) (all : ℕ → Bool) (s : State) (nest : Nest) (loop : Loop) (block body : Block) (start : Storage) (row parts : ℕ) : Type 0 where
  pub stands : NestStands kinds all s nest loop block body
  pub kinds_are : AreKinds kinds nest body
  pub passed : check_nest nest body s ≡ Ok s
  pub opening : IsOpening kinds s start
  pub fit : AllFit start
  pub good : IsGood kinds s
  pub paths : PathsAssign kinds (λ k. false) body
  pub room : HasRoom kinds s nest body start row (iteration_count nest s)
  pub enough : (i : ℕ) → i < iteration_count nest s
      → length (nest_effects (copied kinds (one kinds)) row (λ x. items_in x (iteration_items nest body s x)) i) ≤ parts

-- The nest ends normally, with the state of a storage but for the indices, which are as its loops leave them. The storage agrees with that of
-- the parted order, and its rows are as long as at the entry
pub record EndsAsParts (kinds : ℕ → Kind) (all : ℕ → Bool) (s : State) (nest : Nest) (line : ℕ) (loop : Loop) (block body : Block) (start : Storage) (row parts : ℕ) : Type 0 where
  pub state : State
  pub storage : Storage
  pub ends : run (Do (Outermost nest body) loop block) line s ≡ normal state
  pub same : SameBut all state (state_of kinds s storage)
  pub indices : SameIn all (settled_by s (Do (Outermost nest body) loop block) s) state
  pub alike : Alike storage start
  pub agrees : PartedAgrees kinds row (kept (acts kinds nest body s row) (copies kinds nest s start) (iteration_count nest s)) parts
      (iteration_count nest s) start storage
      (parted (acts kinds nest body s row) (copies kinds nest s start) (iteration_count nest s) parts)
