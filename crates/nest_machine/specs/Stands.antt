-- Of a promise.
-- The machine between two instructions of a nest, and code at a place.
use Rattle.std.specs.Prelude.{◌≡◌, ℕ, ◌+◌, ◌<◌, List, [], ◌∷◌, ℤ, Bool, true}
use Rattle.machine_steps.specs.Instr.{Running, Instr}
use Rattle.machine_steps.specs.Machine.{Machine, instr_at, steps}
use Rattle.nest_machine.specs.Trace.{Data}

module _ {C F : Type 0} (meaning : C → Instr F) (code : List C) (joined : ℤ) (line printed : List ℕ) where
  -- at a place, with these slots and data
  abbrev pub stands : ℕ → List ℤ → Data F → Machine C F
  stands pc slots d = record {
    code = code;
    control = record { at = pc; slots = slots; status = Running };
    substep = 0;
    rows = d.rows;
    layouts = d.layouts;
    kept = d.kept;
    parts = d.parts;
    joined = joined;
    line = line;
    printed = printed;
  }

-- Some places of the code are quiet, in whatever sense, so that a run can be told that comes to no other place
module _ {C F : Type 0} (meaning : C → Instr F) (code : List C) (is_quiet : ℕ → Bool) where
  -- the code has instructions that mean these, from a place on, all at quiet places
  abbrev pub HasAt : ℕ → List (Instr F) → Type 0
  HasAt pc [] = Unit {0}
  HasAt pc (i ∷ is) = ((instr_at meaning code pc ≡ i) × (is_quiet pc ≡ true)) × HasAt (pc + 1) is

module _ {C F : Type 0} (meaning : C → Instr F) (is_quiet : ℕ → Bool) where
  -- each of so many steps begins at a quiet place
  abbrev pub StaysQuiet : ℕ → Machine C F → Type 0
  StaysQuiet k m = (j : ℕ) → j < k → is_quiet (steps meaning j m).control.at ≡ true
