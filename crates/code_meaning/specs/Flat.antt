-- Of the claim.
-- The values of expressions over the slots.
use Rattle.std.specs.Prelude.{ℕ, List, [], slice_index_or, ℤ, pos, Result, Ok, Err}
use Rattle.node_code.specs.Faults.{Cause, ◌>>=◌, with_more}
use Rattle.node_code.specs.Elementals.{operated}
use Rattle.node_code.specs.Flat.{Flat, Int, Slot, Axis, Read, Operated, Flats, NoFlat, AndFlat}

abbrev pub slot : List ℤ → ℕ → ℤ
slot slots k = slice_index_or slots k (pos 0)

abbrev mutual
  -- its value, by the slots, the tuple's entries and the reads; a read may have a fault, which then is one where the read stands
  pub flat_value : List ℤ → List ℤ → List (Result ℤ Cause) → Flat → Result ℤ Cause
  flat_value slots axes reads (Int v) = Ok v
  flat_value slots axes reads (Slot k) = Ok (slot slots k)
  flat_value slots axes reads (Axis k) = Ok (slice_index_or axes k (pos 0))
  flat_value slots axes reads (Read k) = slice_index_or reads k (Ok (pos 0))
  flat_value slots axes reads (Operated o fs) = flat_values slots axes reads fs >>= operated o

  pub flat_values : List ℤ → List ℤ → List (Result ℤ Cause) → Flats → Result (List ℤ) Cause
  flat_values slots axes reads NoFlat = Ok []
  flat_values slots axes reads (AndFlat f fs) = with_more (flat_value slots axes reads f) (flat_values slots axes reads fs)

abbrev pub or_zero : Result ℤ Cause → ℤ
or_zero (Ok v) = v
or_zero (Err c) = pos 0

-- an expression over the slots alone, which can't fault
abbrev pub slots_value : List ℤ → Flat → ℤ
slots_value slots f = or_zero (flat_value slots [] [] f)
