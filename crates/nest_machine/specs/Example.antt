-- Of a promise.
-- A small nest, on which the law of nests is seen to be met. In Fortran, where T is 5 before:
--
--   !HPF$ INDEPENDENT
--   DO I = 1, 2
--     DO J = 1, 2
--       IF (I == 2) T = 7
--     END DO
--   END DO
--
-- The machine's rows are that of the name T, which has no elements, the copies of T, the condition and the marks of T. Slot 0 is T, and slot 1
-- is J. In the nest's storage row 0 is T and row 1 the condition.
use Rattle.std.specs.Prelude.{ℕ, zero, suc, ◌+◌, List, [], ◌∷◌, ℤ, pos, negsuc, ◌+ℤ◌, Bool, true, false, Some, None, Ok, slice_set}
use Rattle.storage.specs.Storage.{Storage}
use Rattle.storage.specs.Effect.{Put}
use Rattle.storage.specs.Truth.{is_set, number_for}
use Rattle.nest_order.specs.Nest.{Interpretation}
use Rattle.nest_syntax.specs.NestKinds.{Kind, Shared, Assigned}
use Rattle.nest_order.specs.Copies.{scalar_at, InIteration, in_iteration, copied}
use Rattle.machine_steps.specs.Layout.{Layout}
use Rattle.machine_steps.specs.Instr.{Value, Instr}
use Rattle.nest_machine.specs.Counting.{Counting}
use Rattle.nest_machine.specs.Body.{Body, NoText, AndText, AndIf, AndLoop, NoArm, AndArm}
use Rattle.nest_machine.specs.BodyCode.{Texts, copy_spot}
use Rattle.nest_machine.specs.Trace.{Data}
use Rattle.nest_syntax.specs.Finals.{Final, Lasts}
use Rattle.nest_machine.specs.Entries.{nest_code}

-- the first iteration has the number 0
abbrev pub is_second : ℕ → Bool
is_second zero = false
is_second (suc i) = true

-- there is one assignment and one condition, whatever their texts. No text reads an element
abbrev pub example_texts : Texts Bool Bool Bool
example_texts = record {
  reads = λ a s i. [];
  outcome = λ a s i values. Value (pos 7);
  left = λ a s i. copy_spot 1 s i;
  mark = λ a. Some 3;
  condition_reads = λ c s i. [];
  condition = λ c s i values. Value (number_for (is_second i));
}

-- a trip less
abbrev pub one_less : ℤ → ℤ
one_less (pos zero) = pos zero
one_less (pos (suc n)) = pos n
one_less (negsuc n) = negsuc n

-- each inner loop has two trips
abbrev pub example_counting : Counting Bool
example_counting = record {
  trips = λ b target c. record { at = c.at + 1; slots = slice_set c.slots (b + 3) (pos 1); status = c.status };
  is_step = λ v. true;
  count = λ first last step. 2;
  left = λ k. pos k;
  less = one_less;
  is_left = is_set;
  advance = λ v step. v +ℤ step;
}

abbrev pub example_body : Body Bool Bool
example_body =
    AndLoop (record { index = 1; first = λ s. pos 1; last = λ s. pos 2; step = λ s. pos 1 }) (AndIf (AndArm (Some true) (AndText true NoText) NoArm) NoText) NoText

abbrev pub example_finals : List Final
example_finals = Lasts 1 3 0 ∷ []

-- ---- the machine

abbrev pub example_size : List ℤ → ℕ
example_size s = 2

-- every row has two elements, and no node owns a part of it alone
abbrev pub two_elements : Layout
two_elements = record { shape = record { lower = pos 1 ∷ []; extent = pos 2 ∷ [] }; mapping = record { grid = []; dims = [] } }

abbrev pub example_layout : List Layout → List ℤ → Layout
example_layout layouts s = two_elements

abbrev pub always_alike : Layout → Layout → Bool
always_alike one other = true

-- each place is quiet
abbrev pub everywhere : ℕ → Bool
everywhere at = true

abbrev pub example_code : List (Instr Bool)
example_code = nest_code example_texts example_counting example_size example_layout 2 always_alike example_finals example_body 2 0

abbrev pub as_it_is : Instr Bool → Instr Bool
as_it_is i = i

abbrev pub example_slots : List ℤ
example_slots = pos 5 ∷ pos 0 ∷ pos 0 ∷ pos 0 ∷ pos 0 ∷ pos 0 ∷ []

abbrev pub example_data : Data Bool
example_data = record { rows = [] ∷ [] ∷ [] ∷ [] ∷ []; layouts = two_elements ∷ two_elements ∷ two_elements ∷ two_elements ∷ []; kept = None; parts = 0 }

-- ---- the nest

abbrev pub example_kinds : ℕ → Kind
example_kinds zero = Assigned
example_kinds (suc row) = Shared

abbrev pub example_start : Storage
example_start = (pos 5 ∷ []) ∷ (pos 0 ∷ pos 0 ∷ []) ∷ []

abbrev pub example_place : ℕ → ℕ
example_place row = row + 1

abbrev pub example_rows : ℕ → Bool
example_rows zero = true
example_rows (suc zero) = true
example_rows (suc (suc row)) = false

abbrev pub example_indices : ℕ → Bool
example_indices zero = false
example_indices (suc zero) = true
example_indices (suc (suc slot)) = false

-- a condition is the number of its iteration
abbrev pub example_one : Interpretation Bool ℕ Bool
example_one = record { effect = λ a m. Put (scalar_at 0) (pos 7); condition = λ i m. Ok (is_second i) }

abbrev pub example_interpretation : Interpretation (InIteration Bool) (InIteration ℕ) Bool
example_interpretation = copied example_kinds example_one

abbrev pub example_action : Bool → List ℤ → ℕ → InIteration Bool
example_action a s i = in_iteration i a

abbrev pub example_condition : Bool → List ℤ → ℕ → InIteration ℕ
example_condition c s i = in_iteration i i
