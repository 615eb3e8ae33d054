-- Of a promise.
-- A small nest, on which the laws are seen to be met. In Fortran, with A and B arrays and B of one element more:
--
--   !HPF$ INDEPENDENT, NEW(X), REDUCTION(S)
--   DO I = 0, 2
--     IF (B(I) > 1) THEN
--       X = B(I)
--       A(I) = A(I) / B(I+1)
--     ELSE
--       A(I) = A(I) / B(I+1)
--     END IF
--     DO K = 1, 2
--       S = S + B(I)
--     END DO
--   END DO
use Rattle.std.specs.Prelude.{ℕ, zero, suc, ◌+◌, List, [], ◌∷◌, ℤ, pos, ◌+ℤ◌, int_lt, int_div, Option, Some, None, Result, Ok, Bool, if◌then◌else◌}
use Rattle.std.specs.Int.{int_wrap}
use mir.Syntax.{w64}
use Rattle.storage.specs.Storage.{Storage, Spot, read}
use Rattle.storage.specs.Effect.{Effect, Put, Fail}
use Rattle.nest_order.specs.Items.{Items, Done, Then, If, Repeat, EndIf, Branch}
use Rattle.nest_order.specs.Listed.{Names}
use Rattle.nest_order.specs.Nest.{Interpretation}
use Rattle.storage.specs.Truth.{is_set}
use Rattle.op_tables.specs.declared.join.Join.TheVariants.{Sum}
use Rattle.nest_order.specs.Reduction.{Statement, OnRight}
use Rattle.nest_syntax.specs.NestKinds.{Kind, Shared, New, Reduced}
use Rattle.nest_order.specs.Copies.{scalar_at}
use Rattle.nest_order.specs.Scalars.{Reducing}

-- `to = from`, `to = to + from`, and `to = to / from`, which faults with its line where the divisor is 0
pub data Assignment : Type 0 where
  Set : (to from : Spot) → Assignment
  Add : (to from : Spot) → Assignment
  Divide : (line : ℕ) (to from : Spot) → Assignment

-- the element is greater than the bound
pub data Comparison : Type 0 where
  Exceeds : (element : Spot) (bound : ℤ) → Comparison

abbrev pub effect_in : Assignment → Storage → Effect ℕ
effect_in (Set to from) m = Put to (read m from)
effect_in (Add to from) m = Put to (int_wrap w64 (read m to +ℤ read m from))
effect_in (Divide line to from) m = if is_set (read m from) then Put to (int_wrap w64 (int_div (read m to) (read m from))) else Fail line

abbrev pub exceeds_in : Comparison → Storage → Result Bool ℕ
exceeds_in (Exceeds element bound) m = Ok (int_lt bound (read m element))

abbrev pub interpretation : Interpretation Assignment Comparison ℕ
interpretation = record { effect = effect_in; condition = exceeds_in }

abbrev pub spots_named : Assignment → List Spot
spots_named (Set to from) = to ∷ from ∷ []
spots_named (Add to from) = to ∷ from ∷ []
spots_named (Divide line to from) = to ∷ from ∷ []

abbrev pub spots_written : Assignment → List Spot
spots_written (Set to from) = to ∷ []
spots_written (Add to from) = to ∷ []
spots_written (Divide line to from) = to ∷ []

abbrev pub element_named : Comparison → List Spot
element_named (Exceeds element bound) = element ∷ []

abbrev pub names : Names Assignment Comparison Spot
names = record { of_action = spots_named; of_condition = element_named; known = λ condition. None }

-- the rows: A, B, the copies of X and of S, and from 4 on the conditions of the IF's two branches
abbrev pub a_at : ℕ → Spot
a_at i = record { row = 0; at = i }

abbrev pub b_at : ℕ → Spot
b_at i = record { row = 1; at = i }

abbrev pub x_at : ℕ → Spot
x_at i = record { row = 2; at = i }

abbrev pub s_at : ℕ → Spot
s_at i = record { row = 3; at = i }

abbrev pub body : ℕ → Items Assignment Comparison
body i =
    If (Branch (Some (Exceeds (b_at i) (pos 1))) (Then (Set (x_at i) (b_at i)) (Then (Divide 4 (a_at i) (b_at (i + 1))) Done))
    (Branch None (Then (Divide 6 (a_at i) (b_at (i + 1))) Done) EndIf))
    (Repeat 2 (λ k. Then (Add (s_at i) (b_at i)) Done) Done)

abbrev pub three : ℕ → ℕ → ℕ → List ℤ
three x y z = pos x ∷ pos y ∷ pos z ∷ []

-- the storage at the entry, with these four elements of B: X is 5, so each of its copies is, and a copy of S starts at 0
abbrev pub entry : List ℤ → Storage
entry b = three 12 12 12 ∷ b ∷ three 5 5 5 ∷ three 0 0 0 ∷ three 0 0 0 ∷ three 0 0 0 ∷ []

-- without a fault: the first two iterations take the IF's first branch
abbrev pub fine : Storage
fine = entry (pos 3 ∷ pos 2 ∷ pos 1 ∷ pos 4 ∷ [])

-- iteration 0 divides by 0 in the second branch, and iteration 2 in the first
abbrev pub faulty : Storage
faulty = entry (pos 1 ∷ pos 0 ∷ pos 2 ∷ pos 0 ∷ [])

-- what the iterations of the nest without a fault make of S
abbrev pub sums : List (List Statement)
sums = (OnRight (pos 3) ∷ OnRight (pos 3) ∷ []) ∷ (OnRight (pos 2) ∷ OnRight (pos 2) ∷ []) ∷ (OnRight (pos 1) ∷ OnRight (pos 1) ∷ []) ∷ []

-- the nest with X and S as one object each: in row 2 the NEW variable X, and in row 3 the REDUCTION variable S
abbrev pub kinds : ℕ → Kind
kinds zero = Shared
kinds (suc zero) = Shared
kinds (suc (suc zero)) = New
kinds (suc (suc (suc zero))) = Reduced Sum
kinds (suc (suc (suc (suc row)))) = Shared

abbrev pub body_of_scalars : ℕ → Items Assignment Comparison
body_of_scalars i =
    If (Branch (Some (Exceeds (b_at i) (pos 1))) (Then (Set (scalar_at 2) (b_at i)) (Then (Divide 4 (a_at i) (b_at (i + 1))) Done))
    (Branch None (Then (Divide 6 (a_at i) (b_at (i + 1))) Done) EndIf))
    (Repeat 2 (λ k. Then (Add (scalar_at 3) (b_at i)) Done) Done)

-- what an assignment reads; of a reduction statement, what its expression reads
abbrev pub spots_read : Assignment → List Spot
spots_read (Set to from) = from ∷ []
spots_read (Add to from) = from ∷ []
spots_read (Divide line to from) = to ∷ from ∷ []

abbrev pub reads : Names Assignment Comparison Spot
reads = record { of_action = spots_read; of_condition = element_named; known = λ condition. None }

abbrev pub reducing : Assignment → Option (Reducing ℕ)
reducing (Set to from) = None
reducing (Add to from) = Some (record { row = to.row; statement = λ m. Ok (OnRight (read m from)) })
reducing (Divide line to from) = None

-- X is 5 at the entry, and S is 100
abbrev pub fine_scalars : Storage
fine_scalars = three 12 12 12 ∷ (pos 3 ∷ pos 2 ∷ pos 1 ∷ pos 4 ∷ []) ∷ (pos 5 ∷ []) ∷ (pos 100 ∷ []) ∷ []

-- a nest that reads X before it assigns it: `A(I) = X` and then `X = B(I)`
abbrev pub reads_early : ℕ → Items Assignment Comparison
reads_early i = Then (Set (a_at i) (scalar_at 2)) (Then (Set (scalar_at 2) (b_at i)) Done)
