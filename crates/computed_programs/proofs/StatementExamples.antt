-- DO, IF and the other statements, and what names stand for. In the comments a bar stands for the end of a line, and declarations are given by the
-- names that they declare.
use Rattle.std.specs.Prelude.{◌≡◌, refl, codes, [], ◌∷◌, pos, None, Some}
use Rattle.std.specs.Fmt.{digits}
use Rattle.std.specs.Int.{int_wrap}
use Rattle.op_tables.specs.declared.op.Op.TheVariants as op
use Rattle.syntax_tree.specs.Directive.{Cyclic}
use Rattle.syntax_tree.specs.Expression as e
use Rattle.syntax_tree.specs.Statement as s
use Rattle.array_meaning.specs.declared.faults.FaultKind.TheVariants.{Bounds, DivZero}
use Rattle.array_meaning.specs.Faults.{Nowhere}
use Rattle.array_meaning.specs.Serial.{outcome}
use Rattle.computed_programs.proofs.Shorthands.{A, B, I, J, K, scalar, constant, array, dim, vector, n, v, minus, add, sub, mul, div, eq, gt, call, element, section, range, variable, variable_at, element_at, axis, axis_by, at, set, print, block, loop, if_one, row, finishes, faults, matrix}

-- ---- DO

-- 10, 6, 2; after the loop the index is the next value (8.1.4.4).
-- INTEGER :: I|DO I = 10, 1, -4|PRINT *, I|END DO|PRINT *, I|END
do_downward : outcome (scalar I (pos 0) ∷ []) (block (
    loop 2 (axis_by I (n 10) (n 1) (minus (n 4))) (print 3 (v I ∷ []) ∷ []) ∷
    print 5 (v I ∷ []) ∷ []))
    ≡ finishes (codes "10" ∷ codes "6" ∷ codes "2" ∷ codes "-2" ∷ []) ([] ∷ [])
unfolding int_wrap digits
do_downward = refl

-- Where there is no iteration the index has its first value.
-- INTEGER :: I|DO I = 5, 1|PRINT *, I|END DO|PRINT *, I|END
do_without_iterations : outcome (scalar I (pos 0) ∷ []) (block (
    loop 2 (axis I (n 5) (n 1)) (print 3 (v I ∷ []) ∷ []) ∷
    print 5 (v I ∷ []) ∷ []))
    ≡ finishes (codes "5" ∷ []) ([] ∷ [])
unfolding int_wrap digits
do_without_iterations = refl

-- A step past the last value makes one iteration.
-- INTEGER :: I|DO I = 1, 3, 5|PRINT *, I|END DO|PRINT *, I|END
step_past_last : outcome (scalar I (pos 0) ∷ []) (block (
    loop 2 (axis_by I (n 1) (n 3) (n 5)) (print 3 (v I ∷ []) ∷ []) ∷
    print 5 (v I ∷ []) ∷ []))
    ≡ finishes (codes "1" ∷ codes "6" ∷ []) ([] ∷ [])
unfolding int_wrap digits
step_past_last = refl

-- The count is as in exact arithmetic, and the index wraps after the last iteration.
-- INTEGER :: I, K|DO I = 9223372036854775806, 9223372036854775807|K = K + 1|END DO|PRINT *, K, I|END
do_at_greatest_number : outcome (scalar I (pos 0) ∷ scalar K (pos 0) ∷ []) (block (
    loop 2 (axis I (n 9223372036854775806) (n 9223372036854775807)) (set 3 (variable K) (add (v K) (n 1)) ∷ []) ∷
    print 5 (v K ∷ v I ∷ []) ∷ []))
    ≡ finishes (codes "2 -9223372036854775808" ∷ []) ([] ∷ [] ∷ [])
unfolding int_wrap digits
do_at_greatest_number = refl

-- The count is settled before the first iteration.
-- INTEGER :: I, K = 2|DO I = 1, K|K = 9|PRINT *, I|END DO|END
count_from_the_start : outcome (scalar I (pos 0) ∷ scalar K (pos 2) ∷ []) (block (loop 2 (axis I (n 1) (v K)) (set 3 (variable K) (n 9) ∷ print 4 (v I ∷ []) ∷ []) ∷ []))
    ≡ finishes (codes "1" ∷ codes "2" ∷ []) ([] ∷ [] ∷ [])
unfolding int_wrap digits
count_from_the_start = refl

-- So is the step.
-- INTEGER :: I, K = 2|DO I = 1, 5, K|K = 1|PRINT *, I|END DO|END
step_from_the_start : outcome (scalar I (pos 0) ∷ scalar K (pos 2) ∷ []) (block (
    loop 2 (axis_by I (n 1) (n 5) (v K)) (set 3 (variable K) (n 1) ∷ print 4 (v I ∷ []) ∷ []) ∷ []))
    ≡ finishes (codes "1" ∷ codes "3" ∷ codes "5" ∷ []) ([] ∷ [] ∷ [])
unfolding int_wrap digits
step_from_the_start = refl

-- The first value, the last one and the step are evaluated in this order.
-- INTEGER :: A(3), I|DO I = 1, A(9), 0|PRINT *, I|END DO|END
last_before_step : outcome (vector A 3 0 ∷ scalar I (pos 0) ∷ []) (block (loop 2 (axis_by I (n 1) (element A (n 9)) (n 0)) (print 3 (v I ∷ []) ∷ []) ∷ []))
    ≡ faults 2 Bounds Nowhere [] (row (0 ∷ 0 ∷ 0 ∷ []) ∷ [] ∷ [])
unfolding int_wrap digits
last_before_step = refl

-- After EXIT the index has the value that it had.
-- INTEGER :: I|DO I = 1, 5|IF (I == 3) EXIT|END DO|PRINT *, I|END
exit_keeps_index : outcome (scalar I (pos 0) ∷ []) (block (
    loop 2 (axis I (n 1) (n 5)) (if_one 3 (eq (v I) (n 3)) (at 3 s.Exit) ∷ []) ∷
    print 5 (v I ∷ []) ∷ []))
    ≡ finishes (codes "3" ∷ []) ([] ∷ [])
unfolding int_wrap digits
exit_keeps_index = refl

-- CYCLE ends an iteration of the innermost loop.
-- INTEGER :: I, J|DO I = 1, 2|DO J = 1, 2|IF (J == 1) CYCLE|PRINT *, I, J|END DO|END DO|END
inner_cycle : outcome (scalar I (pos 0) ∷ scalar J (pos 0) ∷ []) (block (
    loop 2 (axis I (n 1) (n 2)) (loop 3 (axis J (n 1) (n 2)) (if_one 4 (eq (v J) (n 1)) (at 4 s.Cycle) ∷ print 5 (v I ∷ v J ∷ []) ∷ []) ∷ []) ∷ []))
    ≡ finishes (codes "1 2" ∷ codes "2 2" ∷ []) ([] ∷ [] ∷ [])
unfolding int_wrap digits
inner_cycle = refl

-- EXIT ends the innermost loop alone.
-- INTEGER :: I, J|DO I = 1, 2|DO J = 1, 2|IF (J == 2) EXIT|PRINT *, I, J|END DO|END DO|END
inner_exit : outcome (scalar I (pos 0) ∷ scalar J (pos 0) ∷ []) (block (
    loop 2 (axis I (n 1) (n 2)) (loop 3 (axis J (n 1) (n 2)) (if_one 4 (eq (v J) (n 2)) (at 4 s.Exit) ∷ print 5 (v I ∷ v J ∷ []) ∷ []) ∷ []) ∷ []))
    ≡ finishes (codes "1 1" ∷ codes "2 1" ∷ []) ([] ∷ [] ∷ [])
unfolding int_wrap digits
inner_exit = refl

-- STOP ends the run, whatever loops are open.
-- INTEGER :: I, J|DO I = 1, 2|DO J = 1, 2|IF (J == 2) STOP|PRINT *, I, J|END DO|END DO|PRINT *, 9|END
stop_in_loops : outcome (scalar I (pos 0) ∷ scalar J (pos 0) ∷ []) (block (
    loop 2 (axis I (n 1) (n 2)) (loop 3 (axis J (n 1) (n 2)) (if_one 4 (eq (v J) (n 2)) (at 4 s.Stop) ∷ print 5 (v I ∷ v J ∷ []) ∷ []) ∷ []) ∷
    print 8 (n 9 ∷ []) ∷ []))
    ≡ finishes (codes "1 1" ∷ []) ([] ∷ [] ∷ [])
unfolding int_wrap digits
stop_in_loops = refl

-- So does a fault.
-- INTEGER :: I, J|DO I = 1, 2|DO J = 1, 2|PRINT *, J/(J-2)|END DO|END DO|PRINT *, 9|END
fault_in_loops : outcome (scalar I (pos 0) ∷ scalar J (pos 0) ∷ []) (block (
    loop 2 (axis I (n 1) (n 2)) (loop 3 (axis J (n 1) (n 2)) (print 4 (div (v J) (e.Closed (sub (v J) (n 2))) ∷ []) ∷ []) ∷ []) ∷
    print 7 (n 9 ∷ []) ∷ []))
    ≡ faults 4 DivZero Nowhere (codes "-1" ∷ []) ([] ∷ [] ∷ [])
unfolding int_wrap digits
fault_in_loops = refl

-- A loop after INDEPENDENT does what it does without (HPF 2.0, 5.1).
-- INTEGER :: A(3), I|!HPF$ INDEPENDENT|DO I = 1, 3|A(I) = I|END DO|PRINT *, I|END
independent_loop : outcome (vector A 3 0 ∷ scalar I (pos 0) ∷ []) (block (
    at 3 (s.Do (Some record { line = 2; new = []; reduction = [] }) (axis I (n 1) (n 3)) (block (set 4 (element_at A (v I)) (v I) ∷ []))) ∷
    print 6 (v I ∷ []) ∷ []))
    ≡ finishes (codes "4" ∷ []) (row (1 ∷ 2 ∷ 3 ∷ []) ∷ [] ∷ [])
unfolding int_wrap digits
independent_loop = refl

-- ---- IF

-- The conditions are evaluated up to the first that is true (8.1.2.2).
-- INTEGER :: K|IF (K == 0) THEN|PRINT *, 1|ELSE IF (1/K == 1) THEN|PRINT *, 2|ELSE|PRINT *, 3|END IF|END
first_true_arm : outcome (scalar K (pos 0) ∷ []) (block (
    at 2 (s.If (s.Arm 2 (eq (v K) (n 0)) (print 3 (n 1 ∷ []) s.Done) (s.Arm 4 (eq (div (n 1) (v K)) (n 1)) (print 5 (n 2 ∷ []) s.Done) s.NoArm))
    (s.With (print 7 (n 3 ∷ []) s.Done))) ∷ []))
    ≡ finishes (codes "1" ∷ []) ([] ∷ [])
unfolding int_wrap digits
first_true_arm = refl

-- A condition's fault is at its own line.
-- INTEGER :: K|IF (K == 1) THEN|PRINT *, 1|ELSE IF (1/K == 1) THEN|PRINT *, 2|END IF|END
fault_of_else_if : outcome (scalar K (pos 0) ∷ []) (block (
    at 2 (s.If (s.Arm 2 (eq (v K) (n 1)) (print 3 (n 1 ∷ []) s.Done) (s.Arm 4 (eq (div (n 1) (v K)) (n 1)) (print 5 (n 2 ∷ []) s.Done) s.NoArm)) s.Without) ∷ []))
    ≡ faults 4 DivZero Nowhere [] ([] ∷ [])
unfolding int_wrap digits
fault_of_else_if = refl

-- Of two conditions that are true the first one's block is run, and no other.
-- INTEGER :: K = 2|IF (K == 1) THEN|PRINT *, 1|ELSE IF (K == 2) THEN|PRINT *, 2|ELSE IF (K > 1) THEN|PRINT *, 3|ELSE|PRINT *, 4|END IF|END
second_true_arm : outcome (scalar K (pos 2) ∷ []) (block (
    at 2 (s.If (s.Arm 2 (eq (v K) (n 1)) (print 3 (n 1 ∷ []) s.Done) (s.Arm 4 (eq (v K) (n 2)) (print 5 (n 2 ∷ []) s.Done)
    (s.Arm 6 (gt (v K) (n 1)) (print 7 (n 3 ∷ []) s.Done) s.NoArm))) (s.With (print 9 (n 4 ∷ []) s.Done))) ∷ []))
    ≡ finishes (codes "2" ∷ []) ([] ∷ [])
unfolding int_wrap digits
second_true_arm = refl

-- Where none is true ELSE is run, and nothing where there is none.
-- INTEGER :: K|IF (K == 1) PRINT *, 1|IF (K == 1) THEN|PRINT *, 2|ELSE|PRINT *, 3|END IF|END
no_true_arm : outcome (scalar K (pos 0) ∷ []) (block (
    if_one 2 (eq (v K) (n 1)) (print 2 (n 1 ∷ [])) ∷
    at 3 (s.If (s.Arm 3 (eq (v K) (n 1)) (print 4 (n 2 ∷ []) s.Done) s.NoArm) (s.With (print 6 (n 3 ∷ []) s.Done))) ∷ []))
    ≡ finishes (codes "3" ∷ []) ([] ∷ [])
unfolding int_wrap digits
no_true_arm = refl

-- ---- other statements

-- A section without elements adds nothing to a line, and alone it makes an empty one.
-- INTEGER :: A(3)|PRINT *, 1, A(2:1), 2|PRINT *, A(2:1)|END
empty_section_printed : outcome (vector A 3 0 ∷ []) (block (
    print 2 (n 1 ∷ section A (range (n 2) (n 1) ∷ []) ∷ n 2 ∷ []) ∷
    print 3 (section A (range (n 2) (n 1) ∷ []) ∷ []) ∷ []))
    ≡ finishes (codes "1 2" ∷ [] ∷ []) (row (0 ∷ 0 ∷ 0 ∷ []) ∷ [])
unfolding int_wrap digits
empty_section_printed = refl

-- CONTINUE and REDISTRIBUTE do nothing to the arrays.
-- INTEGER :: A(3) = 4|!HPF$ DYNAMIC A|!HPF$ DISTRIBUTE A(BLOCK)|CONTINUE|!HPF$ REDISTRIBUTE A(CYCLIC)|PRINT *, A|END
nothing_done : outcome (vector A 3 4 ∷ []) (block (
    at 4 s.Continue ∷
    at 5 (s.Redistribute record { names = A ∷ []; formats = Cyclic None ∷ []; onto = None }) ∷
    print 6 (v A ∷ []) ∷ []))
    ≡ finishes (codes "4 4 4" ∷ []) (row (4 ∷ 4 ∷ 4 ∷ []) ∷ [])
unfolding int_wrap digits
nothing_done = refl

-- The right side is evaluated before the store.
-- INTEGER :: K = 3|K = K * K|PRINT *, K|END
right_side_of_scalar : outcome (scalar K (pos 3) ∷ []) (block (
    set 2 (variable K) (mul (v K) (v K)) ∷
    print 3 (v K ∷ []) ∷ []))
    ≡ finishes (codes "9" ∷ []) ([] ∷ [])
unfolding int_wrap digits
right_side_of_scalar = refl

-- The number of places of a shift is evaluated anew in each iteration, and what is shifted is what the one before left.
-- INTEGER :: A(4), I|A(1) = 1; A(2) = 2|DO I = 1, 2|A = CSHIFT(A, I)|PRINT *, A|END DO|END
shifts_in_loop : outcome (vector A 4 0 ∷ scalar I (pos 0) ∷ []) (block (
    set 2 (element_at A (n 1)) (n 1) ∷
    set 2 (element_at A (n 2)) (n 2) ∷
    loop 3 (axis I (n 1) (n 2)) (set 4 (variable A) (call op.CShift (v A ∷ v I ∷ [])) ∷ print 5 (v A ∷ []) ∷ []) ∷ []))
    ≡ finishes (codes "2 0 0 1" ∷ codes "0 1 2 0" ∷ []) (row (0 ∷ 1 ∷ 2 ∷ 0 ∷ []) ∷ [] ∷ [])
unfolding int_wrap digits
shifts_in_loop = refl

-- A fault of a shift changes nothing: 1/K is evaluated before an element is moved.
-- INTEGER :: A(2), K|A(1) = 5|A = CSHIFT(A, 1/K)|END
fault_of_shift : outcome (vector A 2 0 ∷ scalar K (pos 0) ∷ []) (block (
    set 2 (element_at A (n 1)) (n 5) ∷
    set 3 (variable A) (call op.CShift (v A ∷ div (n 1) (v K) ∷ [])) ∷ []))
    ≡ faults 3 DivZero Nowhere [] (row (5 ∷ 0 ∷ []) ∷ [] ∷ [])
unfolding int_wrap digits
fault_of_shift = refl

-- ---- names

-- An empty dimension has the bounds 1 and 0 (13.14.53).
-- INTEGER :: A(5:2,0:1)|PRINT *, LBOUND(A,1), UBOUND(A,1), SIZE(A,1), LBOUND(A,2), UBOUND(A,2), SIZE(A,2), SIZE(A)|END
inquiries : outcome (array A (dim (pos 5) (pos 2) ∷ dim (pos 0) (pos 1) ∷ []) (pos 0) ∷ []) (block (
    print 2 (call op.LBound (v A ∷ n 1 ∷ []) ∷ call op.UBound (v A ∷ n 1 ∷ []) ∷ call op.Size (v A ∷ n 1 ∷ []) ∷ call op.LBound (v A ∷ n 2 ∷ []) ∷
    call op.UBound (v A ∷ n 2 ∷ []) ∷ call op.Size (v A ∷ n 2 ∷ []) ∷ call op.Size (v A ∷ []) ∷ []) ∷ []))
    ≡ finishes (codes "1 0 0 0 1 2 0" ∷ []) ([] ∷ [])
unfolding int_wrap digits
inquiries = refl

-- The number of a dimension may be an expression of constants.
-- INTEGER :: A(2,3)|PRINT *, SIZE(A,MAX(1,2))|END
inquiry_by_expression : outcome (matrix A 2 3 0 ∷ []) (block (print 2 (call op.Size (v A ∷ call op.Max (n 1 ∷ n 2 ∷ []) ∷ []) ∷ []) ∷ []))
    ≡ finishes (codes "3" ∷ []) (row (0 ∷ 0 ∷ 0 ∷ 0 ∷ 0 ∷ 0 ∷ []) ∷ [])
unfolding int_wrap digits
inquiry_by_expression = refl

-- What a triplet leaves out is a declared bound.
-- INTEGER :: A(0:3)|A(:1) = 5|A(2:) = 7|END
what_triplets_leave_out : outcome (array A (dim (pos 0) (pos 3) ∷ []) (pos 0) ∷ []) (block (
    set 2 (variable_at A (e.Range e.Absent (e.Present (n 1)) e.Absent ∷ [])) (n 5) ∷
    set 3 (variable_at A (e.Range (e.Present (n 2)) e.Absent e.Absent ∷ [])) (n 7) ∷ []))
    ≡ finishes [] (row (5 ∷ 5 ∷ 7 ∷ 7 ∷ []) ∷ [])
unfolding int_wrap digits
what_triplets_leave_out = refl

-- The token `::` leaves out the last value.
-- INTEGER :: A(5)|A(2::2) = 1|END
two_colons : outcome (vector A 5 0 ∷ []) (block (set 2 (variable_at A (e.Glued (e.Present (n 2)) (n 2) ∷ [])) (n 1) ∷ []))
    ≡ finishes [] (row (0 ∷ 1 ∷ 0 ∷ 1 ∷ 0 ∷ []) ∷ [])
unfolding int_wrap digits
two_colons = refl

-- A named constant stands for its value.
-- INTEGER, PARAMETER :: K = 2|INTEGER :: A(3)|A(K) = K|END
named_constant : outcome (constant K (pos 2) ∷ vector A 3 0 ∷ []) (block (set 3 (element_at A (v K)) (v K) ∷ []))
    ≡ finishes [] ([] ∷ row (0 ∷ 2 ∷ 0 ∷ []) ∷ [])
unfolding int_wrap digits
named_constant = refl

-- A name without an initial value is 0, and an array's value is that of each element.
-- INTEGER :: A(2) = 4, B(2), K|PRINT *, A, B, K|END
initial_values : outcome (vector A 2 4 ∷ vector B 2 0 ∷ scalar K (pos 0) ∷ []) (block (print 2 (v A ∷ v B ∷ v K ∷ []) ∷ []))
    ≡ finishes (codes "4 4 0 0 0" ∷ []) (row (4 ∷ 4 ∷ []) ∷ row (0 ∷ 0 ∷ []) ∷ [] ∷ [])
unfolding int_wrap digits
initial_values = refl
