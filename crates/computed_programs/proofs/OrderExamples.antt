-- What is evaluated before what, and which fault is the first. In the comments a bar stands for the end of a line, and declarations are given by the
-- names that they declare.
use Rattle.std.specs.Prelude.{◌≡◌, refl, codes, [], ◌∷◌, pos}
use Rattle.std.specs.Fmt.{digits}
use Rattle.std.specs.Int.{int_wrap}
use Rattle.op_tables.specs.declared.op.Op.TheVariants as op
use Rattle.syntax_tree.specs.Expression as e
use Rattle.array_meaning.specs.declared.faults.FaultKind.TheVariants.{Bounds, DivZero, ZeroStride}
use Rattle.array_meaning.specs.Faults.{Nowhere, AtTuple}
use Rattle.array_meaning.specs.Serial.{outcome}
use Rattle.computed_programs.proofs.Shorthands.{A, B, K, scalar, array, dim, vector, matrix, n, v, minus, add, div, eq, gt, call, element, section, range, range_by, variable, variable_at, element_at, set, print, block, if_one, row, finishes, faults}

-- ---- tuples and operands

-- Tuples go with the first position fastest: (2,1) comes before (1,2) (6.2.2.2).
-- INTEGER :: A(2,2), B(2,2) = 1|B(2,1) = 0|B(1,2) = 0|A = 1/B|END
first_of_tuples : outcome (matrix A 2 2 0 ∷ matrix B 2 2 1 ∷ []) (block (
    set 2 (variable_at B (e.One (n 2) ∷ e.One (n 1) ∷ [])) (n 0) ∷
    set 3 (variable_at B (e.One (n 1) ∷ e.One (n 2) ∷ [])) (n 0) ∷
    set 4 (variable A) (div (n 1) (v B)) ∷ []))
    ≡ faults 4 DivZero (AtTuple (row (2 ∷ 1 ∷ []))) [] (row (0 ∷ 0 ∷ 0 ∷ 0 ∷ []) ∷ row (1 ∷ 0 ∷ 0 ∷ 1 ∷ []) ∷ [])
unfolding int_wrap digits
first_of_tuples = refl

-- At a tuple the left operand's fault comes first.
-- INTEGER :: A(2), B(2)|A = B(0:1) + 1/B|END
left_operand_first : outcome (vector A 2 0 ∷ vector B 2 0 ∷ []) (block (set 2 (variable A) (add (section B (range (n 0) (n 1) ∷ [])) (div (n 1) (v B))) ∷ []))
    ≡ faults 2 Bounds (AtTuple (row (1 ∷ []))) [] (row (0 ∷ 0 ∷ []) ∷ row (0 ∷ 0 ∷ []) ∷ [])
unfolding int_wrap digits
left_operand_first = refl

-- The same the other way round.
-- INTEGER :: A(2), B(2)|A = 1/B + B(0:1)|END
right_operand_second : outcome (vector A 2 0 ∷ vector B 2 0 ∷ []) (block (set 2 (variable A) (add (div (n 1) (v B)) (section B (range (n 0) (n 1) ∷ []))) ∷ []))
    ≡ faults 2 DivZero (AtTuple (row (1 ∷ []))) [] (row (0 ∷ 0 ∷ []) ∷ row (0 ∷ 0 ∷ []) ∷ [])
unfolding int_wrap digits
right_operand_second = refl

-- All of a tuple comes before the next: B(3) is out of bounds at the second.
-- INTEGER :: A(2), B(2)|A = B(2:3) + 1/B|END
a_whole_tuple_first : outcome (vector A 2 0 ∷ vector B 2 0 ∷ []) (block (set 2 (variable A) (add (section B (range (n 2) (n 3) ∷ [])) (div (n 1) (v B))) ∷ []))
    ≡ faults 2 DivZero (AtTuple (row (1 ∷ []))) [] (row (0 ∷ 0 ∷ []) ∷ row (0 ∷ 0 ∷ []) ∷ [])
unfolding int_wrap digits
a_whole_tuple_first = refl

-- The same of the left side: A(3) is out of bounds at the second tuple.
-- INTEGER :: A(2), B(2)|A(2:3) = 1/B|END
right_side_before_next_left : outcome (vector A 2 0 ∷ vector B 2 0 ∷ []) (block (set 2 (variable_at A (range (n 2) (n 3) ∷ [])) (div (n 1) (v B)) ∷ []))
    ≡ faults 2 DivZero (AtTuple (row (1 ∷ []))) [] (row (0 ∷ 0 ∷ []) ∷ row (0 ∷ 0 ∷ []) ∷ [])
unfolding int_wrap digits
right_side_before_next_left = refl

-- All operands are evaluated, also where the first settles the value.
-- INTEGER :: K|IF (K == 0 .OR. 1/K > 0) K = 1|END
all_operands : outcome (scalar K (pos 0) ∷ []) (block (if_one 2 (e.Binary op.Or (eq (v K) (n 0)) (gt (div (n 1) (v K)) (n 0))) (set 2 (variable K) (n 1)) ∷ []))
    ≡ faults 2 DivZero Nowhere [] ([] ∷ [])
unfolding int_wrap digits
all_operands = refl

-- A fault ends the run, and what was printed stays.
-- INTEGER :: K|PRINT *, 1|PRINT *, 2, 1/K|PRINT *, 3|END
nothing_after_a_fault : outcome (scalar K (pos 0) ∷ []) (block (
    print 2 (n 1 ∷ []) ∷
    print 3 (n 2 ∷ div (n 1) (v K) ∷ []) ∷
    print 4 (n 3 ∷ []) ∷ []))
    ≡ faults 3 DivZero Nowhere (codes "1" ∷ []) ([] ∷ [])
unfolding int_wrap digits
nothing_after_a_fault = refl

-- ---- what is evaluated once

-- Subscripts come before the right side.
-- INTEGER :: A(3), K|A(1/K) = A(9)|END
subscript_before_right_side : outcome (vector A 3 0 ∷ scalar K (pos 0) ∷ []) (block (set 2 (element_at A (div (n 1) (v K))) (element A (n 9)) ∷ []))
    ≡ faults 2 DivZero Nowhere [] (row (0 ∷ 0 ∷ 0 ∷ []) ∷ [] ∷ [])
unfolding int_wrap digits
subscript_before_right_side = refl

-- Of two subscripts the first comes first.
-- INTEGER :: A(2,2), B(2), K|A(1/K,B(9)) = 1|END
subscripts_left_to_right : outcome (matrix A 2 2 0 ∷ vector B 2 0 ∷ scalar K (pos 0) ∷ []) (block (
    set 2 (variable_at A (e.One (div (n 1) (v K)) ∷ e.One (element B (n 9)) ∷ [])) (n 1) ∷ []))
    ≡ faults 2 DivZero Nowhere [] (row (0 ∷ 0 ∷ 0 ∷ 0 ∷ []) ∷ row (0 ∷ 0 ∷ []) ∷ [] ∷ [])
unfolding int_wrap digits
subscripts_left_to_right = refl

-- So it is where one is a triplet.
-- INTEGER :: A(2,2), B(2)|A(B(9),1:2:0) = 1|END
scalar_subscript_before_triplet : outcome (matrix A 2 2 0 ∷ vector B 2 0 ∷ []) (block (
    set 2 (variable_at A (e.One (element B (n 9)) ∷ range_by (n 1) (n 2) (n 0) ∷ [])) (n 1) ∷ []))
    ≡ faults 2 Bounds Nowhere [] (row (0 ∷ 0 ∷ 0 ∷ 0 ∷ []) ∷ row (0 ∷ 0 ∷ []) ∷ [])
unfolding int_wrap digits
scalar_subscript_before_triplet = refl

-- The left side's triplets come before the right side's elements.
-- INTEGER :: A(3), B(3)|A(1:2:0) = B(9)|END
left_parts_first : outcome (vector A 3 0 ∷ vector B 3 0 ∷ []) (block (set 2 (variable_at A (range_by (n 1) (n 2) (n 0) ∷ [])) (element B (n 9)) ∷ []))
    ≡ faults 2 ZeroStride Nowhere [] (row (0 ∷ 0 ∷ 0 ∷ []) ∷ row (0 ∷ 0 ∷ 0 ∷ []) ∷ [])
unfolding int_wrap digits
left_parts_first = refl

-- Elements come before extents are compared.
-- INTEGER :: A(3), B(3)|A(1:2) = B(9) + B|END
parts_before_shape : outcome (vector A 3 0 ∷ vector B 3 0 ∷ []) (block (set 2 (variable_at A (range (n 1) (n 2) ∷ [])) (add (element B (n 9)) (v B)) ∷ []))
    ≡ faults 2 Bounds Nowhere [] (row (0 ∷ 0 ∷ 0 ∷ []) ∷ row (0 ∷ 0 ∷ 0 ∷ []) ∷ [])
unfolding int_wrap digits
parts_before_shape = refl

-- Of the parts of the right side the left one comes first.
-- INTEGER :: A(2), B(2)|A = SUM(1/B) + B(9)|END
parts_left_to_right : outcome (vector A 2 0 ∷ vector B 2 0 ∷ []) (block (
    set 2 (variable A) (add (call op.Sum (div (n 1) (v B) ∷ [])) (element B (n 9))) ∷ []))
    ≡ faults 2 DivZero (AtTuple (row (1 ∷ []))) [] (row (0 ∷ 0 ∷ []) ∷ row (0 ∷ 0 ∷ []) ∷ [])
unfolding int_wrap digits
parts_left_to_right = refl

-- An element is evaluated also where there is no tuple.
-- INTEGER :: A(0), B(3)|A = B(9)|END
element_of_empty_statement : outcome (vector A 0 0 ∷ vector B 3 0 ∷ []) (block (set 2 (variable A) (element B (n 9)) ∷ []))
    ≡ faults 2 Bounds Nowhere [] ([] ∷ row (0 ∷ 0 ∷ 0 ∷ []) ∷ [])
unfolding int_wrap digits
element_of_empty_statement = refl

-- So is a reduction.
-- INTEGER :: A(0), B(2)|A = SUM(1/B)|END
reduction_of_empty_statement : outcome (vector A 0 0 ∷ vector B 2 0 ∷ []) (block (set 2 (variable A) (call op.Sum (div (n 1) (v B) ∷ [])) ∷ []))
    ≡ faults 2 DivZero (AtTuple (row (1 ∷ []))) [] ([] ∷ row (0 ∷ 0 ∷ []) ∷ [])
unfolding int_wrap digits
reduction_of_empty_statement = refl

-- A scalar subscript of a section is held against its bounds at tuples alone.
-- INTEGER :: A(2,2)|A(3,1:0) = 1|END
scalar_subscript_of_empty_section : outcome (matrix A 2 2 0 ∷ []) (block (set 2 (variable_at A (e.One (n 3) ∷ range (n 1) (n 0) ∷ [])) (n 1) ∷ []))
    ≡ finishes [] (row (0 ∷ 0 ∷ 0 ∷ 0 ∷ []) ∷ [])
unfolding int_wrap digits
scalar_subscript_of_empty_section = refl

-- ---- parts of a triplet

-- The first value comes before the last one.
-- INTEGER :: A(3), K|A(1/K:A(9)) = 1|END
first_before_last : outcome (vector A 3 0 ∷ scalar K (pos 0) ∷ []) (block (set 2 (variable_at A (range (div (n 1) (v K)) (element A (n 9)) ∷ [])) (n 1) ∷ []))
    ≡ faults 2 DivZero Nowhere [] (row (0 ∷ 0 ∷ 0 ∷ []) ∷ [] ∷ [])
unfolding int_wrap digits
first_before_last = refl

-- The last value comes before the test of the stride.
-- INTEGER :: A(3)|A(1:A(9):0) = 1|END
last_before_stride : outcome (vector A 3 0 ∷ []) (block (set 2 (variable_at A (range_by (n 1) (element A (n 9)) (n 0) ∷ [])) (n 1) ∷ []))
    ≡ faults 2 Bounds Nowhere [] (row (0 ∷ 0 ∷ 0 ∷ []) ∷ [])
unfolding int_wrap digits
last_before_stride = refl

-- A stride of 0 is a fault also where no value lies between the first and the last one.
-- INTEGER :: A(3)|A(2:1:0) = 1|END
stride_of_empty_triplet : outcome (vector A 3 0 ∷ []) (block (set 2 (variable_at A (range_by (n 2) (n 1) (n 0) ∷ [])) (n 1) ∷ []))
    ≡ faults 2 ZeroStride Nowhere [] (row (0 ∷ 0 ∷ 0 ∷ []) ∷ [])
unfolding int_wrap digits
stride_of_empty_triplet = refl

-- ---- bounds

-- A subscript below the lower bound is out of bounds.
-- INTEGER :: A(0:2)|A(-1) = 1|END
below_lower_bound : outcome (array A (dim (pos 0) (pos 2) ∷ []) (pos 0) ∷ []) (block (set 2 (element_at A (minus (n 1))) (n 1) ∷ []))
    ≡ faults 2 Bounds Nowhere [] (row (0 ∷ 0 ∷ 0 ∷ []) ∷ [])
unfolding int_wrap digits
below_lower_bound = refl

-- Each subscript has its own bounds: there are four elements, and yet no A(3,1).
-- INTEGER :: A(2,2)|A(3,1) = 1|END
each_dimension_has_bounds : outcome (matrix A 2 2 0 ∷ []) (block (set 2 (variable_at A (e.One (n 3) ∷ e.One (n 1) ∷ [])) (n 1) ∷ []))
    ≡ faults 2 Bounds Nowhere [] (row (0 ∷ 0 ∷ 0 ∷ 0 ∷ []) ∷ [])
unfolding int_wrap digits
each_dimension_has_bounds = refl
