-- FORALL. In the comments a bar stands for the end of a line, and declarations are given by the
-- names that they declare.
use Rattle.std.specs.Prelude.{◌≡◌, refl, codes, [], ◌∷◌, pos}
use Rattle.std.specs.Fmt.{digits}
use Rattle.std.specs.Int.{int_wrap}
use Rattle.op_tables.specs.declared.op.Op.TheVariants as op
use Rattle.syntax_tree.specs.Expression as e
use Rattle.array_meaning.specs.declared.faults.FaultKind.TheVariants.{Bounds, DivZero, ZeroStride, NotOneToOne, SpaceLimit}
use Rattle.array_meaning.specs.Faults.{Nowhere, AtTuple}
use Rattle.array_meaning.specs.Serial.{outcome}
use Rattle.computed_programs.proofs.Shorthands.{A, B, I, J, K, scalar, vector, matrix, n, v, minus, add, sub, mul, div, eq, gt, element, section, variable_at, element_at, assign, axis, axis_by, set, print, block, loop, forall_over, forall_masked, row, finishes, faults}

-- ---- an empty space

-- Over an empty space no two tuples assign one element.
-- INTEGER :: A(3), I, J|FORALL (I=1:0, J=1:3) A(I) = J|END
empty_isnt_asked_one_to_one : outcome (vector A 3 0 ∷ scalar I (pos 0) ∷ scalar J (pos 0) ∷ []) (block (
    forall_over 2 (axis I (n 1) (n 0) ∷ axis J (n 1) (n 3) ∷ []) (assign 2 (element_at A (v I)) (v J) ∷ []) ∷ []))
    ≡ finishes [] (row (0 ∷ 0 ∷ 0 ∷ []) ∷ [] ∷ [] ∷ [])
unfolding int_wrap digits
empty_isnt_asked_one_to_one = refl

-- The values of its indices have no limit.
-- INTEGER :: A(3), I, J|FORALL (I=2199023255553:2199023255554, J=1:0) A(I) = J|END
empty_has_no_limit : outcome (vector A 3 0 ∷ scalar I (pos 0) ∷ scalar J (pos 0) ∷ []) (block (
    forall_over 2 (axis I (n 2199023255553) (n 2199023255554) ∷ axis J (n 1) (n 0) ∷ []) (assign 2 (element_at A (v I)) (v J) ∷ []) ∷ []))
    ≡ finishes [] (row (0 ∷ 0 ∷ 0 ∷ []) ∷ [] ∷ [] ∷ [])
unfolding int_wrap digits
empty_has_no_limit = refl

-- Its mask isn't evaluated.
-- INTEGER :: A(3), I|FORALL (I=1:0, 1/0 == I) A(I) = 1|END
empty_mask_isnt_evaluated : outcome (vector A 3 0 ∷ scalar I (pos 0) ∷ []) (block (
    forall_masked 2 (axis I (n 1) (n 0) ∷ []) (eq (div (n 1) (n 0)) (v I)) (assign 2 (element_at A (v I)) (n 1) ∷ []) ∷ []))
    ≡ finishes [] (row (0 ∷ 0 ∷ 0 ∷ []) ∷ [] ∷ [])
unfolding int_wrap digits
empty_mask_isnt_evaluated = refl

-- Its header is evaluated, also after an index without values.
-- INTEGER :: A(3), I, J|FORALL (I=1:0, J=1:3:0) A(I) = J|END
empty_header_is_evaluated : outcome (vector A 3 0 ∷ scalar I (pos 0) ∷ scalar J (pos 0) ∷ []) (block (
    forall_over 2 (axis I (n 1) (n 0) ∷ axis_by J (n 1) (n 3) (n 0) ∷ []) (assign 2 (element_at A (v I)) (v J) ∷ []) ∷ []))
    ≡ faults 2 ZeroStride Nowhere [] (row (0 ∷ 0 ∷ 0 ∷ []) ∷ [] ∷ [] ∷ [])
unfolding int_wrap digits
empty_header_is_evaluated = refl

-- ---- the header

-- The indices are evaluated in their order.
-- INTEGER :: A(3), I, J|FORALL (I=1:3:0, J=1:A(9)) A(I) = J|END
header_in_order : outcome (vector A 3 0 ∷ scalar I (pos 0) ∷ scalar J (pos 0) ∷ []) (block (
    forall_over 2 (axis_by I (n 1) (n 3) (n 0) ∷ axis J (n 1) (element A (n 9)) ∷ []) (assign 2 (element_at A (v I)) (v J) ∷ []) ∷ []))
    ≡ faults 2 ZeroStride Nowhere [] (row (0 ∷ 0 ∷ 0 ∷ []) ∷ [] ∷ [] ∷ [])
unfolding int_wrap digits
header_in_order = refl

-- The first index is the fastest: (2,1) comes before (1,2).
-- INTEGER :: A(2,2), I, J|A(1,1) = 1|A(2,2) = 1|FORALL (I=1:2, J=1:2) A(I,J) = 1/A(I,J)|END
first_index_fastest : outcome (matrix A 2 2 0 ∷ scalar I (pos 0) ∷ scalar J (pos 0) ∷ []) (block (
    set 2 (variable_at A (e.One (n 1) ∷ e.One (n 1) ∷ [])) (n 1) ∷
    set 3 (variable_at A (e.One (n 2) ∷ e.One (n 2) ∷ [])) (n 1) ∷
    forall_over 4 (axis I (n 1) (n 2) ∷ axis J (n 1) (n 2) ∷ [])
    (assign 4 (variable_at A (e.One (v I) ∷ e.One (v J) ∷ [])) (div (n 1) (section A (e.One (v I) ∷ e.One (v J) ∷ []))) ∷ []) ∷ []))
    ≡ faults 4 DivZero (AtTuple (row (2 ∷ 1 ∷ []))) [] (row (1 ∷ 0 ∷ 0 ∷ 1 ∷ []) ∷ [] ∷ [] ∷ [])
unfolding int_wrap digits
first_index_fastest = refl

-- A fault is at the values of the indices, not at their positions.
-- INTEGER :: A(5), I, K|FORALL (I=3:5:2, I > 3) A(I) = 1/K|END
fault_at_index_values : outcome (vector A 5 0 ∷ scalar I (pos 0) ∷ scalar K (pos 0) ∷ []) (block (
    forall_masked 2 (axis_by I (n 3) (n 5) (n 2) ∷ []) (gt (v I) (n 3)) (assign 2 (element_at A (v I)) (div (n 1) (v K)) ∷ []) ∷ []))
    ≡ faults 2 DivZero (AtTuple (row (5 ∷ []))) [] (row (0 ∷ 0 ∷ 0 ∷ 0 ∷ 0 ∷ []) ∷ [] ∷ [] ∷ [])
unfolding int_wrap digits
fault_at_index_values = refl

-- ---- limits

-- A space of 1,048,576 tuples is in the limits: what comes next is that A(I) names no J.
-- INTEGER :: A(3), I, J|FORALL (I=1:2, J=1:524288) A(I) = J|END
space_at_limit : outcome (vector A 3 0 ∷ scalar I (pos 0) ∷ scalar J (pos 0) ∷ []) (block (
    forall_over 2 (axis I (n 1) (n 2) ∷ axis J (n 1) (n 524288) ∷ []) (assign 2 (element_at A (v I)) (v J) ∷ []) ∷ []))
    ≡ faults 2 NotOneToOne Nowhere [] (row (0 ∷ 0 ∷ 0 ∷ []) ∷ [] ∷ [] ∷ [])
unfolding int_wrap digits
space_at_limit = refl

-- An index value of 2^41 is in the limits.
-- INTEGER :: A(3), I|FORALL (I=2199023255552:2199023255552) A(I-2199023255551) = 1|END
index_at_limit : outcome (vector A 3 0 ∷ scalar I (pos 0) ∷ []) (block (
    forall_over 2 (axis I (n 2199023255552) (n 2199023255552) ∷ []) (assign 2 (element_at A (sub (v I) (n 2199023255551))) (n 1) ∷ []) ∷ []))
    ≡ finishes [] (row (1 ∷ 0 ∷ 0 ∷ []) ∷ [] ∷ [])
unfolding int_wrap digits
index_at_limit = refl

-- The first value of an index has a limit as the last one has.
-- INTEGER :: A(3), I|FORALL (I=-2199023255553:-2199023255552) A(I) = 1|END
first_index_value_past_limit : outcome (vector A 3 0 ∷ scalar I (pos 0) ∷ []) (block (
    forall_over 2 (axis I (minus (n 2199023255553)) (minus (n 2199023255552)) ∷ []) (assign 2 (element_at A (v I)) (n 1) ∷ []) ∷ []))
    ≡ faults 2 SpaceLimit Nowhere [] (row (0 ∷ 0 ∷ 0 ∷ []) ∷ [] ∷ [])
unfolding int_wrap digits
first_index_value_past_limit = refl

-- A factor of 1,048,576 is in the limits.
-- INTEGER :: A(3), I|FORALL (I=1:1) A(1048576*I-1048575) = 1|END
factor_at_limit : outcome (vector A 3 0 ∷ scalar I (pos 0) ∷ []) (block (
    forall_over 2 (axis I (n 1) (n 1) ∷ []) (assign 2 (element_at A (sub (mul (n 1048576) (v I)) (n 1048575))) (n 1) ∷ []) ∷ []))
    ≡ finishes [] (row (1 ∷ 0 ∷ 0 ∷ []) ∷ [] ∷ [])
unfolding int_wrap digits
factor_at_limit = refl

-- The factor is that of the whole subscript: 1048577 * I - 1048576, though the product is 0.
-- INTEGER :: A(3), I|FORALL (I=1:1) A((I-1)*1048577+1) = 1|END
factor_of_product : outcome (vector A 3 0 ∷ scalar I (pos 0) ∷ []) (block (
    forall_over 2 (axis I (n 1) (n 1) ∷ []) (assign 2 (element_at A (add (mul (e.Closed (sub (v I) (n 1))) (n 1048577)) (n 1))) (n 1) ∷ []) ∷ []))
    ≡ faults 2 SpaceLimit Nowhere [] (row (0 ∷ 0 ∷ 0 ∷ []) ∷ [] ∷ [])
unfolding int_wrap digits
factor_of_product = refl

-- An offset of 2^41 + 1 is past the limit.
-- INTEGER :: A(3), I|FORALL (I=1:1) A(I-2199023255553) = 1|END
offset_past_limit : outcome (vector A 3 0 ∷ scalar I (pos 0) ∷ []) (block (
    forall_over 2 (axis I (n 1) (n 1) ∷ []) (assign 2 (element_at A (sub (v I) (n 2199023255553))) (n 1) ∷ []) ∷ []))
    ≡ faults 2 SpaceLimit Nowhere [] (row (0 ∷ 0 ∷ 0 ∷ []) ∷ [] ∷ [])
unfolding int_wrap digits
offset_past_limit = refl

-- One of 2^41 isn't, and the element is out of bounds alone.
-- INTEGER :: A(3), I|FORALL (I=1:1) A(I-2199023255552) = 1|END
forall_offset_at_limit : outcome (vector A 3 0 ∷ scalar I (pos 0) ∷ []) (block (
    forall_over 2 (axis I (n 1) (n 1) ∷ []) (assign 2 (element_at A (sub (v I) (n 2199023255552))) (n 1) ∷ []) ∷ []))
    ≡ faults 2 Bounds (AtTuple (row (1 ∷ []))) [] (row (0 ∷ 0 ∷ 0 ∷ []) ∷ [] ∷ [])
unfolding int_wrap digits
forall_offset_at_limit = refl

-- The right side's subscripts have the limits.
-- INTEGER :: A(3), B(3), I|FORALL (I=1:1) A(I) = B(1048577*I-1048576)|END
limit_of_right_side : outcome (vector A 3 0 ∷ vector B 3 0 ∷ scalar I (pos 0) ∷ []) (block (
    forall_over 2 (axis I (n 1) (n 1) ∷ []) (assign 2 (element_at A (v I)) (element B (sub (mul (n 1048577) (v I)) (n 1048576))) ∷ []) ∷ []))
    ≡ faults 2 SpaceLimit Nowhere [] (row (0 ∷ 0 ∷ 0 ∷ []) ∷ row (0 ∷ 0 ∷ 0 ∷ []) ∷ [] ∷ [])
unfolding int_wrap digits
limit_of_right_side = refl

-- So have those of the mask.
-- INTEGER :: A(3), I|FORALL (I=1:1, A(1048577*I-1048576) == 0) A(I) = 1|END
limit_of_mask : outcome (vector A 3 0 ∷ scalar I (pos 0) ∷ []) (block (
    forall_masked 2 (axis I (n 1) (n 1) ∷ []) (eq (element A (sub (mul (n 1048577) (v I)) (n 1048576))) (n 0)) (assign 2 (element_at A (v I)) (n 1) ∷ []) ∷ []))
    ≡ faults 2 SpaceLimit Nowhere [] (row (0 ∷ 0 ∷ 0 ∷ []) ∷ [] ∷ [])
unfolding int_wrap digits
limit_of_mask = refl

-- The limits are asked of all assignments before the first is made, at the line of the FORALL.
-- INTEGER :: A(3), B(3), I|FORALL (I=1:1)|A(I) = 1|B(1048577*I-1048576) = 1|END FORALL|END
limits_of_the_whole : outcome (vector A 3 0 ∷ vector B 3 0 ∷ scalar I (pos 0) ∷ []) (block (
    forall_over 2 (axis I (n 1) (n 1) ∷ []) (assign 3 (element_at A (v I)) (n 1) ∷ assign 4 (element_at B (sub (mul (n 1048577) (v I)) (n 1048576))) (n 1) ∷ []) ∷ []))
    ≡ faults 2 SpaceLimit Nowhere [] (row (0 ∷ 0 ∷ 0 ∷ []) ∷ row (0 ∷ 0 ∷ 0 ∷ []) ∷ [] ∷ [])
unfolding int_wrap digits
limits_of_the_whole = refl

-- ---- one to one

-- Whether an element is assigned twice is asked of all assignments before the first is made, each at its own line.
-- INTEGER :: A(3), B(3), I|FORALL (I=1:2)|A(I) = 1|B(1) = 2|END FORALL|END
one_to_one_by_assignments : outcome (vector A 3 0 ∷ vector B 3 0 ∷ scalar I (pos 0) ∷ []) (block (
    forall_over 2 (axis I (n 1) (n 2) ∷ []) (assign 3 (element_at A (v I)) (n 1) ∷ assign 4 (element_at B (n 1)) (n 2) ∷ []) ∷ []))
    ≡ faults 4 NotOneToOne Nowhere [] (row (0 ∷ 0 ∷ 0 ∷ []) ∷ row (0 ∷ 0 ∷ 0 ∷ []) ∷ [] ∷ [])
unfolding int_wrap digits
one_to_one_by_assignments = refl

-- An index of one value need not stand on the left side.
-- INTEGER :: A(3), I, J|FORALL (I=1:3, J=7:7) A(I) = J|END
index_of_one_value : outcome (vector A 3 0 ∷ scalar I (pos 0) ∷ scalar J (pos 0) ∷ []) (block (
    forall_over 2 (axis I (n 1) (n 3) ∷ axis J (n 7) (n 7) ∷ []) (assign 2 (element_at A (v I)) (v J) ∷ []) ∷ []))
    ≡ finishes [] (row (7 ∷ 7 ∷ 7 ∷ []) ∷ [] ∷ [] ∷ [])
unfolding int_wrap digits
index_of_one_value = refl

-- The indices may stand in any order.
-- INTEGER :: A(2,2), I, J|FORALL (I=1:2, J=1:2) A(J,I) = 10*I + J|END
indices_in_any_order : outcome (matrix A 2 2 0 ∷ scalar I (pos 0) ∷ scalar J (pos 0) ∷ []) (block (
    forall_over 2 (axis I (n 1) (n 2) ∷ axis J (n 1) (n 2) ∷ []) (assign 2 (variable_at A (e.One (v J) ∷ e.One (v I) ∷ [])) (add (mul (n 10) (v I)) (v J)) ∷ []) ∷ []))
    ≡ finishes [] (row (11 ∷ 12 ∷ 21 ∷ 22 ∷ []) ∷ [] ∷ [] ∷ [])
unfolding int_wrap digits
indices_in_any_order = refl

-- A factor below 0 is one other than 0.
-- INTEGER :: A(3), I|FORALL (I=1:3) A(4-I) = I|END
factor_below_zero : outcome (vector A 3 0 ∷ scalar I (pos 0) ∷ []) (block (forall_over 2 (axis I (n 1) (n 3) ∷ []) (assign 2 (element_at A (sub (n 4) (v I))) (v I) ∷ []) ∷ []))
    ≡ finishes [] (row (3 ∷ 2 ∷ 1 ∷ []) ∷ [] ∷ [])
unfolding int_wrap digits
factor_below_zero = refl

-- Signs and parentheses make a linear subscript: its factor is 2.
-- INTEGER :: A(3), I|FORALL (I=1:2) A(-(+(I-1)*(-2)-1)) = I|END
signs_and_parentheses : outcome (vector A 3 0 ∷ scalar I (pos 0) ∷ []) (block (
    forall_over 2 (axis I (n 1) (n 2) ∷ [])
    (assign 2 (element_at A (minus (e.Closed (sub (e.Unary op.Plus (mul (e.Closed (sub (v I) (n 1))) (e.Closed (minus (n 2))))) (n 1))))) (v I) ∷ []) ∷ []))
    ≡ finishes [] (row (1 ∷ 0 ∷ 2 ∷ []) ∷ [] ∷ [])
unfolding int_wrap digits
signs_and_parentheses = refl

-- ---- mask and assignments

-- The mask is evaluated once: after the first assignment it would be false (7.5.4.2.2).
-- INTEGER :: A(3), B(3), I|FORALL (I=1:3, A(I) == 0)|A(I) = 1|B(I) = 2|END FORALL|END
forall_mask_once : outcome (vector A 3 0 ∷ vector B 3 0 ∷ scalar I (pos 0) ∷ []) (block (
    forall_masked 2 (axis I (n 1) (n 3) ∷ []) (eq (element A (v I)) (n 0)) (assign 3 (element_at A (v I)) (n 1) ∷ assign 4 (element_at B (v I)) (n 2) ∷ []) ∷ []))
    ≡ finishes [] (row (1 ∷ 1 ∷ 1 ∷ []) ∷ row (2 ∷ 2 ∷ 2 ∷ []) ∷ [] ∷ [])
unfolding int_wrap digits
forall_mask_once = refl

-- The mask is evaluated at all tuples before anything is assigned, at the line of the FORALL.
-- INTEGER :: A(3), I|FORALL (I=2:3, 1/(I-3) < 0)|A(I) = 1|END FORALL|END
fault_of_forall_mask : outcome (vector A 3 0 ∷ scalar I (pos 0) ∷ []) (block (
    forall_masked 2 (axis I (n 2) (n 3) ∷ []) (e.Binary op.Lt (div (n 1) (e.Closed (sub (v I) (n 3)))) (n 0)) (assign 3 (element_at A (v I)) (n 1) ∷ []) ∷ []))
    ≡ faults 2 DivZero (AtTuple (row (3 ∷ []))) [] (row (0 ∷ 0 ∷ 0 ∷ []) ∷ [] ∷ [])
unfolding int_wrap digits
fault_of_forall_mask = refl

-- All values are taken before any is stored: a reversal (7.5.4.2.3).
-- INTEGER :: A(3), I|DO I = 1, 3|A(I) = I|END DO|FORALL (I=1:3) A(I) = A(4-I)|END
reads_what_it_assigns : outcome (vector A 3 0 ∷ scalar I (pos 0) ∷ []) (block (
    loop 2 (axis I (n 1) (n 3)) (set 3 (element_at A (v I)) (v I) ∷ []) ∷
    forall_over 5 (axis I (n 1) (n 3) ∷ []) (assign 5 (element_at A (v I)) (element A (sub (n 4) (v I))) ∷ []) ∷ []))
    ≡ finishes [] (row (3 ∷ 2 ∷ 1 ∷ []) ∷ [] ∷ [])
unfolding int_wrap digits
reads_what_it_assigns = refl

-- The second assignment sees what the first stored at other tuples.
-- INTEGER :: A(3), B(3), I|DO I = 1, 3|A(I) = I|END DO|FORALL (I=1:3)|A(I) = A(I) * 2|B(I) = A(4-I)|END FORALL|END
one_after_the_other : outcome (vector A 3 0 ∷ vector B 3 0 ∷ scalar I (pos 0) ∷ []) (block (
    loop 2 (axis I (n 1) (n 3)) (set 3 (element_at A (v I)) (v I) ∷ []) ∷
    forall_over 5 (axis I (n 1) (n 3) ∷ [])
    (assign 6 (element_at A (v I)) (mul (element A (v I)) (n 2)) ∷ assign 7 (element_at B (v I)) (element A (sub (n 4) (v I))) ∷ []) ∷ []))
    ≡ finishes [] (row (2 ∷ 4 ∷ 6 ∷ []) ∷ row (6 ∷ 4 ∷ 2 ∷ []) ∷ [] ∷ [])
unfolding int_wrap digits
one_after_the_other = refl

-- At a tuple the left side's bounds come before the right side.
-- INTEGER :: A(3), I, K|FORALL (I=1:1) A(I+3) = 1/K|END
left_bounds_first : outcome (vector A 3 0 ∷ scalar I (pos 0) ∷ scalar K (pos 0) ∷ []) (block (
    forall_over 2 (axis I (n 1) (n 1) ∷ []) (assign 2 (element_at A (add (v I) (n 3))) (div (n 1) (v K)) ∷ []) ∷ []))
    ≡ faults 2 Bounds (AtTuple (row (1 ∷ []))) [] (row (0 ∷ 0 ∷ 0 ∷ []) ∷ [] ∷ [] ∷ [])
unfolding int_wrap digits
left_bounds_first = refl

-- Where the mask is false not even the left side's bounds are asked.
-- INTEGER :: A(3), I|FORALL (I=1:4, I < 4) A(I) = 1/(4-I)|END
false_tuple_isnt_evaluated : outcome (vector A 3 0 ∷ scalar I (pos 0) ∷ []) (block (
    forall_masked 2 (axis I (n 1) (n 4) ∷ []) (e.Binary op.Lt (v I) (n 4)) (assign 2 (element_at A (v I)) (div (n 1) (e.Closed (sub (n 4) (v I)))) ∷ []) ∷ []))
    ≡ finishes [] (row (0 ∷ 0 ∷ 1 ∷ []) ∷ [] ∷ [])
unfolding int_wrap digits
false_tuple_isnt_evaluated = refl

-- What an earlier assignment stored stays; the line is that of the assignment.
-- INTEGER :: A(2), B(2), I|FORALL (I=1:2)|A(I) = 7|A(I) = 1/B(I)|END FORALL|END
forall_fault_keeps_earlier : outcome (vector A 2 0 ∷ vector B 2 0 ∷ scalar I (pos 0) ∷ []) (block (
    forall_over 2 (axis I (n 1) (n 2) ∷ []) (assign 3 (element_at A (v I)) (n 7) ∷ assign 4 (element_at A (v I)) (div (n 1) (element B (v I))) ∷ []) ∷ []))
    ≡ faults 4 DivZero (AtTuple (row (1 ∷ []))) [] (row (7 ∷ 7 ∷ []) ∷ row (0 ∷ 0 ∷ []) ∷ [] ∷ [])
unfolding int_wrap digits
forall_fault_keeps_earlier = refl

-- An index of a FORALL is its own, and the variable of its name keeps its value (7.5.4).
-- INTEGER :: A(2), I = 5|FORALL (I=1:2) A(I) = I|PRINT *, I|END
index_hides_variable : outcome (vector A 2 0 ∷ scalar I (pos 5) ∷ []) (block (
    forall_over 2 (axis I (n 1) (n 2) ∷ []) (assign 2 (element_at A (v I)) (v I) ∷ []) ∷
    print 3 (v I ∷ []) ∷ []))
    ≡ finishes (codes "5" ∷ []) (row (1 ∷ 2 ∷ []) ∷ [] ∷ [])
unfolding int_wrap digits
index_hides_variable = refl
