-- Array assignment and WHERE. In the comments a bar stands for the end of a line, and declarations are given by the
-- names that they declare.
use Rattle.std.specs.Prelude.{◌≡◌, refl, [], ◌∷◌, pos}
use Rattle.std.specs.Fmt.{digits}
use Rattle.std.specs.Int.{int_wrap}
use Rattle.array_meaning.specs.declared.faults.FaultKind.TheVariants.{Bounds, DivZero, Shape, SpaceLimit}
use Rattle.array_meaning.specs.Faults.{Nowhere, AtTuple}
use Rattle.array_meaning.specs.Serial.{outcome}
use Rattle.computed_programs.proofs.Shorthands.{A, B, I, K, scalar, vector, n, v, minus, add, sub, div, gt, element, section, range, range_by, variable, variable_at, element_at, assign, axis, set, block, loop, where_mask, row, finishes, faults}

-- ---- array assignment

-- All values are taken before any is stored: 1 isn't carried along (7.5.1.5).
-- INTEGER :: A(5), I|DO I = 1, 5|A(I) = I|END DO|A(2:5) = A(1:4)|END
overlap_upward : outcome (vector A 5 0 ∷ scalar I (pos 0) ∷ []) (block (
    loop 2 (axis I (n 1) (n 5)) (set 3 (element_at A (v I)) (v I) ∷ []) ∷
    set 5 (variable_at A (range (n 2) (n 5) ∷ [])) (section A (range (n 1) (n 4) ∷ [])) ∷ []))
    ≡ finishes [] (row (1 ∷ 1 ∷ 2 ∷ 3 ∷ 4 ∷ []) ∷ [] ∷ [])
unfolding int_wrap digits
overlap_upward = refl

-- The same where each element is read and assigned.
-- INTEGER :: A(3), I|DO I = 1, 3|A(I) = I|END DO|A = A(3:1:-1)|END
reversal : outcome (vector A 3 0 ∷ scalar I (pos 0) ∷ []) (block (
    loop 2 (axis I (n 1) (n 3)) (set 3 (element_at A (v I)) (v I) ∷ []) ∷
    set 5 (variable A) (section A (range_by (n 3) (n 1) (minus (n 1)) ∷ [])) ∷ []))
    ≡ finishes [] (row (3 ∷ 2 ∷ 1 ∷ []) ∷ [] ∷ [])
unfolding int_wrap digits
reversal = refl

-- Where a value has a fault nothing is stored, not even at earlier tuples.
-- INTEGER :: A(3), I|DO I = 1, 3|A(I) = 3 - I|END DO|A = 1/A|END
nothing_stored_before_a_fault : outcome (vector A 3 0 ∷ scalar I (pos 0) ∷ []) (block (
    loop 2 (axis I (n 1) (n 3)) (set 3 (element_at A (v I)) (sub (n 3) (v I)) ∷ []) ∷
    set 5 (variable A) (div (n 1) (v A)) ∷ []))
    ≡ faults 5 DivZero (AtTuple (row (3 ∷ []))) [] (row (2 ∷ 1 ∷ 0 ∷ []) ∷ [] ∷ [])
unfolding int_wrap digits
nothing_stored_before_a_fault = refl

-- An element of the right side is evaluated once, before the first store.
-- INTEGER :: A(3), I|DO I = 1, 3|A(I) = I|END DO|A = A + A(1)|END
element_once : outcome (vector A 3 0 ∷ scalar I (pos 0) ∷ []) (block (
    loop 2 (axis I (n 1) (n 3)) (set 3 (element_at A (v I)) (v I) ∷ []) ∷
    set 5 (variable A) (add (v A) (element A (n 1))) ∷ []))
    ≡ finishes [] (row (2 ∷ 3 ∷ 4 ∷ []) ∷ [] ∷ [])
unfolding int_wrap digits
element_once = refl

-- ---- WHERE

-- The mask is evaluated once, and ELSEWHERE takes its negation: evaluated again it would be true nowhere (7.5.3.2).
-- INTEGER :: A(3), I|DO I = 1, 3|A(I) = I|END DO|WHERE (A > 1)|A = 0|ELSEWHERE|A = 5|END WHERE|END
mask_once : outcome (vector A 3 0 ∷ scalar I (pos 0) ∷ []) (block (
    loop 2 (axis I (n 1) (n 3)) (set 3 (element_at A (v I)) (v I) ∷ []) ∷
    where_mask 5 (gt (v A) (n 1)) (assign 6 (variable A) (n 0) ∷ []) (assign 8 (variable A) (n 5) ∷ []) ∷ []))
    ≡ finishes [] (row (5 ∷ 0 ∷ 0 ∷ []) ∷ [] ∷ [])
unfolding int_wrap digits
mask_once = refl

-- An assignment sees what those before it stored.
-- INTEGER :: A(3), B(3), I|DO I = 1, 3|A(I) = I|END DO|WHERE (A > 1)|A = A + 1|B = A|END WHERE|END
where_in_order : outcome (vector A 3 0 ∷ vector B 3 0 ∷ scalar I (pos 0) ∷ []) (block (
    loop 2 (axis I (n 1) (n 3)) (set 3 (element_at A (v I)) (v I) ∷ []) ∷
    where_mask 5 (gt (v A) (n 1)) (assign 6 (variable A) (add (v A) (n 1)) ∷ assign 7 (variable B) (v A) ∷ []) [] ∷ []))
    ≡ finishes [] (row (1 ∷ 3 ∷ 4 ∷ []) ∷ row (0 ∷ 3 ∷ 4 ∷ []) ∷ [] ∷ [])
unfolding int_wrap digits
where_in_order = refl

-- What an earlier assignment stored stays; the line is that of the assignment.
-- INTEGER :: A(3) = 2, B(3)|WHERE (A > 1)|A = 7|A = 1/B|END WHERE|END
where_fault_keeps_earlier : outcome (vector A 3 2 ∷ vector B 3 0 ∷ []) (block (
    where_mask 2 (gt (v A) (n 1)) (assign 3 (variable A) (n 7) ∷ assign 4 (variable A) (div (n 1) (v B)) ∷ []) [] ∷ []))
    ≡ faults 4 DivZero (AtTuple (row (1 ∷ []))) [] (row (7 ∷ 7 ∷ 7 ∷ []) ∷ row (0 ∷ 0 ∷ 0 ∷ []) ∷ [])
unfolding int_wrap digits
where_fault_keeps_earlier = refl

-- After a fault ELSEWHERE isn't reached.
-- INTEGER :: A(2) = 2, B(2)|A(2) = 0|WHERE (A > 1)|A = A/B|ELSEWHERE|B = 9|END WHERE|END
no_elsewhere_after_fault : outcome (vector A 2 2 ∷ vector B 2 0 ∷ []) (block (
    set 2 (element_at A (n 2)) (n 0) ∷
    where_mask 3 (gt (v A) (n 1)) (assign 4 (variable A) (div (v A) (v B)) ∷ []) (assign 6 (variable B) (n 9) ∷ []) ∷ []))
    ≡ faults 4 DivZero (AtTuple (row (1 ∷ []))) [] (row (2 ∷ 0 ∷ []) ∷ row (0 ∷ 0 ∷ []) ∷ [])
unfolding int_wrap digits
no_elsewhere_after_fault = refl

-- A fault after ELSEWHERE comes at its own line and where the mask is false, and the body was stored.
-- INTEGER :: A(2) = 2|A(2) = 0|WHERE (A > 1)|A = 5|ELSEWHERE|A = 1/A|END WHERE|END
fault_in_elsewhere : outcome (vector A 2 2 ∷ []) (block (
    set 2 (element_at A (n 2)) (n 0) ∷
    where_mask 3 (gt (v A) (n 1)) (assign 4 (variable A) (n 5) ∷ []) (assign 6 (variable A) (div (n 1) (v A)) ∷ []) ∷ []))
    ≡ faults 6 DivZero (AtTuple (row (2 ∷ []))) [] (row (5 ∷ 0 ∷ []) ∷ [])
unfolding int_wrap digits
fault_in_elsewhere = refl

-- The mask is evaluated at all tuples before anything is assigned, at the line of the WHERE.
-- INTEGER :: A(2) = 1, B(2)|A(2) = 0|WHERE (1/A > 0)|B = 1|END WHERE|END
fault_of_mask : outcome (vector A 2 1 ∷ vector B 2 0 ∷ []) (block (
    set 2 (element_at A (n 2)) (n 0) ∷
    where_mask 3 (gt (div (n 1) (v A)) (n 0)) (assign 4 (variable B) (n 1) ∷ []) [] ∷ []))
    ≡ faults 3 DivZero (AtTuple (row (2 ∷ []))) [] (row (1 ∷ 0 ∷ []) ∷ row (0 ∷ 0 ∷ []) ∷ [])
unfolding int_wrap digits
fault_of_mask = refl

-- What is evaluated once is evaluated also where the mask is false everywhere.
-- INTEGER :: A(3)|WHERE (A > 1) A = A(9)|END
element_under_false_mask : outcome (vector A 3 0 ∷ []) (block (where_mask 2 (gt (v A) (n 1)) (assign 2 (variable A) (element A (n 9)) ∷ []) [] ∷ []))
    ≡ faults 2 Bounds Nowhere [] (row (0 ∷ 0 ∷ 0 ∷ []) ∷ [])
unfolding int_wrap digits
element_under_false_mask = refl

-- Where the mask is false not even the left side's bounds are asked.
-- INTEGER :: A(3), B(3) = 2|B(3) = 0|WHERE (B > 1) A(2:4) = 5|END
bounds_under_false_mask : outcome (vector A 3 0 ∷ vector B 3 2 ∷ []) (block (
    set 2 (element_at B (n 3)) (n 0) ∷
    where_mask 3 (gt (v B) (n 1)) (assign 3 (variable_at A (range (n 2) (n 4) ∷ [])) (n 5) ∷ []) [] ∷ []))
    ≡ finishes [] (row (0 ∷ 5 ∷ 5 ∷ []) ∷ row (2 ∷ 2 ∷ 0 ∷ []) ∷ [])
unfolding int_wrap digits
bounds_under_false_mask = refl

-- The limits of its sections are asked though the mask is false.
-- INTEGER :: A(1)|WHERE (A > 1) A(1:1:1048577) = 1|END
limit_under_false_mask : outcome (vector A 1 0 ∷ []) (block (where_mask 2 (gt (v A) (n 1))
    (assign 2 (variable_at A (range_by (n 1) (n 1) (n 1048577) ∷ [])) (n 1) ∷ []) [] ∷ []))
    ≡ faults 2 SpaceLimit Nowhere [] (row (0 ∷ []) ∷ [])
unfolding int_wrap digits
limit_under_false_mask = refl

-- An assignment has the extents of the mask.
-- INTEGER :: A(3), B(2)|WHERE (A > 1) B = B|END
shape_of_mask : outcome (vector A 3 0 ∷ vector B 2 0 ∷ []) (block (where_mask 2 (gt (v A) (n 1)) (assign 2 (variable B) (v B) ∷ []) [] ∷ []))
    ≡ faults 2 Shape Nowhere [] (row (0 ∷ 0 ∷ 0 ∷ []) ∷ row (0 ∷ 0 ∷ []) ∷ [])
unfolding int_wrap digits
shape_of_mask = refl

-- The arrays of a mask have one shape.
-- INTEGER :: A(3), B(2)|WHERE (A > B) A = 1|END
shape_in_mask : outcome (vector A 3 0 ∷ vector B 2 0 ∷ []) (block (where_mask 2 (gt (v A) (v B)) (assign 2 (variable A) (n 1) ∷ []) [] ∷ []))
    ≡ faults 2 Shape Nowhere [] (row (0 ∷ 0 ∷ 0 ∷ []) ∷ row (0 ∷ 0 ∷ []) ∷ [])
unfolding int_wrap digits
shape_in_mask = refl

-- Over an empty mask nothing is done.
-- INTEGER :: A(0), B(0), K|WHERE (A > 1/K) B = 1/K|END
empty_mask : outcome (vector A 0 0 ∷ vector B 0 0 ∷ scalar K (pos 0) ∷ []) (block (
    where_mask 2 (gt (v A) (div (n 1) (v K))) (assign 2 (variable B) (div (n 1) (v K)) ∷ []) [] ∷ []))
    ≡ finishes [] ([] ∷ [] ∷ [] ∷ [])
unfolding int_wrap digits
empty_mask = refl
