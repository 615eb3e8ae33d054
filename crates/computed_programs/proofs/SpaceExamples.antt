-- Sections: their extents, conformable ones, and limits. In the comments a bar stands for the end of a line, and declarations are given by the
-- names that they declare.
use Rattle.std.specs.Prelude.{◌≡◌, refl, codes, [], ◌∷◌, pos, negsuc}
use Rattle.std.specs.Fmt.{digits}
use Rattle.std.specs.Int.{int_wrap}
use Rattle.op_tables.specs.declared.op.Op.TheVariants as op
use Rattle.syntax_tree.specs.Expression as e
use Rattle.array_meaning.specs.declared.faults.FaultKind.TheVariants.{Bounds, Shape, ZeroStride, SpaceLimit}
use Rattle.array_meaning.specs.Faults.{Nowhere, AtTuple}
use Rattle.array_meaning.specs.Serial.{outcome}
use Rattle.computed_programs.proofs.Shorthands.{A, B, I, scalar, array, dim, vector, matrix, n, v, minus, add, call, section, range, range_by, variable, variable_at, element_at, set, print, block, row, finishes, faults}

-- ---- extents

-- A stride that passes over the last value: 6, 4, 2 (6.2.2.3.1).
-- INTEGER :: A(6)|A(6:1:-2) = 1|END
stride_down : outcome (vector A 6 0 ∷ []) (block (set 2 (variable_at A (range_by (n 6) (n 1) (minus (n 2)) ∷ [])) (n 1) ∷ []))
    ≡ finishes [] (row (0 ∷ 1 ∷ 0 ∷ 1 ∷ 0 ∷ 1 ∷ []) ∷ [])
unfolding int_wrap digits
stride_down = refl

-- A scalar subscript has no extent: the second row, at columns 1 and 3 (6.2.2.3).
-- INTEGER :: A(2,3), B(2) = 7|A(2,1:3:2) = B|END
subscript_beside_triplet : outcome (matrix A 2 3 0 ∷ vector B 2 7 ∷ []) (block (set 2 (variable_at A (e.One (n 2) ∷ range_by (n 1) (n 3) (n 2) ∷ [])) (v B) ∷ []))
    ≡ finishes [] (row (0 ∷ 7 ∷ 0 ∷ 0 ∷ 0 ∷ 7 ∷ []) ∷ row (7 ∷ 7 ∷ []) ∷ [])
unfolding int_wrap digits
subscript_beside_triplet = refl

-- As many elements don't make sections conformable (2.4.5).
-- INTEGER :: A(2,3), B(3,2)|A = B|END
other_extents_as_many_elements : outcome (matrix A 2 3 0 ∷ matrix B 3 2 0 ∷ []) (block (set 2 (variable A) (v B) ∷ []))
    ≡ faults 2 Shape Nowhere [] (row (0 ∷ 0 ∷ 0 ∷ 0 ∷ 0 ∷ 0 ∷ []) ∷ row (0 ∷ 0 ∷ 0 ∷ 0 ∷ 0 ∷ 0 ∷ []) ∷ [])
unfolding int_wrap digits
other_extents_as_many_elements = refl

-- An empty space has an extent too, which is 0 and not 1.
-- INTEGER :: A(3), B(3)|A(1:0) = B(1:1)|END
empty_space_has_a_shape : outcome (vector A 3 0 ∷ vector B 3 0 ∷ []) (block (set 2 (variable_at A (range (n 1) (n 0) ∷ [])) (section B (range (n 1) (n 1) ∷ [])) ∷ []))
    ≡ faults 2 Shape Nowhere [] (row (0 ∷ 0 ∷ 0 ∷ []) ∷ row (0 ∷ 0 ∷ 0 ∷ []) ∷ [])
unfolding int_wrap digits
empty_space_has_a_shape = refl

-- A stride of 0 is a fault before extents are compared.
-- INTEGER :: A(3), B(3)|A(1:2:0) = B|END
stride_before_shape : outcome (vector A 3 0 ∷ vector B 3 0 ∷ []) (block (set 2 (variable_at A (range_by (n 1) (n 2) (n 0) ∷ [])) (v B) ∷ []))
    ≡ faults 2 ZeroStride Nowhere [] (row (0 ∷ 0 ∷ 0 ∷ []) ∷ row (0 ∷ 0 ∷ 0 ∷ []) ∷ [])
unfolding int_wrap digits
stride_before_shape = refl

-- In a reduction the first array gives the extents, and the others are to have them.
-- INTEGER :: A(3), B(2), I|I = SUM(A + B)|END
reduction_of_two_shapes : outcome (vector A 3 0 ∷ vector B 2 0 ∷ scalar I (pos 0) ∷ []) (block (set 2 (variable I) (call op.Sum (add (v A) (v B) ∷ [])) ∷ []))
    ≡ faults 2 Shape Nowhere [] (row (0 ∷ 0 ∷ 0 ∷ []) ∷ row (0 ∷ 0 ∷ []) ∷ [] ∷ [])
unfolding int_wrap digits
reduction_of_two_shapes = refl

-- ---- limits of a space

-- An empty space is in the limits, whatever its subscripts.
-- INTEGER :: A(3)|A(9999999999999:1) = 1|END
empty_space_far_away : outcome (vector A 3 0 ∷ []) (block (set 2 (variable_at A (range (n 9999999999999) (n 1) ∷ [])) (n 1) ∷ []))
    ≡ finishes [] (row (0 ∷ 0 ∷ 0 ∷ []) ∷ [])
unfolding int_wrap digits
empty_space_far_away = refl

-- The same of its stride.
-- INTEGER :: A(3)|A(1:0:1048577) = 1|END
empty_space_great_stride : outcome (vector A 3 0 ∷ []) (block (set 2 (variable_at A (range_by (n 1) (n 0) (n 1048577) ∷ [])) (n 1) ∷ []))
    ≡ finishes [] (row (0 ∷ 0 ∷ 0 ∷ []) ∷ [])
unfolding int_wrap digits
empty_space_great_stride = refl

-- 1,048,577 tuples are past the limit, which comes before the bounds of A.
-- INTEGER :: A(3)|A(1:1048577) = 1|END
one_tuple_too_many : outcome (vector A 3 0 ∷ []) (block (set 2 (variable_at A (range (n 1) (n 1048577) ∷ [])) (n 1) ∷ []))
    ≡ faults 2 SpaceLimit Nowhere [] (row (0 ∷ 0 ∷ 0 ∷ []) ∷ [])
unfolding int_wrap digits
one_tuple_too_many = refl

-- The limit is one of the product: 1,025 times 1,024 tuples.
-- INTEGER :: A(3,3)|A(1:1025,1:1024) = 1|END
two_extents_too_many : outcome (matrix A 3 3 0 ∷ []) (block (set 2 (variable_at A (range (n 1) (n 1025) ∷ range (n 1) (n 1024) ∷ [])) (n 1) ∷ []))
    ≡ faults 2 SpaceLimit Nowhere [] (row (0 ∷ 0 ∷ 0 ∷ 0 ∷ 0 ∷ 0 ∷ 0 ∷ 0 ∷ 0 ∷ []) ∷ [])
unfolding int_wrap digits
two_extents_too_many = refl

-- A number of tuples is as in exact arithmetic: 2^64 - 1 of them aren't none, nor below 0.
-- INTEGER :: A(3)|A(-9223372036854775807:9223372036854775807) = 1|END
count_beyond_64_bits : outcome (vector A 3 0 ∷ []) (block (set 2 (variable_at A (range (minus (n 9223372036854775807)) (n 9223372036854775807) ∷ [])) (n 1) ∷ []))
    ≡ faults 2 SpaceLimit Nowhere [] (row (0 ∷ 0 ∷ 0 ∷ []) ∷ [])
unfolding int_wrap digits
count_beyond_64_bits = refl

-- A reduction has the limits of its own space.
-- INTEGER :: A(3), I|I = SUM(A(1:1048577))|END
reduction_too_large : outcome (vector A 3 0 ∷ scalar I (pos 0) ∷ []) (block (set 2 (variable I) (call op.Sum (section A (range (n 1) (n 1048577) ∷ []) ∷ [])) ∷ []))
    ≡ faults 2 SpaceLimit Nowhere [] (row (0 ∷ 0 ∷ 0 ∷ []) ∷ [] ∷ [])
unfolding int_wrap digits
reduction_too_large = refl

-- An empty reduction has none.
-- INTEGER :: A(3) = 4|PRINT *, SUM(A(9999999999999:1))|END
empty_reduction_far_away : outcome (vector A 3 4 ∷ []) (block (print 2 (call op.Sum (section A (range (n 9999999999999) (n 1) ∷ []) ∷ []) ∷ []) ∷ []))
    ≡ finishes (codes "0" ∷ []) (row (4 ∷ 4 ∷ 4 ∷ []) ∷ [])
unfolding int_wrap digits
empty_reduction_far_away = refl

-- A PRINT of a section has the limits of its space too.
-- INTEGER :: A(3)|PRINT *, A(1:1048577)|END
printed_section_too_large : outcome (vector A 3 0 ∷ []) (block (print 2 (section A (range (n 1) (n 1048577) ∷ []) ∷ []) ∷ []))
    ≡ faults 2 SpaceLimit Nowhere [] (row (0 ∷ 0 ∷ 0 ∷ []) ∷ [])
unfolding int_wrap digits
printed_section_too_large = refl

-- ---- limits of subscripts

-- A stride of 1,048,576 is in the limits, and 1,048,577 isn't, as another example says.
-- INTEGER :: A(3)|A(1:1:1048576) = 1|END
stride_at_limit : outcome (vector A 3 0 ∷ []) (block (set 2 (variable_at A (range_by (n 1) (n 1) (n 1048576) ∷ [])) (n 1) ∷ []))
    ≡ finishes [] (row (1 ∷ 0 ∷ 0 ∷ []) ∷ [])
unfolding int_wrap digits
stride_at_limit = refl

-- At a position x the subscript is x - 2199023255552.
-- INTEGER :: A(-2199023255551:-2199023255551)|A = 1|END
offset_at_limit : outcome (array A (dim (negsuc 2199023255550) (negsuc 2199023255550) ∷ []) (pos 0) ∷ []) (block (set 2 (variable A) (n 1) ∷ []))
    ≡ finishes [] (row (1 ∷ []) ∷ [])
unfolding int_wrap digits
offset_at_limit = refl

-- A scalar subscript of a section has a limit, which comes before its bounds.
-- INTEGER :: A(3,3)|A(2199023255553,1:1) = 1|END
scalar_subscript_past_limit : outcome (matrix A 3 3 0 ∷ []) (block (set 2 (variable_at A (e.One (n 2199023255553) ∷ range (n 1) (n 1) ∷ [])) (n 1) ∷ []))
    ≡ faults 2 SpaceLimit Nowhere [] (row (0 ∷ 0 ∷ 0 ∷ 0 ∷ 0 ∷ 0 ∷ 0 ∷ 0 ∷ 0 ∷ []) ∷ [])
unfolding int_wrap digits
scalar_subscript_past_limit = refl

-- At the limit it is out of its bounds alone.
-- INTEGER :: A(3,3)|A(2199023255552,1:1) = 1|END
scalar_subscript_at_limit : outcome (matrix A 3 3 0 ∷ []) (block (set 2 (variable_at A (e.One (n 2199023255552) ∷ range (n 1) (n 1) ∷ [])) (n 1) ∷ []))
    ≡ faults 2 Bounds (AtTuple (row (1 ∷ []))) [] (row (0 ∷ 0 ∷ 0 ∷ 0 ∷ 0 ∷ 0 ∷ 0 ∷ 0 ∷ 0 ∷ []) ∷ [])
unfolding int_wrap digits
scalar_subscript_at_limit = refl

-- The limits hold for all sections of an assignment.
-- INTEGER :: A(3), B(3)|A(1:1) = B(1:1:1048577)|END
right_side_past_limit : outcome (vector A 3 0 ∷ vector B 3 0 ∷ []) (block (
    set 2 (variable_at A (range (n 1) (n 1) ∷ [])) (section B (range_by (n 1) (n 1) (n 1048577) ∷ [])) ∷ []))
    ≡ faults 2 SpaceLimit Nowhere [] (row (0 ∷ 0 ∷ 0 ∷ []) ∷ row (0 ∷ 0 ∷ 0 ∷ []) ∷ [])
unfolding int_wrap digits
right_side_past_limit = refl

-- An element that is evaluated once is out of its bounds, and has no limit.
-- INTEGER :: A(3)|A(9999999999999) = 1|END
element_has_no_limit : outcome (vector A 3 0 ∷ []) (block (set 2 (element_at A (n 9999999999999)) (n 1) ∷ []))
    ≡ faults 2 Bounds Nowhere [] (row (0 ∷ 0 ∷ 0 ∷ []) ∷ [])
unfolding int_wrap digits
element_has_no_limit = refl
