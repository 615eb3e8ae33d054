-- Nests at their entry: which of them are entered, and which two iterations of the others interfere first. In the comments a bar stands for the
-- end of a line.
use Rattle.std.specs.Prelude.{◌≡◌, refl, [], ◌∷◌, pos, negsuc, Some, None, Err}
use Rattle.std.specs.Int.{int_wrap}
use Rattle.name_table.specs.Op.TheVariants as op
use Rattle.array_meaning.specs.Statements.{Done, AssignScalar, If, Do, Continue, Unmarked, NoArm}
use Rattle.array_meaning.specs.declared.faults.FaultKind.TheVariants.{SpaceLimit}
use Rattle.array_meaning.specs.Faults.{fails}
use Rattle.array_meaning.specs.State.{no_array}
use Rattle.array_meaning.specs.NestEntry.{check_nest}
use Rattle.array_meaning.proofs.NestShorthands.{A, B, I, J, K, L, M, S, T, n, v, apply, plus, minus, times, at, loop, loop_by, nest, block, assign, arm, dim, array, array_of, entry, is_entered, between}

-- INTEGER :: A(5) = 1, I|!HPF$ INDEPENDENT|DO I = 2, 5|A(I) = A(I-1) + 1|END DO|END
reads_the_element_before : check_nest (nest (loop I (n 2) (n 5) ∷ []) [] [])
    (block (assign A (v I ∷ []) (plus (at A (minus (v I) (n 1) ∷ [])) (n 1)) ∷ []))
    (entry (array (dim (pos 1) (pos 5) ∷ []) (pos 1)) no_array [])
    ≡ Err (between (pos 2 ∷ []) (pos 3 ∷ []) A (Some (pos 2 ∷ [])))
unfolding int_wrap
reads_the_element_before = refl

-- INTEGER :: A(5) = 1, I|!HPF$ INDEPENDENT|DO I = 2, 2|A(I) = A(I-1) + 1|END DO|END
one_iteration : is_entered (nest (loop I (n 2) (n 2) ∷ []) [] [])
    (block (assign A (v I ∷ []) (plus (at A (minus (v I) (n 1) ∷ [])) (n 1)) ∷ []))
    (entry (array (dim (pos 1) (pos 5) ∷ []) (pos 1)) no_array [])
unfolding int_wrap
one_iteration = refl

-- INTEGER :: A(3,3), I, J|!HPF$ INDEPENDENT|DO J = 1, 2|!HPF$ INDEPENDENT|DO I = 1, 2|A(I,J) = A(I+1,J)|END DO|END DO|END
two_loops : check_nest (nest (loop J (n 1) (n 2) ∷ loop I (n 1) (n 2) ∷ []) [] [])
    (block (assign A (v I ∷ v J ∷ []) (at A (plus (v I) (n 1) ∷ v J ∷ [])) ∷ []))
    (entry (array (dim (pos 1) (pos 3) ∷ dim (pos 1) (pos 3) ∷ []) (pos 0)) no_array [])
    ≡ Err (between (pos 1 ∷ pos 1 ∷ []) (pos 2 ∷ pos 1 ∷ []) A (Some (pos 2 ∷ pos 1 ∷ [])))
unfolding int_wrap
two_loops = refl

-- INTEGER :: A(6), I, T, S|DO I = 1, 6|A(I) = I*I|END DO|S = 100|!HPF$ INDEPENDENT, NEW(T), REDUCTION(S)|DO I = 1, 6|T = A(I) - I|S = S + T|A(I) = T|END DO|END
new_and_reduction : is_entered (nest (loop I (n 1) (n 6) ∷ []) (T ∷ []) (S ∷ []))
    (block (AssignScalar T (minus (at A (v I ∷ [])) (v I)) ∷ AssignScalar S (plus (v S) (v T)) ∷ assign A (v I ∷ []) (v T) ∷ []))
    (entry (array_of (dim (pos 1) (pos 6) ∷ []) (pos 1 ∷ pos 4 ∷ pos 9 ∷ pos 16 ∷ pos 25 ∷ pos 36 ∷ [])) no_array ((S, pos 100) ∷ (I, pos 7) ∷ []))
unfolding int_wrap
new_and_reduction = refl

-- INTEGER :: A(6), I, T, S|DO I = 1, 6|A(I) = I*I|END DO|S = 100|!HPF$ INDEPENDENT, REDUCTION(S)|DO I = 1, 6|T = A(I) - I|S = S + T|A(I) = T|END DO|END
shared_scalar : check_nest (nest (loop I (n 1) (n 6) ∷ []) [] (S ∷ []))
    (block (AssignScalar T (minus (at A (v I ∷ [])) (v I)) ∷ AssignScalar S (plus (v S) (v T)) ∷ assign A (v I ∷ []) (v T) ∷ []))
    (entry (array_of (dim (pos 1) (pos 6) ∷ []) (pos 1 ∷ pos 4 ∷ pos 9 ∷ pos 16 ∷ pos 25 ∷ pos 36 ∷ [])) no_array ((S, pos 100) ∷ (I, pos 7) ∷ []))
    ≡ Err (between (pos 1 ∷ []) (pos 2 ∷ []) T None)
unfolding int_wrap
shared_scalar = refl

-- INTEGER :: A(6), I, K|K = 3|!HPF$ INDEPENDENT|DO I = 1, 3|IF (K > 5) THEN|A(I) = A(I+1)|ELSE|A(I) = A(I+3) + I|END IF|END DO|END
known_false : is_entered (nest (loop I (n 1) (n 3) ∷ []) [] [])
    (block (If (arm (apply op.Gt (v K ∷ n 5 ∷ [])) (block (assign A (v I ∷ []) (at A (plus (v I) (n 1) ∷ [])) ∷ [])) NoArm)
    (block (assign A (v I ∷ []) (plus (at A (plus (v I) (n 3) ∷ [])) (v I)) ∷ [])) ∷ []))
    (entry (array (dim (pos 1) (pos 6) ∷ []) (pos 0)) no_array ((K, pos 3) ∷ []))
unfolding int_wrap
known_false = refl

-- INTEGER :: A(6), I, K|K = 6|!HPF$ INDEPENDENT|DO I = 1, 3|IF (K > 5) THEN|A(I) = A(I+1)|ELSE|A(I) = A(I+3) + I|END IF|END DO|END
known_true : check_nest (nest (loop I (n 1) (n 3) ∷ []) [] [])
    (block (If (arm (apply op.Gt (v K ∷ n 5 ∷ [])) (block (assign A (v I ∷ []) (at A (plus (v I) (n 1) ∷ [])) ∷ [])) NoArm)
    (block (assign A (v I ∷ []) (plus (at A (plus (v I) (n 3) ∷ [])) (v I)) ∷ [])) ∷ []))
    (entry (array (dim (pos 1) (pos 6) ∷ []) (pos 0)) no_array ((K, pos 6) ∷ []))
    ≡ Err (between (pos 1 ∷ []) (pos 2 ∷ []) A (Some (pos 2 ∷ [])))
unfolding int_wrap
known_true = refl

-- INTEGER :: A(6), I, K|K = 3|!HPF$ INDEPENDENT|DO I = 1, 3|IF (A(6) > 5) THEN|A(I) = A(I+1)|ELSE|A(I) = A(I+3) + I|END IF|END DO|END
not_known : check_nest (nest (loop I (n 1) (n 3) ∷ []) [] [])
    (block (If (arm (apply op.Gt (at A (n 6 ∷ []) ∷ n 5 ∷ [])) (block (assign A (v I ∷ []) (at A (plus (v I) (n 1) ∷ [])) ∷ [])) NoArm)
    (block (assign A (v I ∷ []) (plus (at A (plus (v I) (n 3) ∷ [])) (v I)) ∷ [])) ∷ []))
    (entry (array (dim (pos 1) (pos 6) ∷ []) (pos 0)) no_array ((K, pos 3) ∷ []))
    ≡ Err (between (pos 1 ∷ []) (pos 2 ∷ []) A (Some (pos 2 ∷ [])))
unfolding int_wrap
not_known = refl

-- INTEGER :: A(4), I|!HPF$ INDEPENDENT|DO I = 1, 3|IF (I > 5) A(I) = A(I+1)|END DO|END
known_by_the_index : is_entered (nest (loop I (n 1) (n 3) ∷ []) [] [])
    (block (If (arm (apply op.Gt (v I ∷ n 5 ∷ [])) (block (assign A (v I ∷ []) (at A (plus (v I) (n 1) ∷ [])) ∷ [])) NoArm) Done ∷ []))
    (entry (array (dim (pos 1) (pos 4) ∷ []) (pos 0)) no_array [])
unfolding int_wrap
known_by_the_index = refl

-- INTEGER :: A(4), I|!HPF$ INDEPENDENT|DO I = 1, 3|IF (SIZE(A) > 9) A(I) = A(I+1)|END DO|END
known_by_a_size : is_entered (nest (loop I (n 1) (n 3) ∷ []) [] [])
    (block (If (arm (apply op.Gt (n 4 ∷ n 9 ∷ [])) (block (assign A (v I ∷ []) (at A (plus (v I) (n 1) ∷ [])) ∷ [])) NoArm) Done ∷ []))
    (entry (array (dim (pos 1) (pos 4) ∷ []) (pos 0)) no_array [])
unfolding int_wrap
known_by_a_size = refl

-- INTEGER :: A(4), I|!HPF$ INDEPENDENT|DO I = 1, 3|IF (1/(I-I) > 9) A(I) = A(I+1)|END DO|END
divides_by_zero : check_nest (nest (loop I (n 1) (n 3) ∷ []) [] [])
    (block (If (arm (apply op.Gt (apply op.Div (n 1 ∷ minus (v I) (v I) ∷ []) ∷ n 9 ∷ []))
    (block (assign A (v I ∷ []) (at A (plus (v I) (n 1) ∷ [])) ∷ [])) NoArm) Done ∷ []))
    (entry (array (dim (pos 1) (pos 4) ∷ []) (pos 0)) no_array [])
    ≡ Err (between (pos 1 ∷ []) (pos 2 ∷ []) A (Some (pos 2 ∷ [])))
unfolding int_wrap
divides_by_zero = refl

-- INTEGER :: A(4), I|!HPF$ INDEPENDENT|DO I = 1, 3|IF (1/(I-2) > 9) A(I) = A(I+1)|END DO|END
divides_by_zero_at_one : is_entered (nest (loop I (n 1) (n 3) ∷ []) [] [])
    (block (If (arm (apply op.Gt (apply op.Div (n 1 ∷ minus (v I) (n 2) ∷ []) ∷ n 9 ∷ []))
    (block (assign A (v I ∷ []) (at A (plus (v I) (n 1) ∷ [])) ∷ [])) NoArm) Done ∷ []))
    (entry (array (dim (pos 1) (pos 4) ∷ []) (pos 0)) no_array [])
unfolding int_wrap
divides_by_zero_at_one = refl

-- INTEGER :: A(4), I|!HPF$ INDEPENDENT|DO I = 1, 3|A(I+1) = A(I)|END DO|END
writes_the_next_element : check_nest (nest (loop I (n 1) (n 3) ∷ []) [] [])
    (block (assign A (plus (v I) (n 1) ∷ []) (at A (v I ∷ [])) ∷ []))
    (entry (array (dim (pos 1) (pos 4) ∷ []) (pos 0)) no_array [])
    ≡ Err (between (pos 1 ∷ []) (pos 2 ∷ []) A (Some (pos 2 ∷ [])))
unfolding int_wrap
writes_the_next_element = refl

-- INTEGER :: A(4), I|!HPF$ INDEPENDENT|DO I = 3, 1, -1|A(I+1) = A(I)|END DO|END
steps_down : check_nest (nest (loop_by I (n 3) (n 1) (apply op.Neg (n 1 ∷ [])) ∷ []) [] [])
    (block (assign A (plus (v I) (n 1) ∷ []) (at A (v I ∷ [])) ∷ []))
    (entry (array (dim (pos 1) (pos 4) ∷ []) (pos 0)) no_array [])
    ≡ Err (between (pos 3 ∷ []) (pos 2 ∷ []) A (Some (pos 3 ∷ [])))
unfolding int_wrap
steps_down = refl

-- INTEGER :: A(4), B(4), I|!HPF$ INDEPENDENT|DO I = 1, 4|B(5-I) = B(I) + 1; A(1) = I|END DO|END
least_object : check_nest (nest (loop I (n 1) (n 4) ∷ []) [] [])
    (block (assign B (minus (n 5) (v I) ∷ []) (plus (at B (v I ∷ [])) (n 1)) ∷ assign A (n 1 ∷ []) (v I) ∷ []))
    (entry (array (dim (pos 1) (pos 4) ∷ []) (pos 0)) (array (dim (pos 1) (pos 4) ∷ []) (pos 0)) [])
    ≡ Err (between (pos 1 ∷ []) (pos 2 ∷ []) A (Some (pos 1 ∷ [])))
unfolding int_wrap
least_object = refl

-- INTEGER :: A, B(4), I|!HPF$ INDEPENDENT|DO I = 1, 4|B(5-I) = B(I) + 1; A = I|END DO|END
scalar_first : check_nest (nest (loop I (n 1) (n 4) ∷ []) [] [])
    (block (assign B (minus (n 5) (v I) ∷ []) (plus (at B (v I ∷ [])) (n 1)) ∷ AssignScalar A (v I) ∷ []))
    (entry no_array (array (dim (pos 1) (pos 4) ∷ []) (pos 0)) [])
    ≡ Err (between (pos 1 ∷ []) (pos 2 ∷ []) A None)
unfolding int_wrap
scalar_first = refl

-- INTEGER :: A(4), I, S|!HPF$ INDEPENDENT|DO I = 1, 4|A(5-I) = A(I) + 1; S = I|END DO|END
array_first : check_nest (nest (loop I (n 1) (n 4) ∷ []) [] [])
    (block (assign A (minus (n 5) (v I) ∷ []) (plus (at A (v I ∷ [])) (n 1)) ∷ AssignScalar S (v I) ∷ []))
    (entry (array (dim (pos 1) (pos 4) ∷ []) (pos 0)) no_array [])
    ≡ Err (between (pos 1 ∷ []) (pos 2 ∷ []) S None)
unfolding int_wrap
array_first = refl

-- INTEGER :: A(3), I, K, M = 2000000|!HPF$ INDEPENDENT|DO I = 1, 2|DO K = 1, 0|A(M*I) = 1|END DO|END DO|END
subscript_in_no_turn : check_nest (nest (loop I (n 1) (n 2) ∷ []) [] [])
    (block (Do Unmarked (loop K (n 1) (n 0)) (block (assign A (times (v M) (v I) ∷ []) (n 1) ∷ [])) ∷ []))
    (entry (array (dim (pos 1) (pos 3) ∷ []) (pos 0)) no_array ((M, pos 2000000) ∷ []))
    ≡ fails SpaceLimit
unfolding int_wrap
subscript_in_no_turn = refl

-- INTEGER :: A(3), I, K, M = 2000000|!HPF$ INDEPENDENT|DO I = 1, 2|IF (K > 5) A(M*I) = 1|END DO|END
subscript_in_no_branch : check_nest (nest (loop I (n 1) (n 2) ∷ []) [] [])
    (block (If (arm (apply op.Gt (v K ∷ n 5 ∷ [])) (block (assign A (times (v M) (v I) ∷ []) (n 1) ∷ [])) NoArm) Done ∷ []))
    (entry (array (dim (pos 1) (pos 3) ∷ []) (pos 0)) no_array ((M, pos 2000000) ∷ []))
    ≡ fails SpaceLimit
unfolding int_wrap
subscript_in_no_branch = refl

-- INTEGER :: A(3), I, K, M = 2000000|!HPF$ INDEPENDENT|DO I = 1, 2|A(I) = A(I) + A(M*I-M*I+2*I-I)|END DO|END
subscript_of_a_difference : is_entered (nest (loop I (n 1) (n 2) ∷ []) [] [])
    (block (assign A (v I ∷ []) (plus (at A (v I ∷ [])) (at A (minus (plus (minus (times (v M) (v I)) (times (v M) (v I))) (times (n 2) (v I))) (v I) ∷ []))) ∷ []))
    (entry (array (dim (pos 1) (pos 3) ∷ []) (pos 0)) no_array ((M, pos 2000000) ∷ []))
unfolding int_wrap
subscript_of_a_difference = refl

-- INTEGER :: A(3), I, K, M = 2000000|!HPF$ INDEPENDENT|DO I = 1, 2|A(I) = A(I) + M*I|END DO|END
no_subscript : is_entered (nest (loop I (n 1) (n 2) ∷ []) [] [])
    (block (assign A (v I ∷ []) (plus (at A (v I ∷ [])) (times (v M) (v I))) ∷ []))
    (entry (array (dim (pos 1) (pos 3) ∷ []) (pos 0)) no_array ((M, pos 2000000) ∷ []))
unfolding int_wrap
no_subscript = refl

-- INTEGER :: A(3), I, K|!HPF$ INDEPENDENT|DO I = 1, 1048577|CONTINUE|END DO|END
too_many_iterations : check_nest (nest (loop I (n 1) (n 1048577) ∷ []) [] [])
    (block (Continue ∷ []))
    (entry (array (dim (pos 1) (pos 3) ∷ []) (pos 0)) no_array [])
    ≡ fails SpaceLimit
unfolding int_wrap
too_many_iterations = refl

-- INTEGER :: A(3), I, K|!HPF$ INDEPENDENT|DO I = 1, 2|DO K = 1, 524289|CONTINUE|END DO|END DO|END
too_many_turns : check_nest (nest (loop I (n 1) (n 2) ∷ []) [] [])
    (block (Do Unmarked (loop K (n 1) (n 524289)) (block (Continue ∷ [])) ∷ []))
    (entry (array (dim (pos 1) (pos 3) ∷ []) (pos 0)) no_array [])
    ≡ fails SpaceLimit
unfolding int_wrap
too_many_turns = refl

-- INTEGER :: A(3), I, K|!HPF$ INDEPENDENT|DO I = 2199023255552, 2199023255553|CONTINUE|END DO|END
too_great_an_index : check_nest (nest (loop I (n 2199023255552) (n 2199023255553) ∷ []) [] [])
    (block (Continue ∷ []))
    (entry (array (dim (pos 1) (pos 3) ∷ []) (pos 0)) no_array [])
    ≡ fails SpaceLimit
unfolding int_wrap
too_great_an_index = refl

-- INTEGER :: A(3), I, J|!HPF$ INDEPENDENT|DO J = 1, 2|!HPF$ INDEPENDENT|DO I = 1, 0|A(4) = 1|END DO|END DO|END
no_inner_iteration : is_entered (nest (loop J (n 1) (n 2) ∷ loop I (n 1) (n 0) ∷ []) [] [])
    (block (assign A (n 4 ∷ []) (n 1) ∷ []))
    (entry (array (dim (pos 1) (pos 3) ∷ []) (pos 0)) no_array [])
unfolding int_wrap
no_inner_iteration = refl

-- INTEGER :: A(3), I, J|!HPF$ INDEPENDENT|DO J = 1, 0|!HPF$ INDEPENDENT|DO I = 1, 2|A(4) = 1|END DO|END DO|END
no_iteration : is_entered (nest (loop J (n 1) (n 0) ∷ loop I (n 1) (n 2) ∷ []) [] [])
    (block (assign A (n 4 ∷ []) (n 1) ∷ []))
    (entry (array (dim (pos 1) (pos 3) ∷ []) (pos 0)) no_array [])
unfolding int_wrap
no_iteration = refl

-- INTEGER :: A(6,2), I, J, S, T|!HPF$ INDEPENDENT, NEW(I), REDUCTION(S)|DO J = 1, 2|!HPF$ INDEPENDENT, NEW(T)|DO I = 1, 3|T = I + 10*J|
-- S = MAX(S, T)|IF (T > 12) A(2*I,J) = T|END DO|END DO|END
two_loops_with_lists : is_entered (nest (loop J (n 1) (n 2) ∷ loop I (n 1) (n 3) ∷ []) (I ∷ T ∷ []) (S ∷ []))
    (block (AssignScalar T (plus (v I) (times (n 10) (v J))) ∷ AssignScalar S (apply op.Max (v S ∷ v T ∷ [])) ∷ If
    (arm (apply op.Gt (v T ∷ n 12 ∷ [])) (block (assign A (times (n 2) (v I) ∷ v J ∷ []) (v T) ∷ [])) NoArm) Done ∷ []))
    (entry (array (dim (pos 1) (pos 6) ∷ dim (pos 1) (pos 2) ∷ []) (pos 0)) no_array [])
unfolding int_wrap
two_loops_with_lists = refl

-- INTEGER :: A(6,2), I, J|!HPF$ INDEPENDENT|DO J = 1, 2|!HPF$ INDEPENDENT|DO I = 1, 3|A(2*J,1) = A(1,2) + I|END DO|END DO|END
pair_in_order_of_execution : check_nest (nest (loop J (n 1) (n 2) ∷ loop I (n 1) (n 3) ∷ []) [] [])
    (block (assign A (times (n 2) (v J) ∷ n 1 ∷ []) (plus (at A (n 1 ∷ n 2 ∷ [])) (v I)) ∷ []))
    (entry (array (dim (pos 1) (pos 6) ∷ dim (pos 1) (pos 2) ∷ []) (pos 0)) no_array [])
    ≡ Err (between (pos 1 ∷ pos 1 ∷ []) (pos 2 ∷ pos 1 ∷ []) A (Some (pos 2 ∷ pos 1 ∷ [])))
unfolding int_wrap
pair_in_order_of_execution = refl

-- INTEGER :: A(0:3,-1:1), I, J|!HPF$ INDEPENDENT|DO J = -1, 1|!HPF$ INDEPENDENT|DO I = 0, 3|A(I,J) = A(3-I,-J)|END DO|END DO|END
lower_bounds : check_nest (nest (loop J (apply op.Neg (n 1 ∷ [])) (n 1) ∷ loop I (n 0) (n 3) ∷ []) [] [])
    (block (assign A (v I ∷ v J ∷ []) (at A (minus (n 3) (v I) ∷ apply op.Neg (v J ∷ []) ∷ [])) ∷ []))
    (entry (array (dim (pos 0) (pos 3) ∷ dim (negsuc 0) (pos 1) ∷ []) (pos 0)) no_array [])
    ≡ Err (between (pos 0 ∷ negsuc 0 ∷ []) (pos 3 ∷ pos 1 ∷ []) A (Some (pos 0 ∷ negsuc 0 ∷ [])))
unfolding int_wrap
lower_bounds = refl

-- INTEGER :: A(4), I|!HPF$ INDEPENDENT|DO I = 1, 5|A(I) = I|END DO|END
out_of_bounds : is_entered (nest (loop I (n 1) (n 5) ∷ []) [] [])
    (block (assign A (v I ∷ []) (v I) ∷ []))
    (entry (array (dim (pos 1) (pos 4) ∷ []) (pos 0)) no_array [])
unfolding int_wrap
out_of_bounds = refl

-- INTEGER :: A(4), I|!HPF$ INDEPENDENT|DO I = 1, 5|A(I) = 1/(3-I) + A(I+4)|END DO|END
out_of_bounds_and_division : is_entered (nest (loop I (n 1) (n 5) ∷ []) [] [])
    (block (assign A (v I ∷ []) (plus (apply op.Div (n 1 ∷ minus (n 3) (v I) ∷ [])) (at A (plus (v I) (n 4) ∷ []))) ∷ []))
    (entry (array (dim (pos 1) (pos 4) ∷ []) (pos 0)) no_array [])
unfolding int_wrap
out_of_bounds_and_division = refl

-- INTEGER :: A(4), I, K, L|!HPF$ INDEPENDENT|DO I = 1, 2|IF (L == 1) THEN|A(I) = 1|ELSE IF (A(I) == 0) THEN|A(I+1) = 2|ELSE|A(I+2) = 3|END IF|END DO|END
second_branch : check_nest (nest (loop I (n 1) (n 2) ∷ []) [] [])
    (block (If (arm (apply op.Eq (v L ∷ n 1 ∷ [])) (block (assign A (v I ∷ []) (n 1) ∷ [])) (arm (apply op.Eq (at A (v I ∷ []) ∷ n 0 ∷ []))
    (block (assign A (plus (v I) (n 1) ∷ []) (n 2) ∷ [])) NoArm)) (block (assign A (plus (v I) (n 2) ∷ []) (n 3) ∷ [])) ∷ []))
    (entry (array (dim (pos 1) (pos 4) ∷ []) (pos 0)) no_array [])
    ≡ Err (between (pos 1 ∷ []) (pos 2 ∷ []) A (Some (pos 2 ∷ [])))
unfolding int_wrap
second_branch = refl

-- INTEGER :: A(4), I, K, L|!HPF$ INDEPENDENT|DO I = 1, 2|IF (L == 0) THEN|A(I) = 1|ELSE IF (A(1) == 0) THEN|A(I+1) = 2|ELSE|A(I+2) = 3|END IF|END DO|END
first_branch : is_entered (nest (loop I (n 1) (n 2) ∷ []) [] [])
    (block (If (arm (apply op.Eq (v L ∷ n 0 ∷ [])) (block (assign A (v I ∷ []) (n 1) ∷ [])) (arm (apply op.Eq (at A (n 1 ∷ []) ∷ n 0 ∷ []))
    (block (assign A (plus (v I) (n 1) ∷ []) (n 2) ∷ [])) NoArm)) (block (assign A (plus (v I) (n 2) ∷ []) (n 3) ∷ [])) ∷ []))
    (entry (array (dim (pos 1) (pos 4) ∷ []) (pos 0)) no_array [])
unfolding int_wrap
first_branch = refl

-- INTEGER :: A(4), I, L|!HPF$ INDEPENDENT|DO I = 1, 2|IF (L == 0) A(I) = L; IF (I == 2) L = 5|END DO|END
assigned_in_a_condition : check_nest (nest (loop I (n 1) (n 2) ∷ []) [] [])
    (block (If (arm (apply op.Eq (v L ∷ n 0 ∷ [])) (block (assign A (v I ∷ []) (v L) ∷ [])) NoArm) Done ∷ If (arm (apply op.Eq (v I ∷ n 2 ∷ []))
    (block (AssignScalar L (n 5) ∷ [])) NoArm) Done ∷ []))
    (entry (array (dim (pos 1) (pos 4) ∷ []) (pos 0)) no_array [])
    ≡ Err (between (pos 1 ∷ []) (pos 2 ∷ []) L None)
unfolding int_wrap
assigned_in_a_condition = refl

-- INTEGER :: A(4), I, L|!HPF$ INDEPENDENT|DO I = 1, 2|IF (I == 2) L = 5|END DO|END
assigned_once : is_entered (nest (loop I (n 1) (n 2) ∷ []) [] [])
    (block (If (arm (apply op.Eq (v I ∷ n 2 ∷ [])) (block (AssignScalar L (n 5) ∷ [])) NoArm) Done ∷ []))
    (entry (array (dim (pos 1) (pos 4) ∷ []) (pos 0)) no_array [])
unfolding int_wrap
assigned_once = refl

-- INTEGER :: A(4), I, L|!HPF$ INDEPENDENT, NEW(L)|DO I = 1, 2|IF (I == 1) L = 5|A(I) = I|END DO|END
new_assigned_once : is_entered (nest (loop I (n 1) (n 2) ∷ []) (L ∷ []) [])
    (block (If (arm (apply op.Eq (v I ∷ n 1 ∷ [])) (block (AssignScalar L (n 5) ∷ [])) NoArm) Done ∷ assign A (v I ∷ []) (v I) ∷ []))
    (entry (array (dim (pos 1) (pos 4) ∷ []) (pos 0)) no_array [])
unfolding int_wrap
new_assigned_once = refl

-- INTEGER :: A(4), I, L|DO L = 1, 2|!HPF$ INDEPENDENT|DO I = 1, 3|A(I) = A(I+1)*(L-1) + I|END DO|END DO|END
inside_a_loop : check_nest (nest (loop I (n 1) (n 3) ∷ []) [] [])
    (block (assign A (v I ∷ []) (plus (times (at A (plus (v I) (n 1) ∷ [])) (minus (v L) (n 1))) (v I)) ∷ []))
    (entry (array (dim (pos 1) (pos 4) ∷ []) (pos 0)) no_array ((L, pos 1) ∷ []))
    ≡ Err (between (pos 1 ∷ []) (pos 2 ∷ []) A (Some (pos 2 ∷ [])))
unfolding int_wrap
inside_a_loop = refl
