-- What nests of INDEPENDENT loops are resolved to. In the comments a bar stands for the end of a line.
use Rattle.std.specs.Prelude.{◌≡◌, refl, ℕ, List, [], ◌∷◌, pos, None}
use Rattle.name_table.specs.Op.TheVariants as op
use Rattle.name_table.specs.Expression as e
use Rattle.name_table.specs.Statement as s
use Rattle.name_table.specs.declared.names.Entry.{Entry}
use Rattle.array_meaning.specs.Terms.{Number, Scalar, Apply, NoTerm, More}
use Rattle.array_meaning.specs.Statements.{Loop, Nest, Block, Done, Then, AssignScalar, AssignElement, Do, Unmarked, Outermost}
use Rattle.array_meaning.specs.Resolution.{resolved_block}
use Rattle.array_meaning.proofs.Shorthands.{A, I, J, S, X, scalar, array, dim, n, v, args, variable, variable_at, axis, independent, at, block}

abbrev loop_from_one : ℕ → ℕ → Loop
loop_from_one x last = record { index = x; control = record { first = Number (pos 1); last = Number (pos last); step = Number (pos 1) } }

abbrev nest_names : List Entry
nest_names = array A (dim (pos 1) (pos 2) ∷ dim (pos 1) (pos 3) ∷ []) (pos 0) ∷ scalar I (pos 0) ∷ scalar J (pos 0) ∷ scalar S (pos 0) ∷ scalar X (pos 0) ∷ []

abbrev element_assigned : Block
element_assigned = Then 6 (AssignElement 0 (More (Scalar 1) (More (Scalar 2) NoTerm)) (Scalar 1)) Done

-- INTEGER :: A(2,3), I, J, S, X|!HPF$ INDEPENDENT, NEW(I,X)|DO J = 1, 3|!HPF$ INDEPENDENT, NEW(X)|DO I = 1, 2|A(I,J) = I|END DO|END DO|END
two_loops : Block
two_loops = resolved_block nest_names (block (
    at 3 (s.Do (independent 2 (I ∷ X ∷ []) []) (axis J (n 1) (n 3)) (block (
    at 5 (s.Do (independent 4 (X ∷ []) []) (axis I (n 1) (n 2)) (block (
    at 6 (s.Assign (variable_at A (args (v I ∷ v J ∷ []))) (v I)) ∷ []))) ∷ []))) ∷ []))

nest_of_two : Nest
nest_of_two = record { line = 2; loops = loop_from_one 2 3 ∷ loop_from_one 1 2 ∷ []; new = 1 ∷ 4 ∷ []; reduction = [] }

one_nest : two_loops ≡ Then 3 (Do (Outermost nest_of_two element_assigned) (loop_from_one 2 3) (Then 5 (Do Unmarked (loop_from_one 1 2) element_assigned) Done)) Done
unfolding two_loops nest_of_two
one_nest = refl

-- INTEGER :: A(2,3), I, J, S, X|!HPF$ INDEPENDENT, REDUCTION(S)|DO J = 1, 3|DO I = 1, 2|A(I,J) = I|END DO|S = S + J|END DO|END
one_loop : Block
one_loop = resolved_block nest_names (block (
    at 3 (s.Do (independent 2 [] (S ∷ [])) (axis J (n 1) (n 3)) (block (
    at 4 (s.Do None (axis I (n 1) (n 2)) (block (at 6 (s.Assign (variable_at A (args (v I ∷ v J ∷ []))) (v I)) ∷ []))) ∷
    at 8 (s.Assign (variable S) (e.Binary op.Add (v S) (v J))) ∷ []))) ∷ []))

nest_of_one : Nest
nest_of_one = record { line = 2; loops = loop_from_one 2 3 ∷ []; new = []; reduction = 3 ∷ [] }

its_body : Block
its_body = Then 4 (Do Unmarked (loop_from_one 1 2) element_assigned) (Then 8 (AssignScalar 3 (Apply op.Add (More (Scalar 3) (More (Scalar 2) NoTerm)))) Done)

loop_in_nest : one_loop ≡ Then 3 (Do (Outermost nest_of_one its_body) (loop_from_one 2 3) its_body) Done
unfolding one_loop nest_of_one its_body
loop_in_nest = refl
