-- Which parts of a nest of INDEPENDENT loops a run reaches. In the comments a bar stands for the end of a line. All programs declare
-- INTEGER :: A(3) = 2, B(3), I, J, T.
use Rattle.std.specs.Prelude.{◌≡◌, refl, codes, ℕ, List, [], ◌∷◌, pos, true, false, Option, Some, None}
use Rattle.std.specs.Int.{int_wrap}
use Rattle.op_tables.specs.declared.op.Op.{Op}
use Rattle.op_tables.specs.declared.op.Op.TheVariants as op
use Rattle.syntax_tree.specs.Statement as s
use Rattle.name_table.specs.declared.names.Entry.{Entry}
use Rattle.array_meaning.specs.Terms.{Term, Number, Scalar, Index, Element, Apply, NoTerm, More}
use Rattle.array_meaning.specs.declared.sections.Sequence.{Sequence}
use Rattle.array_meaning.specs.declared.sections.Selection.TheVariants.{Along}
use Rattle.array_meaning.specs.Elementals.{Selected}
use Rattle.statement_trail.specs.Anchors.{AtTerm, AnchorText}
use Rattle.statement_trail.specs.NestParts.{EnteredNest, NestPart, ScalarPart, ElementPart, ConditionPart}
use Rattle.nest_syntax.specs.Asked.{Asked}
use Rattle.statement_trail.specs.Trail.{TrailEntry, Reduced, OfNest, trail_of}
use Rattle.computed_programs.proofs.Shorthands.{A, B, I, J, scalar, vector, n, v, add, div, sub, gt, call, element, variable, element_at, axis, at, set, block, loop, nest}

abbrev T : List ℕ
T = codes "T"

abbrev names : List Entry
names = vector A 3 2 ∷ vector B 3 0 ∷ scalar I (pos 0) ∷ scalar J (pos 0) ∷ scalar T (pos 0) ∷ []

-- so many numbers from 1 on
abbrev from_one : ℕ → Sequence
from_one count = record { first = pos 1; step = pos 1; count = count }

abbrev term : Op → Term → Term → Term
term o a b = Apply o (More a (More b NoTerm))

-- an element of the array at a place, at I
abbrev at_i : ℕ → Term
at_i a = Element a (More (Scalar 2) NoTerm)

-- beside an element of the array at a place, at the nest's index of this number, the innermost loop's first
abbrev beside_index : (array index : ℕ) → Option AnchorText
beside_index a k = Some record { array = a; subscripts = AtTerm (Index k) ∷ [] }

-- a part of a line; J has this value, and the other scalars are 0
abbrev part : EnteredNest → ℕ → ℕ → List Asked → NestPart → TrailEntry
part entered line j asked p = record { line = line; scalars = pos 0 ∷ pos 0 ∷ pos 0 ∷ pos j ∷ pos 0 ∷ []; event = OfNest entered asked p }

abbrev holds : ℕ → Asked
holds k = record { number = k; value = true }

abbrev fails : ℕ → Asked
fails k = record { number = k; value = false }

-- The statements in the order of the text, each condition before its branch; those in a branch under its condition alone, and each condition where no earlier one
-- holds. An inner loop's trips come one after another, and its index alone is as they leave it.
-- !HPF$ INDEPENDENT, NEW(T)|DO I = 1, 2|T = A(I)|IF (T > 1) THEN|B(I) = T|ELSE IF (A(I) > 0) THEN|B(I) = I|ELSE|B(I) = 0|END IF|DO J = 1, 2|T = T + J|END DO|END DO|END
abbrev of_one : EnteredNest
of_one = record { indices = 2 ∷ []; axes = from_one 2 ∷ []; assigned = 4 ∷ []; conditions = 3; beside = beside_index 1 0 }

each_statement : trail_of names (block (
    nest 2 (T ∷ []) [] 3 (axis I (n 1) (n 2)) (
    set 4 (variable T) (element A (v I)) ∷
    at 5 (s.If (s.Arm 5 (gt (v T) (n 1)) (block (set 6 (element_at B (v I)) (v T) ∷ []))
    (s.Arm 7 (gt (element A (v I)) (n 0)) (block (set 8 (element_at B (v I)) (v I) ∷ [])) s.NoArm))
    (s.With (block (set 10 (element_at B (v I)) (n 0) ∷ [])))) ∷
    loop 12 (axis J (n 1) (n 2)) (set 13 (variable T) (add (v T) (v J)) ∷ []) ∷ []) ∷ []))
    ≡ part of_one 4 0 [] (ScalarPart 4 (at_i 0))
    ∷ part of_one 5 0 [] (ConditionPart 0 (Some (term op.Gt (Scalar 4) (Number (pos 1)))))
    ∷ part of_one 6 0 (holds 0 ∷ []) (ElementPart 1 (More (Scalar 2) NoTerm) (Scalar 4))
    ∷ part of_one 7 0 (fails 0 ∷ []) (ConditionPart 1 (Some (term op.Gt (at_i 0) (Number (pos 0)))))
    ∷ part of_one 8 0 (holds 1 ∷ []) (ElementPart 1 (More (Scalar 2) NoTerm) (Scalar 2))
    ∷ part of_one 0 0 (fails 1 ∷ fails 0 ∷ []) (ConditionPart 2 None)
    ∷ part of_one 10 0 (holds 2 ∷ []) (ElementPart 1 (More (Scalar 2) NoTerm) (Number (pos 0)))
    ∷ part of_one 13 1 [] (ScalarPart 4 (term op.Add (Scalar 4) (Scalar 3)))
    ∷ part of_one 13 2 [] (ScalarPart 4 (term op.Add (Scalar 4) (Scalar 3)))
    ∷ []
unfolding int_wrap
each_statement = refl

-- An IF in a branch: each of its conditions is asked for beside the branch's, and an ELSE that has CONTINUE alone has none. The innermost loop's index comes first.
-- !HPF$ INDEPENDENT, NEW(I)|DO J = 1, 3|!HPF$ INDEPENDENT|DO I = 1, 1|IF (J > 2) THEN|IF (I > J) THEN|B(J) = 1|ELSE|CONTINUE|END IF|B(J) = 2|END IF|END DO|END DO|END
abbrev of_two : EnteredNest
of_two = record { indices = 2 ∷ 3 ∷ []; axes = from_one 1 ∷ from_one 3 ∷ []; assigned = []; conditions = 2; beside = beside_index 1 1 }

if_in_branch : trail_of names (block (
    nest 2 (I ∷ []) [] 3 (axis J (n 1) (n 3)) (
    nest 4 [] [] 5 (axis I (n 1) (n 1)) (
    at 6 (s.If (s.Arm 6 (gt (v J) (n 2)) (block (
    at 7 (s.If (s.Arm 7 (gt (v I) (v J)) (block (set 8 (element_at B (v J)) (n 1) ∷ [])) s.NoArm) (s.With (block (at 10 s.Continue ∷ [])))) ∷
    set 12 (element_at B (v J)) (n 2) ∷ [])) s.NoArm) s.Without) ∷ []) ∷ []) ∷ []))
    ≡ part of_two 6 0 [] (ConditionPart 0 (Some (term op.Gt (Scalar 3) (Number (pos 2)))))
    ∷ part of_two 7 0 (holds 0 ∷ []) (ConditionPart 1 (Some (term op.Gt (Scalar 2) (Scalar 3))))
    ∷ part of_two 8 0 (holds 1 ∷ []) (ElementPart 1 (More (Scalar 3) NoTerm) (Number (pos 1)))
    ∷ part of_two 12 0 (holds 0 ∷ []) (ElementPart 1 (More (Scalar 3) NoTerm) (Number (pos 2)))
    ∷ []
unfolding int_wrap
if_in_branch = refl

-- What the copies lie beside is assigned outside the inner loops. The expression in a subscript keeps its scalars, and the nest's index is one of a space.
-- !HPF$ INDEPENDENT|DO I = 1, 2|DO J = 1, 1|A(I) = J|END DO|B(I + T) = 0|END DO|END
abbrev of_inner : EnteredNest
of_inner = record {
  indices = 2 ∷ [];
  axes = from_one 2 ∷ [];
  assigned = [];
  conditions = 0;
  beside = Some record { array = 1; subscripts = AtTerm (term op.Add (Index 0) (Scalar 4)) ∷ [] };
}

outside_inner_loops : trail_of names (block (
    nest 2 [] [] 3 (axis I (n 1) (n 2)) (
    loop 4 (axis J (n 1) (n 1)) (set 5 (element_at A (v I)) (v J) ∷ []) ∷
    set 7 (element_at B (add (v I) (v T))) (n 0) ∷ []) ∷ []))
    ≡ part of_inner 5 1 [] (ElementPart 0 (More (Scalar 2) NoTerm) (Scalar 3))
    ∷ part of_inner 7 2 [] (ElementPart 1 (More (term op.Add (Scalar 2) (Scalar 4)) NoTerm) (Number (pos 0)))
    ∷ []
unfolding int_wrap
outside_inner_loops = refl

-- All parts are reached where the nest ends with a fault, here DivZero in its first iteration, and nothing after it.
-- !HPF$ INDEPENDENT|DO I = 1, 2|A(I) = 1 / (I - 1)|B(I) = 2|END DO|I = SUM(B)|END
abbrev of_fault : EnteredNest
of_fault = record { indices = 2 ∷ []; axes = from_one 2 ∷ []; assigned = []; conditions = 0; beside = beside_index 0 0 }

all_at_fault : trail_of names (block (
    nest 2 [] [] 3 (axis I (n 1) (n 2)) (
    set 4 (element_at A (v I)) (div (n 1) (sub (v I) (n 1))) ∷
    set 5 (element_at B (v I)) (n 2) ∷ []) ∷
    set 7 (variable I) (call op.Sum (v B ∷ [])) ∷ []))
    ≡ part of_fault 4 0 [] (ElementPart 0 (More (Scalar 2) NoTerm) (term op.Div (Number (pos 1)) (term op.Sub (Scalar 2) (Number (pos 1)))))
    ∷ part of_fault 5 0 [] (ElementPart 1 (More (Scalar 2) NoTerm) (Number (pos 2)))
    ∷ []
unfolding int_wrap
all_at_fault = refl

-- A nest without an iteration reaches none, and its inner loop none either; the reduction in its bounds is reached, and so is what follows.
-- !HPF$ INDEPENDENT|DO I = 1, SUM(B)|DO J = 1, 2|A(I) = J|END DO|END DO|I = SUM(A)|END
no_iteration : trail_of names (block (
    nest 2 [] [] 3 (axis I (n 1) (call op.Sum (v B ∷ []))) (loop 4 (axis J (n 1) (n 2)) (set 5 (element_at A (v I)) (v J) ∷ []) ∷ []) ∷
    set 8 (variable I) (call op.Sum (v A ∷ [])) ∷ []))
    ≡ record { line = 3; scalars = pos 0 ∷ pos 0 ∷ pos 0 ∷ pos 0 ∷ pos 0 ∷ []; event = Reduced op.Sum (3 ∷ []) (Selected 1 (Along (from_one 3) ∷ [])) }
    ∷ record { line = 8; scalars = pos 0 ∷ pos 0 ∷ pos 1 ∷ pos 0 ∷ pos 0 ∷ []; event = Reduced op.Sum (3 ∷ []) (Selected 0 (Along (from_one 3) ∷ [])) }
    ∷ []
unfolding int_wrap
no_iteration = refl

-- One whose iterations interfere reaches none.
-- !HPF$ INDEPENDENT|DO I = 1, 2|A(1) = I|END DO|END
interfering : trail_of names (block (nest 2 [] [] 3 (axis I (n 1) (n 2)) (set 4 (element_at A (n 1)) (v I) ∷ []) ∷ [])) ≡ []
unfolding int_wrap
interfering = refl
