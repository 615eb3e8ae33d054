-- Which parts a run reaches. In the comments a bar stands for the end of a line. A program without declarations declares INTEGER :: A(3) = 2, B(3), K = 1, I.
use Rattle.std.specs.Prelude.{◌≡◌, refl, ℕ, List, [], ◌∷◌, pos, negsuc, true, false, Option, Some, None}
use Rattle.std.specs.Int.{int_wrap}
use Rattle.op_tables.specs.declared.op.Op.{Op}
use Rattle.op_tables.specs.declared.op.Op.TheVariants as op
use Rattle.syntax_tree.specs.Directive.{Cyclic}
use Rattle.syntax_tree.specs.Expression as e
use Rattle.syntax_tree.specs.Statement as s
use Rattle.name_table.specs.declared.names.Entry.{Entry}
use Rattle.array_meaning.specs.Terms.{Term, Terms, Number, Index, Element, Apply, NoTerm, More}
use Rattle.array_meaning.specs.declared.sections.Sequence.{Sequence}
use Rattle.array_meaning.specs.declared.sections.Selection.TheVariants.{Along}
use Rattle.array_meaning.specs.Elementals.{Elemental, Same, Selected, Operation, NoOperand, Operand}
use Rattle.statement_trail.specs.Anchors.{AtTerm, AlongTerms, AnchorText}
use Rattle.statement_trail.specs.Trail.{Event, TrailEntry, SectionAssigned, ValuesCopied, Reduced, ForallMask, ElementsAssigned, CopyAssigned, Redistributed, trail_of}
use Rattle.computed_programs.proofs.Shorthands.{A, B, I, K, scalar, vector, n, v, minus, add, mul, div, gt, call, range, range_by, variable, variable_at, element_at, assign, axis, at, set, print, block, loop, where_mask, forall_over, forall_masked, sub, element, parts, array, dim, matrix}

abbrev names : List Entry
names = vector A 3 2 ∷ vector B 3 0 ∷ scalar K (pos 1) ∷ scalar I (pos 0) ∷ []

-- the positions from 1 up to so many, those up to 3, and all elements of the array at a place
abbrev up_to : ℕ → Sequence
up_to count = record { first = pos 1; step = pos 1; count = count }

abbrev from_one : Sequence
from_one = up_to 3

abbrev all_of : ℕ → Elemental
all_of a = Selected a (Along from_one ∷ [])

-- what the copy of a mask lies beside: all elements of the array at a place, or its element at the index of a FORALL
abbrev beside_all : ℕ → Option AnchorText
beside_all a = Some record { array = a; subscripts = AlongTerms (Number (pos 1)) (Number (pos 1)) ∷ [] }

abbrev beside_index : ℕ → Option AnchorText
beside_index a = Some record { array = a; subscripts = AtTerm (Index 0) ∷ [] }

-- what is reached at a line; K is 1, and I has this value
abbrev reached : ℕ → ℕ → Event → TrailEntry
reached line i event = record { line = line; scalars = pos 0 ∷ pos 0 ∷ pos 1 ∷ pos i ∷ []; event = event }

-- Each kind of part, and a REDISTRIBUTE. The last statement ends with Shape, and isn't reached as a part.
-- A = A + SUM(B)|WHERE (A > K) B = 1 / A|FORALL (I=1:3, I>1) B(I) = A(I)|!HPF$ REDISTRIBUTE A(CYCLIC)|B(1:2) = A|END
each_part : trail_of names (block (
    set 2 (variable A) (add (v A) (call op.Sum (v B ∷ []))) ∷
    where_mask 3 (gt (v A) (v K)) (assign 3 (variable B) (div (n 1) (v A)) ∷ []) [] ∷
    forall_masked 4 (axis I (n 1) (n 3) ∷ []) (gt (v I) (n 1)) (assign 4 (element_at B (v I)) (element A (v I)) ∷ []) ∷
    at 5 (s.Redistribute record { names = A ∷ []; formats = Cyclic None ∷ []; onto = None }) ∷
    set 6 (variable_at B (range (n 1) (n 2) ∷ [])) (v A) ∷ []))
    ≡ reached 2 0 (Reduced op.Sum (3 ∷ []) (all_of 1))
    ∷ reached 2 0 (SectionAssigned false None (3 ∷ []) 0 (Along from_one ∷ []) (Operation op.Add (Operand (all_of 0) (Operand (Same (pos 0)) NoOperand))))
    ∷ reached 3 0 (ValuesCopied (beside_all 1) (3 ∷ []) (Operation op.Gt (Operand (all_of 0) (Operand (Same (pos 1)) NoOperand))))
    ∷ reached 3 0 (SectionAssigned true (beside_all 1) (3 ∷ []) 1 (Along from_one ∷ []) (Operation op.Div (Operand (Same (pos 1)) (Operand (all_of 0) NoOperand))))
    ∷ reached 4 0 (ForallMask (beside_index 1) (from_one ∷ []) (Apply op.Gt (More (Index 0) (More (Number (pos 1)) NoTerm))))
    ∷ reached 4 0 (ElementsAssigned true (beside_index 1) (from_one ∷ []) 1 (More (Index 0) NoTerm) (Element 0 (More (Index 0) NoTerm)))
    ∷ reached 5 0 Redistributed
    ∷ []
unfolding int_wrap
each_part = refl

-- Each iteration reaches its parts anew, with the scalars of its moment. The assignment that ends with DivZero is reached, and nothing after it.
-- DO I = 1, 2|K = SUM(B(1:I))|END DO|A = 1 / B|B = A|END
up_to_fault : trail_of names (block (
    loop 2 (axis I (n 1) (n 2)) (set 3 (variable K) (call op.Sum (e.Element B (parts (range (n 1) (v I) ∷ [])) ∷ [])) ∷ []) ∷
    set 5 (variable A) (div (n 1) (v B)) ∷
    set 6 (variable B) (v A) ∷ []))
    ≡ record { line = 3; scalars = pos 0 ∷ pos 0 ∷ pos 1 ∷ pos 1 ∷ []; event = Reduced op.Sum (1 ∷ []) (Selected 1 (Along (up_to 1) ∷ [])) }
    ∷ record { line = 3; scalars = pos 0 ∷ pos 0 ∷ pos 0 ∷ pos 2 ∷ []; event = Reduced op.Sum (2 ∷ []) (Selected 1 (Along (up_to 2) ∷ [])) }
    ∷ record { line = 5; scalars = pos 0 ∷ pos 0 ∷ pos 0 ∷ pos 3 ∷ []; event = SectionAssigned false None (3 ∷ []) 0 (Along from_one ∷ []) (Operation op.Div (Operand (Same (pos 1)) (Operand (all_of 1) NoOperand))) }
    ∷ []
unfolding int_wrap
up_to_fault = refl

-- A FORALL of an empty space reaches its parts, which have no tuples.
-- FORALL (I=1:0, I > 1) A(I) = 1|END
empty_forall : trail_of names (block (forall_masked 2 (axis I (n 1) (n 0) ∷ []) (gt (v I) (n 1)) (assign 2 (element_at A (v I)) (n 1) ∷ []) ∷ []))
    ≡ reached 2 0 (ForallMask (beside_index 0) (up_to 0 ∷ []) (Apply op.Gt (More (Index 0) (More (Number (pos 1)) NoTerm))))
    ∷ reached 2 0 (ElementsAssigned true (beside_index 0) (up_to 0 ∷ []) 0 (More (Index 0) NoTerm) (Number (pos 1)))
    ∷ []
unfolding int_wrap
empty_forall = refl

-- One that ends with NotOneToOne reaches none.
-- FORALL (I=1:3) A(1) = I|END
refused_forall : trail_of names (block (forall_over 2 (axis I (n 1) (n 3) ∷ []) (assign 2 (element_at A (n 1)) (v I) ∷ []) ∷ [])) ≡ []
unfolding int_wrap
refused_forall = refl

-- A mask that ends with a fault is reached, and no assignment after it.
-- FORALL (I=1:3, 1/(I-1) > 0) A(I) = 1|END
fault_of_forall_mask : trail_of names (block (
    forall_masked 2 (axis I (n 1) (n 3) ∷ []) (gt (div (n 1) (e.Closed (sub (v I) (n 1)))) (n 0)) (assign 2 (element_at A (v I)) (n 1) ∷ []) ∷ []))
    ≡ reached 2 0 (ForallMask (beside_index 0) (from_one ∷ []) (Apply op.Gt (More
    (Apply op.Div (More (Number (pos 1)) (More (Apply op.Sub (More (Index 0) (More (Number (pos 1)) NoTerm))) NoTerm)))
    (More (Number (pos 0)) NoTerm)))) ∷ []
unfolding int_wrap
fault_of_forall_mask = refl

-- A space past the limit isn't reached.
-- A(1:1048577) = 1|END
space_past_limit : trail_of names (block (set 2 (variable_at A (range (n 1) (n 1048577) ∷ [])) (n 1) ∷ [])) ≡ []
unfolding int_wrap
space_past_limit = refl

-- Of conditions those up to the first that is true are reached.
-- IF (SUM(A) > 0) THEN|ELSE IF (SUM(B) > 0) THEN|END IF|END
conditions : trail_of names (block (
    at 2 (s.If (s.Arm 2 (gt (call op.Sum (v A ∷ [])) (n 0)) s.Done (s.Arm 3 (gt (call op.Sum (v B ∷ [])) (n 0)) s.Done s.NoArm)) s.Without) ∷ []))
    ≡ reached 2 0 (Reduced op.Sum (3 ∷ []) (all_of 0)) ∷ []
unfolding int_wrap
conditions = refl

-- Of items those up to the first fault.
-- PRINT *, SUM(A), 1/I, SUM(B)|END
items_to_fault : trail_of names (block (print 2 (call op.Sum (v A ∷ []) ∷ div (n 1) (v I) ∷ call op.Sum (v B ∷ []) ∷ []) ∷ []))
    ≡ reached 2 0 (Reduced op.Sum (3 ∷ []) (all_of 0)) ∷ []
unfolding int_wrap
items_to_fault = refl

-- The left side's reductions come before the right side's, and the assignment, which ends with Bounds for A(0), after both.
-- A(SUM(B):2) = SUM(A)|END
left_reductions_first : trail_of names (block (set 2 (variable_at A (range (call op.Sum (v B ∷ [])) (n 2) ∷ [])) (call op.Sum (v A ∷ [])) ∷ []))
    ≡ reached 2 0 (Reduced op.Sum (3 ∷ []) (all_of 1))
    ∷ reached 2 0 (Reduced op.Sum (3 ∷ []) (all_of 0))
    ∷ reached 2 0 (SectionAssigned false None (3 ∷ []) 0 (Along record { first = pos 0; step = pos 1; count = 3 } ∷ []) (Same (pos 6)))
    ∷ []
unfolding int_wrap
left_reductions_first = refl

-- An inner reduction comes first, and is a value in the outer one.
-- I = SUM(SUM(A) * B)|END
inner_reduction : trail_of names (block (set 2 (variable I) (call op.Sum (mul (call op.Sum (v A ∷ [])) (v B) ∷ [])) ∷ []))
    ≡ reached 2 0 (Reduced op.Sum (3 ∷ []) (all_of 0))
    ∷ reached 2 0 (Reduced op.Sum (3 ∷ []) (Operation op.Mul (Operand (Same (pos 6)) (Operand (all_of 1) NoOperand))))
    ∷ []
unfolding int_wrap
inner_reduction = refl

-- The bounds of an element come before the reductions of the right side: A(0) is none.
-- A(SUM(B)) = SUM(A)|END
bounds_before_reduction : trail_of names (block (set 2 (element_at A (call op.Sum (v B ∷ []))) (call op.Sum (v A ∷ [])) ∷ []))
    ≡ reached 2 0 (Reduced op.Sum (3 ∷ []) (all_of 1)) ∷ []
unfolding int_wrap
bounds_before_reduction = refl

-- The controls of a loop come once, before its iterations, of which this has none.
-- DO I = SUM(A), SUM(B)|A = 1|END DO|END
controls_once : trail_of names (block (loop 2 (axis I (call op.Sum (v A ∷ [])) (call op.Sum (v B ∷ []))) (set 3 (variable A) (n 1) ∷ []) ∷ []))
    ≡ reached 2 0 (Reduced op.Sum (3 ∷ []) (all_of 0))
    ∷ reached 2 0 (Reduced op.Sum (3 ∷ []) (all_of 1))
    ∷ []
unfolding int_wrap
controls_once = refl

-- A mask is one part, and each assignment one at its own line, those after ELSEWHERE too.
-- WHERE (A > 2)|A = 1|ELSEWHERE|B = A|END WHERE|END
where_parts : trail_of names (block (where_mask 2 (gt (v A) (n 2)) (assign 3 (variable A) (n 1) ∷ []) (assign 5 (variable B) (v A) ∷ []) ∷ []))
    ≡ reached 2 0 (ValuesCopied (beside_all 0) (3 ∷ []) (Operation op.Gt (Operand (all_of 0) (Operand (Same (pos 2)) NoOperand))))
    ∷ reached 3 0 (SectionAssigned true (beside_all 0) (3 ∷ []) 0 (Along from_one ∷ []) (Same (pos 1)))
    ∷ reached 5 0 (SectionAssigned true (beside_all 0) (3 ∷ []) 1 (Along from_one ∷ []) (all_of 0))
    ∷ []
unfolding int_wrap
where_parts = refl

-- The copy of a mask lies beside what the first assignment assigns, which may stand after ELSEWHERE. Its subscripts are numbers and scalars under operators.
abbrev beside_reversed : Option AnchorText
beside_reversed = Some record { array = 1; subscripts = AlongTerms (Number (pos 3)) (Apply op.Neg (More (Number (pos 1)) NoTerm)) ∷ [] }

-- WHERE (A > 2)|ELSEWHERE|B(3:K:-1) = A|END WHERE|END
beside_elsewhere : trail_of names (block (
    where_mask 2 (gt (v A) (n 2)) [] (assign 4 (variable_at B (range_by (n 3) (v K) (minus (n 1)) ∷ [])) (v A) ∷ []) ∷ []))
    ≡ reached 2 0 (ValuesCopied beside_reversed (3 ∷ []) (Operation op.Gt (Operand (all_of 0) (Operand (Same (pos 2)) NoOperand))))
    ∷ reached 4 0 (SectionAssigned true beside_reversed (3 ∷ []) 1 (Along record { first = pos 3; step = negsuc 0; count = 3 } ∷ []) (all_of 0))
    ∷ []
unfolding int_wrap
beside_elsewhere = refl

-- It lies beside none where a subscript isn't known before the mask is evaluated: a quotient isn't.
-- WHERE (A > 2) B(2/2:3) = 1|END
beside_unknown : trail_of names (block (
    where_mask 2 (gt (v A) (n 2)) (assign 2 (variable_at B (range (div (n 2) (n 2)) (n 3) ∷ [])) (n 1) ∷ []) [] ∷ []))
    ≡ reached 2 0 (ValuesCopied None (3 ∷ []) (Operation op.Gt (Operand (all_of 0) (Operand (Same (pos 2)) NoOperand))))
    ∷ reached 2 0 (SectionAssigned true None (3 ∷ []) 1 (Along from_one ∷ []) (Same (pos 1)))
    ∷ []
unfolding int_wrap
beside_unknown = refl

-- An assignment that ends with a fault is reached, and what stands after ELSEWHERE then isn't.
-- WHERE (A > 1)|A = 1 / B|ELSEWHERE|B = A|END WHERE|END
where_to_fault : trail_of names (block (where_mask 2 (gt (v A) (n 1)) (assign 3 (variable A) (div (n 1) (v B)) ∷ []) (assign 5 (variable B) (v A) ∷ []) ∷ []))
    ≡ reached 2 0 (ValuesCopied (beside_all 0) (3 ∷ []) (Operation op.Gt (Operand (all_of 0) (Operand (Same (pos 1)) NoOperand))))
    ∷ reached 3 0 (SectionAssigned true (beside_all 0) (3 ∷ []) 0 (Along from_one ∷ []) (Operation op.Div (Operand (Same (pos 1)) (Operand (all_of 1) NoOperand))))
    ∷ []
unfolding int_wrap
where_to_fault = refl

-- ---- transformations of whole arrays

-- an operator over two operands, and one of a list of subscripts
abbrev apply : Op → Term → Term → Term
apply o t u = Apply o (More t (More u NoTerm))

abbrev each : List Term → Terms
each [] = NoTerm
each (t ∷ ts) = More t (each ts)

-- how far an index is above a lower bound
abbrev above : ℕ → ℕ → Term
above lower k = apply op.Sub (Index k) (Number (pos lower))

-- 0, or so many, from which on a place is one past the last
abbrev past : ℕ → Term → Term
past count t = apply op.Mul (Number (pos count)) (apply op.Ge t (Number (pos count)))

-- A shift is one part, after the reductions of its number, which counts modulo the extent: 4 places are 1. The indices are the target's own subscripts.
-- A = CSHIFT(B, SUM(A) - 2)|END
abbrev one_on : Term
one_on = apply op.Add (above 1 0) (Number (pos 1))

shift_part : trail_of names (block (set 2 (variable A) (call op.CShift (v B ∷ sub (call op.Sum (v A ∷ [])) (n 2) ∷ [])) ∷ []))
    ≡ reached 2 0 (Reduced op.Sum (3 ∷ []) (all_of 0))
    ∷ reached 2 0 (ElementsAssigned false None (from_one ∷ []) 0 (each (Index 0 ∷ [])) (Element 1 (each (apply op.Add (apply op.Sub one_on (past 3 one_on)) (Number (pos 1)) ∷ []))))
    ∷ []
unfolding int_wrap
shift_part = refl

-- The dimensions after the first go by the same places, whatever the bounds are.
-- INTEGER :: A(3,2), B(2:4,0:1)|A = CSHIFT(B, -1)|END
abbrev two_on : Term
two_on = apply op.Add (above 1 0) (Number (pos 2))

shift_of_columns : trail_of (matrix A 3 2 0 ∷ array B (dim (pos 2) (pos 4) ∷ dim (pos 0) (pos 1) ∷ []) (pos 0) ∷ [])
    (block (set 2 (variable A) (call op.CShift (v B ∷ minus (n 1) ∷ [])) ∷ []))
    ≡ record {
      line = 2;
      scalars = pos 0 ∷ pos 0 ∷ [];
      event = ElementsAssigned false None (up_to 3 ∷ up_to 2 ∷ []) 0 (each (Index 0 ∷ Index 1 ∷ []))
          (Element 1 (each (apply op.Add (apply op.Sub two_on (past 3 two_on)) (Number (pos 2)) ∷ apply op.Add (above 1 1) (Number (pos 0)) ∷ [])));
    } ∷ []
unfolding int_wrap
shift_of_columns = refl

-- A transpose is one part as well: each subscript goes by the other index.
-- INTEGER :: A(0:2,2), B(2,-1:1)|A = TRANSPOSE(B)|END
transpose_part : trail_of (array A (dim (pos 0) (pos 2) ∷ dim (pos 1) (pos 2) ∷ []) (pos 0) ∷ array B (dim (pos 1) (pos 2) ∷ dim (negsuc 0) (pos 1) ∷ []) (pos 0) ∷ [])
    (block (set 2 (variable A) (call op.Transpose (v B ∷ [])) ∷ []))
    ≡ record {
      line = 2;
      scalars = pos 0 ∷ pos 0 ∷ [];
      event = ElementsAssigned false None (record { first = pos 0; step = pos 1; count = 3 } ∷ up_to 2 ∷ []) 0 (each (Index 0 ∷ Index 1 ∷ []))
          (Element 1 (each (apply op.Add (above 1 1) (Number (pos 1)) ∷ apply op.Add (above 0 0) (Number (negsuc 0)) ∷ [])));
    } ∷ []
unfolding int_wrap
transpose_part = refl

-- A prefix sum is two: all elements of its source are copied, and the target's, by its own subscripts, get the sums.
-- INTEGER :: A(0:2), B(3)|A = SUM_PREFIX(B)|END
prefix_sum_parts : trail_of (array A (dim (pos 0) (pos 2) ∷ []) (pos 0) ∷ vector B 3 0 ∷ []) (block (set 2 (variable A) (call op.SumPrefix (v B ∷ [])) ∷ []))
    ≡ record { line = 2; scalars = pos 0 ∷ pos 0 ∷ []; event = ValuesCopied None (3 ∷ []) (all_of 1) }
    ∷ record { line = 2; scalars = pos 0 ∷ pos 0 ∷ []; event = CopyAssigned (record { first = pos 0; step = pos 1; count = 3 } ∷ []) 0 (More (Index 0) NoTerm) }
    ∷ []
prefix_sum_parts = refl

-- INTEGER :: A(3), B(2)|A = SUM_PREFIX(B)|END
prefix_sum_of_other_shape : trail_of (vector A 3 0 ∷ vector B 2 0 ∷ []) (block (set 2 (variable A) (call op.SumPrefix (v B ∷ [])) ∷ [])) ≡ []
prefix_sum_of_other_shape = refl

-- Where the shapes differ the reductions are reached, and nothing else.
-- INTEGER :: A(3), B(2)|A = CSHIFT(B, SUM(A))|END
shift_of_other_shape : trail_of (vector A 3 0 ∷ vector B 2 0 ∷ []) (block (set 2 (variable A) (call op.CShift (v B ∷ call op.Sum (v A ∷ []) ∷ [])) ∷ []))
    ≡ record { line = 2; scalars = pos 0 ∷ pos 0 ∷ []; event = Reduced op.Sum (3 ∷ []) (all_of 0) } ∷ []
unfolding int_wrap
shift_of_other_shape = refl

-- A fault of the number comes before the part.
-- A = CSHIFT(B, 1/I)|END
fault_of_number : trail_of names (block (set 2 (variable A) (call op.CShift (v B ∷ div (n 1) (v I) ∷ [])) ∷ [])) ≡ []
unfolding int_wrap
fault_of_number = refl

-- ---- loops

-- After EXIT no iteration is reached, and what stands after the loop is.
-- DO I = 2, 3|A = I|EXIT|END DO|A = 1|END
parts_to_exit : trail_of names (block (
    loop 2 (axis I (n 2) (n 3)) (set 3 (variable A) (v I) ∷ at 4 s.Exit ∷ []) ∷
    set 6 (variable A) (n 1) ∷ []))
    ≡ reached 3 2 (SectionAssigned false None (3 ∷ []) 0 (Along from_one ∷ []) (Same (pos 2)))
    ∷ reached 6 2 (SectionAssigned false None (3 ∷ []) 0 (Along from_one ∷ []) (Same (pos 1)))
    ∷ []
unfolding int_wrap
parts_to_exit = refl

-- After STOP nothing is reached.
-- DO I = 1, 3|STOP|END DO|A = 1|END
nothing_after_stop : trail_of names (block (loop 2 (axis I (n 1) (n 3)) (at 3 s.Stop ∷ []) ∷ set 5 (variable A) (n 1) ∷ [])) ≡ []
unfolding int_wrap
nothing_after_stop = refl
