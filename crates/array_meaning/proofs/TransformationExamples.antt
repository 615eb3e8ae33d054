-- Circular shifts, transposes and prefix sums that are computed: what each place of the target gets, and programs with their outcome. What they give was worked out
-- from the rules of the language, and not by these definitions. In the comments a bar stands for the end of a line.
use Rattle.std.specs.Prelude.{◌≡◌, ℕ, suc, refl, codes, Bool, true, false, List, [], ◌∷◌, ℤ, pos, negsuc, Option, Some, None}
use Rattle.std.specs.Fmt.{digits}
use Rattle.std.specs.Int.{int_wrap}
use Rattle.name_table.specs.Dim.{Dim}
use Rattle.name_table.specs.Op.TheVariants as op
use Rattle.name_table.specs.Expression as e
use Rattle.name_table.specs.Statement as s
use Rattle.array_meaning.specs.Terms.{Number}
use Rattle.array_meaning.specs.Statements.{WholeArray, Transformation, CircularShift, Transposition, PrefixSum}
use Rattle.array_meaning.specs.State.{State, no_array}
use Rattle.array_meaning.specs.declared.sections.Store.{Store}
use Rattle.array_meaning.specs.Transformations.{has_shape, transformed}
use Rattle.array_meaning.specs.declared.faults.FaultKind.TheVariants.{Bounds, DivZero, Shape}
use Rattle.array_meaning.specs.Faults.{Nowhere}
use Rattle.array_meaning.specs.Serial.{Finished, Faulted, outcome}
use Rattle.array_meaning.proofs.Shorthands.{A, B, I, J, K, scalar, array, dim, n, v, args, variable, variable_at, assign, axis, at, block, lines}

-- ---- what each place gets

-- the target with these dimensions is the array 0, and the source the array 1
abbrev target : List Dim → WholeArray
target ds = record { array = 0; dims = ds }

abbrev source : List Dim → WholeArray
source ds = record { array = 1; dims = ds }

abbrev before : List Dim → List ℤ → State
before ds elements = record { scalars = []; arrays = no_array ∷ record { dims = ds; elements = elements } ∷ []; printed = [] }

-- values at places one after another
abbrev stores_from : ℕ → List ℤ → List (Option Store)
stores_from place [] = []
stores_from place (value ∷ values) = Some record { place = place; value = value } ∷ stores_from (suc place) values

-- by so many places
abbrev shifts : ℤ → (targets sources : List Dim) → (elements results : List ℤ) → Type 0
shifts k ds es elements results = transformed (target ds) (source es) (CircularShift (Number k)) k (before es elements) ≡ stores_from 0 results

abbrev transposes : (targets sources : List Dim) → (elements results : List ℤ) → Type 0
transposes ds es elements results = transformed (target ds) (source es) Transposition (pos 0) (before es elements) ≡ stores_from 0 results

abbrev sums : (targets sources : List Dim) → (elements results : List ℤ) → Type 0
sums ds es elements results = transformed (target ds) (source es) PrefixSum (pos 0) (before es elements) ≡ stores_from 0 results

abbrev row : ℕ → List Dim
row m = dim (pos 1) (pos m) ∷ []

abbrev matrix : ℕ → ℕ → List Dim
matrix m k = dim (pos 1) (pos m) ∷ dim (pos 1) (pos k) ∷ []

shift-1 : shifts (pos 2) (row 5) (row 5) (pos 1 ∷ pos 2 ∷ pos 3 ∷ pos 4 ∷ pos 5 ∷ []) (pos 3 ∷ pos 4 ∷ pos 5 ∷ pos 1 ∷ pos 2 ∷ [])
shift-1 = refl

shift-2 : shifts (negsuc 0) (row 5) (row 5) (pos 1 ∷ pos 2 ∷ pos 3 ∷ pos 4 ∷ pos 5 ∷ []) (pos 5 ∷ pos 1 ∷ pos 2 ∷ pos 3 ∷ pos 4 ∷ [])
shift-2 = refl

-- more places than there are elements: 5 of 3 are 2, and so are -7
shift-3 : shifts (pos 5) (row 3) (row 3) (pos 1 ∷ pos 2 ∷ pos 3 ∷ []) (pos 3 ∷ pos 1 ∷ pos 2 ∷ [])
shift-3 = refl

shift-4 : shifts (negsuc 6) (row 3) (row 3) (pos 1 ∷ pos 2 ∷ pos 3 ∷ []) (pos 3 ∷ pos 1 ∷ pos 2 ∷ [])
shift-4 = refl

-- as many as there are elements, and none
shift-5 : shifts (pos 3) (row 3) (row 3) (pos 1 ∷ pos 2 ∷ pos 3 ∷ []) (pos 1 ∷ pos 2 ∷ pos 3 ∷ [])
shift-5 = refl

shift-6 : shifts (pos 0) (row 3) (row 3) (pos 1 ∷ pos 2 ∷ pos 3 ∷ []) (pos 1 ∷ pos 2 ∷ pos 3 ∷ [])
shift-6 = refl

-- no element, and one
shift-7 : shifts (pos 1) (row 0) (row 0) [] []
shift-7 = refl

shift-8 : shifts (negsuc 3) (row 1) (row 1) (pos 7 ∷ []) (pos 7 ∷ [])
shift-8 = refl

-- each column by itself: the element at (i, j) is 10i + j
shift-9 : shifts (pos 1) (matrix 2 3) (matrix 2 3) (pos 11 ∷ pos 21 ∷ pos 12 ∷ pos 22 ∷ pos 13 ∷ pos 23 ∷ [])
    (pos 21 ∷ pos 11 ∷ pos 22 ∷ pos 12 ∷ pos 23 ∷ pos 13 ∷ [])
shift-9 = refl

shift-10 : shifts (negsuc 0) (matrix 3 2) (matrix 3 2) (pos 11 ∷ pos 21 ∷ pos 31 ∷ pos 12 ∷ pos 22 ∷ pos 32 ∷ [])
    (pos 31 ∷ pos 11 ∷ pos 21 ∷ pos 32 ∷ pos 12 ∷ pos 22 ∷ [])
shift-10 = refl

shift-11 : shifts (pos 1) (matrix 0 3) (matrix 0 3) [] []
shift-11 = refl

-- of three dimensions
shift-12 : shifts (pos 2) (dim (pos 1) (pos 3) ∷ matrix 1 2) (dim (pos 1) (pos 3) ∷ matrix 1 2) (pos 1 ∷ pos 2 ∷ pos 3 ∷ pos 4 ∷ pos 5 ∷ pos 6 ∷ [])
    (pos 3 ∷ pos 1 ∷ pos 2 ∷ pos 6 ∷ pos 4 ∷ pos 5 ∷ [])
shift-12 = refl

-- the bounds of the two say nothing of the places
shift-13 : shifts (pos 1) (dim (pos 0) (pos 2) ∷ []) (dim (negsuc 4) (negsuc 2) ∷ []) (pos 1 ∷ pos 2 ∷ pos 3 ∷ []) (pos 2 ∷ pos 3 ∷ pos 1 ∷ [])
shift-13 = refl

transpose-1 : transposes (matrix 3 2) (matrix 2 3) (pos 11 ∷ pos 21 ∷ pos 12 ∷ pos 22 ∷ pos 13 ∷ pos 23 ∷ [])
    (pos 11 ∷ pos 12 ∷ pos 13 ∷ pos 21 ∷ pos 22 ∷ pos 23 ∷ [])
transpose-1 = refl

transpose-2 : transposes (matrix 2 3) (matrix 3 2) (pos 11 ∷ pos 21 ∷ pos 31 ∷ pos 12 ∷ pos 22 ∷ pos 32 ∷ [])
    (pos 11 ∷ pos 12 ∷ pos 21 ∷ pos 22 ∷ pos 31 ∷ pos 32 ∷ [])
transpose-2 = refl

-- a row, and no element
transpose-3 : transposes (matrix 1 3) (matrix 3 1) (pos 1 ∷ pos 2 ∷ pos 3 ∷ []) (pos 1 ∷ pos 2 ∷ pos 3 ∷ [])
transpose-3 = refl

transpose-4 : transposes (matrix 0 2) (matrix 2 0) [] []
transpose-4 = refl

sum-1 : sums (row 4) (row 4) (pos 3 ∷ pos 1 ∷ negsuc 5 ∷ pos 5 ∷ []) (pos 3 ∷ pos 4 ∷ negsuc 1 ∷ pos 3 ∷ [])
unfolding int_wrap
sum-1 = refl

-- no element, and one
sum-2 : sums (row 0) (row 0) [] []
sum-2 = refl

sum-3 : sums (row 1) (row 1) (negsuc 6 ∷ []) (negsuc 6 ∷ [])
unfolding int_wrap
sum-3 = refl

-- each sum is wrapped: one more than the greatest number is the least
sum-4 : sums (row 3) (row 3) (pos 9223372036854775807 ∷ pos 1 ∷ pos 2 ∷ []) (pos 9223372036854775807 ∷ negsuc 9223372036854775807 ∷ negsuc 9223372036854775805 ∷ [])
unfolding int_wrap
sum-4 = refl

-- the bounds of the two say nothing of the places
sum-5 : sums (dim (pos 0) (pos 2) ∷ []) (dim (negsuc 4) (negsuc 2) ∷ []) (pos 1 ∷ pos 2 ∷ pos 3 ∷ []) (pos 1 ∷ pos 3 ∷ pos 6 ∷ [])
unfolding int_wrap
sum-5 = refl

-- ---- shapes

abbrev is_shape : (targets sources : List Dim) → Transformation → Bool
is_shape ds es how = has_shape (target ds) (source es) how

-- by the extents, whatever the bounds are
shape-1 : is_shape (dim (pos 0) (pos 2) ∷ []) (dim (pos 5) (pos 7) ∷ []) (CircularShift (Number (pos 1))) ≡ true
shape-1 = refl

shape-2 : is_shape (row 2) (row 3) (CircularShift (Number (pos 1))) ≡ false
shape-2 = refl

shape-3 : is_shape (matrix 3 2) (matrix 2 3) Transposition ≡ true
shape-3 = refl

shape-4 : is_shape (matrix 2 3) (matrix 2 3) Transposition ≡ false
shape-4 = refl

-- of two empty arrays as well
shape-5 : is_shape (matrix 0 3) (matrix 0 2) (CircularShift (Number (pos 1))) ≡ false
shape-5 = refl

shape-6 : is_shape (matrix 2 0) (dim (pos 3) (pos 1) ∷ dim (pos 0) (pos 1) ∷ []) Transposition ≡ true
shape-6 = refl

shape-7 : is_shape (dim (pos 0) (pos 2) ∷ []) (dim (pos 5) (pos 7) ∷ []) PrefixSum ≡ true
shape-7 = refl

shape-8 : is_shape (row 2) (row 3) PrefixSum ≡ false
shape-8 = refl

-- ---- programs

abbrev cshift : e.Expression → e.Expression → e.Expression
cshift b by = e.Call op.CShift (args (b ∷ by ∷ []))

abbrev transpose : e.Expression → e.Expression
transpose b = e.Call op.Transpose (args (b ∷ []))

abbrev sum_prefix : e.Expression → e.Expression
sum_prefix b = e.Call op.SumPrefix (args (b ∷ []))

-- INTEGER :: A(5), B(5), I|FORALL (I=1:5) B(I) = I*I|A = CSHIFT(B, 2)|PRINT *, A|END
program-1 : outcome (array A (row 5) (pos 0) ∷ array B (row 5) (pos 0) ∷ scalar I (pos 0) ∷ []) (block (
    at 2 (s.Forall (axis I (n 1) (n 5) ∷ []) None (assign 2 (variable_at B (args (v I ∷ []))) (e.Binary op.Mul (v I) (v I)) ∷ [])) ∷
    at 3 (s.Assign (variable A) (cshift (v B) (n 2))) ∷
    at 4 (s.Print (s.Value (v A) ∷ [])) ∷ []))
    ≡ record {
      printed = lines (codes "9 16 25 1 4" ∷ []);
      end = Finished;
      arrays = (pos 9 ∷ pos 16 ∷ pos 25 ∷ pos 1 ∷ pos 4 ∷ []) ∷ (pos 1 ∷ pos 4 ∷ pos 9 ∷ pos 16 ∷ pos 25 ∷ []) ∷ [] ∷ [];
    }
unfolding int_wrap digits
program-1 = refl

-- INTEGER :: A(-1:2), I|FORALL (I=-1:2) A(I) = I|A = CSHIFT(A, 1)|END
program-2 : outcome (array A (dim (negsuc 0) (pos 2) ∷ []) (pos 0) ∷ scalar I (pos 0) ∷ []) (block (
    at 2 (s.Forall (axis I (e.Unary op.Neg (n 1)) (n 2) ∷ []) None (assign 2 (variable_at A (args (v I ∷ []))) (v I) ∷ [])) ∷
    at 3 (s.Assign (variable A) (cshift (v A) (n 1))) ∷ []))
    ≡ record { printed = []; end = Finished; arrays = (pos 0 ∷ pos 1 ∷ pos 2 ∷ negsuc 0 ∷ []) ∷ [] ∷ [] }
unfolding int_wrap digits
program-2 = refl

-- INTEGER :: A(0:2), B(-5:-3), K|B(-5) = 1; B(-4) = 2; B(-3) = 3|A = CSHIFT(B, K - 1)|PRINT *, A(0)|END
program-3 : outcome (array A (dim (pos 0) (pos 2) ∷ []) (pos 0) ∷ array B (dim (negsuc 4) (negsuc 2) ∷ []) (pos 0) ∷ scalar K (pos 0) ∷ []) (block (
    at 2 (s.Assign (variable_at B (args (e.Unary op.Neg (n 5) ∷ []))) (n 1)) ∷
    at 2 (s.Assign (variable_at B (args (e.Unary op.Neg (n 4) ∷ []))) (n 2)) ∷
    at 2 (s.Assign (variable_at B (args (e.Unary op.Neg (n 3) ∷ []))) (n 3)) ∷
    at 3 (s.Assign (variable A) (cshift (v B) (e.Binary op.Sub (v K) (n 1)))) ∷
    at 4 (s.Print (s.Value (e.Element A (args (n 0 ∷ []))) ∷ [])) ∷ []))
    ≡ record {
      printed = lines (codes "3" ∷ []);
      end = Finished;
      arrays = (pos 3 ∷ pos 1 ∷ pos 2 ∷ []) ∷ (pos 1 ∷ pos 2 ∷ pos 3 ∷ []) ∷ [] ∷ [];
    }
unfolding int_wrap digits
program-3 = refl

-- the number of places depends on what is shifted
-- INTEGER :: A(3)|A(1) = 4; A(2) = 5|A = CSHIFT(A, COUNT(A > 0))|END
program-4 : outcome (array A (row 3) (pos 0) ∷ []) (block (
    at 2 (s.Assign (variable_at A (args (n 1 ∷ []))) (n 4)) ∷
    at 2 (s.Assign (variable_at A (args (n 2 ∷ []))) (n 5)) ∷
    at 3 (s.Assign (variable A) (cshift (v A) (e.Call op.Count (args (e.Binary op.Gt (v A) (n 0) ∷ []))))) ∷ []))
    ≡ record { printed = []; end = Finished; arrays = (pos 0 ∷ pos 4 ∷ pos 5 ∷ []) ∷ [] }
unfolding int_wrap digits
program-4 = refl

-- the least number: -2**63 modulo 3 is 1
-- INTEGER :: A(3), B(3), I|FORALL (I=1:3) B(I) = I|A = CSHIFT(B, -9223372036854775807-1)|END
program-5 : outcome (array A (row 3) (pos 0) ∷ array B (row 3) (pos 0) ∷ scalar I (pos 0) ∷ []) (block (
    at 2 (s.Forall (axis I (n 1) (n 3) ∷ []) None (assign 2 (variable_at B (args (v I ∷ []))) (v I) ∷ [])) ∷
    at 3 (s.Assign (variable A) (cshift (v B) (e.Binary op.Sub (e.Unary op.Neg (n 9223372036854775807)) (n 1)))) ∷ []))
    ≡ record { printed = []; end = Finished; arrays = (pos 2 ∷ pos 3 ∷ pos 1 ∷ []) ∷ (pos 1 ∷ pos 2 ∷ pos 3 ∷ []) ∷ [] ∷ [] }
unfolding int_wrap digits
program-5 = refl

-- INTEGER :: A(0), B(0)|A = CSHIFT(B, 3)|PRINT *, A|END
program-6 : outcome (array A (row 0) (pos 0) ∷ array B (row 0) (pos 0) ∷ []) (block (
    at 2 (s.Assign (variable A) (cshift (v B) (n 3))) ∷
    at 3 (s.Print (s.Value (v A) ∷ [])) ∷ []))
    ≡ record { printed = lines ([] ∷ []); end = Finished; arrays = [] ∷ [] ∷ [] }
unfolding int_wrap digits
program-6 = refl

-- INTEGER :: A(2,3), I, J|FORALL (I=1:2, J=1:3) A(I,J) = 10*I + J|A = CSHIFT(A, 1)|PRINT *, A|END
program-7 : outcome (array A (matrix 2 3) (pos 0) ∷ scalar I (pos 0) ∷ scalar J (pos 0) ∷ []) (block (
    at 2 (s.Forall (axis I (n 1) (n 2) ∷ axis J (n 1) (n 3) ∷ []) None
    (assign 2 (variable_at A (args (v I ∷ v J ∷ []))) (e.Binary op.Add (e.Binary op.Mul (n 10) (v I)) (v J)) ∷ [])) ∷
    at 3 (s.Assign (variable A) (cshift (v A) (n 1))) ∷
    at 4 (s.Print (s.Value (v A) ∷ [])) ∷ []))
    ≡ record {
      printed = lines (codes "21 11 22 12 23 13" ∷ []);
      end = Finished;
      arrays = (pos 21 ∷ pos 11 ∷ pos 22 ∷ pos 12 ∷ pos 23 ∷ pos 13 ∷ []) ∷ [] ∷ [] ∷ [];
    }
unfolding int_wrap digits
program-7 = refl

-- INTEGER :: A(0:2,2), B(2,3), I, J|FORALL (I=1:2, J=1:3) B(I,J) = 10*I + J|A = TRANSPOSE(B)|PRINT *, A, A(2,1)|END
program-8 : outcome (array A (dim (pos 0) (pos 2) ∷ row 2) (pos 0) ∷ array B (matrix 2 3) (pos 0) ∷ scalar I (pos 0) ∷ scalar J (pos 0) ∷ []) (block (
    at 2 (s.Forall (axis I (n 1) (n 2) ∷ axis J (n 1) (n 3) ∷ []) None
    (assign 2 (variable_at B (args (v I ∷ v J ∷ []))) (e.Binary op.Add (e.Binary op.Mul (n 10) (v I)) (v J)) ∷ [])) ∷
    at 3 (s.Assign (variable A) (transpose (v B))) ∷
    at 4 (s.Print (s.Value (v A) ∷ s.Value (e.Element A (args (n 2 ∷ n 1 ∷ []))) ∷ [])) ∷ []))
    ≡ record {
      printed = lines (codes "11 12 13 21 22 23 13" ∷ []);
      end = Finished;
      arrays = (pos 11 ∷ pos 12 ∷ pos 13 ∷ pos 21 ∷ pos 22 ∷ pos 23 ∷ []) ∷ (pos 11 ∷ pos 21 ∷ pos 12 ∷ pos 22 ∷ pos 13 ∷ pos 23 ∷ []) ∷ [] ∷ [] ∷ [];
    }
unfolding int_wrap digits
program-8 = refl

-- INTEGER :: A(2,2), I, J|FORALL (I=1:2, J=1:2) A(I,J) = 10*I + J|A = TRANSPOSE(A)|END
program-9 : outcome (array A (matrix 2 2) (pos 0) ∷ scalar I (pos 0) ∷ scalar J (pos 0) ∷ []) (block (
    at 2 (s.Forall (axis I (n 1) (n 2) ∷ axis J (n 1) (n 2) ∷ []) None
    (assign 2 (variable_at A (args (v I ∷ v J ∷ []))) (e.Binary op.Add (e.Binary op.Mul (n 10) (v I)) (v J)) ∷ [])) ∷
    at 3 (s.Assign (variable A) (transpose (v A))) ∷ []))
    ≡ record { printed = []; end = Finished; arrays = (pos 11 ∷ pos 12 ∷ pos 21 ∷ pos 22 ∷ []) ∷ [] ∷ [] ∷ [] }
unfolding int_wrap digits
program-9 = refl

-- INTEGER :: A(5), B(5), I|FORALL (I=1:5) B(I) = I*I|A = SUM_PREFIX(B)|PRINT *, A|END
program-16 : outcome (array A (row 5) (pos 0) ∷ array B (row 5) (pos 0) ∷ scalar I (pos 0) ∷ []) (block (
    at 2 (s.Forall (axis I (n 1) (n 5) ∷ []) None (assign 2 (variable_at B (args (v I ∷ []))) (e.Binary op.Mul (v I) (v I)) ∷ [])) ∷
    at 3 (s.Assign (variable A) (sum_prefix (v B))) ∷
    at 4 (s.Print (s.Value (v A) ∷ [])) ∷ []))
    ≡ record {
      printed = lines (codes "1 5 14 30 55" ∷ []);
      end = Finished;
      arrays = (pos 1 ∷ pos 5 ∷ pos 14 ∷ pos 30 ∷ pos 55 ∷ []) ∷ (pos 1 ∷ pos 4 ∷ pos 9 ∷ pos 16 ∷ pos 25 ∷ []) ∷ [] ∷ [];
    }
unfolding int_wrap digits
program-16 = refl

-- all elements are read before any is assigned
-- INTEGER :: A(-1:2), I|FORALL (I=-1:2) A(I) = I|A = SUM_PREFIX(A)|END
program-17 : outcome (array A (dim (negsuc 0) (pos 2) ∷ []) (pos 0) ∷ scalar I (pos 0) ∷ []) (block (
    at 2 (s.Forall (axis I (e.Unary op.Neg (n 1)) (n 2) ∷ []) None (assign 2 (variable_at A (args (v I ∷ []))) (v I) ∷ [])) ∷
    at 3 (s.Assign (variable A) (sum_prefix (v A))) ∷ []))
    ≡ record { printed = []; end = Finished; arrays = (negsuc 0 ∷ negsuc 0 ∷ pos 0 ∷ pos 2 ∷ []) ∷ [] ∷ [] }
unfolding int_wrap digits
program-17 = refl

-- INTEGER :: A(0), B(0)|A = SUM_PREFIX(B)|PRINT *, A|END
program-18 : outcome (array A (row 0) (pos 0) ∷ array B (row 0) (pos 0) ∷ []) (block (
    at 2 (s.Assign (variable A) (sum_prefix (v B))) ∷
    at 3 (s.Print (s.Value (v A) ∷ [])) ∷ []))
    ≡ record { printed = lines ([] ∷ []); end = Finished; arrays = [] ∷ [] ∷ [] }
unfolding int_wrap digits
program-18 = refl

-- ---- programs with a fault

-- INTEGER :: A(2), B(3)|A = CSHIFT(B, 1)|END
program-10 : outcome (array A (row 2) (pos 7) ∷ array B (row 3) (pos 0) ∷ []) (block (
    at 2 (s.Assign (variable A) (cshift (v B) (n 1))) ∷ []))
    ≡ record { printed = []; end = Faulted record { line = 2; kind = Shape; at = Nowhere }; arrays = (pos 7 ∷ pos 7 ∷ []) ∷ (pos 0 ∷ pos 0 ∷ pos 0 ∷ []) ∷ [] }
unfolding int_wrap digits
program-10 = refl

-- the number of places comes before the shapes
-- INTEGER :: A(2), B(3), K|A = CSHIFT(B, 1/K)|END
program-11 : outcome (array A (row 2) (pos 0) ∷ array B (row 3) (pos 0) ∷ scalar K (pos 0) ∷ []) (block (
    at 2 (s.Assign (variable A) (cshift (v B) (e.Binary op.Div (n 1) (v K)))) ∷ []))
    ≡ record { printed = []; end = Faulted record { line = 2; kind = DivZero; at = Nowhere }; arrays = (pos 0 ∷ pos 0 ∷ []) ∷ (pos 0 ∷ pos 0 ∷ pos 0 ∷ []) ∷ [] ∷ [] }
unfolding int_wrap digits
program-11 = refl

-- also where there is no element
-- INTEGER :: A(0), K|A = CSHIFT(A, 1/K)|END
program-12 : outcome (array A (row 0) (pos 0) ∷ scalar K (pos 0) ∷ []) (block (
    at 2 (s.Assign (variable A) (cshift (v A) (e.Binary op.Div (n 1) (v K)))) ∷ []))
    ≡ record { printed = []; end = Faulted record { line = 2; kind = DivZero; at = Nowhere }; arrays = [] ∷ [] ∷ [] }
unfolding int_wrap digits
program-12 = refl

-- INTEGER :: A(2) = 5|A = CSHIFT(A, A(3))|END
program-13 : outcome (array A (row 2) (pos 5) ∷ []) (block (
    at 2 (s.Assign (variable A) (cshift (v A) (e.Element A (args (n 3 ∷ []))))) ∷ []))
    ≡ record { printed = []; end = Faulted record { line = 2; kind = Bounds; at = Nowhere }; arrays = (pos 5 ∷ pos 5 ∷ []) ∷ [] }
unfolding int_wrap digits
program-13 = refl

-- INTEGER :: A(0,3), B(0,2)|A = CSHIFT(B, 1)|END
program-14 : outcome (array A (matrix 0 3) (pos 0) ∷ array B (matrix 0 2) (pos 0) ∷ []) (block (
    at 2 (s.Assign (variable A) (cshift (v B) (n 1))) ∷ []))
    ≡ record { printed = []; end = Faulted record { line = 2; kind = Shape; at = Nowhere }; arrays = [] ∷ [] ∷ [] }
unfolding int_wrap digits
program-14 = refl

-- INTEGER :: A(2,1)|A = TRANSPOSE(A)|END
program-15 : outcome (array A (matrix 2 1) (pos 0) ∷ []) (block (
    at 2 (s.Assign (variable A) (transpose (v A))) ∷ []))
    ≡ record { printed = []; end = Faulted record { line = 2; kind = Shape; at = Nowhere }; arrays = (pos 0 ∷ pos 0 ∷ []) ∷ [] }
unfolding int_wrap digits
program-15 = refl

-- INTEGER :: A(2), B(3)|A = SUM_PREFIX(B)|END
program-19 : outcome (array A (row 2) (pos 7) ∷ array B (row 3) (pos 0) ∷ []) (block (
    at 2 (s.Assign (variable A) (sum_prefix (v B))) ∷ []))
    ≡ record { printed = []; end = Faulted record { line = 2; kind = Shape; at = Nowhere }; arrays = (pos 7 ∷ pos 7 ∷ []) ∷ (pos 0 ∷ pos 0 ∷ pos 0 ∷ []) ∷ [] }
unfolding int_wrap digits
program-19 = refl
