-- Short ways to write a nest of the examples: the places of its names, its loops and statements, and the state at its entry.
use Rattle.std.specs.Prelude.{◌≡◌, ℕ, List, [], ◌∷◌, replicate, ℤ, pos, Ok, Option}
use Rattle.name_table.specs.Op.{Op}
use Rattle.name_table.specs.Op.TheVariants as op
use Rattle.name_table.specs.Dim.{Dim}
use Rattle.name_table.specs.Dims.{elements}
use Rattle.array_meaning.specs.Terms.{Term, Number, Scalar, Element, Apply, Terms, NoTerm, More}
use Rattle.array_meaning.specs.Statements.{Loop, Nest, Block, Done, Then, Statement, AssignElement, Arms, Arm}
use Rattle.array_meaning.specs.declared.faults.FaultKind.TheVariants.{Interfere}
use Rattle.array_meaning.specs.Faults.{Between, Cause}
use Rattle.array_meaning.specs.State.{State, Array, no_array, set_scalar}
use Rattle.array_meaning.specs.NestEntry.{check_nest}

-- ---- names: two of arrays, or of scalars, and seven of scalars

abbrev pub A : ℕ
A = 0

abbrev pub B : ℕ
B = 1

abbrev pub I : ℕ
I = 2

abbrev pub J : ℕ
J = 3

abbrev pub K : ℕ
K = 4

abbrev pub L : ℕ
L = 5

abbrev pub M : ℕ
M = 6

abbrev pub S : ℕ
S = 7

abbrev pub T : ℕ
T = 8

-- ---- expressions

abbrev pub n : ℕ → Term
n k = Number (pos k)

abbrev pub v : ℕ → Term
v k = Scalar k

abbrev pub args : List Term → Terms
args [] = NoTerm
args (t ∷ ts) = More t (args ts)

abbrev pub apply : Op → List Term → Term
apply o ts = Apply o (args ts)

abbrev pub plus : Term → Term → Term
plus t u = apply op.Add (t ∷ u ∷ [])

abbrev pub minus : Term → Term → Term
minus t u = apply op.Sub (t ∷ u ∷ [])

abbrev pub times : Term → Term → Term
times t u = apply op.Mul (t ∷ u ∷ [])

abbrev pub at : ℕ → List Term → Term
at a ts = Element a (args ts)

-- ---- statements, all of line 3

abbrev pub loop_by : ℕ → Term → Term → Term → Loop
loop_by x first last step = record { index = x; control = record { first = first; last = last; step = step } }

abbrev pub loop : ℕ → Term → Term → Loop
loop x first last = loop_by x first last (n 1)

abbrev pub nest : List Loop → List ℕ → List ℕ → Nest
nest loops new reduction = record { line = 2; loops = loops; new = new; reduction = reduction }

abbrev pub block : List Statement → Block
block [] = Done
block (s ∷ ss) = Then 3 s (block ss)

abbrev pub assign : ℕ → List Term → Term → Statement
assign a subscripts right = AssignElement a (args subscripts) right

abbrev pub arm : Term → Block → Arms → Arms
arm t body others = Arm 3 t body others

-- ---- the state at the entry

abbrev pub dim : ℤ → ℤ → Dim
dim lower upper = record { lower = lower; upper = upper }

abbrev pub array_of : List Dim → List ℤ → Array
array_of ds vs = record { dims = ds; elements = vs }

-- all elements have one value
abbrev pub array : List Dim → ℤ → Array
array ds value = array_of ds (replicate (elements ds) value)

abbrev pub with_scalars : List (ℕ × ℤ) → State → State
with_scalars [] s = s
with_scalars (x ∷ xs) s = with_scalars xs (set_scalar s x.0 x.1)

-- A and B, and the scalars that aren't 0
abbrev pub entry : Array → Array → List (ℕ × ℤ) → State
entry a b scalars = with_scalars scalars record { scalars = replicate 9 (pos 0); arrays = a ∷ b ∷ replicate 7 no_array; printed = [] }

-- ---- outcomes

abbrev pub is_entered : Nest → Block → State → Type 0
is_entered nest body s = check_nest nest body s ≡ Ok s

-- two iterations, by their indices, the innermost first, and the object in which they interfere
abbrev pub between : List ℤ → List ℤ → ℕ → Option (List ℤ) → Cause
between earlier later name subscripts = record { kind = Interfere; at = Between earlier later record { name = name; subscripts = subscripts } }
