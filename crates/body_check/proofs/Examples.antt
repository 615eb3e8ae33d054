-- Programs whose refusal is computed. What each is refused for was worked out from the rules of the language, and not by these
-- definitions. Each declares `INTEGER :: A(9), B(9,9), I, J, K|INTEGER, PARAMETER :: N = 2` in lines 1 and 2; what the comments have
-- begins in line 3, and a bar stands for the end of a line.
use Rattle.std.specs.Prelude.{◌≡◌, refl, ℕ, codes, List, [], ◌∷◌, pos, Option, Some, None}
use Rattle.hpf_base.specs.FirstBreach.{least}
use Rattle.hpf_base.specs.declared.refusal.Reason.TheVariants.{BadSubscript}
use Rattle.hpf_base.specs.declared.refusal.Refusal.{Refusal}
use Rattle.op_tables.specs.declared.op.Op.TheVariants as op
use Rattle.syntax_tree.specs.Expression.{Expression, Number, Name as Alone, Element, Call, Binary, One, Parts, End, More}
use Rattle.syntax_tree.specs.Statement.{Assignment, Axis, Block, Done, Then, Assign, If, Forall, NoArm, Arm, Without}
use Rattle.expression_rules.specs.Symbols.{Name}
use Rattle.expression_rules.specs.declared.dims.Dim.{Dim}
use Rattle.name_table.specs.declared.names.Entry.{Entry}
use Rattle.name_table.specs.declared.names.What.{What}
use Rattle.name_table.specs.declared.names.What.TheVariants.{Scalar, Constant, Array}
use Rattle.body_check.specs.BodyRules.{body_breaches}

-- ---- the declared names

abbrev A : Name
A = codes "A"

abbrev B : Name
B = codes "B"

abbrev I : Name
I = codes "I"

abbrev J : Name
J = codes "J"

abbrev K : Name
K = codes "K"

abbrev N : Name
N = codes "N"

abbrev to_nine : Dim
to_nine = record { lower = pos 1; upper = pos 9 }

abbrev entry : Name → What → Entry
entry x w = record { name = x; what = w }

abbrev names : List Entry
names =
    entry A (Array (to_nine ∷ []) (pos 0)) ∷ entry B (Array (to_nine ∷ to_nine ∷ []) (pos 0)) ∷ entry I (Scalar (pos 0)) ∷ entry J (Scalar (pos 0))
    ∷ entry K (Scalar (pos 0)) ∷ entry N (Constant (pos 2)) ∷ []

-- ---- short ways to write a program

abbrev n : ℕ → Expression
n k = Number (pos k)

abbrev v : Name → Expression
v x = Alone x

abbrev parts : List Expression → Parts
parts [] = End
parts (e ∷ es) = More (One e) (parts es)

abbrev at : Name → List Expression → Expression
at x es = Element x (parts es)

abbrev axis : Name → Expression → Expression → Axis
axis x first last = record { index = x; first = first; last = last; step = None }

-- `x(es) = right` in a line
abbrev assign : ℕ → Name → List Expression → Expression → Assignment
assign line x es right = record { line = line; left = record { name = x; subscripts = Some (parts es) }; right = right }

-- a FORALL in line 3, and one over I=1:3 with one assignment there
abbrev forall : List Axis → Option Expression → List Assignment → Block
forall axes mask body = Then 3 (Forall axes mask body) Done

abbrev over_i : Axis
over_i = axis I (n 1) (n 3)

abbrev forall_i : Name → List Expression → Expression → Block
forall_i x es right = forall (over_i ∷ []) None (assign 3 x es right ∷ [])

-- the refusal of a program, and that of a line
abbrev refusal : Block → Option Refusal
refusal b = least (body_breaches names b)

abbrev refused : ℕ → Option Refusal
refused line = Some (record { line = line; reason = BadSubscript })

-- ---- subscripts

-- FORALL (I=1:3) A(N*(I-K)+2*I) = A(I-I)|END: one index, named several times
example-1 : refusal (forall_i A (Binary op.Add (Binary op.Mul (v N) (Binary op.Sub (v I) (v K))) (Binary op.Mul (n 2) (v I)) ∷ [])
    (at A (Binary op.Sub (v I) (v I) ∷ []))) ≡ None
example-1 = refl

-- FORALL (I=1:3) A(I*I) = 1|END
example-2 : refusal (forall_i A (Binary op.Mul (v I) (v I) ∷ []) (n 1)) ≡ refused 3
example-2 = refl

-- FORALL (I=1:3, J=1:3) B(I+J,J) = 1|END
example-3 : refusal (forall (over_i ∷ axis J (n 1) (n 3) ∷ []) None (assign 3 B (Binary op.Add (v I) (v J) ∷ v J ∷ []) (n 1) ∷ [])) ≡ refused 3
example-3 = refl

-- FORALL (I=1:3) A(I) = B(I,A(K))|END
example-4 : refusal (forall_i A (v I ∷ []) (at B (v I ∷ at A (v K ∷ []) ∷ []))) ≡ refused 3
example-4 = refl

-- FORALL (I=1:3) A(N/2) = 1|END: no division, also of constants
example-5 : refusal (forall_i A (Binary op.Div (v N) (n 2) ∷ []) (n 1)) ≡ refused 3
example-5 = refl

-- FORALL (I=1:3) A(I) = I*I/K|END: what isn't a subscript is free
example-6 : refusal (forall_i A (v I ∷ []) (Binary op.Div (Binary op.Mul (v I) (v I)) (v K))) ≡ None
example-6 = refl

-- FORALL (I=1:3)|A(I) = 1|A(I*I) = 1|END FORALL|END: the line of the assignment
example-7 : refusal (forall (over_i ∷ []) None (assign 4 A (v I ∷ []) (n 1) ∷ assign 5 A (Binary op.Mul (v I) (v I) ∷ []) (n 1) ∷ [])) ≡ refused 5
example-7 = refl

-- ---- headers and reductions

-- FORALL (I=1:3, J=I:3) B(I,J) = 1|END
example-8 : refusal (forall (over_i ∷ axis J (v I) (n 3) ∷ []) None (assign 3 B (v I ∷ v J ∷ []) (n 1) ∷ [])) ≡ refused 3
example-8 = refl

-- FORALL (I=1:A(I)) A(I) = 1|END: also inside a subscript
example-9 : refusal (forall (axis I (n 1) (at A (v I ∷ [])) ∷ []) None (assign 3 A (v I ∷ []) (n 1) ∷ [])) ≡ refused 3
example-9 = refl

-- FORALL (I=1:A(K), I > K) A(I) = 1|END: a bound may have an element, and a mask may name an index
example-10 : refusal (forall (axis I (n 1) (at A (v K ∷ [])) ∷ []) (Some (Binary op.Gt (v I) (v K))) (assign 3 A (v I ∷ []) (n 1) ∷ [])) ≡ None
example-10 = refl

-- FORALL (I=1:3)|A(I) = SUM(A)|END FORALL|END: at the assignment
example-11 : refusal (forall (over_i ∷ []) None (assign 4 A (v I ∷ []) (Call op.Sum (parts (v A ∷ []))) ∷ [])) ≡ refused 4
example-11 = refl

-- IF (K > 1) A(K*K) = SUM(A)|FORALL (I=1:SUM(A)) A(I*I) = 1|END: outside a FORALL anything may stand
example-12 : refusal (Then 3 (If (Arm 3 (Binary op.Gt (v K) (n 1))
    (Then 3 (Assign (record { name = A; subscripts = Some (parts (Binary op.Mul (v K) (v K) ∷ [])) }) (Call op.Sum (parts (v A ∷ [])))) Done) NoArm) Without)
    (Then 4 (Forall (axis I (n 1) (Call op.Sum (parts (v A ∷ []))) ∷ []) None (assign 4 A (Binary op.Mul (v I) (v I) ∷ []) (n 1) ∷ [])) Done)) ≡ refused 4
example-12 = refl
