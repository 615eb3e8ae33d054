-- Short ways to write a program of the examples, and its outcome.
use Rattle.std.specs.Prelude.{ℕ, codes, List, [], ◌∷◌, ◌++◌, map, ℤ, pos, Some, None}
use Rattle.op_tables.specs.declared.op.Op.{Op}
use Rattle.op_tables.specs.declared.op.Op.TheVariants as op
use Rattle.syntax_tree.specs.Expression as e
use Rattle.syntax_tree.specs.Statement as s
use Rattle.expression_rules.specs.declared.dims.Dim.{Dim}
use Rattle.expression_rules.specs.Symbols.{Name}
use Rattle.name_table.specs.declared.names.What.TheVariants as what
use Rattle.name_table.specs.declared.names.Entry.{Entry}
use Rattle.array_meaning.specs.declared.faults.FaultKind.{FaultKind}
use Rattle.array_meaning.specs.Faults.{Location}
use Rattle.array_meaning.specs.Serial.{Outcome, Finished, Faulted}

abbrev pub A : Name
A = codes "A"

abbrev pub B : Name
B = codes "B"

abbrev pub I : Name
I = codes "I"

abbrev pub J : Name
J = codes "J"

abbrev pub K : Name
K = codes "K"

-- ---- declared names

abbrev pub scalar : Name → ℤ → Entry
scalar x v = record { name = x; what = what.Scalar v }

abbrev pub constant : Name → ℤ → Entry
constant x v = record { name = x; what = what.Constant v }

abbrev pub array : Name → List Dim → ℤ → Entry
array x ds v = record { name = x; what = what.Array ds v }

abbrev pub dim : ℤ → ℤ → Dim
dim lower upper = record { lower = lower; upper = upper }

-- arrays of one and of two dimensions with the lower bound 1, and the value of all elements
abbrev pub vector : Name → ℕ → ℕ → Entry
vector x extent v = array x (dim (pos 1) (pos extent) ∷ []) (pos v)

abbrev pub matrix : Name → ℕ → ℕ → ℕ → Entry
matrix x rows columns v = array x (dim (pos 1) (pos rows) ∷ dim (pos 1) (pos columns) ∷ []) (pos v)

-- ---- expressions

abbrev pub n : ℕ → e.Expression
n k = e.Number (pos k)

-- a name alone
abbrev pub v : Name → e.Expression
v x = e.Name x

abbrev pub minus : e.Expression → e.Expression
minus a = e.Unary op.Neg a

abbrev pub add : e.Expression → e.Expression → e.Expression
add a b = e.Binary op.Add a b

abbrev pub sub : e.Expression → e.Expression → e.Expression
sub a b = e.Binary op.Sub a b

abbrev pub mul : e.Expression → e.Expression → e.Expression
mul a b = e.Binary op.Mul a b

abbrev pub div : e.Expression → e.Expression → e.Expression
div a b = e.Binary op.Div a b

abbrev pub eq : e.Expression → e.Expression → e.Expression
eq a b = e.Binary op.Eq a b

abbrev pub gt : e.Expression → e.Expression → e.Expression
gt a b = e.Binary op.Gt a b

abbrev pub parts : List e.Part → e.Parts
parts [] = e.End
parts (p ∷ ps) = e.More p (parts ps)

abbrev pub args : List e.Expression → e.Parts
args [] = e.End
args (a ∷ as') = e.More (e.One a) (args as')

abbrev pub call : Op → List e.Expression → e.Expression
call o as' = e.Call o (args as')

-- an element of an array of one dimension, and a section
abbrev pub element : Name → e.Expression → e.Expression
element x a = e.Element x (args (a ∷ []))

abbrev pub section : Name → List e.Part → e.Expression
section x ps = e.Element x (parts ps)

abbrev pub range : e.Expression → e.Expression → e.Part
range a b = e.Range (e.Present a) (e.Present b) e.Absent

abbrev pub range_by : e.Expression → e.Expression → e.Expression → e.Part
range_by a b c = e.Range (e.Present a) (e.Present b) (e.Present c)

-- ---- statements

abbrev pub variable : Name → s.Variable
variable x = record { name = x; subscripts = None }

abbrev pub variable_at : Name → List e.Part → s.Variable
variable_at x ps = record { name = x; subscripts = Some (parts ps) }

-- an element of an array of one dimension
abbrev pub element_at : Name → e.Expression → s.Variable
element_at x a = variable_at x (e.One a ∷ [])

abbrev pub assign : ℕ → s.Variable → e.Expression → s.Assignment
assign line left right = record { line = line; left = left; right = right }

abbrev pub axis : Name → e.Expression → e.Expression → s.Axis
axis x a b = record { index = x; first = a; last = b; step = None }

abbrev pub axis_by : Name → e.Expression → e.Expression → e.Expression → s.Axis
axis_by x a b c = record { index = x; first = a; last = b; step = Some c }

-- an assignment, a PRINT of values, a loop, an IF with one statement, each at its line
abbrev pub at : ℕ → s.Statement → s.Block → s.Block
at line statement rest = s.Then line statement rest

abbrev pub set : ℕ → s.Variable → e.Expression → s.Block → s.Block
set line left right = at line (s.Assign left right)

abbrev pub print : ℕ → List e.Expression → s.Block → s.Block
print line items = at line (s.Print (map s.Value items))

abbrev pub block : List (s.Block → s.Block) → s.Block
block [] = s.Done
block (f ∷ fs) = f (block fs)

abbrev pub loop : ℕ → s.Axis → List (s.Block → s.Block) → s.Block → s.Block
loop line x body = at line (s.Do None x (block body))

-- a loop after an INDEPENDENT of a line, with its NEW and REDUCTION lists
abbrev pub nest : ℕ → List Name → List Name → ℕ → s.Axis → List (s.Block → s.Block) → s.Block → s.Block
nest directive new reduction line x body = at line (s.Do (Some record { line = directive; new = new; reduction = reduction }) x (block body))

abbrev pub if_one : ℕ → e.Expression → (s.Block → s.Block) → s.Block → s.Block
if_one line condition statement = at line (s.If (s.Arm line condition (statement s.Done) s.NoArm) s.Without)

abbrev pub where_mask : ℕ → e.Expression → List s.Assignment → List s.Assignment → s.Block → s.Block
where_mask line mask body others = at line (s.Where mask body others)

abbrev pub forall_over : ℕ → List s.Axis → List s.Assignment → s.Block → s.Block
forall_over line axes body = at line (s.Forall axes None body)

abbrev pub forall_masked : ℕ → List s.Axis → e.Expression → List s.Assignment → s.Block → s.Block
forall_masked line axes mask body = at line (s.Forall axes (Some mask) body)

-- ---- outcomes

-- printed lines
abbrev pub lines : List (List ℕ) → List ℕ
lines [] = []
lines (l ∷ ls) = l ++ 10 ∷ lines ls

-- the elements of an array
abbrev pub row : List ℕ → List ℤ
row ks = map pos ks

-- the printed lines, and the elements of each name, of which a scalar has none
abbrev pub finishes : List (List ℕ) → List (List ℤ) → Outcome
finishes printed arrays = record { printed = lines printed; end = Finished; arrays = arrays }

-- the same after a fault at a line
abbrev pub faults : ℕ → FaultKind → Location → List (List ℕ) → List (List ℤ) → Outcome
faults line kind at printed arrays = record { printed = lines printed; end = Faulted record { line = line; kind = kind; at = at }; arrays = arrays }
