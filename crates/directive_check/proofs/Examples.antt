-- Programs with their first breach of the rules of mapping directives, on a grid of four nodes.
use Rattle.std.proofs.Common.{◌≡◌, refl, false, List, [], ◌∷◌, Option, Some, None, ℕ, ◌+◌, pos}
use Rattle.std.specs.Prelude.{codes}
use Rattle.std.specs.Int.{int_wrap}
use Rattle.hpf_base.specs.FirstBreach.{least}
use Rattle.hpf_base.specs.declared.refusal.Reason.TheVariants as reason
use Rattle.hpf_base.specs.declared.refusal.Refusal.{Refusal}
use Rattle.op_tables.specs.declared.op.Op.TheVariants as op
use Rattle.syntax_tree.specs.Expression.{Expression, Number, Name as Alone, Binary, One, Range, Absent, Present}
use Rattle.syntax_tree.specs.Directive.{Bound, Entity, Source, Target, Format, Processors, Template, Distribute, Align, Undistributed, Block, Dummy, Spread, Collapsed, Placed, Replicated}
use Rattle.syntax_tree.specs.Statement.{Done}
use Rattle.syntax_tree.specs.MainProgram.{Declared, Integer, Directed, Declaration, MainProgram}
use Rattle.directive_check.specs.MappingRules.{mapping_breaches}

abbrev number : ℕ → Expression
number n = Number (pos n)

abbrev upto : ℕ → Bound
upto n = record { lower = None; upper = number n }

abbrev array : List ℕ → List Bound → Entity
array x bs = record { name = x; bounds = Some bs; start = None }

abbrev scalar : List ℕ → Entity
scalar x = record { name = x; bounds = None; start = None }

abbrev integers : List Entity → Declared
integers es = Integer (record { constant = false; bounds = None; entities = es })

abbrev align_one : List ℕ → List Source → List ℕ → List Target → Declared
align_one x ss y ts = Directed (Align (record { names = x ∷ []; sources = Some ss; target = y; subscripts = Some ts }))

abbrev distribute_one : List ℕ → List Format → Declared
distribute_one x fs = Directed (Distribute (record { names = x ∷ []; formats = fs; onto = None }))

-- the declarations stand in lines 1, 2 and so on
abbrev placed_from : ℕ → List Declared → List Declaration
placed_from n [] = []
placed_from n (w ∷ ws) = record { line = n; what = w } ∷ placed_from (n + 1) ws

abbrev program : List Declared → MainProgram
program ws = record { name = None; declarations = placed_from 1 ws; body = Done; end_name = None; end_line = 9 }

abbrev first_of : List Declared → Option Refusal
first_of ws = least (mapping_breaches (4 ∷ []) (program ws))

-- what rests on an alignment that is refused by itself isn't judged
abbrev past : List Declared
past =
    integers (array (codes "A") (upto 1 ∷ []) ∷ array (codes "B") (upto 1 ∷ []) ∷ [])
    ∷ align_one (codes "B") (Dummy (codes "I") ∷ []) (codes "A") (Placed (One (Binary op.Add (Binary op.Mul (number 0) (Alone (codes "I"))) (number 1))) ∷ [])
    ∷ Directed (Template (array (codes "T") (upto 1 ∷ []) ∷ []))
    ∷ align_one (codes "A") (Dummy (codes "I") ∷ []) (codes "T")
    (Placed (One (Binary op.Sub (Binary op.Mul (number 2199023255552) (Alone (codes "I"))) (number 2199023255551))) ∷ [])
    ∷ []

past_alone : first_of past ≡ Some (record { line = 4; reason = reason.Limit })
unfolding int_wrap
past_alone = refl

-- what is composed is judged by its own numbers: the factor of B is past its limit, and that of A is 0
abbrev three : List Declared
three =
    integers (array (codes "A") (upto 1 ∷ []) ∷ array (codes "B") (upto 1 ∷ []) ∷ array (codes "C") (upto 1 ∷ []) ∷ [])
    ∷ align_one (codes "A") (Dummy (codes "I") ∷ []) (codes "B") (Placed (One (Binary op.Add (Binary op.Mul (number 0) (Alone (codes "I"))) (number 1))) ∷ [])
    ∷ align_one (codes "B") (Dummy (codes "I") ∷ []) (codes "C") (Placed (One (Binary op.Sub (Binary op.Mul (number 3) (Alone (codes "I"))) (number 2))) ∷ [])
    ∷ Directed (Template (array (codes "T") (upto 1 ∷ []) ∷ []))
    ∷ align_one (codes "C") (Dummy (codes "I") ∷ []) (codes "T")
    (Placed (One (Binary op.Sub (Binary op.Mul (number 1099511627776) (Alone (codes "I"))) (number 1099511627775))) ∷ [])
    ∷ []

three_apart : first_of three ≡ Some (record { line = 3; reason = reason.Limit })
unfolding int_wrap
three_apart = refl

-- an array without elements between: the elements of B lie in A, which has none, and outside T
abbrev between : List Declared
between =
    integers (array (codes "A") (upto 5 ∷ upto 0 ∷ []) ∷ array (codes "B") (upto 3 ∷ []) ∷ [])
    ∷ Directed (Template (array (codes "T") (upto 3 ∷ []) ∷ []))
    ∷ align_one (codes "A") (Dummy (codes "I") ∷ Collapsed ∷ []) (codes "T") (Placed (One (Binary op.Mul (number 1000) (Alone (codes "I")))) ∷ [])
    ∷ align_one (codes "B") (Dummy (codes "I") ∷ []) (codes "A") (Placed (One (Alone (codes "I"))) ∷ Replicated ∷ [])
    ∷ []

between_outside : first_of between ≡ Some (record { line = 4; reason = reason.BadDirective })
unfolding int_wrap
between_outside = refl

-- an arrangement without dimensions, which no text has
without_dimensions : first_of (Directed (Processors (array (codes "P") [] ∷ [])) ∷ []) ≡ Some (record { line = 1; reason = reason.BadArrangement })
unfolding int_wrap
without_dimensions = refl

-- each dimension of a template is known by itself
known_alone : first_of (
    integers (scalar (codes "X") ∷ [])
    ∷ distribute_one (codes "T") (Undistributed ∷ Block (Some (number 1)) ∷ [])
    ∷ Directed (Template (array (codes "T") (record { lower = None; upper = Alone (codes "X") } ∷ upto 100 ∷ []) ∷ [])) ∷ []
    ) ≡ Some (record { line = 2; reason = reason.BadDirective })
unfolding int_wrap
known_alone = refl

-- a dimension of which one bound isn't known is unknown
unknown_bound : first_of (
    integers (array (codes "A") (upto 4 ∷ []) ∷ scalar (codes "X") ∷ [])
    ∷ align_one (codes "A") (Spread ∷ []) (codes "T") (Placed (Range Absent Absent (Present (number 1099511627777))) ∷ [])
    ∷ Directed (Template (array (codes "T") (record { lower = Some (number 2); upper = Alone (codes "X") } ∷ []) ∷ [])) ∷ []
    ) ≡ Some (record { line = 3; reason = reason.BadConstant })
unfolding int_wrap
unknown_bound = refl

-- a stride of 0 beside a part that isn't constant
zero_stride : first_of (
    integers (array (codes "A") (upto 3 ∷ []) ∷ scalar (codes "X") ∷ [])
    ∷ Directed (Template (array (codes "T") (upto 9 ∷ []) ∷ []))
    ∷ align_one (codes "A") (Spread ∷ []) (codes "T") (Placed (Range (Present (Alone (codes "X"))) (Present (number 3)) (Present (number 0))) ∷ []) ∷ []
    ) ≡ Some (record { line = 3; reason = reason.BadDirective })
unfolding int_wrap
zero_stride = refl
