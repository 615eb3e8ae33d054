-- Of a promise.
-- Small programs on nodes, and the text of their messages.
use Rattle.std.specs.Prelude.{ℕ, codes, List, [], ◌∷◌, pos, negsuc, Some, None, if◌then◌else◌, nat_eq}
use Rattle.mappings.specs.declared.mapping.Form.{Form}
use Rattle.mappings.specs.declared.mapping.Form.TheVariants.{Block, Cyclic}
use Rattle.mappings.specs.declared.mapping.AlignDim.TheVariants.{Linear}
use Rattle.mappings.specs.declared.mapping.MapDim.{MapDim}
use Rattle.mappings.specs.declared.mapping.Mapping.{Mapping}
use Rattle.syntax_tree.specs.Directive as d
use Rattle.syntax_tree.specs.Expression as e
use Rattle.syntax_tree.specs.Statement as s
use Rattle.op_tables.specs.declared.op.Op.TheVariants as op
use Rattle.expression_rules.specs.declared.dims.Dim.{Dim}
use Rattle.name_table.specs.declared.names.What.TheVariants as what
use Rattle.name_table.specs.declared.names.Entry.{Entry}
use Rattle.statement_trail.specs.Trail.{trail_of}
use Rattle.machine_steps.specs.Instr.{Remapping}
use Rattle.machine_steps.specs.Layout.{Layout}
use Rattle.machine_steps.specs.CopyLayout.{copy_layout}
use Rattle.message_text.specs.Parts.{Setting}
use Rattle.message_text.specs.MessageText.{trail_lines}

abbrev A : List ℕ
A = codes "A"

abbrev I : List ℕ
I = codes "I"

abbrev n : ℕ → e.Expression
n k = e.Number (pos k)

abbrev up_to : ℕ → Dim
up_to k = record { lower = pos 1; upper = pos k }

abbrev names : ℕ → List Entry
names k = record { name = A; what = what.Array (up_to k ∷ []) (pos 0) } ∷ record { name = I; what = what.Scalar (pos 0) } ∷ []

abbrev mapping : ℕ → Form → Mapping
mapping k f = record { grid = 4 ∷ []; dims = record { line = record { lower = pos 1; extent = k; form = f; procs = 4 }; grid_dim = 0; align = Linear 0 (pos 1) (pos 0) } ∷ [] }

abbrev start : ℕ → ℕ → List Layout
start k m = record { shape = record { lower = pos 1 ∷ []; extent = pos k ∷ [] }; mapping = mapping k (Block m) } ∷ copy_layout 4 (0 ∷ []) ∷ []

abbrev moves : ℕ → List Remapping
moves line = if nat_eq line 5 then record { row = 0; mapping = mapping 8 (Cyclic 1) } ∷ [] else []

abbrev setting : ℕ → Setting
setting k = record { nodes = 4; names = A ∷ I ∷ []; shapes = (up_to k ∷ []) ∷ [] ∷ []; moves = moves; copies = []; copied = [] }

abbrev at_i : e.Parts
at_i = e.More (e.One (e.Name I)) e.End

abbrev numbers : ℕ → s.Block → s.Block
numbers k rest = s.Then 3 (s.Forall (record { index = I; first = n 1; last = n k; step = None } ∷ []) None
    (record { line = 3; left = record { name = A; subscripts = Some at_i }; right = e.Name I } ∷ [])) rest

abbrev part : e.Maybe → e.Maybe → e.Maybe → e.Parts
part a b c = e.More (e.Range a b c) e.End

abbrev assign : ℕ → e.Parts → e.Parts → s.Block
assign line left right = s.Then line (s.Assign (record { name = A; subscripts = Some left }) (e.Element A right)) s.Done

-- INTEGER :: A(10), I|!HPF$ DISTRIBUTE A(BLOCK)|FORALL (I=1:10) A(I) = I|A(1:9) = A(2:10)|END
abbrev pub shift_left : List ℕ
shift_left = trail_lines (setting 10) (start 10 3) (trail_of (names 10) (numbers 10 (assign 4 (part (e.Present (n 1)) (e.Present (n 9)) e.Absent) (part (e.Present (n 2)) (e.Present (n 10)) e.Absent))))

-- the same with A(10:1:-1) = A(1:10)
abbrev pub reversal : List ℕ
reversal = trail_lines (setting 10) (start 10 3) (trail_of (names 10) (numbers 10 (assign 4 (part (e.Present (n 10)) (e.Present (n 1)) (e.Present (e.Number (negsuc 0)))) (part (e.Present (n 1)) (e.Present (n 10)) e.Absent))))

-- INTEGER :: A(8), I|!HPF$ DISTRIBUTE A(BLOCK)|!HPF$ DYNAMIC A|FORALL (I=1:8) A(I) = I|!HPF$ REDISTRIBUTE A(CYCLIC)|END
abbrev pub block_to_cyclic : List ℕ
block_to_cyclic = trail_lines (setting 8) (start 8 2) (trail_of (names 8) (numbers 8 (s.Then 5 (s.Redistribute record { names = A ∷ []; formats = d.Cyclic None ∷ []; onto = None }) s.Done)))

-- ---- a mask and a reduction: A lies in blocks over two nodes, and B cyclically

abbrev B : List ℕ
B = codes "B"

abbrev two : Form → Mapping
two f = record { grid = 2 ∷ []; dims = record { line = record { lower = pos 1; extent = 4; form = f; procs = 2 }; grid_dim = 0; align = Linear 0 (pos 1) (pos 0) } ∷ [] }

abbrev lies : Form → Layout
lies f = record { shape = record { lower = pos 1 ∷ []; extent = pos 4 ∷ [] }; mapping = two f }

abbrev two_names : List Entry
two_names = record { name = A; what = what.Array (up_to 4 ∷ []) (pos 1) } ∷ record { name = B; what = what.Array (up_to 4 ∷ []) (pos 0) } ∷ record { name = I; what = what.Scalar (pos 0) } ∷ []

abbrev two_setting : Setting
two_setting = record { nodes = 2; names = A ∷ B ∷ I ∷ []; shapes = (up_to 4 ∷ []) ∷ (up_to 4 ∷ []) ∷ [] ∷ []; moves = λ line. []; copies = []; copied = [] }

abbrev sum : e.Parts
sum = e.More (e.One (e.Binary op.Add (e.Name B) (e.Name A))) e.End

-- INTEGER :: A(4) = 1, B(4), I|!HPF$ DISTRIBUTE A(BLOCK)|!HPF$ DISTRIBUTE B(CYCLIC)|WHERE (A > 0) B = A|I = SUM(B + A)|END
abbrev pub masked : List ℕ
masked = trail_lines two_setting (lies (Block 2) ∷ lies (Cyclic 1) ∷ copy_layout 2 (0 ∷ []) ∷ []) (trail_of two_names
    (s.Then 4 (s.Where (e.Binary op.Gt (e.Name A) (n 0)) (record { line = 4; left = record { name = B; subscripts = None }; right = e.Name A } ∷ []) [])
    (s.Then 5 (s.Assign (record { name = I; subscripts = None }) (e.Call op.Sum sum)) s.Done)))

-- the mask lies beside A, and B lies otherwise
-- INTEGER :: A(4) = 1, B(4), I|!HPF$ DISTRIBUTE A(BLOCK)|!HPF$ DISTRIBUTE B(CYCLIC)|WHERE (A > 0)|A = 2|B = A|END WHERE|END
abbrev pub masked_apart : List ℕ
masked_apart = trail_lines two_setting (lies (Block 2) ∷ lies (Cyclic 1) ∷ copy_layout 2 (0 ∷ []) ∷ []) (trail_of two_names
    (s.Then 4 (s.Where (e.Binary op.Gt (e.Name A) (n 0))
    (record { line = 5; left = record { name = A; subscripts = None }; right = n 2 } ∷ record { line = 6; left = record { name = B; subscripts = None }; right = e.Name A } ∷ [])
    []) s.Done))

-- node 0 computes for A(5), which isn't there, so that the mask lies in blocks
-- INTEGER :: A(4) = 1, B(4), I|!HPF$ DISTRIBUTE A(BLOCK)|!HPF$ DISTRIBUTE B(CYCLIC)|FORALL (I=3:5, I<5) A(I) = B(I-1)|END
abbrev pub left_outside : List ℕ
left_outside = trail_lines two_setting (lies (Block 2) ∷ lies (Cyclic 1) ∷ copy_layout 2 (0 ∷ []) ∷ []) (trail_of two_names
    (s.Then 4 (s.Forall (record { index = I; first = n 3; last = n 5; step = None } ∷ []) (Some (e.Binary op.Lt (e.Name I) (n 5)))
    (record { line = 4; left = record { name = A; subscripts = Some at_i }; right = e.Element B (e.More (e.One (e.Binary op.Sub (e.Name I) (n 1))) e.End) } ∷ [])) s.Done))

-- A lies on both nodes, so the first one adds
-- INTEGER :: A(4) = 1, B(4), I|!HPF$ DISTRIBUTE B(CYCLIC)|I = SUM(A + B)|END
abbrev pub replicated_first : List ℕ
replicated_first = trail_lines two_setting
    (record { shape = record { lower = pos 1 ∷ []; extent = pos 4 ∷ [] }; mapping = record { grid = 2 ∷ []; dims = [] } } ∷ lies (Cyclic 1) ∷ copy_layout 2 (0 ∷ []) ∷ [])
    (trail_of two_names (s.Then 3 (s.Assign (record { name = I; subscripts = None })
    (e.Call op.Sum (e.More (e.One (e.Binary op.Add (e.Name A) (e.Name B))) e.End))) s.Done))

-- ---- an array of two dimensions, in blocks along both of a grid

abbrev M : List ℕ
M = codes "M"

abbrev halves : ℕ → MapDim
halves dim = record { line = record { lower = pos 1; extent = 4; form = Block 2; procs = 2 }; grid_dim = dim; align = Linear dim (pos 1) (pos 0) }

-- INTEGER :: M(4,4)|!HPF$ DISTRIBUTE M(BLOCK,BLOCK)|M(1:2,:) = M(3:4,4:1:-1)|END
abbrev pub two_dimensions : List ℕ
two_dimensions = trail_lines
    (record { nodes = 4; names = M ∷ []; shapes = (up_to 4 ∷ up_to 4 ∷ []) ∷ []; moves = λ line. []; copies = []; copied = [] })
    (record { shape = record { lower = pos 1 ∷ pos 1 ∷ []; extent = pos 4 ∷ pos 4 ∷ [] }; mapping = record { grid = 2 ∷ 2 ∷ []; dims = halves 0 ∷ halves 1 ∷ [] } } ∷ [])
    (trail_of (record { name = M; what = what.Array (up_to 4 ∷ up_to 4 ∷ []) (pos 0) } ∷ []) (s.Then 3 (s.Assign
    (record { name = M; subscripts = Some (e.More (e.Range (e.Present (n 1)) (e.Present (n 2)) e.Absent) (part e.Absent e.Absent e.Absent)) })
    (e.Element M (e.More (e.Range (e.Present (n 3)) (e.Present (n 4)) e.Absent) (part (e.Present (n 4)) (e.Present (n 1)) (e.Present (e.Number (negsuc 0))))))) s.Done))

-- ---- a nest of INDEPENDENT loops over an array that lies cyclically, with a scalar of its own and a REDUCTION variable

abbrev T : List ℕ
T = codes "T"

abbrev S : List ℕ
S = codes "S"

abbrev nest_names : List Entry
nest_names = record { name = A; what = what.Array (up_to 6 ∷ []) (pos 0) } ∷ record { name = I; what = what.Scalar (pos 0) } ∷ record { name = T; what = what.Scalar (pos 0) }
    ∷ record { name = S; what = what.Scalar (pos 0) } ∷ []

abbrev nest_setting : Setting
nest_setting = record { nodes = 4; names = A ∷ I ∷ T ∷ S ∷ []; shapes = (up_to 6 ∷ []) ∷ [] ∷ [] ∷ [] ∷ []; moves = λ line. []; copies = []; copied = [] }

abbrev nest_start : List Layout
nest_start = record { shape = record { lower = pos 1 ∷ []; extent = pos 6 ∷ [] }; mapping = mapping 6 (Cyclic 1) }
    ∷ copy_layout 4 (0 ∷ []) ∷ copy_layout 4 (0 ∷ []) ∷ copy_layout 4 (0 ∷ []) ∷ []

abbrev left : List ℕ → e.Maybe → s.Variable
left x e.Absent = record { name = x; subscripts = None }
left x (e.Present i) = record { name = x; subscripts = Some (e.More (e.One i) e.End) }

-- INTEGER :: A(6), I, T, S|!HPF$ DISTRIBUTE A(CYCLIC)|FORALL (I=1:6) A(I) = I|S = 100|!HPF$ INDEPENDENT, NEW(T), REDUCTION(S)|DO I = 1, 6|T = A(I) - I|S = S + T|A(I) = T|END DO|END
abbrev pub new_and_reduction : List ℕ
new_and_reduction = trail_lines nest_setting nest_start (trail_of nest_names (numbers 6
    (s.Then 4 (s.Assign (left S e.Absent) (n 100))
    (s.Then 6 (s.Do (Some record { line = 5; new = T ∷ []; reduction = S ∷ [] }) record { index = I; first = n 1; last = n 6; step = None }
    (s.Then 7 (s.Assign (left T e.Absent) (e.Binary op.Sub (e.Element A at_i) (e.Name I)))
    (s.Then 8 (s.Assign (left S e.Absent) (e.Binary op.Add (e.Name S) (e.Name T)))
    (s.Then 9 (s.Assign (left A (e.Present (e.Name I))) (e.Name T)) s.Done)))) s.Done))))

-- it stores into no array, so that its copies lie in blocks
-- INTEGER :: A(6), I, T, S|!HPF$ DISTRIBUTE A(CYCLIC)|!HPF$ INDEPENDENT, NEW(T), REDUCTION(S)|DO I = 1, 6|T = A(I) - I|S = S + T|END DO|END
abbrev pub sum_alone : List ℕ
sum_alone = trail_lines nest_setting nest_start (trail_of nest_names
    (s.Then 4 (s.Do (Some record { line = 3; new = T ∷ []; reduction = S ∷ [] }) record { index = I; first = n 1; last = n 6; step = None }
    (s.Then 5 (s.Assign (left T e.Absent) (e.Binary op.Sub (e.Element A at_i) (e.Name I)))
    (s.Then 6 (s.Assign (left S e.Absent) (e.Binary op.Add (e.Name S) (e.Name T))) s.Done))) s.Done))

-- INTEGER :: A(6), I, T, S|!HPF$ DISTRIBUTE A(CYCLIC)|!HPF$ INDEPENDENT|DO I = 1, 6|IF (I > 4) A(I) = 1|END DO|END
abbrev pub known_condition : List ℕ
known_condition = trail_lines nest_setting nest_start (trail_of nest_names
    (s.Then 4 (s.Do (Some record { line = 3; new = []; reduction = [] }) record { index = I; first = n 1; last = n 6; step = None }
    (s.Then 5 (s.If (s.Arm 5 (e.Binary op.Gt (e.Name I) (n 4)) (s.Then 5 (s.Assign (left A (e.Present (e.Name I))) (n 1)) s.Done) s.NoArm) s.Without) s.Done)) s.Done))
