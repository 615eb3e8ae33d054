-- Of a promise.
-- Programs that keep the ranks of their arrays: each reference has a subscript for each dimension, each whole array that is transformed has the dimensions
-- that are declared, and each index of a FORALL is one of its header, which has 7 at most. So it is in every program that breaks no rule.
use Rattle.std.specs.Prelude.{◌≡◌, ℕ, ◌+◌, ◌<◌, ◌≤◌, List, length, map, Option, Some, None, ⊤}
use Rattle.std.specs.List.{AllByRecursion}
use Rattle.hpf_base.specs.declared.limits.TheConstants.{MAX_RANK}
use Rattle.name_table.specs.declared.limits.TheConstants.{MAX_INDICES}
use Rattle.expression_rules.specs.declared.dims.Dim.{Dim}
use Rattle.expression_rules.specs.Dims.{AreDims}
use Rattle.array_meaning.specs.Terms.{Term, Number, Scalar, Index, Element, Section, Apply, Reduce, Terms, NoTerm, More, list_of, SectionSubscripts, NoSubscript, Subscript, Triplet, Control}
use Rattle.array_meaning.specs.Statements.{Item, Text, Value, Elements, SectionAssignment, ElementAssignment, WholeArray, Transformation, CircularShift, Transposition, PrefixSum, Block, Done, Then, Statement, AssignScalar, AssignElement, AssignSection, Transform, If, Do, Where, Forall, Print, Stop, Exit, Cycle, Continue, Redistribute, Arms, NoArm, Arm}
use Rattle.array_meaning.specs.State.{State}
use Rattle.code_meaning.specs.Parallel.{shape_of}

-- the dimensions of all names of a state
abbrev pub declared_shapes : State → List (List Dim)
declared_shapes s = map (λ a. a.dims) s.arrays

-- how many subscripts
abbrev pub subscript_count : SectionSubscripts → ℕ
subscript_count NoSubscript = 0
subscript_count (Subscript t subs) = subscript_count subs + 1
subscript_count (Triplet first last step subs) = subscript_count subs + 1

-- the rank of what is transformed: 1 at least, or 2
abbrev pub IsRankOf : Transformation → ℕ → Type 0
IsRankOf (CircularShift by) rank = 1 ≤ rank
IsRankOf Transposition rank = rank ≡ 2
IsRankOf PrefixSum rank = rank ≡ 1

module _ (shapes : List (List Dim)) where
  -- no array has more than 7 dimensions
  abbrev pub AreFewDims : Type 0
  AreFewDims = (a : ℕ) → length (shape_of shapes a) ≤ MAX_RANK

  abbrev mutual
    -- an expression where a FORALL has so many indices, elsewhere 0
    pub IsRanked : ℕ → Term → Type 0
    IsRanked indices (Number v) = ⊤
    IsRanked indices (Scalar k) = ⊤
    IsRanked indices (Index k) = k < indices
    IsRanked indices (Element a ts) = (length (list_of ts) ≡ length (shape_of shapes a)) × AreRanked indices ts
    IsRanked indices (Section a subs) = (subscript_count subs ≡ length (shape_of shapes a)) × AreRankedSubscripts indices subs
    IsRanked indices (Apply o ts) = AreRanked indices ts
    IsRanked indices (Reduce o t) = IsRanked indices t

    pub AreRanked : ℕ → Terms → Type 0
    AreRanked indices NoTerm = ⊤
    AreRanked indices (More t ts) = IsRanked indices t × AreRanked indices ts

    pub AreRankedSubscripts : ℕ → SectionSubscripts → Type 0
    AreRankedSubscripts indices NoSubscript = ⊤
    AreRankedSubscripts indices (Subscript t subs) = IsRanked indices t × AreRankedSubscripts indices subs
    AreRankedSubscripts indices (Triplet first last step subs) =
        (IsRanked indices first × IsRanked indices last × IsRanked indices step) × AreRankedSubscripts indices subs

  -- the control of an index
  abbrev pub IsRankedControl : Control → Type 0
  IsRankedControl c = IsRanked 0 c.first × IsRanked 0 c.last × IsRanked 0 c.step

  -- an assignment of a WHERE, one of a FORALL and its mask, an item of a PRINT
  abbrev pub IsRankedMasked : SectionAssignment → Type 0
  IsRankedMasked x = IsRanked 0 (Section x.array x.subscripts) × IsRanked 0 x.right

  abbrev pub IsRankedIndexed : ℕ → ElementAssignment → Type 0
  IsRankedIndexed indices x = IsRanked indices (Element x.array x.subscripts) × IsRanked indices x.right

  abbrev pub IsRankedMask : ℕ → Option Term → Type 0
  IsRankedMask indices None = ⊤
  IsRankedMask indices (Some t) = IsRanked indices t

  abbrev pub IsRankedItem : Item → Type 0
  IsRankedItem (Text bytes) = ⊤
  IsRankedItem (Value t) = IsRanked 0 t
  IsRankedItem (Elements a subs) = IsRanked 0 (Section a subs)

  -- an array with the dimensions that are declared
  abbrev pub IsDeclared : WholeArray → Type 0
  IsDeclared x = (x.dims ≡ shape_of shapes x.array) × AreDims x.dims

  -- two arrays of that rank
  abbrev pub AreTransformed : (target source : WholeArray) → Transformation → Type 0
  AreTransformed x y how = IsDeclared x × IsDeclared y × (length y.dims ≡ length x.dims) × IsRankOf how (length x.dims)

  abbrev pub IsRankedTransformation : Transformation → Type 0
  IsRankedTransformation (CircularShift by) = IsRanked 0 by
  IsRankedTransformation Transposition = ⊤
  IsRankedTransformation PrefixSum = ⊤

  abbrev mutual
    -- a statement, of which each expression does
    pub KeepsRanks : Statement → Type 0
    KeepsRanks (AssignScalar k t) = IsRanked 0 t
    KeepsRanks (AssignElement a ts t) = IsRanked 0 (Element a ts) × IsRanked 0 t
    KeepsRanks (AssignSection a subs t) = IsRanked 0 (Section a subs) × IsRanked 0 t
    KeepsRanks (Transform x y how) = AreTransformed x y how × IsRankedTransformation how
    KeepsRanks (If arms other) = ArmsKeepRanks arms × BlockKeepsRanks other
    KeepsRanks (Do mark loop body) = IsRankedControl loop.control × BlockKeepsRanks body
    KeepsRanks (Where mask body others) = IsRanked 0 mask × AllByRecursion IsRankedMasked body × AllByRecursion IsRankedMasked others
    KeepsRanks (Forall controls mask body) = (length controls ≤ MAX_INDICES) × AllByRecursion IsRankedControl controls
        × IsRankedMask (length controls) mask × AllByRecursion (IsRankedIndexed (length controls)) body
    KeepsRanks (Print items) = AllByRecursion IsRankedItem items
    KeepsRanks Stop = ⊤
    KeepsRanks Exit = ⊤
    KeepsRanks Cycle = ⊤
    KeepsRanks Continue = ⊤
    KeepsRanks Redistribute = ⊤

    pub ArmsKeepRanks : Arms → Type 0
    ArmsKeepRanks NoArm = ⊤
    ArmsKeepRanks (Arm line condition body arms) = IsRanked 0 condition × BlockKeepsRanks body × ArmsKeepRanks arms

    pub BlockKeepsRanks : Block → Type 0
    BlockKeepsRanks Done = ⊤
    BlockKeepsRanks (Then line s rest) = KeepsRanks s × BlockKeepsRanks rest
