-- Of a promise.
-- Programs in which an expression that must have one value has one: no section stands in it but under a reduction, and an index of a
-- FORALL only in that FORALL (Fortran 95, 6.2, 7.5 and 8.1).
use Rattle.std.specs.Prelude.{◌<◌, ◌≤◌, ⊤, ℕ, List, length, Option, Some, None}
use Rattle.std.specs.List.{AllByRecursion}
use Rattle.name_table.specs.declared.names.Entry.{Entry}
use Rattle.name_table.specs.declared.names.What.{What}
use Rattle.name_table.specs.declared.names.What.TheVariants as what
use Rattle.array_meaning.specs.Terms.{Term, Number, Scalar, Index, Element, Section, Apply, Reduce, Terms, NoTerm, More, SectionSubscripts, NoSubscript, Subscript, Triplet, Control}
use Rattle.array_meaning.specs.Statements.{Item, Text, Value, Elements, SectionAssignment, ElementAssignment, Transformation, CircularShift, Transposition, PrefixSum, Block, Done, Then, Statement, AssignScalar, AssignElement, AssignSection, Transform, If, Do, Where, Forall, Print, Stop, Exit, Cycle, Continue, Redistribute, Arms, NoArm, Arm}

-- what a place asks of an expression: one value, or a value at each tuple of positions, which may be the same at all
pub data Asked : Type 0 where
  OneValue : Asked
  Values : Asked

-- only values may be those of a section
abbrev pub MayHave : Asked → Type 0 → Type 0
MayHave OneValue P = ⊥
MayHave Values P = P

abbrev mutual
  -- where there are so many indices of a FORALL
  pub Gives : Asked → ℕ → Term → Type 0
  Gives asked indices (Number v) = ⊤
  Gives asked indices (Scalar k) = ⊤
  Gives asked indices (Index k) = k < indices
  Gives asked indices (Element a ts) = AllGive OneValue indices ts
  Gives asked indices (Section a subs) = MayHave asked (SubscriptsGive indices subs)
  Gives asked indices (Apply o ts) = AllGive asked indices ts
  Gives asked indices (Reduce o t) = Gives Values indices t

  pub AllGive : Asked → ℕ → Terms → Type 0
  AllGive asked indices NoTerm = ⊤
  AllGive asked indices (More t ts) = Gives asked indices t × AllGive asked indices ts

  pub SubscriptsGive : ℕ → SectionSubscripts → Type 0
  SubscriptsGive indices NoSubscript = ⊤
  SubscriptsGive indices (Subscript t subs) = Gives OneValue indices t × SubscriptsGive indices subs
  SubscriptsGive indices (Triplet first last step subs) =
      (Gives OneValue indices first × Gives OneValue indices last × Gives OneValue indices step) × SubscriptsGive indices subs

abbrev pub ControlGives : Control → Type 0
ControlGives c = Gives OneValue 0 c.first × Gives OneValue 0 c.last × Gives OneValue 0 c.step

abbrev pub MaskedGives : SectionAssignment → Type 0
MaskedGives x = SubscriptsGive 0 x.subscripts × Gives Values 0 x.right

abbrev pub TransformationGives : Transformation → Type 0
TransformationGives (CircularShift by) = Gives OneValue 0 by
TransformationGives Transposition = ⊤
TransformationGives PrefixSum = ⊤

abbrev pub IndexedGives : ℕ → ElementAssignment → Type 0
IndexedGives indices x = AllGive OneValue indices x.subscripts × Gives OneValue indices x.right

abbrev pub MaskGives : ℕ → Option Term → Type 0
MaskGives indices None = ⊤
MaskGives indices (Some t) = Gives OneValue indices t

abbrev pub ItemGives : Item → Type 0
ItemGives (Text bytes) = ⊤
ItemGives (Value t) = Gives OneValue 0 t
ItemGives (Elements a subs) = SubscriptsGive 0 subs

abbrev mutual
  -- each expression of a statement gives what its place asks
  pub ScalarsAlone : Statement → Type 0
  ScalarsAlone (AssignScalar k t) = Gives OneValue 0 t
  ScalarsAlone (AssignElement a ts t) = AllGive OneValue 0 ts × Gives OneValue 0 t
  ScalarsAlone (AssignSection a subs t) = SubscriptsGive 0 subs × Gives Values 0 t
  ScalarsAlone (Transform x y how) = TransformationGives how
  ScalarsAlone (If arms other) = ArmsAlone arms × BlockAlone other
  ScalarsAlone (Do mark loop body) = ControlGives loop.control × BlockAlone body
  ScalarsAlone (Where mask body others) = Gives Values 0 mask × AllByRecursion MaskedGives body × AllByRecursion MaskedGives others
  ScalarsAlone (Forall controls mask body) = AllByRecursion ControlGives controls × MaskGives (length controls) mask
      × AllByRecursion (IndexedGives (length controls)) body
  ScalarsAlone (Print items) = AllByRecursion ItemGives items
  ScalarsAlone Stop = ⊤
  ScalarsAlone Exit = ⊤
  ScalarsAlone Cycle = ⊤
  ScalarsAlone Continue = ⊤
  ScalarsAlone Redistribute = ⊤

  pub ArmsAlone : Arms → Type 0
  ArmsAlone NoArm = ⊤
  ArmsAlone (Arm line condition body arms) = Gives OneValue 0 condition × BlockAlone body × ArmsAlone arms

  pub BlockAlone : Block → Type 0
  BlockAlone Done = ⊤
  BlockAlone (Then line s rest) = ScalarsAlone s × BlockAlone rest

-- each array has a dimension, as it has in every text
abbrev pub HasDimension : What → Type 0
HasDimension (what.Array ds v) = 1 ≤ length ds
HasDimension w = ⊤

abbrev pub HaveDimensions : List Entry → Type 0
HaveDimensions names = AllByRecursion (λ e. HasDimension e.what) names
