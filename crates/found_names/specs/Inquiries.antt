-- Of a promise.
-- Programs in which SIZE, LBOUND and UBOUND of an array have a value (Fortran 95, 13.14): where `Resolution` has the value 0 for what isn't
-- a constant, or for a dimension that isn't there, it never gives it.
use Rattle.std.specs.Prelude.{◌≡◌, ⊤, ℤ, true, drop, List, [], None}
use Rattle.std.specs.List.{AllByRecursion}
use Rattle.op_tables.specs.Arguments.{is_inquiry}
use Rattle.syntax_tree.specs.Expression.{Expression, Number, Truth, Name as Alone, Element, Call, Unary, Binary, Closed, Part, One, Range, Glued, Parts, End, More, Maybe, Absent, Present}
use Rattle.expression_rules.specs.Constants.{inquired}
use Rattle.expression_rules.specs.Symbols.{Name}
use Rattle.expression_rules.specs.declared.evaluated.Evaluated.{Evaluated}
use Rattle.expression_rules.specs.declared.evaluated.Evaluated.TheVariants.{Known}
use Rattle.statement_walk.specs.Head.{Head}
use Rattle.statement_walk.specs.Head as head
use Rattle.name_table.specs.Entries.{declared_as}
use Rattle.name_table.specs.NameRules.{expressions_of}
use Rattle.name_table.specs.declared.names.Entry.{Entry}
use Rattle.array_meaning.specs.Resolution.{constants, dims_of, first_named, terms_of}
use Rattle.found_names.specs.FoundNames.{IsScalarName}

abbrev pub IsValue : Evaluated ℤ → Type 0
IsValue (Known n) = ⊤
IsValue v = ⊥

module _ (names : List Entry) (indices : List Name) where
  abbrev mutual
    -- every inquiry in an expression has a value
    pub IsAnswered : Expression → Type 0
    IsAnswered (Number n) = ⊤
    IsAnswered (Truth b) = ⊤
    IsAnswered (Alone x) = ⊤
    IsAnswered (Element x ps) = AreAnswered ps
    IsAnswered (Call o ps) =
        (is_inquiry o ≡ true → IsValue (inquired None o (dims_of (first_named names ps)) (drop 1 (constants (terms_of names indices ps))))) × AreAnswered ps
    IsAnswered (Unary o a) = IsAnswered a
    IsAnswered (Binary o a b) = IsAnswered a × IsAnswered b
    IsAnswered (Closed a) = IsAnswered a

    pub AreAnswered : Parts → Type 0
    AreAnswered End = ⊤
    AreAnswered (More p ps) = PartIsAnswered p × AreAnswered ps

    pub PartIsAnswered : Part → Type 0
    PartIsAnswered (One a) = IsAnswered a
    PartIsAnswered (Range a b c) = MaybeIsAnswered a × MaybeIsAnswered b × MaybeIsAnswered c
    PartIsAnswered (Glued a c) = MaybeIsAnswered a × IsAnswered c

    pub MaybeIsAnswered : Maybe → Type 0
    MaybeIsAnswered Absent = ⊤
    MaybeIsAnswered (Present a) = IsAnswered a

-- those of a statement that has a meaning; of a REDISTRIBUTE nothing is resolved
abbrev pub meant_expressions : Head → List Expression
meant_expressions (head.Redistribute d) = []
meant_expressions h = expressions_of h

-- whichever scalars are the indices of the FORALL round them
abbrev pub HasAnswers : List Entry → Head → Type 0
HasAnswers names h =
    (indices : List Name) → AllByRecursion (λ x. IsScalarName (declared_as names x)) indices → AllByRecursion (IsAnswered names indices) (meant_expressions h)
