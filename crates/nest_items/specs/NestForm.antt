-- Of a promise.
-- What may stand in a nest by its form alone (HPF 2.0, 5.1): as `Standing`, without a state.
use Rattle.std.specs.Prelude.{◌≡◌, ℕ, List, [], ◌∷◌, ℤ, Bool, true, false, ◌&&◌, Some, None, FitsSigned}
use Rattle.std.specs.Int.{w64}
use Rattle.op_tables.specs.Operators.{is_zero}
use Rattle.nest_syntax.specs.NestKinds.{Kind, has_copies}
use Rattle.array_meaning.specs.Terms.{Term, Number, Scalar, Index, Element, Apply, Reduce, Terms, NoTerm, More}
use Rattle.array_meaning.specs.Statements.{Loop, Nest, Block, Done, Then, Statement, AssignScalar, AssignElement, If, Do, Continue, Mark, Unmarked, Arms, NoArm, Arm}
use Rattle.nest_syntax.specs.ClosedTerms.{closed_value}
use Rattle.nest_syntax.specs.LinearOperators.{is_linear_operator}
use Rattle.nest_items.specs.Naming.{IsNaming}
use Rattle.nest_items.specs.Standing.{IsFixedTerm, AreFixedTerms, Stands, RightKind, has_no_loop, have_no_loop}
use Rattle.nest_items.specs.Settled.{without}

-- an expression of numbers and scalars by linear operators, so that it has a value of 64 bits in any state whose scalars have such
abbrev mutual
  pub IsExact : Term → Type 0
  IsExact (Number v) = FitsSigned w64 v
  IsExact (Scalar k) = Unit {0}
  IsExact (Apply o ts) = (is_linear_operator o ≡ true) × AreExact ts
  IsExact t = ⊥

  pub AreExact : Terms → Type 0
  AreExact NoTerm = Unit {0}
  AreExact (More t ts) = IsExact t × AreExact ts

-- an expression in the text of a nest: no index of a FORALL stands in it and no reduction, and its subscripts are exact
abbrev mutual
  pub IsPlain : Term → Type 0
  IsPlain (Index k) = ⊥
  IsPlain (Element a ts) = AreExact ts
  IsPlain (Apply o ts) = ArePlain ts
  IsPlain (Reduce o t) = ⊥
  IsPlain t = Unit {0}

  pub ArePlain : Terms → Type 0
  ArePlain NoTerm = Unit {0}
  ArePlain (More t ts) = IsPlain t × ArePlain ts

-- the expressions in a block of a nest are such, subscripts on the left are exact, and the bounds of a loop in it name none of `all`, which are the
-- indices of the nest and of the loops in it
module _ (all : ℕ → Bool) where
  abbrev pub NamesNone : Term → Type 0
  NamesNone t = IsNaming (λ k. all k ≡ false) (λ a. ⊥) t

  abbrev mutual
    pub TextsKeep : Block → Type 0
    TextsKeep Done = Unit {0}
    TextsKeep (Then line statement rest) = TextKeeps statement × TextsKeep rest

    pub TextKeeps : Statement → Type 0
    TextKeeps (AssignScalar k t) = IsPlain t
    TextKeeps (AssignElement a ts t) = AreExact ts × IsPlain t
    TextKeeps (If arms other) = ArmsTextsKeep arms × TextsKeep other
    TextKeeps (Do mark loop body) = (NamesNone loop.control.first × NamesNone loop.control.last) × TextsKeep body
    TextKeeps statement = Unit {0}

    pub ArmsTextsKeep : Arms → Type 0
    ArmsTextsKeep NoArm = Unit {0}
    ArmsTextsKeep (Arm line t body arms) = IsPlain t × TextsKeep body × ArmsTextsKeep arms

-- a constant other than 0
pub record IsStep (t : Term) : Type 0 where
  pub number : ℤ
  pub is : closed_value t ≡ Some number
  pub nonzero : is_zero number ≡ false

-- `kinds` says what each name is to the nest. `free` are the indices of loops that aren't round a text
module _ (kinds : ℕ → Kind) where
  -- a loop: its index is free round it, its bounds are fixed and exact, and its step is a constant other than 0
  pub record IsKeptLoop (free : ℕ → Bool) (mark : Mark) (loop : Loop) : Type 0 where
    pub unmarked : mark ≡ Unmarked
    pub index : has_copies (kinds loop.index) ≡ false
    pub unseen : free loop.index ≡ true
    pub first : IsFixedTerm kinds free loop.control.first
    pub last : IsFixedTerm kinds free loop.control.last
    pub step : IsFixedTerm kinds free loop.control.step
    pub first_exact : IsExact loop.control.first
    pub last_exact : IsExact loop.control.last
    pub step_exact : IsStep loop.control.step

  abbrev mutual
    pub BlockKeeps : (ℕ → Bool) → Block → Type 0
    BlockKeeps free Done = Unit {0}
    BlockKeeps free (Then line statement rest) = StatementKeeps free statement × BlockKeeps free rest

    pub StatementKeeps : (ℕ → Bool) → Statement → Type 0
    StatementKeeps free (AssignScalar k t) = (has_copies (kinds k) ≡ true) × Stands kinds free (Some k) t × RightKind kinds free k t (kinds k)
    StatementKeeps free (AssignElement a ts t) = (has_copies (kinds a) ≡ false) × AreFixedTerms kinds free ts × Stands kinds free None t
    StatementKeeps free (If arms other) = ArmsKeep free arms × BlockKeeps free other × ((have_no_loop arms && has_no_loop other) ≡ true)
    StatementKeeps free (Do mark loop body) = IsKeptLoop free mark loop × BlockKeeps (without free loop.index) body
    StatementKeeps free Continue = Unit {0}
    StatementKeeps free statement = ⊥

    pub ArmsKeep : (ℕ → Bool) → Arms → Type 0
    ArmsKeep free NoArm = Unit {0}
    ArmsKeep free (Arm line t body arms) = Stands kinds free None t × BlockKeeps free body × ArmsKeep free arms

  -- the loops inside the outermost one, each with the next as its whole block; no control names an index
  abbrev pub LoopsKeep : (all free : ℕ → Bool) → List Loop → Block → Block → Type 0
  LoopsKeep all free [] block body = (block ≡ body) × BlockKeeps free body
  LoopsKeep all free (l ∷ ls) block body = (line : ℕ) × (inner : Block) × (block ≡ Then line (Do Unmarked l inner) Done)
      × IsKeptLoop all Unmarked l × (free l.index ≡ true) × LoopsKeep all (without free l.index) ls inner body

  -- a nest: `all` are its indices and those of the loops in it
  pub record IsNest (all : ℕ → Bool) (nest : Nest) (loop : Loop) (block body : Block) : Type 0 where
    pub inner : List Loop
    pub loops : nest.loops ≡ loop ∷ inner
    pub index : has_copies (kinds loop.index) ≡ false
    pub unseen : all loop.index ≡ true
    pub quiet : (k : ℕ) → has_copies (kinds k) ≡ true → all k ≡ false
    pub tight : LoopsKeep all (without all loop.index) inner block body
