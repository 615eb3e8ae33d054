-- Of a promise.
-- The names in expressions and statements.
use Rattle.std.specs.Prelude.{ℕ, ◌<◌}
use Rattle.array_meaning.specs.Terms.{Term, Number, Scalar, Index, Element, Section, Apply, Reduce, Terms, NoTerm, More}
use Rattle.array_meaning.specs.Statements.{Block, Done, Then, Statement, AssignScalar, AssignElement, If, Do, Arms, NoArm, Arm}

-- the scalars and the arrays that an expression names; it has no reduction
module _ (OfScalar OfArray : ℕ → Type 0) where
  abbrev mutual
    pub IsNaming : Term → Type 0
    IsNaming (Number v) = Unit {0}
    IsNaming (Scalar k) = OfScalar k
    IsNaming (Index k) = Unit {0}
    IsNaming (Element a ts) = OfArray a × AreNaming ts
    IsNaming (Section a subs) = Unit {0}
    IsNaming (Apply o ts) = AreNaming ts
    IsNaming (Reduce o t) = ⊥

    pub AreNaming : Terms → Type 0
    AreNaming NoTerm = Unit {0}
    AreNaming (More t ts) = IsNaming t × AreNaming ts

-- the names in a block are below a number. A loop's control and the subscripts on the left aren't asked: they name nothing that a nest assigns
module _ (n : ℕ) where
  abbrev pub TermBelow : Term → Type 0
  TermBelow t = IsNaming (λ k. k < n) (λ a. a < n) t

  abbrev mutual
    pub BlockBelow : Block → Type 0
    BlockBelow Done = Unit {0}
    BlockBelow (Then line statement rest) = StatementBelow statement × BlockBelow rest

    pub StatementBelow : Statement → Type 0
    StatementBelow (AssignScalar k t) = (k < n) × TermBelow t
    StatementBelow (AssignElement a ts t) = (a < n) × TermBelow t
    StatementBelow (If arms other) = ArmsBelow arms × BlockBelow other
    StatementBelow (Do mark loop body) = BlockBelow body
    StatementBelow statement = Unit {0}

    pub ArmsBelow : Arms → Type 0
    ArmsBelow NoArm = Unit {0}
    ArmsBelow (Arm line t body arms) = TermBelow t × BlockBelow body × ArmsBelow arms
