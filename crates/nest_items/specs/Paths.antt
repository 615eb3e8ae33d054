-- Of a promise.
-- What every path through a block has assigned: a path takes one branch of an IF, and may take no turn of a DO (HPF 2.0, 5.1).
use Rattle.std.specs.Prelude.{◌≡◌, ℕ, Bool, true, ◌&&◌, ◌||◌, nat_eq}
use Rattle.nest_syntax.specs.NestKinds.{Kind, New}
use Rattle.array_meaning.specs.Terms.{Term, Scalar, Apply, Terms, NoTerm, More}
use Rattle.array_meaning.specs.Statements.{Block, Done, Then, Statement, AssignScalar, AssignElement, If, Do, Arms, NoArm, Arm}

-- the scalars that every path to the end has assigned, where these were assigned before
abbrev mutual
  pub assigned_after : (ℕ → Bool) → Block → ℕ → Bool
  assigned_after before Done = before
  assigned_after before (Then line statement rest) = assigned_after (assigned_after_statement before statement) rest

  pub assigned_after_statement : (ℕ → Bool) → Statement → ℕ → Bool
  assigned_after_statement before (AssignScalar k t) = λ j. before j || nat_eq k j
  assigned_after_statement before (If arms other) = assigned_after_arms before arms (assigned_after before other)
  assigned_after_statement before statement = before

  pub assigned_after_arms : (ℕ → Bool) → Arms → (ℕ → Bool) → ℕ → Bool
  assigned_after_arms before NoArm other = other
  assigned_after_arms before (Arm line t body arms) other = λ j. assigned_after before body j && assigned_after_arms before arms other j

module _ (kinds : ℕ → Kind) where
  -- an expression that reads no NEW variable but these
  abbrev mutual
    pub IsReadable : (ℕ → Bool) → Term → Type 0
    IsReadable before (Scalar k) = kinds k ≡ New → before k ≡ true
    IsReadable before (Apply o ts) = AreReadable before ts
    IsReadable before t = Unit {0}

    pub AreReadable : (ℕ → Bool) → Terms → Type 0
    AreReadable before NoTerm = Unit {0}
    AreReadable before (More t ts) = IsReadable before t × AreReadable before ts

  -- each NEW variable is read only where every path has assigned it
  abbrev mutual
    pub PathsAssign : (ℕ → Bool) → Block → Type 0
    PathsAssign before Done = Unit {0}
    PathsAssign before (Then line statement rest) = PathAssigns before statement × PathsAssign (assigned_after_statement before statement) rest

    pub PathAssigns : (ℕ → Bool) → Statement → Type 0
    PathAssigns before (AssignScalar k t) = IsReadable before t
    PathAssigns before (AssignElement a ts t) = IsReadable before t
    PathAssigns before (If arms other) = ArmsAssign before arms × PathsAssign before other
    PathAssigns before (Do mark loop body) = PathsAssign before body
    PathAssigns before statement = Unit {0}

    pub ArmsAssign : (ℕ → Bool) → Arms → Type 0
    ArmsAssign before NoArm = Unit {0}
    ArmsAssign before (Arm line t body arms) = IsReadable before t × PathsAssign before body × ArmsAssign before arms
