-- Of a promise.
-- The statements of one iteration, with conditions and inner loops, and what they do.
use Rattle.std.specs.Prelude.{ℕ, ◌<◌, Option, Some, None, Result, Ok, Bool, true, if◌then◌else◌, IfSome}
use Rattle.nest_order.specs.Turns.{◌>>=◌, in_turn}

-- A is what an assignment is, and C what a condition is: both are text, and a text has its inner indices' values
module _ (A C : Type 0) where
  mutual
    -- an assignment, an IF, and an inner loop of so many trips, each with what stands after it. The trips of an inner loop
    -- are known at the nest's entry: it is no loop that an iteration may leave early
    pub data Items : Type 0 where
      Done : Items
      Then : A → Items → Items
      If : Branches → Items → Items
      Repeat : (trips : ℕ) → (ℕ → Items) → Items → Items

    -- the branches of an IF, in order, each with its condition. ELSE is a branch that has none; an IF without ELSE has no
    -- last branch that does nothing
    pub data Branches : Type 0 where
      EndIf : Branches
      Branch : Option C → Items → Branches → Branches

-- what an assignment makes of a storage, and what a condition is in it, where they don't fault. A condition changes nothing
pub record Evaluation (A C M F : Type 0) : Type 0 where
  pub action : A → M → Result M F
  pub condition : C → M → Result Bool F

-- a branch's condition in a storage. ELSE always holds; whether an earlier branch was taken is asked before
abbrev pub holds_in : {A C M F : Type 0} → Evaluation A C M F → Option C → M → Result Bool F
holds_in evaluation None m = Ok true
holds_in evaluation (Some condition) m = evaluation.condition condition m

module _ {A C M F : Type 0} (evaluation : Evaluation A C M F) where
  abbrev mutual
    -- what the statements do, up to the first fault. Of an IF the first branch whose condition holds is taken, and the
    -- conditions of later ones aren't evaluated
    pub exec : Items A C → M → Result M F
    exec Done m = Ok m
    exec (Then action rest) m = evaluation.action action m >>= exec rest
    exec (If branches rest) m = exec_branches branches m >>= exec rest
    exec (Repeat trips body rest) m = in_turn trips (λ x. exec (body x)) m >>= exec rest

    pub exec_branches : Branches A C → M → Result M F
    exec_branches EndIf m = Ok m
    exec_branches (Branch test body others) m = holds_in evaluation test m >>= (λ holds. if holds then exec body m else exec_branches others m)

module _ {A C : Type 0} where
  -- a fact of each assignment and one of each condition that stands in the statements, at each trip of an inner loop that is
  -- made and at no other. Whether a branch is taken doesn't count
  abbrev mutual
    pub EachIn : (A → Type 0) → (C → Type 0) → Items A C → Type 0
    EachIn P Q Done = Unit {0}
    EachIn P Q (Then action rest) = P action × EachIn P Q rest
    EachIn P Q (If branches rest) = EachInBranches P Q branches × EachIn P Q rest
    EachIn P Q (Repeat trips body rest) = ((x : ℕ) → x < trips → EachIn P Q (body x)) × EachIn P Q rest

    pub EachInBranches : (A → Type 0) → (C → Type 0) → Branches A C → Type 0
    EachInBranches P Q EndIf = Unit {0}
    EachInBranches P Q (Branch test body others) = IfSome test Q × EachIn P Q body × EachInBranches P Q others
