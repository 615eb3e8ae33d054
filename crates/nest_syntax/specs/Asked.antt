-- Of the claim.
-- At which iterations of a nest something is evaluated: where stored conditions are as asked.
use Rattle.std.specs.Prelude.{ℕ, List, [], ◌∷◌, ◌++◌, Bool, true, false, Option, Some, None}

-- a stored condition, and whether it has to hold or not to hold
pub record Asked : Type 0 where
  pub number : ℕ
  pub value : Bool

-- the guard of an arm's body: its condition holds
abbrev pub guard_asked : Option ℕ → List Asked
guard_asked None = []
guard_asked (Some k) = record { number = k; value = true } ∷ []

-- none of these conditions holds
abbrev pub none_asked : List ℕ → List Asked
none_asked [] = []
none_asked (k ∷ ks) = record { number = k; value = false } ∷ none_asked ks

-- where an arm's condition is evaluated: the guard of the IF holds, and no condition of an earlier arm
abbrev pub tested_asked : Option ℕ → List ℕ → List Asked
tested_asked guard earlier = guard_asked guard ++ none_asked earlier
