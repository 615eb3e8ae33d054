-- Of the claim.
-- Reasons, and which breach of a text is its refusal.
use Rattle.std.specs.Prelude.{◌≡◌, ℕ, ◌<◌, ◌≤◌, ◌⊎◌, List, codes}
use Rattle.hpf_base.specs.declared.refusal.Reason.{Reason}
use Rattle.hpf_base.specs.declared.refusal.Refusal.{Refusal}
use Rattle.hpf_base.specs.declared.refusal.StaticError.{StaticError}
use Rattle.hpf_base.specs.declared.refusal.StaticError.TheVariants.{Refused, Memory}
use Rattle.hpf_base.specs.declared.refusal.Reason.TheVariants.{BadLine, NotAStatement, BadNest, BadName, BadRank, BadDirective, BadSubscript, BadIndependent, BadArrangement, Limit, LeftOut, BadConstant}

-- the number of a reason, as it is printed
abbrev pub number_of : Reason → ℕ
number_of BadLine = 1
number_of NotAStatement = 2
number_of BadNest = 3
number_of BadName = 4
number_of BadRank = 5
number_of BadDirective = 6
number_of BadSubscript = 7
number_of BadIndependent = 8
number_of BadArrangement = 9
number_of Limit = 10
number_of LeftOut = 11
number_of BadConstant = 12

-- the name of a reason, as it is printed
abbrev pub name_of : Reason → List ℕ
name_of BadLine = codes "BadLine"
name_of NotAStatement = codes "NotAStatement"
name_of BadNest = codes "BadNest"
name_of BadName = codes "BadName"
name_of BadRank = codes "BadRank"
name_of BadDirective = codes "BadDirective"
name_of BadSubscript = codes "BadSubscript"
name_of BadIndependent = codes "BadIndependent"
name_of BadArrangement = codes "BadArrangement"
name_of Limit = codes "Limit"
name_of LeftOut = codes "LeftOut"
name_of BadConstant = codes "BadConstant"

-- among a set of breaches, each a line and a reason, the one of the least line, and on that line of the least reason
pub record IsFirstBreach (breach : ℕ → Reason → Type 0) (r : Refusal) : Type 0 where
  pub stands : breach r.line r.reason
  pub first : (line : ℕ) (reason : Reason) → breach line reason → (r.line < line) ⊎ ((r.line ≡ line) × (number_of r.reason ≤ number_of reason))

-- a text isn't answered for: it is refused for the first of the breaches; want of memory has no cause in it
abbrev pub IsRefusalBy : (ℕ → Reason → Type 0) → StaticError → Type 0
IsRefusalBy breach (Refused r) = IsFirstBreach breach r
IsRefusalBy breach Memory = Unit {0}

-- there is no breach
abbrev pub NoBreach : (ℕ → Reason → Type 0) → Type 0
NoBreach breach = (line : ℕ) (reason : Reason) → breach line reason → ⊥
