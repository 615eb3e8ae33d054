-- Of the claim.
-- The first of a set of breaches, where there may be none.
use Rattle.std.specs.Prelude.{ℕ, Bool, ◌==◌, ◌||◌, ◌&&◌, nat_lt, List, [], ◌∷◌, ◌≡◌, ◌⊎◌, Option, Some, None, if◌then◌else◌}
use Rattle.hpf_base.specs.declared.refusal.Reason.{Reason}
use Rattle.hpf_base.specs.declared.refusal.Refusal.{Refusal}
use Rattle.hpf_base.specs.Refusal.{number_of, IsFirstBreach, NoBreach}

-- of these breaches the first, or None where there is none
abbrev pub IsFirstOrNone : (ℕ → Reason → Type 0) → Option Refusal → Type 0
IsFirstOrNone breach None = NoBreach breach
IsFirstOrNone breach (Some r) = IsFirstBreach breach r

-- a stands before b: at a lesser line, or at the same line with a lesser reason
abbrev pub is_before : Refusal → Refusal → Bool
is_before a b = nat_lt a.line b.line || ((a.line == b.line) && nat_lt (number_of a.reason) (number_of b.reason))

-- the earlier of two that there may be
abbrev pub earlier : Option Refusal → Option Refusal → Option Refusal
earlier None b = b
earlier (Some a) None = Some a
earlier (Some a) (Some b) = if is_before b a then Some b else Some a

-- a breach at a line, for the reason that there may be
abbrev pub at_line : ℕ → Option Reason → Option Refusal
at_line line None = None
at_line line (Some why) = Some (record { line = line; reason = why })

-- the breaches of a list, as a set
abbrev pub Among : List Refusal → ℕ → Reason → Type 0
Among [] line why = ⊥
Among (r ∷ rs) line why = (record { line = line; reason = why } ≡ r) ⊎ Among rs line why

-- the first of a list; None where it is empty
abbrev pub least : List Refusal → Option Refusal
least [] = None
least (r ∷ rs) = earlier (Some r) (least rs)
