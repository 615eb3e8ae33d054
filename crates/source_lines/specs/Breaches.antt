-- Of the claim.
-- What a text may not have in its lines (Fortran 95, 3.3.1; HPF 2.0, 2.3).
use Rattle.std.specs.Prelude.{◌≡◌, ℕ, ◌⊎◌, Bool, not, false, true, IsTrue, IsFalse, nat_eq, ◌+◌, ◌≤◌, List, [], ◌∷◌, ◌++◌, filter, Option, Some, None}
use Rattle.std.specs.List.{ends_with, suffix_len}
use Rattle.hpf_base.specs.Refusal.{number_of}
use Rattle.source_lines.specs.declared.limits.TheConstants.{MAX_CONTINUATIONS, MAX_LINES}
use Rattle.hpf_base.specs.declared.refusal.Reason.{Reason}
use Rattle.hpf_base.specs.declared.refusal.Reason.TheVariants.{BadLine, Limit}
use Rattle.source_lines.specs.declared.physical_lines.PhysicalKind.{PhysicalKind}
use Rattle.source_lines.specs.declared.physical_lines.PhysicalKind.TheVariants.{Passed, Statement, Directive}
use Rattle.source_lines.specs.PhysicalLines.{PhysicalLine, numbered_lines, without_blanks_after}

abbrev pub is_passed : PhysicalKind → Bool
is_passed Passed = true
is_passed kind = false

-- the lines that aren't passed over
abbrev pub standing : List PhysicalLine → List PhysicalLine
standing lines = filter (λ line. not (is_passed line.kind)) lines

-- the last byte of the line, its comment and blanks aside, is `&`
abbrev pub is_continued : PhysicalLine → Bool
is_continued line = ends_with nat_eq (without_blanks_after line.code) (38 ∷ [])

abbrev pub is_directive_kind : PhysicalKind → Bool
is_directive_kind Directive = true
is_directive_kind kind = false

-- a statement meets a line: a passed one leaves the answer to the lines after it
abbrev pub meets : PhysicalKind → Bool → Bool
meets Passed rest = rest
meets Statement rest = true
meets Directive rest = false

-- a statement goes on with a statement, passed lines aside; a directive goes on with a directive on the next line
abbrev pub goes_on : PhysicalKind → List PhysicalLine → Bool
goes_on kind [] = false
goes_on Directive (line ∷ lines) = is_directive_kind line.kind
goes_on kind (line ∷ lines) = meets line.kind (goes_on kind lines)

-- why the line between these is a breach
abbrev pub IsBreachAt : List PhysicalLine → PhysicalLine → List PhysicalLine → Reason → Type 0
IsBreachAt before line after BadLine = IsTrue line.bad ⊎ (IsTrue (is_continued line) × IsFalse (goes_on line.kind after))
IsBreachAt before line after Limit =
    (line.number ≡ MAX_LINES + 1) ⊎ (IsFalse (is_passed line.kind) × (suffix_len is_continued (standing before) ≡ MAX_CONTINUATIONS + 1))
IsBreachAt before line after reason = ⊥

-- of the reasons for which the line between these is a breach the least, if there is one
abbrev pub IsLeastReasonAt : List PhysicalLine → PhysicalLine → List PhysicalLine → Option Reason → Type 0
IsLeastReasonAt before line after None = (reason : Reason) → IsBreachAt before line after reason → ⊥
IsLeastReasonAt before line after (Some reason) =
    IsBreachAt before line after reason × ((other : Reason) → IsBreachAt before line after other → number_of reason ≤ number_of other)

-- the breaches of a text's lines: a line that is bad, alone or as one that is continued, the line after the last that
-- may stand, and the line that continues one more time than is allowed
pub record IsBreachIn (lines : List PhysicalLine) (number : ℕ) (reason : Reason) : Type 0 where
  pub before : List PhysicalLine
  pub line : PhysicalLine
  pub after : List PhysicalLine
  pub whole : lines ≡ before ++ line ∷ after
  pub numbered : number ≡ line.number
  pub why : IsBreachAt before line after reason

abbrev pub IsLineBreach : List ℕ → ℕ → Reason → Type 0
IsLineBreach text number reason = IsBreachIn (numbered_lines text) number reason
