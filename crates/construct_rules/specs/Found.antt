-- Of private clauses.
-- No public clause cites this file. How the first breach is found, one line after the other.
use Rattle.std.specs.Prelude.{ℕ, zero, suc, ◌+◌, max, Bool, true, false, List, [], ◌∷◌, Option, Some, None, if◌then◌else◌}
use Rattle.hpf_base.specs.declared.refusal.Reason.{Reason}
use Rattle.hpf_base.specs.declared.refusal.Reason.TheVariants as reason
use Rattle.hpf_base.specs.declared.refusal.Refusal.{Refusal}
use Rattle.construct_rules.specs.declared.role.Role.{Role}
use Rattle.construct_rules.specs.declared.role.Role.TheVariants as role
use Rattle.construct_rules.specs.ProgramLine.{ProgramLine}
use Rattle.construct_rules.specs.Roles.{role_of}
use Rattle.construct_rules.specs.NestState.{NestState, state_after, is_statement}
use Rattle.construct_rules.specs.Breaches.{roles}
use Rattle.construct_rules.specs.Rules.{is_misplaced, is_misdirected, is_too_deep, nests_where_or_forall}
use Rattle.hpf_base.specs.FirstBreach.{earlier, at_line}

-- the least reason for which a line may not stand where it stands
abbrev pub least_reason : NestState → Role → List Role → Option Reason
least_reason s r rs =
    if is_misplaced s r then Some reason.BadNest
    else (if is_misdirected s r rs then Some reason.BadDirective
    else (if is_too_deep s.opens r then Some reason.Limit
    else (if nests_where_or_forall s.opens r then Some reason.LeftOut else None)))

-- the reason for which a text may not end where it ends
abbrev pub end_reason : NestState → Option Reason
end_reason s = if s.ended then None else Some reason.BadNest

-- the earliest of this breach and those of lines, where so much has been seen before them
abbrev pub found_from : Option Refusal → NestState → ℕ → List ProgramLine → Option Refusal
found_from best s last [] = earlier best (at_line (max last 1) (end_reason s))
found_from best s last (l ∷ ls) =
    found_from (earlier best (at_line l.number (least_reason s (role_of l.what) (roles ls)))) (state_after s (role_of l.what)) last ls

-- a declaration, also one that is a directive
abbrev pub is_declaration : Role → Bool
is_declaration role.Declaration = true
is_declaration role.SpecificationDirective = true
is_declaration r = false

-- one more, where there is one
abbrev pub one_more : ℕ → ℕ
one_more zero = 0
one_more (suc n) = suc (suc n)

-- how many lines stand up to the last declaration before the first statement
abbrev pub declared_length : List Role → ℕ
declared_length [] = 0
declared_length (r ∷ rs) =
    if is_statement r then 0 else (if is_declaration r then suc (declared_length rs) else one_more (declared_length rs))

-- the same where so many lines stand before these, and so many of them up to a declaration
abbrev pub declared_after : ℕ → ℕ → ℕ → ℕ
declared_after before declared zero = declared
declared_after before declared (suc n) = before + suc n
