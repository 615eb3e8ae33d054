-- Of the claim.
-- The breaches of the rules of constructs, declarations and directives in a program's lines.
use Rattle.std.specs.Prelude.{◌≡◌, ℕ, max, false, List, [], ◌∷◌, map, ◌⊎◌}
use Rattle.hpf_base.specs.declared.refusal.Reason.{Reason}
use Rattle.hpf_base.specs.declared.refusal.Reason.TheVariants as reason
use Rattle.construct_rules.specs.declared.role.Role.{Role}
use Rattle.construct_rules.specs.ProgramLine.{ProgramLine}
use Rattle.construct_rules.specs.Roles.{role_of}
use Rattle.construct_rules.specs.NestState.{NestState, state_at_start, state_after}
use Rattle.construct_rules.specs.Rules.{Breaks}

abbrev pub roles : List ProgramLine → List Role
roles ls = map (λ l. role_of l.what) ls

-- a text without END
abbrev pub NoEnd : NestState → ℕ → ℕ → Reason → Type 0
NoEnd s last line reason.BadNest = (s.ended ≡ false) × (line ≡ max last 1)
NoEnd s last line why = ⊥

-- the breaches of lines, where so much has been seen before them; `last` is the number of the text's last line
abbrev pub BreachFrom : NestState → ℕ → List ProgramLine → ℕ → Reason → Type 0
BreachFrom s last [] line why = NoEnd s last line why
BreachFrom s last (l ∷ ls) line why =
    ((line ≡ l.number) × Breaks s (role_of l.what) (roles ls) why) ⊎ BreachFrom (state_after s (role_of l.what)) last ls line why

-- the breaches of a program's lines
abbrev pub IsNestBreach : ℕ → List ProgramLine → ℕ → Reason → Type 0
IsNestBreach last ls line why = BreachFrom state_at_start last ls line why
