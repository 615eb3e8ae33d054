-- The least of the reasons at a line.
use Rattle.std.proofs.Common.{◌≡◌, ℕ, Bool, true, false, ◌++◌, Some, None, refl, ap, arith}
use Rattle.std.specs.Prelude.{if◌then◌else◌, option_map}
use Rattle.std.proofs.lemmas.Bool.Decides.{nat_tests}
use Rattle.hpf_base.specs.declared.refusal.Reason.{Reason}
use Rattle.hpf_base.specs.declared.refusal.Reason.TheVariants as reason
use Rattle.hpf_base.specs.declared.refusal.Refusal.{Refusal}
use Rattle.declarations.specs.Reasons.{at}
use Rattle.hpf_base.specs.FirstBreach.{is_before, least}
use Rattle.declarations.specs.Reasons.{when}

abbrev pub refused : ℕ → Reason → Refusal
refused line why = record { line = line; reason = why }

not_before : (line : ℕ) → is_before (refused line reason.Limit) (refused line reason.BadName) ≡ false
not_before line = grind (arith, nat_tests)

pub name_or_limit : (line : ℕ) (a b : Bool) →
    least (at line (when a reason.BadName ++ when b reason.Limit)) ≡ option_map (refused line) (if a then Some reason.BadName else (if b then Some reason.Limit else None))
name_or_limit line true true = ap (λ t. if t then Some (refused line reason.Limit) else Some (refused line reason.BadName)) (not_before line)
name_or_limit line true false = refl
name_or_limit line false true = refl
name_or_limit line false false = refl
