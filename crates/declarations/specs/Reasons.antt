-- Of the claim.
-- Reasons that hold, and breaches at a line.
use Rattle.std.specs.Prelude.{ℕ, Bool, true, false, List, [], ◌∷◌, map}
use Rattle.hpf_base.specs.declared.refusal.Reason.{Reason}
use Rattle.hpf_base.specs.declared.refusal.Refusal.{Refusal}

-- a reason, where it holds
abbrev pub when : Bool → Reason → List Reason
when true why = why ∷ []
when false why = []

-- breaches at a line
abbrev pub at : ℕ → List Reason → List Refusal
at line whys = map (λ why. record { line = line; reason = why }) whys
