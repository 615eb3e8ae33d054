-- No step of the machine changes its code.
use Rattle.std.proofs.Common.{◌≡◌, ℕ, zero, suc, [], refl, ◌∙◌}
use Rattle.machine_steps.specs.Instr.{Status, Running, Finished, Faulted, Instr}
use Rattle.machine_steps.specs.Machine.{Machine, instr_at, step, step_while, steps}
use Rattle.node_run.proofs.Wholes.{same-code}

module _ {C F : Type 0} (meaning : C → Instr F) where
  while-code : (s : Status F) (m : Machine C F) → (step_while meaning s m).code ≡ m.code
  while-code Running m = same-code 0 [] (instr_at meaning m.code m.control.at) m
  while-code Finished m = refl
  while-code (Faulted fault) m = refl

  pub steps-code : (k : ℕ) (m : Machine C F) → (steps meaning k m).code ≡ m.code
  steps-code zero m = refl
  steps-code (suc k) m = steps-code k (step meaning m) ∙ while-code m.control.status m
