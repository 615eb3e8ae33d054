-- The faults of a part beside those kept before it.
use Rattle.std.proofs.Common.{◌≡◌, ℕ, zero, suc, Option, None, sym, ◌∙◌, ap}
use Rattle.machine_steps.specs.Instr.{Outcome}
use Rattle.machine_steps.specs.Machine.{Kept, is_before, earlier, kept_of, keep}
use Rattle.node_run.proofs.Keeping.{before-order}
use Rattle.node_run.proofs.Picked.{picked-assoc, picked-none}

-- what is kept is the earlier of what was kept and of the part's own first fault
pub kept-apart : {F : Type 0} (outcome : ℕ → Outcome F) (part count : ℕ) (old : Option (Kept F)) → keep outcome part count old ≡ earlier old (keep outcome part count None)
kept-apart outcome part zero old = sym (picked-none is_before before-order old)
kept-apart outcome part (suc t) old =
    ap (λ k. earlier k (kept_of (outcome t) t part)) (kept-apart outcome part t old)
    ∙ picked-assoc is_before before-order old (keep outcome part t None) (kept_of (outcome t) t part)
