use Rattle.std.proofs.Common.{◌≡◌, drop}
use Rattle.node_code.specs.Texts.{subs}
use Rattle.part_steps.specs.Agreement.{agree_on_subs}
use Rattle.part_steps.proofs.agreement.subs_agree.Given as goal

-- those that are left decide
abbrev pub invariant-loop-d : goal.invariant-loop-d
invariant-loop-d l = agree_on_subs l.kept l.slots (subs l.ds) ≡ agree_on_subs l.kept l.slots (subs (drop l.d-index l.ds))
