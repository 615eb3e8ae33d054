use Rattle.std.proofs.Common.{◌≡◌, drop}
use Rattle.node_code.specs.Texts.{flats_of}
use Rattle.part_steps.specs.Agreement.{agree_on_flats}
use Rattle.part_steps.proofs.agreement.+flat_agrees.Given as goal

-- those that are left decide
abbrev pub invariant-flats_agree-loop-f : goal.invariant-flats_agree-loop-f
invariant-flats_agree-loop-f l = agree_on_flats l.kept l.slots (flats_of l.f-items) ≡ agree_on_flats l.kept l.slots (flats_of (drop l.f-index l.f-items))
