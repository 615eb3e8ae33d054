use Rattle.std.proofs.Common.{◌≡◌, drop, map}
use Rattle.std.specs.List.{list_all}
use Rattle.node_code.specs.Texts.{anchor_sub}
use Rattle.part_steps.specs.Agreement.{agree_on_anchor_sub}
use Rattle.part_steps.proofs.agreement.anchor_subs_agree.Given as goal

-- those that are left decide
abbrev pub invariant-loop-sub : goal.invariant-loop-sub
invariant-loop-sub l =
    list_all (agree_on_anchor_sub l.kept l.slots) (map anchor_sub l.subs) ≡ list_all (agree_on_anchor_sub l.kept l.slots) (map anchor_sub (drop l.sub-index l.subs))
