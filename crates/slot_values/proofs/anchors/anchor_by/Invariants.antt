use Rattle.std.proofs.Common.{◌≡◌, drop, map}
use Rattle.code_meaning.specs.Anchors.{anchor_by, anchor_value}
use Rattle.copy_anchors.specs.Anchors.{align_of}
use Rattle.node_code.specs.Texts.{anchor_sub}
use Rattle.slot_values.specs.Anchors.{anchor_from}
use Rattle.slot_values.proofs.anchors.anchor_by.Given as goal

-- the subscripts so far, before those that are left
abbrev pub invariant-loop-sub : goal.invariant-loop-sub
invariant-loop-sub l =
    anchor_by l.a.array l.axes (map (anchor_value l.slots) (map anchor_sub l.sub-items))
    ≡ anchor_from l.a.array l.axes (map align_of l.subscripts.items) l.axis (map (anchor_value l.slots) (map anchor_sub (drop l.sub-index l.sub-items)))
