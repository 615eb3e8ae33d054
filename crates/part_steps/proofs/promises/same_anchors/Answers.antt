use Rattle.part_steps.proofs.SameAnchors.{anchor_same}
use Rattle.part_steps.proofs.promises.same_anchors.Goals as goal

pub returns : goal.returns
returns c = λ over beside old new overs is. anchor_same old new over beside overs is
