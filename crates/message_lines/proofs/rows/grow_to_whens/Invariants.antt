use Rattle.std.proofs.Common.{◌≡◌, drop, map}
use Rattle.node_code.specs.Texts.{when}
use Rattle.message_lines.specs.Grown.{grown}
use Rattle.message_lines.proofs.rows.grow_to_whens.Given as goal

-- with those that are left they are as from the start
abbrev pub invariant-loop-w : goal.invariant-loop-w
invariant-loop-w l =
    (grown l.copy.layout l.rows.layouts (map (λ w. w.copy) (map when (drop l.w-index l.whens))) ≡ grown l.copy.layout l.fn.rows.layouts (map (λ w. w.copy) (map when l.whens)))
    × (l.rows.nodes ≡ l.fn.rows.nodes)
