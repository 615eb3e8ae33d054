use Rattle.std.proofs.Common.{◌<◌, ◌^◌, drop, subst, ◌∙◌, sym}
use Rattle.std.specs.Prelude.{All}
use Rattle.std.proofs.lemmas.List.{take_rest}
use Rattle.std.proofs.lemmas.List.Elements.{All-drop, All-head}
use Rattle.source_lines.specs.PhysicalLines.{PhysicalLine}
use Rattle.source_lines.proofs.groups.lines_in.Goals as goal

pub push_group-requires : goal.push_group-requires
push_group-requires c =
    let P : PhysicalLine → Type 0 = λ line. line.number < 2 ^ 32 in
    let rest = drop c.loop-line.done c.args.lines.now in
    let parts = sym (take_rest c.args.lines.now c.loop-line.done) ∙ c.in-Some.ensures.first in
    All-head P c.in-Some.line.now _ (subst (All P) parts (All-drop P c.loop-line.done c.args.lines.now c.requires))
