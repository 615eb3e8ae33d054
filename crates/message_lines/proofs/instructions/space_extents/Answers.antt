use Rattle.std.proofs.Common.{◌≡◌, ◌≤◌, [], length, arith, rules}
use Rattle.std.proofs.lemmas.Bool.{leb-true}
use Rattle.hpf_base.specs.declared.limits.TheConstants.{MAX_RANK}
use Rattle.array_meaning.specs.Sections.{extents}
use Rattle.code_meaning.specs.Forms.{selections_at}
use Rattle.node_code.specs.Texts.{subs}
use Rattle.node_program.proofs.FitLaws.{extents-few}
use Rattle.message_lines.proofs.instructions.space_extents.Goals as goal

pub returns-clause-rank : goal.returns-clause-rank
returns-clause-rank c =
    let slots = c.args.slots.now in
    let over = subs c.args.over.now in
    let few : length over ≤ MAX_RANK = leb-true (length over) MAX_RANK c.requires in
    let many : length c.in_ok-made.made.items ≡ length (extents (selections_at slots [] over)) = search rules in
    omega (arith, few, many, extents-few slots over)
