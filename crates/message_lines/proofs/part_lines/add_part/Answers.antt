use Rattle.std.proofs.Common.{◌≡◌, ℕ, List, ◌++◌, OnOk, ◌∙◌, subst}
use Rattle.std.specs.List.{flat_map, range_with_len}
use Rattle.message_text.specs.MessageText.{line_head}
use Rattle.part_steps.specs.Parts.{part_of}
use Rattle.message_lines.specs.RowLines.{source_lines}
use Rattle.message_lines.proofs.part_lines.add_part.Goals as goal

pub add_sources-requires : goal.add_sources-requires
add_sources-requires c = λ i. record { layouts = (c.new-part.ensures i).layouts; nodes = (c.new-part.ensures i).nodes }

pub returns : goal.returns
returns c =
    let rows = c.args.rows.now in
    let head : c.deref.result.now ≡ line_head c.args.line = c.deref.ensures.value ∙ c.in_ok-head.ensures in
    subst (λ (lines : List ℕ). OnOk c.add_sources.result (c.add_sources.new.text.items ≡ c.args.text.now.items ++ lines))
    (λ i. flat_map (source_lines rows (part_of (c.new-part.ensures i)) (head i)) (range_with_len 0 rows.owners.nodes)) c.add_sources.ensures
