use Rattle.std.proofs.Common.{map, sym, ◌∙◌, ap, arith}
use Rattle.std.specs.List.{range_with_len}
use Rattle.machine_steps.specs.Layout.{sizes}
use Rattle.machine_steps.specs.Message.{remap_message}
use Rattle.machine_steps.specs.Rounds.{remap_rounds}
use Rattle.remap_steps.proofs.redistribution.Redistribution.new.Goals as goal

pub invariant_of-result : goal.invariant_of-result
invariant_of-result c =
    let before = c.in_ok-before.ensures in
    let after = c.in_ok-after.ensures in
    let many = ap (λ o. o.nodes) before in
    record {
      nodes = many ∙ c.requires.nodes ∙ sym (ap (λ o. o.nodes) after);
      sizes = ap (λ o. sizes o.layouts) before ∙ c.requires.sizes ∙ sym (ap (λ o. sizes o.layouts) after);
      node = omega (arith, c.requires.node, many);
      rounds = c.in_ok-rounds.ensures ∙ sym (λ i. remap_rounds (before i).nodes (before i).layouts (after i).layouts);
      outgoing = c.in_ok-outgoing.ensures
          ∙ sym (λ i. map (remap_message (before i).nodes (before i).layouts (after i).layouts c.args.id) (range_with_len 0 (before i).nodes));
    }
