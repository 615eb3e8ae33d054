use Rattle.std.proofs.Common.{rules, ◌≡◌, ◌∙◌, ap, length, subst}
use Rattle.std.proofs.lemmas.List.{length-replicate}
use Rattle.std.specs.Arc.{arc_value}
use Rattle.owner_tables.specs.Views.{OwnersView}
use Rattle.node_program.specs.Fits.{FitsRows}
use Rattle.node_program.specs.Programs.{code_of}
use Rattle.node_machine.proofs.node.Node.opening.Goals as goal

pub invariant_of-result : goal.invariant_of-result
invariant_of-result c =
    let nodes : c.args.owners.now.nodes ≡ (arc_value c.in_ok-try_clone.field-0).nodes = search rules in
    let program : arc_value c.args.program.now ≡ arc_value c.in_ok-try_clone.field-0 = search rules in
    let owners : c.args.owners.now ≡ c.in_ok-shared.field-0 = search rules in
    record {
      one = search rules;
      few = search rules;
      owners = search rules;
      pieces = search rules;
      next_to = ap (λ p. length p.next_to) c.in_ok-first.ensures ∙ length-replicate c.nodes-nodes.result 1 ∙ c.nodes-nodes.ensures.value ∙ nodes;
      next_from = ap (λ p. length p.next_from) c.in_ok-first.ensures ∙ length-replicate c.nodes-nodes.result 1 ∙ c.nodes-nodes.ensures.value ∙ nodes;
      fits = subst (λ p. FitsRows p c.in_ok-shared.field-0.layouts) program (subst (λ (o : OwnersView). FitsRows (arc_value c.args.program.now) o.layouts) owners c.requires.fits);
      exchanges = c.new-4.ensures (code_of (arc_value c.in_ok-try_clone.field-0)) c.args.id;
    }
