use Rattle.std.proofs.Common.{[], ◌∷◌, ◌∙◌, ap, map}
use Rattle.std.proofs.lemmas.List.{map-append}
use Rattle.hpf_base.proofs.Ranges.{map-range_push}
use Rattle.owner_tables.specs.Alike.{alike_nodes}
use Rattle.owner_tables.proofs.alike.alike_nodes.Goals as goal

pub loop-node-preserved : goal.loop-node-preserved
loop-node-preserved c =
    map-range_push (alike_nodes c.args.mapping.now c.args.nodes) (map (λ v. v.items) c.loop-node.rows.items) (map (λ v. v.items) c.push.new.self.items)
    c.in_ok-alike_to.field-0.items c.loop-node.node
    (ap (map (λ v. v.items)) c.in_ok-push.ensures.items ∙ map-append (λ v. v.items) c.loop-node.rows.items (c.in_ok-alike_to.field-0 ∷ []))
    c.loop-node.invariant c.in_ok-alike_to.ensures
