use Rattle.std.proofs.Common.{◌==◌, ◌&&◌, true, Some, None, map, subst, sym, ap, eq-eqb}
use Rattle.std.proofs.lemmas.Bool.{ne_eqb}
use Rattle.axis_products.specs.Products.{each, places_at}
use Rattle.visited_tuples.specs.Own.{IsOwn}
use Rattle.visited_tuples.proofs.Owning.{root-alone}
use Rattle.part_visits.proofs.visitor.Visitor.own_of_root.Goals as goal

pub returns-then-self-ne0 : goal.returns-then-self-ne0
returns-then-self-ne0 c =
    let self = c.args.self.now in
    subst (IsOwn (λ node t. node == 0) self.owners.now.nodes self.extents.now self.id None) (sym c.in_ok-beside.ensures)
    (root-alone self.owners.now.nodes self.extents.now self.id None (λ t. ap (λ b. b && each (λ axis place. true) 0 (places_at self.extents.now t)) (ne_eqb self.id 0 c.if-self-ne0.true)))

pub returns : goal.returns
returns c =
    let self = c.args.self.now in
    let lists = Some (map (λ v. v.items) c.in_ok-places.places.items) in
    subst (IsOwn (λ node t. node == 0) self.owners.now.nodes self.extents.now self.id lists) (sym c.in_ok-beside.ensures)
    (root-alone self.owners.now.nodes self.extents.now self.id lists (eq-eqb self.id 0 c.if-self-ne0.false, c.in_ok-places.ensures))
