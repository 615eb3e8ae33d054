use Rattle.std.proofs.Common.{length, map, sym, ◌∙◌, ap, subst}
use Rattle.std.proofs.lemmas.List.{length-map}
use Rattle.std.specs.Option.{option_map}
use Rattle.axis_products.specs.Tests.{ArePlaces}
use Rattle.part_visits.proofs.AxisLists.{as-many}
use Rattle.part_visits.proofs.visitor.Visitor.tuples.Goals as goal

pub tuples_of-requires-clause-axes : goal.tuples_of-requires-clause-axes
tuples_of-requires-clause-axes c =
    let ns = c.args.self.now.extents.now in
    let lists = c.in-Some.lists.items in
    ap length c.deref.ensures.value ∙ sym (length-map lists (λ v. v.items))
    ∙ as-many c.requires.0 ns (map (λ v. v.items) lists)
    (subst (λ o. ArePlaces c.requires.0 ns (option_map (λ lists. map (λ v. v.items) lists.items) o)) c.in-Some.is c.requires.1)
