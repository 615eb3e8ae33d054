use Rattle.std.proofs.Common.{map, ◌∙◌, ap, subst}
use Rattle.std.specs.Option.{option_map}
use Rattle.axis_products.specs.Tests.{ArePlaces}
use Rattle.part_visits.proofs.visitor.Visitor.short_tuples.Goals as goal

pub tuples_of_places-requires-clause-places : goal.tuples_of_places-requires-clause-places
tuples_of_places-requires-clause-places c =
    let ns = c.args.self.now.extents.now in
    let are = subst (λ o. ArePlaces c.requires.0 ns (option_map (λ lists. map (λ v. v.items) lists.items) o)) c.in-Some.is c.requires.1 in
    (c.requires.0.at, ap (map (λ v. v.items)) c.deref.ensures.value ∙ are.1)
