use Rattle.std.proofs.Common.{◌&&◌, length, map, Some, sym, ◌∙◌, ap, subst}
use Rattle.std.proofs.lemmas.List.{length-map}
use Rattle.std.specs.Option.{option_map}
use Rattle.axis_products.specs.Products.{each}
use Rattle.axis_products.specs.Tests.{ArePlaces}
use Rattle.course_forms.specs.Views.{named_of}
use Rattle.courses.proofs.Sections.{both}
use Rattle.courses.proofs.Subscripts.{each-and}
use Rattle.visited_tuples.specs.Owned.{owns_named}
use Rattle.visited_tuples.proofs.Reading.{named-owned}
use Rattle.visited_tuples.proofs.Taken.{holds-each}
use Rattle.part_visits.proofs.AxisLists.{as-many, length-passing}
use Rattle.part_visits.proofs.visitor.Visitor.common_owned.Goals as goal

pub common_lists-requires : goal.common_lists-requires
common_lists-requires c =
    let ns = c.args.self.now.extents.now in
    let test = owns_named c.args.self.now.owners.now.layouts c.args.self.now.id (named_of c.args.reference.now) in
    let owned : ArePlaces test ns (Some (map (λ v. v.items) c.in-Some.owned.items)) =
    subst (λ o. ArePlaces test ns (option_map (λ lists. map (λ v. v.items) lists.items) o)) c.in-Some.is c.in_ok-owned.ensures in
    sym (length-map c.args.lists.now (λ v. v.items)) ∙ ap length c.requires.lists.1 ∙ length-passing c.requires.lists.0 0 ns
    ∙ sym (ap length c.deref.ensures.value ∙ sym (length-map c.in-Some.owned.items (λ v. v.items)) ∙ as-many test ns (map (λ v. v.items) c.in-Some.owned.items) owned)

pub returns : goal.returns
returns c a is =
    let ns = c.args.self.now.extents.now in
    let layouts = c.args.self.now.owners.now.layouts in
    let id = c.args.self.now.id in
    let r = named_of c.args.reference.now in
    let test = owns_named layouts id r in
    let owned : ArePlaces test ns (Some (map (λ v. v.items) c.in-Some.owned.items)) =
    subst (λ o. ArePlaces test ns (option_map (λ lists. map (λ v. v.items) lists.items) o)) c.in-Some.is c.in_ok-owned.ensures in (
      (λ axis place. a axis place && test.at axis place),
      c.in_ok-kept.ensures a test.at ns is (ap (map (λ v. v.items)) c.deref.ensures.value ∙ owned.1),
      λ places e.
          let h = both (each a 0 places) (each test.at 0 places) (sym (each-and a test.at 0 places) ∙ e) in
          (h.0, named-owned layouts id r places (holds-each test places owned.0 ∙ h.1)),
    )
