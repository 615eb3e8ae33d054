use Rattle.std.proofs.Common.{◌≡◌, ◌==◌, true, refl, length, map, sym, ◌∙◌, ap, subst, arith}
use Rattle.std.proofs.lemmas.List.{length-map}
use Rattle.std.specs.List.{list_any}
use Rattle.std.specs.Option.{option_map}
use Rattle.axis_products.specs.Tests.{ArePlaces}
use Rattle.course_forms.specs.Views.{named_of}
use Rattle.visited_tuples.specs.Own.{IsOwn}
use Rattle.visited_tuples.specs.Owned.{owns_named}
use Rattle.visited_tuples.specs.Visited.{IsSendingOf}
use Rattle.visited_tuples.proofs.Members.{one-passing}
use Rattle.visited_tuples.proofs.Sent.{all-own, least-alone, own-beyond, own-listed}
use Rattle.part_visits.proofs.AxisLists.{as-many, filter-all}
use Rattle.part_visits.proofs.visitor.Visitor.sending_of.Goals as goal

pub returns-then-not-leads : goal.returns-then-not-leads
returns-then-not-leads c who own =
    let self = c.args.self.now in
    let lies = c.requires.lies in
    subst (IsSendingOf who self.owners.now.nodes self.owners.now.layouts self.extents.now (named_of c.args.reference.now) self.id) (sym c.new.ensures.items)
    (least-alone self.owners.now.nodes self.owners.now.layouts self.extents.now (named_of c.args.reference.now) lies.0 self.id lies.1 c.are_dealt.ensures who
    (λ at below owns. c.leads.ensures lies.0 lies.1.row at below owns ∙ c.if-not-leads.true))

pub returns-then-all_own : goal.returns-then-all_own
returns-then-all_own c who own =
    let self = c.args.self.now in
    let lies = c.requires.lies in
    subst (IsSendingOf who self.owners.now.nodes self.owners.now.layouts self.extents.now (named_of c.args.reference.now) self.id) (sym c.new-then-all_own.ensures.items)
    (all-own self.owners.now.nodes self.owners.now.layouts self.extents.now (named_of c.args.reference.now) lies.0 self.id lies.1 c.are_dealt.ensures who
    (λ at below owns other inside.
    let every : list_any (λ n. n == other) c.args.everyone.now ≡ true =
    ap (list_any (λ n. n == other)) (c.requires.everyone ∙ sym (filter-all self.owners.now.nodes 0))
    ∙ one-passing (λ n. true) 0 self.owners.now.nodes other (omega arith) (omega (arith, inside)) refl in
    c.all_own.ensures c.if-all_own.true lies.0 lies.1.row at below owns other inside every))

pub tuples_beyond-requires-clause-outer_axes : goal.tuples_beyond-requires-clause-outer_axes
tuples_beyond-requires-clause-outer_axes c =
    let self = c.args.self.now in
    let test = owns_named self.owners.now.layouts self.id (named_of c.args.reference.now) in
    ap length c.deref-2.ensures.value ∙ sym (length-map c.in-Some.places.items (λ v. v.items))
    ∙ as-many test self.extents.now (map (λ v. v.items) c.in-Some.places.items)
    (subst (λ o. ArePlaces test self.extents.now (option_map (λ lists. map (λ v. v.items) lists.items) o)) c.in-Some.is c.in_ok-owned.ensures)

pub tuples_beyond-requires-clause-inner_axes : goal.tuples_beyond-requires-clause-inner_axes
tuples_beyond-requires-clause-inner_axes c =
    let self = c.args.self.now in
    let own = c.requires.own.1 in
    ap length c.deref-3.ensures.value ∙ sym (length-map c.in-Some-lists.lists.items (λ v. v.items))
    ∙ as-many own.test self.extents.now (map (λ v. v.items) c.in-Some-lists.lists.items)
    (subst (λ o. ArePlaces own.test self.extents.now (option_map (λ lists. map (λ v. v.items) lists.items) o)) c.in-Some-lists.is own.places)

pub returns : goal.returns
returns c who own =
    let self = c.args.self.now in
    let lies = c.requires.lies in
    let lists = map (λ v. v.items) c.in-Some-lists.lists.items in
    let places = map (λ v. v.items) c.in-Some.places.items in
    let test = owns_named self.owners.now.layouts self.id (named_of c.args.reference.now) in
    own-beyond self.owners.now.nodes self.owners.now.layouts self.extents.now (named_of c.args.reference.now) lies.0 self.id lies.1 c.are_dealt.ensures who
    lists places c.args.own.now.beside.items c.in_ok-beyond.beyond.items
    (subst (λ o. IsOwn who self.owners.now.nodes self.extents.now self.id (option_map (λ lists. map (λ v. v.items) lists.items) o) c.args.own.now.beside.items) c.in-Some-lists.is own)
    (subst (λ o. ArePlaces test self.extents.now (option_map (λ lists. map (λ v. v.items) lists.items) o)) c.in-Some.is c.in_ok-owned.ensures)
    (λ at below owns other inside any. c.all_own-2.ensures c.if-all_own-2.true lies.0 lies.1.row at below owns other inside (ap (list_any (λ n. n == other)) c.deref.ensures.value ∙ any))
    c.in_ok-beyond.ensures.below
    (λ a b is-a is-b. c.in_ok-beyond.ensures.each a b (ap (map (λ v. v.items)) c.deref-2.ensures.value ∙ is-a) (ap (map (λ v. v.items)) c.deref-3.ensures.value ∙ is-b))

pub returns-2 : goal.returns-2
returns-2 c who own =
    let self = c.args.self.now in
    let lies = c.requires.lies in
    subst (IsSendingOf who self.owners.now.nodes self.owners.now.layouts self.extents.now (named_of c.args.reference.now) self.id) (sym c.in_ok-all.ensures)
    (own-listed self.owners.now.nodes self.owners.now.layouts self.extents.now (named_of c.args.reference.now) lies.0 self.id lies.1 c.are_dealt.ensures who
    (option_map (λ lists. map (λ v. v.items) lists.items) c.in_ok-owned.owned) c.in_ok-owned.ensures)
