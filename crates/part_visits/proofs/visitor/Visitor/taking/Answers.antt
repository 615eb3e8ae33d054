use Rattle.std.proofs.Common.{◌≡◌, ℕ, Bool, true, List, length, map, sym, ◌∙◌, ap, subst}
use Rattle.std.proofs.lemmas.List.{length-map}
use Rattle.std.specs.List.{list_all}
use Rattle.std.specs.Option.{IfSome, option_map}
use Rattle.axis_products.specs.Products.{each, passing}
use Rattle.axis_products.specs.Tests.{ArePlaces, holds}
use Rattle.course_forms.specs.Views.{names_of}
use Rattle.visited_tuples.specs.Own.{IsOwn}
use Rattle.visited_tuples.specs.Owned.{owns_if_named}
use Rattle.visited_tuples.specs.Visited.{IsTaking}
use Rattle.visited_tuples.proofs.Taken.{taking-all, taking-beyond, taking-nothing}
use Rattle.part_visits.proofs.AxisLists.{as-many, length-passing}
use Rattle.part_visits.proofs.visitor.Visitor.taking.Goals as goal

pub returns-then-owns_rows : goal.returns-then-owns_rows
returns-then-owns_rows c who own =
    let ns = c.args.self.now.extents.now in
    let layouts = c.args.self.now.owners.now.layouts in
    subst (IsTaking who layouts ns (names_of c.args.reads.now) c.args.self.now.id) (sym c.new.ensures.items)
    (taking-nothing who ns c.args.self.now.id layouts (names_of c.args.reads.now) (c.owns_rows.ensures c.if-owns_rows.true))

pub tuples_beyond-requires-clause-outer_axes : goal.tuples_beyond-requires-clause-outer_axes
tuples_beyond-requires-clause-outer_axes c =
    let ns = c.args.self.now.extents.now in
    let lists = c.in-Some.lists.items in
    let own = c.requires.own.1 in
    ap length c.deref-in-Some-2.ensures.value ∙ sym (length-map lists (λ v. v.items))
    ∙ as-many own.test ns (map (λ v. v.items) lists)
    (subst (λ o. ArePlaces own.test ns (option_map (λ lists. map (λ v. v.items) lists.items) o)) c.in-Some.is own.places)

pub tuples_beyond-requires-clause-inner_axes : goal.tuples_beyond-requires-clause-inner_axes
tuples_beyond-requires-clause-inner_axes c =
    let ns = c.args.self.now.extents.now in
    let layouts = c.args.self.now.owners.now.layouts in
    let inner = subst (λ o. IfSome o (λ inner. (b : ℕ → ℕ → Bool) × (map (λ v. v.items) inner.items ≡ passing b 0 ns)
    × ((places : List ℕ) → each b 0 places ≡ true → list_all (λ r. holds (owns_if_named layouts c.args.self.now.id r) places) (names_of c.args.reads.now) ≡ true)))
    c.in-Some-2.is c.in_ok-inner.ensures in
    ap length c.deref-in-Some-2-2.ensures.value ∙ sym (length-map c.in-Some-2.inner.items (λ v. v.items)) ∙ ap length inner.1 ∙ length-passing inner.0 0 ns

pub returns-in_ok-beyond-in-Some-2 : goal.returns-in_ok-beyond-in-Some-2
returns-in_ok-beyond-in-Some-2 c who own =
    let ns = c.args.self.now.extents.now in
    let layouts = c.args.self.now.owners.now.layouts in
    let lists = map (λ v. v.items) c.in-Some.lists.items in
    let inner = subst (λ o. IfSome o (λ inner. (b : ℕ → ℕ → Bool) × (map (λ v. v.items) inner.items ≡ passing b 0 ns)
    × ((places : List ℕ) → each b 0 places ≡ true → list_all (λ r. holds (owns_if_named layouts c.args.self.now.id r) places) (names_of c.args.reads.now) ≡ true)))
    c.in-Some-2.is c.in_ok-inner.ensures in
    taking-beyond who c.args.self.now.owners.now.nodes ns c.args.self.now.id lists c.args.own.now.beside.items layouts (names_of c.args.reads.now) inner.0 c.in_ok-beyond-in-Some-2.beyond.items
    (subst (λ o. IsOwn who c.args.self.now.owners.now.nodes ns c.args.self.now.id (option_map (λ lists. map (λ v. v.items) lists.items) o) c.args.own.now.beside.items) c.in-Some.is own)
    c.requires.lie inner.2 c.in_ok-beyond-in-Some-2.ensures.below
    (λ a is. c.in_ok-beyond-in-Some-2.ensures.each a inner.0 (ap (map (λ v. v.items)) c.deref-in-Some-2.ensures.value ∙ is) (ap (map (λ v. v.items)) c.deref-in-Some-2-2.ensures.value ∙ inner.1))

pub returns-in_ok-all-in-None : goal.returns-in_ok-all-in-None
returns-in_ok-all-in-None c who own =
    let ns = c.args.self.now.extents.now in
    let layouts = c.args.self.now.owners.now.layouts in
    subst (IsTaking who layouts ns (names_of c.args.reads.now) c.args.self.now.id) (sym c.in_ok-all-in-None.ensures)
    (taking-all who c.args.self.now.owners.now.nodes ns c.args.self.now.id (option_map (λ lists. map (λ v. v.items) lists.items) c.args.own.now.lists) c.args.own.now.beside.items own
    layouts (names_of c.args.reads.now))
