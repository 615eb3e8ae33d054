use Rattle.std.proofs.Common.{◌≡◌, true, map, refl, ◌∙◌, ap, subst}
use Rattle.std.proofs.lemmas.List.{take_all}
use Rattle.std.specs.List.{list_all}
use Rattle.axis_products.specs.Tests.{holds}
use Rattle.course_forms.specs.Views.{named_of, names_of}
use Rattle.visited_tuples.specs.Owned.{Lies, owns_if_named}
use Rattle.part_visits.proofs.Items.{all-item, all-more}
use Rattle.part_visits.proofs.visitor.Visitor.interior.Goals as goal

pub owned_if_named-requires-clause-lies : goal.owned_if_named-requires-clause-lies
owned_if_named-requires-clause-lies c =
    all-item (Lies c.args.self.now.extents.now c.args.self.now.owners.now.layouts) named_of c.args.reads.now c.loop-read.read-index c.read-item.result
    c.requires.lie c.loop-read-test.true c.read-item.is

pub owned_if_named-requires-clause-lists : goal.owned_if_named-requires-clause-lists
owned_if_named-requires-clause-lists c = (c.loop-read.invariant.0, ap (map (λ v. v.items)) c.deref.ensures.value ∙ c.loop-read.invariant.1)

pub loop-read-init : goal.loop-read-init
loop-read-init c = (c.requires.lists.0, c.in_ok-inner.ensures ∙ c.requires.lists.1, λ places e. refl)

pub loop-read-preserved : goal.loop-read-preserved
loop-read-preserved c =
    let layouts = c.args.self.now.owners.now.layouts in
    let id = c.args.self.now.id in
    let a = c.loop-read.invariant.0 in
    let kept = rw c.in-Some.is at (c.in_ok-kept.ensures a (ap (map (λ v. v.items)) c.deref.ensures.value ∙ c.loop-read.invariant.1)) in (
      kept.0,
      kept.1,
      λ places e.
          let h = kept.2 places e in
          all-more (λ r. holds (owns_if_named layouts id r) places) named_of c.args.reads.now c.loop-read.read-index c.read-item.result c.loop-read-test.true c.read-item.is
          (c.loop-read.invariant.2 places h.0) h.1,
    )

pub returns : goal.returns
returns c =
    let layouts = c.args.self.now.owners.now.layouts in
    let id = c.args.self.now.id in (
      c.loop-read.invariant.0,
      c.loop-read.invariant.1,
      λ places e. subst (λ rs. list_all (λ r. holds (owns_if_named layouts id r) places) (names_of rs) ≡ true)
          (take_all c.loop-read.read-index c.args.reads.now c.loop-read-test.false) (c.loop-read.invariant.2 places e),
    )
