use Rattle.std.proofs.Common.{◌++◌, ◌∷◌, [], take, subst, sym, ◌∙◌, ap}
use Rattle.std.proofs.lemmas.List.{take_all}
use Rattle.course_forms.specs.Views.{named_of, names_of}
use Rattle.visited_tuples.specs.Owned.{Lies}
use Rattle.visited_tuples.specs.Visited.{IsSending}
use Rattle.part_visits.proofs.Items.{all-item, names-next}
use Rattle.part_visits.proofs.MoreReads.{sending-among, sending-more}
use Rattle.part_visits.proofs.visitor.Visitor.sending.Goals as goal

pub sending_of-requires-clause-lies : goal.sending_of-requires-clause-lies
sending_of-requires-clause-lies c =
    all-item (Lies c.args.self.now.extents.now c.args.self.now.owners.now.layouts) named_of c.args.reads.now c.loop-read.read-index c.read-item.result
    c.requires.lie c.loop-read-test.true c.read-item.is

pub loop-read-preserved : goal.loop-read-preserved
loop-read-preserved c who own =
    let self = c.args.self.now in
    let done = names_of (take c.loop-read.read-index c.args.reads.now) in
    let r = named_of c.read-item.result in
    subst (λ rs. IsSending who self.owners.now.nodes self.owners.now.layouts self.extents.now rs self.id c.extend_from_slice.new.self.items)
    (sym (names-next named_of c.args.reads.now c.loop-read.read-index c.read-item.result c.loop-read-test.true c.read-item.is))
    (subst (IsSending who self.owners.now.nodes self.owners.now.layouts self.extents.now (done ++ r ∷ []) self.id)
    (sym (c.in_ok-extend_from_slice.ensures.items ∙ ap (λ ys. c.loop-read.tuples.items ++ ys) c.deref-in-loop-read.ensures.value))
    (sending-more who self.owners.now.nodes self.owners.now.layouts self.extents.now done r self.id c.loop-read.tuples.items c.in_ok-of_read.of_read.items
    (c.loop-read.invariant who own) (c.in_ok-of_read.ensures who own)))

pub returns : goal.returns
returns c who own =
    let self = c.args.self.now in
    sending-among who self.owners.now.nodes self.owners.now.layouts self.extents.now (names_of c.args.reads.now) self.id c.loop-read.tuples.items c.each_once.new.numbers.items
    c.each_once.ensures
    (subst (λ rs. IsSending who self.owners.now.nodes self.owners.now.layouts self.extents.now (names_of rs) self.id c.loop-read.tuples.items)
    (take_all c.loop-read.read-index c.args.reads.now c.loop-read-test.false) (c.loop-read.invariant who own))
