use Rattle.std.proofs.Common.{map}
use Rattle.std.specs.Option.{option_map}
use Rattle.course_forms.specs.Views.{names_of}
use Rattle.visited_tuples.proofs.Fewer.{sending-few, taking-few}
use Rattle.visited_tuples.proofs.OfParts.{visits}
use Rattle.part_visits.proofs.visitor.Visitor.visits.Goals as goal

pub returns : goal.returns
returns c who own rs suffice part of =
    let self = c.args.self.now in
    let few = names_of c.args.reads.now in
    let taking = c.in_ok-taking.taking.items in
    let sending = c.in_ok-sending.sending.items in
    visits who self.owners.now.nodes self.owners.now.layouts self.extents.now rs self.id
    (option_map (λ lists. map (λ v. v.items) lists.items) c.args.own.lists) c.args.own.beside.items
    (record { computed = c.in_ok-computed.computed; taking = c.in_ok-taking.taking; sending = c.in_ok-sending.sending }) part own c.in_ok-computed.ensures
    (taking-few who self.owners.now.layouts self.extents.now rs few self.id taking suffice (c.in_ok-taking.ensures who own))
    (sending-few who self.owners.now.layouts self.extents.now rs few self.id sending suffice self.owners.now.nodes (c.in_ok-sending.ensures who own)) of
