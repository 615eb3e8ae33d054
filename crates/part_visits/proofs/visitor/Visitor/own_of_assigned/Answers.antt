use Rattle.std.proofs.Common.{map}
use Rattle.std.specs.Option.{option_map}
use Rattle.course_forms.specs.Views.{named_of}
use Rattle.visited_tuples.proofs.Owning.{assigned}
use Rattle.part_visits.proofs.visitor.Visitor.own_of_assigned.Goals as goal

pub returns-clause-own : goal.returns-clause-own
returns-clause-own c =
    let self = c.args.self.now in
    let lies = c.lies.ensures c.if-not-lies.false in
    assigned self.owners.now.nodes self.owners.now.layouts self.extents.now (named_of c.args.l.now) lies.0 self.id lies.1 (c.is_inside.ensures c.if-not-is_inside.false)
    (option_map (λ lists. map (λ v. v.items) lists.items) c.in_ok-lists.lists) c.in_ok-beside.beside.items c.in_ok-lists.ensures (c.in_ok-beside.ensures lies.0 lies.1.row)
