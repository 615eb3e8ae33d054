use Rattle.std.proofs.Common.{◌==◌, None, map, subst, sym}
use Rattle.std.specs.Option.{option_map}
use Rattle.machine_steps.specs.Layout.{in_bounds}
use Rattle.machine_steps.specs.Message.{least_or_zero}
use Rattle.courses.specs.References.{named_spot}
use Rattle.course_forms.specs.Views.{named_of}
use Rattle.visited_tuples.specs.Own.{IsOwn}
use Rattle.visited_tuples.proofs.Owning.{read, unread}
use Rattle.part_visits.proofs.visitor.Visitor.own_of_read.Goals as goal

pub returns-then-not-leads : goal.returns-then-not-leads
returns-then-not-leads c =
    let self = c.args.self.now in
    let lies = c.lies.ensures c.if-not-lies.false in
    subst (IsOwn (λ node t. least_or_zero self.owners.now.nodes self.owners.now.layouts (in_bounds self.owners.now.layouts (named_spot self.extents.now t (named_of c.args.r.now))) == node)
    self.owners.now.nodes self.extents.now self.id None) (sym c.in_ok-beside.ensures)
    (unread self.owners.now.nodes self.owners.now.layouts self.extents.now (named_of c.args.r.now) lies.0 self.id lies.1 (c.is_inside.ensures c.if-not-is_inside.false)
    c.are_dealt.ensures c.leads.result (c.leads.ensures lies.0 lies.1.row) c.if-not-leads.true)

pub returns : goal.returns
returns c =
    let self = c.args.self.now in
    let lies = c.lies.ensures c.if-not-lies.false in
    let lists = option_map (λ lists. map (λ v. v.items) lists.items) c.in_ok-lists.lists in
    subst (IsOwn (λ node t. least_or_zero self.owners.now.nodes self.owners.now.layouts (in_bounds self.owners.now.layouts (named_spot self.extents.now t (named_of c.args.r.now))) == node)
    self.owners.now.nodes self.extents.now self.id lists) (sym c.in_ok-beside.ensures)
    (read self.owners.now.nodes self.owners.now.layouts self.extents.now (named_of c.args.r.now) lies.0 self.id lies.1 (c.is_inside.ensures c.if-not-is_inside.false)
    c.are_dealt.ensures c.leads.result (c.leads.ensures lies.0 lies.1.row) lists c.if-not-leads.false c.in_ok-lists.ensures)
