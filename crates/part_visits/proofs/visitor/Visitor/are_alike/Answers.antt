use Rattle.std.proofs.Common.{◌≡◌, Some, sym, ◌∙◌, ap}
use Rattle.course_forms.specs.Views.{courses_of}
use Rattle.owner_tables.proofs.SameLayouts.{same_layouts}
use Rattle.part_visits.proofs.visitor.Visitor.are_alike.Goals as goal

pub returns : goal.returns
returns c same =
    let own = c.in-Some.table.now.layout in
    let other = c.in-Some-table.other.now.layout in
    let rows : own ≡ other = same_layouts own other (sym c.lies_as.ensures ∙ c.if-not-lies_as.false) in
    record {
      rows = sym c.in-Some-table.ensures.layout ∙ ap Some (sym rows) ∙ c.in-Some.ensures.layout;
      dims = sym c.as_slice-2.ensures.value ∙ sym (c.same_dims.ensures c.if-not-same_dims.false) ∙ c.as_slice.ensures.value;
      courses = ap courses_of (sym c.deref-2.ensures.value ∙ sym (c.same_courses.ensures same) ∙ c.deref.ensures.value);
    }
