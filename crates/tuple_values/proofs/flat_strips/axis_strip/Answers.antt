use Rattle.std.proofs.Common.{◌≡◌, ◌<◌, Option, Some, None, List, ℕ, length, ap, sym, subst}
use Rattle.std.specs.Prelude.{option_map}
use Rattle.courses.specs.Entries.{axes_in, entries_in}
use Rattle.tuple_values.specs.Strips.{strip_tuple}
use Rattle.tuple_values.specs.Views.{statement}
use Rattle.tuple_values.proofs.FlatStrips.{axes_counted, axis_strips}
use Rattle.tuple_values.proofs.flat_strips.axis_strip.Goals as goal

pub returns-then-is_below : goal.returns-then-is_below
returns-then-is_below g c =
    axis_strips (statement c.args.w.now) c.args.s (g.E.Elements.get c.args.elements.now) (λ v. v.items) c.axis_values.result c.args.axis
    (λ k. subst (λ (o : Option _). c.args.axis < length (axes_in (option_map (λ ds. ds.items) o) (entries_in (option_map (λ ds. ds.items) o) (statement c.args.w.now).extents
    (strip_tuple c.args.s k)))) (sym c.in-Some.is)
    (axes_counted c.in-Some.ds.items (statement c.args.w.now).extents (strip_tuple c.args.s k) c.args.axis (subst (λ xs. c.args.axis < length xs) c.deref.ensures.value (c.is_below.ensures c.if-is_below.true))))
    c.axis_values.ensures
