use Rattle.std.proofs.Common.{◌≡◌, drop, length, subst}
use Rattle.tuple_values.specs.FormStrips.{IsFormStrip}
use Rattle.tuple_values.specs.Views.{statement}
use Rattle.tuple_values.proofs.StripValues.{form_reads, values_are}
use Rattle.tuple_values.proofs.statement.ParallelStatement.unmasked_values.Goals as goal

pub returns-in-Some-2 : goal.returns-in-Some-2
returns-in-Some-2 g c =
    let strip : IsFormStrip (statement c.args.self.now) c.args.s (g.E.Elements.get c.args.elements.now) (statement c.args.self.now).form (drop (length c.args.self.now.copies.now) c.args.reads.now)
    c.in-Some-2.values.items =
    subst (λ ls. IsFormStrip (statement c.args.self.now) c.args.s (g.E.Elements.get c.args.elements.now) (statement c.args.self.now).form ls c.in-Some-2.values.items) c.in-Some.ensures
    (rw c.in-Some-2.is at c.in_ok-right_strip.ensures) in
    values_are (statement c.args.self.now) c.args.s (g.E.Elements.get c.args.elements.now) c.in-Some-2.values.items c.all_made.result.items c.requires.unmasked c.requires.places
    (strip.values (form_reads (statement c.args.self.now) c.args.s c.args.reads.now c.requires.unmasked c.requires.reads)) c.all_made.ensures
