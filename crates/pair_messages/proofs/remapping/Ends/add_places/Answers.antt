use Rattle.std.proofs.Common.{◌||◌, length, map, ◌∙◌, ap, subst, sym}
use Rattle.expression_rules.specs.Dims.{extent}
use Rattle.storage.specs.Spots.{spot_of}
use Rattle.message_elements.specs.Elements.{is_among}
use Rattle.courses.specs.References.{IsAlongAxes}
use Rattle.course_forms.specs.Views.{named_of}
use Rattle.pair_messages.proofs.Moving.{of-row}
use Rattle.pair_messages.proofs.OwnRows.{own-along}
use Rattle.pair_messages.proofs.remapping.Ends.add_places.Goals as goal

pub lies-requires : goal.lies-requires
lies-requires c =
    let own = c.args.own.now in
    subst (λ es. IsAlongAxes (length es) (named_of own)) (sym c.requires.extents) (subst (IsAlongAxes (length (map extent own.dims))) (sym c.requires.own) (own-along own.dims c.args.row))

pub lies-requires-else-not-lies : goal.lies-requires-else-not-lies
lies-requires-else-not-lies c =
    let own = c.args.own.now in
    subst (λ es. IsAlongAxes (length es) (named_of own)) (sym c.requires.extents) (subst (IsAlongAxes (length (map extent own.dims))) (sym c.requires.own) (own-along own.dims c.args.row))

pub returns : goal.returns
returns c s =
    let self = c.args.self.now in
    let own = c.args.own.now in
    c.in_ok-add_sent.ensures s
    ∙ ap (λ b. b || is_among (map spot_of c.args.spots.now.items) s)
    (of-row self.before.now.nodes self.before.now.layouts self.after.now.layouts own.dims c.args.row self.from self.to c.args.extents.now (named_of own) c.requires.own
    c.requires.extents (c.lies.ensures c.if-not-lies.false) (c.lies-else-not-lies.ensures c.if-not-lies-2.false) s)
