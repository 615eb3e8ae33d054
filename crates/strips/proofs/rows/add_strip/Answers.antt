use Rattle.std.proofs.Common.{◌≡◌, ◌+◌, ◌*◌, ◌++◌, ◌∷◌, ◌∙◌, ap, sym, subst}
use Rattle.term_values.specs.States.{state_of}
use Rattle.term_values.specs.Views.{elemental}
use Rattle.strip_operators.specs.Strips.{IsStrip}
use Rattle.strips.specs.Strips.{row_value, space_value}
use Rattle.strips.proofs.Joined.{row_behind}
use Rattle.strips.proofs.rows.add_strip.Goals as goal

pub returns : goal.returns
returns c = λ is.
    (let s : IsStrip (row_value (state_of c.args.s.now) (elemental c.args.x.now) c.args.u c.args.rest.now) c.args.n c.in-Some.ws.items = rw c.in-Some.is at c.in_ok-ws.ensures in
    let items : c.extend_from_slice.new.self.items ≡ c.args.vs.now.items ++ c.in-Some.ws.items =
    c.in_ok-extend_from_slice.ensures.items ∙ ap (λ r. c.args.vs.now.items ++ r) c.deref.ensures.value in
    subst (IsStrip (space_value (state_of c.args.s.now) (c.args.first ∷ c.args.others.now) (elemental c.args.x.now)) (c.args.y * c.args.first + (c.args.u + c.args.n))) (sym items)
    (row_behind (state_of c.args.s.now) (elemental c.args.x.now) c.args.first c.args.others.now c.args.y c.args.u c.args.n c.args.rest.now c.args.vs.now.items c.in-Some.ws.items
    c.requires.fits c.requires.rest c.requires.before s))
