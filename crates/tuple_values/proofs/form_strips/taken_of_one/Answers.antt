use Rattle.std.proofs.Common.{◌≡◌, length, sym, subst, ◌∙◌, ap, rules, arith}
use Rattle.node_code.specs.Texts.{form}
use Rattle.node_code.specs.Forms.{AndForm, NoForm, OperationForm}
use Rattle.strip_operators.specs.Operated.{AreOfOne}
use Rattle.tuple_values.specs.FormStrips.{IsFormStrip}
use Rattle.tuple_values.specs.Views.{statement}
use Rattle.tuple_values.proofs.FormStrips.{of_one, written-back}
use Rattle.tuple_values.proofs.form_strips.taken_of_one.Goals as goal

pub returns-then-take_of_one : goal.returns-then-take_of_one
returns-then-take_of_one g c =
    let long : length c.take_of_one.new.out ≡ length c.args.values.items = search rules in
    let all : length c.args.values.items ≡ c.args.values.len = search rules in
    let made : AreOfOne c.args.op c.args.values.items c.take_of_one.new.out =
    subst (λ xs. AreOfOne c.args.op xs c.take_of_one.new.out) c.deref_mut.ensures.value (c.take_of_one.ensures c.if-take_of_one.true) in
    subst (IsFormStrip (statement c.args.w.now) c.args.s (g.E.Elements.get c.args.elements.now) (OperationForm c.args.op (AndForm (form c.args.f.now) NoForm)) c.args.lines.now)
    (sym (written-back c.args.values.items c.take_of_one.new.out c.args.values.len all long))
    (of_one (statement c.args.w.now) c.args.s (g.E.Elements.get c.args.elements.now) c.args.op c.args.values.items c.take_of_one.new.out c.requires.count long (form c.args.f.now)
    c.args.lines.now c.requires.values made)
