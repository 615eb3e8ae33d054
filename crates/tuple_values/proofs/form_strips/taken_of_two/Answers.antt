use Rattle.std.proofs.Common.{◌≡◌, length, sym, subst, rules}
use Rattle.node_code.specs.Texts.{form}
use Rattle.node_code.specs.Forms.{AndForm, NoForm, OperationForm}
use Rattle.strip_operators.specs.Operated.{AreOfTwo}
use Rattle.tuple_values.specs.FormStrips.{IsFormStrip}
use Rattle.tuple_values.specs.Views.{statement}
use Rattle.tuple_values.proofs.FormStrips.{of_two, written-back}
use Rattle.tuple_values.proofs.form_strips.taken_of_two.Goals as goal

pub returns-then-take_of_two : goal.returns-then-take_of_two
returns-then-take_of_two g c lines are =
    let long : length c.take_of_two.new.out ≡ length c.args.first.items = search rules in
    let all : length c.args.first.items ≡ c.args.first.len = search rules in
    let made : AreOfTwo c.args.op c.args.first.items c.args.second.now c.take_of_two.new.out =
    subst (λ xs. AreOfTwo c.args.op xs c.args.second.now c.take_of_two.new.out) c.deref_mut.ensures.value (c.take_of_two.ensures c.if-take_of_two.true) in
    subst (IsFormStrip (statement c.args.w.now) c.args.s (g.E.Elements.get c.args.elements.now) (OperationForm c.args.op (AndForm (form c.args.f.now) (AndForm (form c.args.g.now) NoForm))) lines)
    (sym (written-back c.args.first.items c.take_of_two.new.out c.args.first.len all long))
    (of_two (statement c.args.w.now) c.args.s (g.E.Elements.get c.args.elements.now) c.args.op c.args.first.items c.take_of_two.new.out c.requires.first.count long c.args.f.now c.args.g.now
    c.args.split c.args.second.now c.requires.first.values c.requires.second.values made lines are)
