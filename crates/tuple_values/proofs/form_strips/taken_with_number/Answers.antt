use Rattle.std.proofs.Common.{◌≡◌, length, sym, subst, rules}
use Rattle.node_code.specs.Texts.{form}
use Rattle.node_code.specs.Forms.{AndForm, NoForm, OperationForm}
use Rattle.strip_operators.specs.Operated.{AreWithNumber}
use Rattle.tuple_values.specs.FormStrips.{IsFormStrip}
use Rattle.tuple_values.specs.Views.{statement}
use Rattle.tuple_values.proofs.FormStrips.{with_number, written-back}
use Rattle.tuple_values.proofs.form_strips.taken_with_number.Goals as goal

pub returns-then-take_with_number : goal.returns-then-take_with_number
returns-then-take_with_number g c lines are =
    let long : length c.take_with_number.new.out ≡ length c.args.first.items = search rules in
    let all : length c.args.first.items ≡ c.args.first.len = search rules in
    let made : AreWithNumber c.args.op c.args.first.items c.args.second.now c.take_with_number.new.out =
    subst (λ xs. AreWithNumber c.args.op xs c.args.second.now c.take_with_number.new.out) c.deref_mut.ensures.value (c.take_with_number.ensures c.if-take_with_number.true) in
    subst (IsFormStrip (statement c.args.w.now) c.args.s (g.E.Elements.get c.args.elements.now) (OperationForm c.args.op (AndForm (form c.args.f.now) (AndForm (form c.args.g.now) NoForm))) lines)
    (sym (written-back c.args.first.items c.take_with_number.new.out c.args.first.len all long))
    (with_number (statement c.args.w.now) c.args.s (g.E.Elements.get c.args.elements.now) c.args.op c.args.first.items c.take_with_number.new.out c.requires.first.count long c.args.f.now c.args.g.now
    c.args.split c.args.second.now c.requires.first.values c.requires.second made lines are)
