use Rattle.std.proofs.Common.{rules, [], ◌∷◌, ◌++◌, sym, ap, ◌∙◌, append_assoc}
use Rattle.syntax_tree.specs.Expression.{arguments_of, parts_of}
use Rattle.expr_reader.specs.Reading.{are_arguments}
use Rattle.expr_reader.proofs.Steps.{no_arguments, one_more, one_more_same}
use Rattle.expr_reader.proofs.reading.expressions.Goals as goal

pub returns-in_default : goal.returns-in_default
returns-in_default c =
    ap (λ l. are_arguments (parts_of l)) (c.loop-part.invariant.split ∙ ap (λ l. c.loop-part.yielded ++ l) c.in-Some.ensures.steps.0)
    ∙ no_arguments c.loop-part.yielded c.in-Some.part c.next.new.self.rest.items (search rules)

pub loop-part-preserved : goal.loop-part-preserved
loop-part-preserved c = record {
  split =
      c.loop-part.invariant.split ∙ ap (λ l. c.loop-part.yielded ++ l) c.in-Some.ensures.steps.0
      ∙ sym (append_assoc c.loop-part.yielded (c.in-Some.part ∷ []) c.next.new.self.rest.items);
  each = one_more c.loop-part.yielded c.in-Some.part c.in-Some-expression_of.e c.loop-part.invariant.each (search rules);
  same =
      ap arguments_of c.in_ok-push.ensures.items
      ∙ one_more_same c.loop-part.expressions.items c.loop-part.yielded c.in-Some.part c.in-Some-expression_of.e c.loop-part.invariant.same
      (search rules);
}
