use Rattle.std.proofs.Common.{rules, ◌≡◌, ◌∙◌, ◌++◌, ◌∷◌, [], length, sym, refl, ap, subst, append_assoc, append-nil}
use Rattle.all_pairs.specs.Rows.{out_queue, in_queue, joined, IsPassed}
use Rattle.all_pairs.specs.RowSteps.{one_joined, IsClosedRow}
use Rattle.all_pairs.proofs.Walks.{walk_begins, walk_goes, walk_ends, none_by_length}
use Rattle.all_pairs.proofs.closing.close_row.Goals as goal

pub loop-out-init : goal.loop-out-init
loop-out-init g c = (
  walk_begins out_queue in_queue one_joined IsPassed c.args.closed.now.items c.args.closed.now.items c.args.outs c.into_iter-out-iterator.result.rest.items c.args.ins
      c.into_iter-ins.result.rest.items c.requires (sym c.outs.view_is ∙ search rules) (sym c.ins.view_is ∙ search rules) refl,
  sym c.outs.view_is ∙ search rules,
)

pub loop-out-preserved : goal.loop-out-preserved
loop-out-preserved g c =
    let letters = c.close_pair.ensures.letters in
    let is : c.close_pair.result ≡ joined c.in-Some.out c.in-Some-next.inn =
    λ t. record { route = c.close_pair.ensures.route t; letters = letters.0 t; taken = letters.1 t }
    in
    let after = c.close_pair.ensures.after in (
      walk_goes out_queue in_queue one_joined IsPassed c.args.closed.now.items c.loop-out.closed.items c.push.new.self.items c.loop-out.yielded c.loop-out.out-iterator.rest.items
          c.next.new.self.rest.items c.args.ins c.loop-out.ins.rest.items c.next-in-loop-out.new.self.rest.items c.in-Some.out c.in-Some-next.inn c.loop-out.invariant.0
          c.in-Some.ensures.steps.0 (search rules) ((search rules) ∙ ap (λ x. c.loop-out.closed.items ++ x ∷ []) is)
          (after.0, sym letters.0 ∙ after.1.in_order ∙ ap (λ l. l ++ after.0) letters.1),
      c.loop-out.invariant.1 ∙ ap (λ l. c.loop-out.yielded ++ l) c.in-Some.ensures.steps.0 ∙ sym (append_assoc c.loop-out.yielded (c.in-Some.out ∷ []) _),
    )

pub returns : goal.returns
returns g c =
    let count : length c.loop-out.out-iterator.rest.items ≡ c.loop-out.out-iterator.rest.len = search rules in
    let none : c.loop-out.out-iterator.rest.items ≡ [] = none_by_length c.loop-out.out-iterator.rest.items (count ∙ c.in-None.ensures.steps.0) in
    let whole : c.args.outs ≡ c.loop-out.yielded = c.loop-out.invariant.1 ∙ ap (λ l. c.loop-out.yielded ++ l) none ∙ append-nil c.loop-out.yielded in
    subst (λ l. IsClosedRow c.args.closed.now.items l c.args.ins c.loop-out.closed.items) (sym whole)
    (walk_ends out_queue in_queue one_joined IsPassed c.args.closed.now.items c.loop-out.closed.items c.loop-out.yielded c.loop-out.out-iterator.rest.items c.args.ins
    c.loop-out.ins.rest.items c.loop-out.invariant.0 none)
