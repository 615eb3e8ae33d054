use Rattle.std.proofs.Common.{rules, ◌≡◌, ◌∙◌, ◌++◌, ◌∷◌, [], List, length, map, replicate, sym, refl, ap, subst, append_assoc, append-nil}
use Rattle.pair_mailbox.specs.Ends.{Incoming}
use Rattle.all_pairs.specs.Rows.{out_queue, in_queue}
use Rattle.all_pairs.specs.RowSteps.{row_joined, IsRowPassed, transposed, AreClosedRows}
use Rattle.all_pairs.proofs.Walks.{walk_begins, walk_goes, walk_ends, none_by_length}
use Rattle.all_pairs.proofs.ClosedRows.{ins_wide, one_table_of_queues, pairs_closed}
use Rattle.all_pairs.proofs.closing.close_pairs.Goals as goal

abbrev columns : List (List Incoming) → List (List Incoming)
columns ins = transposed (replicate (length ins) []) ins

pub transposed-requires : goal.transposed-requires
transposed-requires g c = ins_wide c.args.outs.items c.args.ins.items c.requires

pub loop-out-init : goal.loop-out-init
loop-out-init g c = (
  walk_begins (map out_queue) (map in_queue) row_joined IsRowPassed [] c.new-closed.result.items c.args.outs.items c.into_iter-out-iterator.result.rest.items
      (columns c.args.ins.items) c.into_iter-ins.result.rest.items (one_table_of_queues c.args.outs.items c.args.ins.items c.requires (columns c.args.ins.items) refl)
      (search rules) (sym c.in_ok-transposed.ensures ∙ search rules) (search rules),
  search rules,
)

pub loop-out-preserved : goal.loop-out-preserved
loop-out-preserved g c =
    let row = c.in_ok-close_row-in-Some-next.ensures in (
      walk_goes (map out_queue) (map in_queue) row_joined IsRowPassed [] c.loop-out.closed.items c.close_row.new.closed.items c.loop-out.yielded c.loop-out.out-iterator.rest.items
          c.next.new.self.rest.items (columns c.args.ins.items) c.loop-out.ins.rest.items c.next-in-loop-out.new.self.rest.items c.in-Some.out c.in-Some-next.inn
          c.loop-out.invariant.0 c.in-Some.ensures.steps.0 (search rules) row.appended row.tied,
      c.loop-out.invariant.1 ∙ ap (λ l. c.loop-out.yielded ++ l) c.in-Some.ensures.steps.0 ∙ sym (append_assoc c.loop-out.yielded (c.in-Some.out ∷ []) _),
    )

pub returns : goal.returns
returns g c =
    let count : length c.loop-out.out-iterator.rest.items ≡ c.loop-out.out-iterator.rest.len = search rules in
    let none : c.loop-out.out-iterator.rest.items ≡ [] = none_by_length c.loop-out.out-iterator.rest.items (count ∙ c.in-None.ensures.steps.0) in
    let whole : c.args.outs.items ≡ c.loop-out.yielded = c.loop-out.invariant.1 ∙ ap (λ l. c.loop-out.yielded ++ l) none ∙ append-nil c.loop-out.yielded in
    pairs_closed c.args.outs.items c.args.ins.items c.requires (columns c.args.ins.items) c.loop-out.closed.items refl
    (subst (λ l. AreClosedRows [] l (columns c.args.ins.items) c.loop-out.closed.items) (sym whole)
    (walk_ends (map out_queue) (map in_queue) row_joined IsRowPassed [] c.loop-out.closed.items c.loop-out.yielded c.loop-out.out-iterator.rest.items (columns c.args.ins.items)
    c.loop-out.ins.rest.items c.loop-out.invariant.0 none))
