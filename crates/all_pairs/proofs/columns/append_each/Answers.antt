use Rattle.std.proofs.Common.{rules, ◌≡◌, ◌∙◌, ℕ, ◌+◌, ◌++◌, ◌∷◌, [], List, length, refl, sym, ap, arith, length-append, append_assoc, set, get_or}
use Rattle.pair_mailbox.specs.Ends.{Incoming}
use Rattle.std.proofs.lemmas.Grind.{common_steps}
use Rattle.all_pairs.proofs.Transposition.{appended_none, appended_count, appended_more}
use Rattle.all_pairs.proofs.columns.append_each.Goals as goal

pub loop-end-init : goal.loop-end-init
loop-end-init c = (appended_none c.args.columns.now.items, refl, sym c.row.view_is ∙ search rules)

pub index_mut-requires : goal.index_mut-requires
index_mut-requires c =
    let many : length c.loop-end.columns.items ≡ length c.args.row = ap length c.loop-end.invariant.0 ∙ appended_count c.args.columns.now.items c.loop-end.yielded ∙ c.requires in
    let place : c.loop-end.place ≡ length c.loop-end.yielded = c.loop-end.invariant.1 in
    let row : length c.args.row ≡ length (c.loop-end.yielded ++ c.loop-end.end-iterator.rest.items) = ap length c.loop-end.invariant.2 in
    let rest = c.in-Some.ensures.steps in
    grind (arith, common_steps, many, place, row, rest)

pub loop-end-preserved : goal.loop-end-preserved
loop-end-preserved c =
    let columns = c.loop-end.invariant.0 in
    let place = c.loop-end.invariant.1 in
    let row = c.index_mut.result.now in (
      ap (λ (y : List (List Incoming) × ℕ). set y.0 y.1 c.push.new.self) (λ i. (columns i, place i))
          ∙ appended_more c.args.columns.now.items c.loop-end.yielded c.in-Some.end row c.push.new.self
          (c.index_mut.ensures.value ∙ ap (λ (y : List (List Incoming) × ℕ). get_or y.0 y.1 row) (λ i. (columns i, place i))) c.in_ok-push.ensures,
      ap (λ k. k + 1) place ∙ sym (length-append c.loop-end.yielded (c.in-Some.end ∷ [])),
      c.loop-end.invariant.2 ∙ ap (λ l. c.loop-end.yielded ++ l) c.in-Some.ensures.steps.0 ∙ sym (append_assoc c.loop-end.yielded (c.in-Some.end ∷ []) _),
    )
