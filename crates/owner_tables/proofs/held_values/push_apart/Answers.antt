use Rattle.std.proofs.Common.{◌≡◌, ◌+◌, ◌*◌, ◌∙◌, ap, arith, get_or, pos, rules}
use Rattle.std.proofs.Math.Nat.{mod-eq_of_lt}
use Rattle.std.proofs.lemmas.Int.{to_z-of_z}
use Rattle.owner_tables.proofs.LineLaws.{values-more}
use Rattle.owner_tables.proofs.held_values.push_apart.Goals as goal
use mir.Syntax.{w64}
use mir.Val.{SFits}

pub loop-k-preserved : goal.loop-k-preserved
loop-k-preserved c =
    let k = c.loop-k._k in
    let here : c.loop-k.at ≡ c.args.first + k * c.args.step = c.loop-k.invariant.at c.loop-k-test.true in
    let fits : SFits w64 c.value_in.result = search rules in
    record {
      at = λ more.
          let small = c.requires (k + 1) more in
          let next : c.loop-k.at + c.args.step ≡ c.args.first + (k + 1) * c.args.step = omega (arith, here) in
          mod-eq_of_lt (omega (arith, next, small)) ∙ next;
      values = values-more (λ k. get_or c.args.piece.now (c.args.first + k * c.args.step) (pos 0)) _ _ _ _ k c.loop-k.invariant.values c.in_ok-push.ensures.items
          (to_z-of_z w64 c.value_in.result fits ∙ c.value_in.ensures ∙ ap (λ n. get_or c.args.piece.now n (pos 0)) here);
    }
