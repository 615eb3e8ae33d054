use Rattle.std.proofs.Common.{◌≡◌, ℕ, ◌+◌, ◌<◌, List, ◌∷◌, drop, drop-cons, add-one, length, map, sym, ap, ◌∙◌}
use Rattle.program_code.specs.NestCode.{trips_code}
use Rattle.node_code.specs.Instructions.{Trips}
use Rattle.node_code.specs.Texts.{instruction}
use Rattle.node_codegen.specs.NestNames.{with_index}
use Rattle.node_codegen.proofs.NestBody.{push_after}
use Rattle.node_codegen.proofs.nest_code.add_trips.Goals as goal

-- one loop more
trips_next : (line target at next n : ℕ) (xs : List ℕ) → n < length xs → next ≡ at + 4 →
    trips_code line at target (map with_index (drop n xs)) ≡ Trips line at (at + 1) (at + 2) (at + 3) target ∷ trips_code line next target (map with_index (drop (n + 1) xs))
trips_next line target at next n xs within is =
    ap (λ l. trips_code line at target (map with_index l)) (drop-cons xs n 0 within)
    ∙ (λ i. Trips line at (at + 1) (at + 2) (at + 3) target ∷ trips_code line (sym is i) target (map with_index (drop (sym (add-one n) i) xs)))

pub loop-index-preserved : goal.loop-index-preserved
loop-index-preserved c =
    push_after instruction c.loop-index.code.items c.push.new.self.items c.in_ok-trips.field-0 _ _ _ _ c.in_ok-push.ensures.items c.in_ok-trips.ensures
    (trips_next c.args.line c.args.target c.loop-index.at c.in_ok-at.at c.loop-index._index-index c.args.indices.now c.loop-index-test.true c.in_ok-at.ensures) c.loop-index.invariant
