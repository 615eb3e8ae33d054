use Rattle.std.proofs.Common.{◌≡◌, ℕ, ◌+◌, ◌<◌, List, [], ◌∷◌, ◌++◌, append_assoc, drop, drop-cons, add-one, length, map, reverse, sym, ap, ◌∙◌}
use Rattle.std.proofs.lemmas.List.{reverse-append}
use Rattle.node_code.specs.Forms.{Sub, SubAlong}
use Rattle.program_code.specs.NestCode.{along}
use Rattle.node_codegen.specs.NestNames.{with_index}
use Rattle.node_codegen.proofs.nest_names.bound_slots.Goals as goal

-- one loop more
slots_next : (xs slots new : List ℕ) (n at next : ℕ) (whole : List Sub) → n < length xs → new ≡ slots ++ at ∷ [] → next ≡ at + 4 →
    along at (map with_index (drop n xs)) ++ map SubAlong (reverse slots) ≡ whole → along next (map with_index (drop (n + 1) xs)) ++ map SubAlong (reverse new) ≡ whole
slots_next xs slots new n at next whole within more is so_far =
    let rest = along (at + 4) (map with_index (drop (n + 1) xs)) in
    (λ i. along (is i) (map with_index (drop (n + 1) xs)) ++ map SubAlong (reverse (more i)))
    ∙ ap (λ l. rest ++ map SubAlong l) (reverse-append slots (at ∷ []))
    ∙ sym (append_assoc rest (SubAlong at ∷ []) (map SubAlong (reverse slots)))
    ∙ ap (λ m. along at (map with_index (0 ∷ drop m xs)) ++ map SubAlong (reverse slots)) (add-one n)
    ∙ ap (λ l. along at (map with_index l) ++ map SubAlong (reverse slots)) (sym (drop-cons xs n 0 within))
    ∙ so_far

pub loop-index-preserved : goal.loop-index-preserved
loop-index-preserved c =
    slots_next c.args.indices.now c.loop-index.slots.items c.push.new.self.items c.loop-index._index-index c.loop-index.at c.in_ok-at.at _ c.loop-index-test.true c.in_ok-push.ensures.items c.in_ok-at.ensures c.loop-index.invariant
