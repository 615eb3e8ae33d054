use Rattle.std.proofs.Common.{◌≡◌, ℕ, ◌+◌, ◌<◌, List, ◌∷◌, drop, drop-cons, add-one, get_or, length, map, sym, ap, ◌∙◌}
use Rattle.program_code.specs.NestInstructions.{final_instruction, finals_instructions}
use Rattle.node_code.specs.Texts.{instruction}
use Rattle.node_codegen.specs.declared.nest_finals.Final.{Final}
use Rattle.node_codegen.specs.NestFinals.{final}
use Rattle.node_codegen.proofs.NestBody.{push_after}
use Rattle.node_codegen.proofs.nest_finals.add_finals.Goals as goal

-- one scalar more
finals_next : (line n : ℕ) (fs : List Final) (d : Final) → n < length fs →
    finals_instructions line (map final (drop n fs)) ≡ final_instruction line (final (get_or fs n d)) ∷ finals_instructions line (map final (drop (n + 1) fs))
finals_next line n fs d within =
    ap (λ l. finals_instructions line (map final l)) (drop-cons fs n d within)
    ∙ ap (λ m. final_instruction line (final (get_or fs n d)) ∷ finals_instructions line (map final (drop m fs))) (sym (add-one n))

pub loop-f-preserved : goal.loop-f-preserved
loop-f-preserved c =
    push_after instruction c.loop-f.code.items c.push.new.self.items c.final_instruction.result _ _ _ _ c.in_ok-push.ensures.items (c.final_instruction.ensures c.args.line)
    (finals_next c.args.line c.loop-f.f-index c.args.finals.now _ c.loop-f-test.true) c.loop-f.invariant
