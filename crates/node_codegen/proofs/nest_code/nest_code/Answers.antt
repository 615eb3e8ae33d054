use Rattle.std.proofs.Common.{◌≡◌, ℕ, suc, ◌+◌, ◌*◌, ◌++◌, append_assoc, length, map, arith, refl, sym, ap, ◌∙◌}
use Rattle.std.proofs.lemmas.List.{length-map}
use Rattle.resolved_program.specs.Resolved.{block_of, inner_loops, loop_of}
use Rattle.node_code.specs.Texts.{instruction, instructions}
use Rattle.program_code.specs.NestCode.{bounds_code, indices_code, nest_code, trips_code}
use Rattle.node_codegen.specs.NestNames.{AreNamesOf, nest_of, with_index}
use Rattle.node_codegen.proofs.NestWhole.{indices_indices, nest_is, trips_indices}
use Rattle.node_codegen.proofs.nest_code.nest_code.Goals as goal

free_slots : (v second free slots more count : ℕ) → second ≡ v + 4 → free ≡ second + slots → slots ≡ 4 * more → count ≡ suc more → free ≡ v + 4 * count
free_slots v second free slots more count one two three four = omega (arith, one, two, three, four)

pub returns : goal.returns
returns c = λ n line are.
    let w = c.args.w.now in
    let v = c.args.v in
    let block = block_of c.args.body.now.items in
    let nest = nest_of c.args.nest.now (loop_of c.args.l.now) block in
    let bounds = c.add_bounds.new.code.items in
    let statements = c.in_ok-statements.statements.items in
    let indices = c.in_ok-indices.indices.items in
    let after : ℕ = c.in_ok-from.from + length statements in
    let end : ℕ = after + 3 * length indices in
    let trips = trips_code w.line v after (map with_index indices) in
    let last = indices_code w.line v end (map with_index indices) in
    let count : length indices ≡ length nest.loops = ap length c.in_ok-indices.ensures ∙ length-map nest.loops (λ l. l.index) in
    let lent = c.deref.ensures.value in
    let own : AreNamesOf n w.line nest (block_of c.args.inside.now.items) v w = record {
      line_is = refl;
      names_are = are.names_are;
      scalars_are = are.scalars_are;
      reduction_is = are.reduction_is;
      stored_is = are.stored_is;
      marks_are = are.marks_are;
      indices_are = are.indices_are;
      over_is = are.over_is;
      beside_is = are.beside_is;
    } in
    nest_is n w.line nest (block_of c.args.inside.now.items) v c.args.pc w (length indices) c.in_ok-from.from c.in_ok-free.free after end
    (instructions bounds) trips (instructions statements) last (instructions c.add_round.new.code.items) own
    (c.in_ok-add_bounds.ensures ∙ ap (λ l. instructions l ++ bounds_code w.line c.in_ok-second.second (inner_loops c.args.nest.now.inner_loops block)) c.new-code.ensures.items
    ∙ ap (λ p. bounds_code w.line p (inner_loops c.args.nest.now.inner_loops block)) c.in_ok-second.ensures) count
    (c.in_ok-from.ensures ∙ (λ i. c.args.pc + sym (length-map bounds instruction) i + length (lent i)))
    (free_slots v c.in_ok-second.second c.in_ok-free.free c.in_ok-loops_slots.field-0 (length (inner_loops c.args.nest.now.inner_loops block)) (length indices)
    c.in_ok-second.ensures c.in_ok-free.ensures c.in_ok-loops_slots.ensures count)
    c.in_ok-statements.ensures
    (ap (λ m. c.in_ok-from.from + m) (sym (length-map statements instruction)))
    (ap (λ l. trips_code w.line v after (map with_index l)) c.in_ok-indices.ensures ∙ trips_indices w.line v after nest.loops)
    refl
    (ap (λ l. indices_code w.line v end (map with_index l)) c.in_ok-indices.ensures ∙ indices_indices w.line v end nest.loops)
    (c.in_ok-add_round.ensures
    ∙ (λ i. instructions bounds ++ (trips_code w.line v after (map with_index (c.deref-2.ensures.value i))
    ++ (instructions statements ++ indices_code w.line v (after + 3 * length (c.deref-2.ensures.value i)) (map with_index (c.deref-2.ensures.value i)))))
    ∙ sym (append_assoc (instructions bounds) trips (instructions statements ++ last)))
    ∙ ap (λ m. nest_code n m nest (block_of c.args.inside.now.items) v c.args.pc) are.line_is
