use Rattle.std.proofs.Common.{◌≡◌, ◌+◌, ◌++◌, length, map, reverse, refl, ap, ◌∙◌}
use Rattle.std.specs.Prelude.{option_map}
use Rattle.resolved_program.specs.Resolved.{block_of, loop_of}
use Rattle.statement_trail.specs.Anchors.{block_anchor}
use Rattle.statement_trail.specs.NestParts.{index_in}
use Rattle.program_code.specs.ExpressionCode.{anchor_code}
use Rattle.program_code.specs.NestInstructions.{count_nest}
use Rattle.program_code.specs.NestCode.{along, plain, stored}
use Rattle.node_codegen.specs.NestNames.{nest_of, with_index}
use Rattle.node_codegen.proofs.NestWhole.{along_indices}
use Rattle.node_codegen.proofs.nest_names.nest_names.Goals as goal

pub returns : goal.returns
returns c =
    let nest = nest_of c.args.nest.now (loop_of c.args.outermost.now) (block_of c.args.body.now.items) in
    let inside = block_of c.args.inside.now.items in
    let first : c.in_ok-stored.stored ≡ stored c.args.names nest inside =
    c.in_ok-stored.ensures ∙ ap (λ m. c.args.names + m) (c.len.ensures ∙ c.in_ok-scalars.scalars.ok.0 ∙ ap length c.in_ok-scalars.ensures) in
    let indices = c.reverse.ensures.items ∙ ap reverse c.in_ok-indices.ensures in
    record {
      line_is = refl;
      names_are = refl;
      scalars_are = c.in_ok-scalars.ensures;
      reduction_is = c.in_ok-extend_from_slice.ensures.items ∙ (λ i. c.new-reduction.ensures.items i ++ c.deref-2.ensures.value i);
      stored_is = first;
      marks_are = c.in_ok-marks.ensures ∙ (λ i. first i + (c.in_ok-conditions.ensures ∙ ap (λ l. count_nest (plain (block_of l))) c.deref.ensures.value) i);
      indices_are = indices;
      over_is = c.in_ok-over.ensures ∙ ap (λ l. along c.args.v (map with_index l)) (c.deref-3.ensures.value ∙ c.in_ok-indices.ensures) ∙ along_indices c.args.v nest.loops;
      beside_is = c.in_ok-beside.ensures
          ∙ (λ i. option_map anchor_code (block_anchor (index_in ((c.deref-4.ensures.value ∙ indices) i) 0) (block_of (c.deref-5.ensures.value i))));
    }
