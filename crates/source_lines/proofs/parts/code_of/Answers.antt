use Rattle.std.proofs.Common.{◌++◌, sym, ap, ◌∙◌, append_assoc}
use Rattle.std.specs.Prelude.{◌||◌}
use Rattle.std.proofs.Math.Bool.{or_assoc}
use Rattle.std.specs.List.{concat, list_any}
use Rattle.source_lines.specs.PhysicalLines.{code_of, is_bad_part}
use Rattle.source_lines.proofs.parts.code_of.Goals as goal

pub loop-part-preserved : goal.loop-part-preserved
loop-part-preserved c =
    let i = c.loop-part.invariant in
    let parts = c.in-Some.ensures.whole in
    let part = c.in-Some.part.now in
    let after = c.in-Some.after.now in record {
      code = i.code ++ part;
      whole = i.whole ∙ ap (λ l. i.code ++ l) c.in-Some.ensures.shorter.0 ∙ sym (append_assoc i.code part after);
      stands = i.stands ∙ ap (λ l. i.code ++ concat l) parts ∙ sym (append_assoc i.code part (code_of after));
      seen = i.seen ∙ ap (λ l. c.loop-part.bad || list_any (is_bad_part c.args.kind) l) parts ∙ rw c.is_bad_part-bad.ensures (sym (or_assoc c.loop-part.bad _ _));
    }
