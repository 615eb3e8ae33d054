use Rattle.std.proofs.Common.{map, get_or, sym, refl}
use Rattle.std.specs.List.{range_with_len}
use Rattle.machine_steps.specs.Layout.{sizes}
use Rattle.comm_sets.specs.Marks.{any_moved}
use Rattle.comm_sets.proofs.Marking.{in_row, marked-none, marked-same, none-moved}
use Rattle.comm_sets.proofs.marks.mark_row.Goals as goal

pub returns-then-is_unchanged : goal.returns-then-is_unchanged
returns-then-is_unchanged c =
    let old = c.args.before.now in
    let new = c.args.after.now in
    let count = get_or (sizes old.layouts) c.args.row 0 in
    marked-same (any_moved old.nodes old.layouts new.layouts (map (in_row c.args.row) (range_with_len 0 count)))
    (λ from to lt lt'. sym (none-moved old.nodes old.layouts new.layouts c.args.row (c.if-is_unchanged.ensures.same refl) 0 count from to))
    (marked-none old.nodes c.args.marks.now.items)
