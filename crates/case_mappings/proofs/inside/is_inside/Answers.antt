use Rattle.std.proofs.Common.{map, Some}
use Rattle.mappings.specs.Alignment.{aligned}
use Rattle.mappings.specs.Mapping.{InLine}
use Rattle.case_mappings.proofs.MappingLaws.{all_two}
use Rattle.case_mappings.proofs.inside.is_inside.Goals as goal

pub returns-then-entry_inside : goal.returns-then-entry_inside
returns-then-entry_inside c = λ yes.
    all_two (λ entry. InLine entry.line (aligned entry.align (map Some c.args.index.now))) c.as_slice.result.now c.args.map.now.dims
    c.entry-item-then-this-lt3.result c.next-item.result c.as_slice.ensures c.in-len2.len_at_least c.in-len2.len_below
    c.entry-item-then-this-lt3.is c.next-item.is (c.entry_inside-in-len2.ensures c.if-entry_inside.true) (c.entry_inside-then-entry_inside.ensures yes)
