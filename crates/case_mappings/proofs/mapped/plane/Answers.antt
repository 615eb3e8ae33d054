use Rattle.std.proofs.Common.{arith, Fits, w32, rules}
use Rattle.case_mappings.proofs.MappingLaws.{plane_shape}
use Rattle.case_mappings.proofs.mapped.plane.Goals as goal

pub returns : goal.returns
returns c =
    let rows : Fits w32 c.in_ok-rows.rows = search rules in
    let columns : Fits w32 c.in_ok-columns.columns = search rules in
    plane_shape c.in_ok-new.field-0 c.in_ok-new-2.field-0 _ _ _ _ c.in_ok-rows.rows c.in_ok-columns.columns c.in_ok-new.ensures.value
    c.in_ok-new-2.ensures.value c.in_ok-rows.ensures c.in_ok-columns.ensures (c.is_bound.ensures c.if-not-is_bound.false)
    (c.is_bound-else-not-is_bound.ensures c.if-not-is_bound-2.false) rows.fits columns.fits (omega (arith, c.if-rows-columns-gt-MAX_ELEMENTS.false))
