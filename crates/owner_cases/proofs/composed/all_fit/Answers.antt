use Rattle.std.proofs.Common.{◌∷◌, []}
use Rattle.mappings.specs.Alignment.{composed_align}
use Rattle.mappings.specs.Mapping.{FitsAlign}
use Rattle.case_mappings.proofs.MappingLaws.{all_two}
use Rattle.owner_cases.proofs.composed.all_fit.Goals as goal

pub returns-then-fits : goal.returns-then-fits
returns-then-fits c = λ yes.
    all_two (λ entry. FitsAlign (composed_align (c.args.align.now ∷ []) entry.align)) c.as_slice.result.now c.args.target.now.dims
    c.entry-item-then-this-lt3.result c.next-item.result c.as_slice.ensures c.in-len2.len_at_least c.in-len2.len_below
    c.entry-item-then-this-lt3.is c.next-item.is (c.fits-in-len2.ensures c.if-fits.true) (c.fits-then-fits.ensures yes)
