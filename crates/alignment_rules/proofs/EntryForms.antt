-- What the dimensions of an align target are given.
use Rattle.std.proofs.Common.{◌≡◌, ℕ, ℤ, Option, Some, None, refl}
use Rattle.std.specs.Prelude.{option_map}
use Rattle.expression_rules.specs.Symbols.{Name}
use Rattle.expression_rules.specs.declared.dims.Dim.{Dim}
use Rattle.linear_subscripts.specs.declared.form.LinearForm.{LinearForm}
use Rattle.alignment_rules.specs.declared.alignment_values.TargetValue.TheVariants.{Subscript, Triplet}
use Rattle.alignment_rules.specs.AlignmentEntries.{entry_of, pair, subscript_entry}

pub subscript_is : (x : Option Name) (l : Option LinearForm) (b : Option Dim) (dim : ℕ) (along : Option Dim) →
    option_map (subscript_entry x dim) l ≡ entry_of (pair (Subscript x l) b dim along)
subscript_is x None b dim along = refl
subscript_is x (Some l) b dim along = refl

pub triplet_is : (first last step : Option ℤ) (b : Option Dim) (dim : ℕ) (along : Option Dim) →
    entry_of (pair (Triplet first None step) None dim along) ≡ entry_of (pair (Triplet first last step) b dim along)
triplet_is None last step b dim along = refl
triplet_is (Some first) last None b dim along = refl
triplet_is (Some first) last (Some step) b dim None = refl
triplet_is (Some first) last (Some step) b dim (Some d) = refl
