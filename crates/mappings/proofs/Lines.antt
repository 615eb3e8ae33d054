-- The coordinates of the positions of a valid line.
use Rattle.std.proofs.Common.{◌≡◌, ℕ, ◌+◌, ◌-◌, ◌*◌, ◌<◌, ◌≤◌, List, ◌∙◌, ap, subst, arith, length}
use Rattle.std.specs.Prelude.{All}
use Rattle.std.proofs.Math.Nat.{lt_of_mul-lt-mul_right, mul_comm}
use Rattle.std.proofs.lemmas.Nat.{mod_below}
use Rattle.std.specs.Int.{div_ceil}
use Rattle.mappings.specs.declared.mapping.Form.{Form}
use Rattle.mappings.specs.declared.mapping.Form.TheVariants.{Whole, Block, Cyclic, Gen}
use Rattle.mappings.specs.declared.mapping.Line.{Line}
use Rattle.mappings.specs.Mapping.{IsForm, IsLine}
use Rattle.mappings.specs.Owner.{coordinate, coordinate_under}
use Rattle.mappings.proofs.Blocks.{coordinate-within}
use Rattle.mappings.proofs.GenBlocks.{gen-within, gen-unique, size_before-all, size_before-equal}

coordinate_under-below : (form : Form) (extent procs j : ℕ) → IsForm form extent procs → 1 ≤ procs → 1 ≤ j → j ≤ extent
    → coordinate_under form procs j < procs
coordinate_under-below Whole extent procs j is some begins ends = some
coordinate_under-below (Block m) extent procs j is some begins ends =
    lt_of_mul-lt-mul_right m (omega (arith, (coordinate-within m j is.0 begins).0, is.2, mul_comm m procs))
coordinate_under-below (Cyclic k) extent procs j is some begins ends = mod_below (div_ceil j k - 1) procs some
coordinate_under-below (Gen sizes) extent procs j is some begins ends =
    let within = gen-within sizes j begins (omega (arith, ends, is.2)) in omega (arith, within.0, is.0)

-- a position's coordinate is that of a processor
pub coordinate-below : (line : Line) (j : ℕ) → IsLine line → 1 ≤ j → j ≤ line.extent → coordinate line j < line.procs
coordinate-below line j is begins ends = coordinate_under-below line.form line.extent line.procs j is.form is.some begins ends

-- a line whose sizes are all m has the coordinates of BLOCK(m)
pub same-blocks : (line : Line) (sizes : List ℕ) (m j : ℕ) → IsLine line → line.form ≡ Gen sizes → All (λ n. n ≡ m) sizes → 1 ≤ m
    → 1 ≤ j → j ≤ line.extent → coordinate line j ≡ coordinate_under (Block m) line.procs j
same-blocks line sizes m j is form all some begins ends =
    ap (λ f. coordinate_under f line.procs j) form ∙ gen-unique sizes j (div_ceil j m - 1) inside
    (omega (arith, within.0, size_before-equal m sizes (div_ceil j m - 1) all (omega (arith, inside))))
    (omega (arith, within.1, size_before-equal m sizes (div_ceil j m - 1 + 1) all (omega (arith, inside))))
  where
    within : ((div_ceil j m - 1) * m < j) × (j ≤ (div_ceil j m - 1 + 1) * m)
    within = coordinate-within m j some begins

    takes : line.extent ≤ length sizes * m
    takes =
        let given : IsForm (Gen sizes) line.extent line.procs = subst (λ f. IsForm f line.extent line.procs) form is.form in
        omega (arith, given.2, size_before-all sizes, size_before-equal m sizes (length sizes) all (omega arith))

    inside : div_ceil j m - 1 < length sizes
    inside = lt_of_mul-lt-mul_right m (omega (arith, within.0, takes, ends))
