-- The positions of a processor whose block's size is given are one section.
use Rattle.std.proofs.Common.{◌≡◌, ℕ, ◌+◌, ◌<◌, ◌≤◌, ◌==◌, List, subst, arith, length, sum, eq-eqb}
use Rattle.std.proofs.lemmas.Bool.{eqb-true}
use Rattle.mappings.specs.declared.mapping.Form.TheVariants.{Gen}
use Rattle.mappings.specs.GenBlock.{size_before}
use Rattle.mappings.specs.Owner.{coordinate_under}
use Rattle.mappings.specs.Positions.{in_section}
use Rattle.mappings.proofs.GenBlocks.{gen-within, gen-unique}
use Rattle.mappings.proofs.Sections.{same_test, in_section_true, in_section_holds}

pub in_gen : (sizes : List ℕ) (procs q p : ℕ) → q < length sizes → 1 ≤ p → p ≤ sum sizes
    → in_section (size_before sizes q + 1) (size_before sizes (q + 1)) p ≡ (coordinate_under (Gen sizes) procs p == q)
in_gen sizes procs q p inside begins ends = same_test _ _
    (λ h. let w = in_section_true (size_before sizes q + 1) (size_before sizes (q + 1)) p h in
    eq-eqb _ _ (gen-unique sizes p q inside (omega (arith, w.0)) w.1))
    (λ h. let within = gen-within sizes p begins ends in
    let is : coordinate_under (Gen sizes) procs p ≡ q = eqb-true _ _ h in
    let there = subst (λ c. (size_before sizes c < p) × (p ≤ size_before sizes (c + 1))) is (within.1, within.2) in
    in_section_holds (size_before sizes q + 1) (size_before sizes (q + 1)) p (omega (arith, there.0)) there.1)
