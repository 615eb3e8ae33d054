-- Where positions stand: in blocks, and under CYCLIC(k) in cycles of a block of each processor.
use Rattle.std.proofs.Common.{◌≡◌, ℕ, ◌+◌, ◌-◌, ◌*◌, ◌/◌, ◌%◌, ◌<◌, ◌≤◌, ◌==◌, sym, ◌∙◌, ap, arith, eq-eqb}
use Rattle.std.proofs.Math.Nat.{mod-add-div, mod-eq_of_lt, lt_of_mul-lt-mul_right}
use Rattle.std.proofs.lemmas.Bool.{eqb-true}
use Rattle.std.proofs.lemmas.Nat.{mod_below, same_from_place}
use Rattle.std.specs.Int.{div_ceil}
use Rattle.mappings.specs.declared.mapping.Form.TheVariants.{Cyclic}
use Rattle.mappings.specs.Owner.{coordinate_under}
use Rattle.mappings.specs.Positions.{in_section}
use Rattle.mappings.proofs.Blocks.{coordinate-within, coordinate-unique}
use Rattle.mappings.proofs.Sections.{same_test, in_section_true, in_section_holds}

-- the positions of a block are one section
pub in_block : (m q p : ℕ) → 1 ≤ m → 1 ≤ p → in_section (q * m + 1) ((q + 1) * m) p ≡ (div_ceil p m - 1 == q)
in_block m q p some begins = same_test _ _
    (λ h. let w = in_section_true (q * m + 1) ((q + 1) * m) p h in eq-eqb _ _ (coordinate-unique m p q some begins (omega (arith, w.0)) w.1))
    (λ h. let is : div_ceil p m - 1 ≡ q = eqb-true _ _ h in
    let within = coordinate-within m p some begins in
    in_section_holds (q * m + 1) ((q + 1) * m) p (omega (arith, rw is at within.0)) (rw is at within.1))

-- where a position stands: in a block of a cycle
pub coordinate-block : (k procs p : ℕ) → 1 ≤ k → 1 ≤ p
    → (b : ℕ) × (r : ℕ) × (r < k) × (p ≡ (b * procs + coordinate_under (Cyclic k) procs p) * k + 1 + r)
coordinate-block k procs p some begins =
    let within = coordinate-within k p some begins in
    let split : (div_ceil p k - 1) % procs + procs * ((div_ceil p k - 1) / procs) ≡ div_ceil p k - 1 = mod-add-div (div_ceil p k - 1) procs in
    let same : ((div_ceil p k - 1) / procs * procs + (div_ceil p k - 1) % procs) * k ≡ (div_ceil p k - 1) * k = ap (λ c. c * k)
    (let e : (div_ceil p k - 1) / procs * procs + (div_ceil p k - 1) % procs ≡ div_ceil p k - 1 = omega (arith, split) in e) in
    ((div_ceil p k - 1) / procs, p - 1 - (div_ceil p k - 1) * k, omega (arith, within.0, within.1), omega (arith, within.0, within.1, same))

-- a position with a residue in the processor's block is owned by it
pub owned : (k procs q p r a b : ℕ) → 1 ≤ k → q < procs → 1 ≤ p → r < k → p + k * procs * a ≡ q * k + 1 + r + k * procs * b → coordinate_under (Cyclic k) procs p ≡ q
owned k procs q p r a b some inside begins below is =
    let block = coordinate-block k procs p some begins in
    let stands : ((block.0 + a) * procs + coordinate_under (Cyclic k) procs p) * k + block.1 ≡ (b * procs + q) * k + r = omega (arith, block.3, is) in
    let row = same_from_place _ _ _ _ k block.2 below stands in
    (same_from_place (block.0 + a) (coordinate_under (Cyclic k) procs p) b q procs (mod_below (div_ceil p k - 1) procs (omega (arith, inside))) inside row.0).1

-- positions that are the same up to whole cycles have one coordinate
pub same_coordinate : (k procs p p' a b : ℕ) → 1 ≤ k → 0 < procs → 1 ≤ p → 1 ≤ p' → p' + k * procs * a ≡ p + k * procs * b
    → coordinate_under (Cyclic k) procs p' ≡ coordinate_under (Cyclic k) procs p
same_coordinate k procs p p' a b some some_procs begins begins' same =
    let block = coordinate-block k procs p some begins in
    let point : p ≡ (block.0 * procs + coordinate_under (Cyclic k) procs p) * k + 1 + block.1 = block.3 in
    owned k procs (coordinate_under (Cyclic k) procs p) p' block.1 a (block.0 + b) some (mod_below (div_ceil p k - 1) procs some_procs) begins' block.2 (omega (arith, same, point))

-- the positions of a processor's block in the first cycle are one section
pub in_cycle : (k procs q p : ℕ) → 1 ≤ k → q < procs → 1 ≤ p → p ≤ k * procs
    → in_section (q * k + 1) ((q + 1) * k) p ≡ (coordinate_under (Cyclic k) procs p == q)
in_cycle k procs q p some inside begins ends = in_block k q p some begins ∙ ap (λ c. c == q) (sym (mod-eq_of_lt low))
  where
    low : div_ceil p k - 1 < procs
    low = let within = coordinate-within k p some begins in lt_of_mul-lt-mul_right k (omega (arith, within.0, ends))
