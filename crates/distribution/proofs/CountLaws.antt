-- How many positions up to a last one a processor owns, in closed form.
use Rattle.std.proofs.Common.{◌≡◌, ℕ, ◌+◌, ◌-◌, ◌*◌, ◌/◌, ◌%◌, ◌<◌, ◌≤◌, ◌==◌, Bool, List, sum, sym, ◌∙◌, ap, arith, length, min, max, eq-eqb}
use Rattle.std.proofs.Math.Nat.{mod-add-div, mul-le-mul_right, one-le-mul}
use Rattle.std.proofs.lemmas.Nat.{mod_below}
use Rattle.std.proofs.lemmas.List.FromFn.{length-range_with_len}
use Rattle.std.specs.Prelude.{filter}
use Rattle.std.specs.List.{range_with_len}
use Rattle.mappings.specs.declared.mapping.Form.TheVariants.{Block, Cyclic, Gen}
use Rattle.mappings.specs.GenBlock.{size_before}
use Rattle.mappings.specs.Owner.{coordinate_under}
use Rattle.mappings.specs.Positions.{in_section, section}
use Rattle.mappings.proofs.Sections.{in_section_holds, filter-range}
use Rattle.distribution.proofs.Cycles.{in_block, in_cycle, same_coordinate}
use Rattle.distribution.proofs.GivenBlocks.{in_gen}
use Rattle.distribution.proofs.Repeats.{count-periods}

section-range : (last : ℕ) → section 1 last ≡ range_with_len 1 last
section-range last = let e : last + 1 - 1 ≡ last = omega arith in ap (range_with_len 1) e

-- a test that is true in a section
count-section : (P : ℕ → Bool) (n a b : ℕ) → ((j : ℕ) → 1 ≤ j → j < 1 + n → P j ≡ in_section a b j)
    → length (filter P (range_with_len 1 n)) ≡ min (1 + n) (b + 1) - max 1 a
count-section P n a b same = ap length (filter-range P 1 n a b same) ∙ length-range_with_len (max 1 a) (min (1 + n) (b + 1) - max 1 a)

pub count-whole : (q last : ℕ) → q < 1 → last ≡ length (filter (λ j. 0 == q) (section 1 last))
count-whole q last inside =
    let zero_is : 0 ≡ q = omega (arith, inside) in
    let all : min (1 + last) (last + 1) - max 1 1 ≡ last = omega arith in
    sym (ap (λ xs. length (filter (λ j. 0 == q) xs)) (section-range last)
    ∙ count-section (λ j. 0 == q) last 1 last (λ j low high. eq-eqb 0 q zero_is ∙ sym (in_section_holds 1 last j low (omega (arith, high))))
    ∙ all)

pub count-block : (m q last : ℕ) → 1 ≤ m → min last (q * m + m) - q * m ≡ length (filter (λ j. coordinate_under (Block m) 1 j == q) (section 1 last))
count-block m q last some =
    let own : min (1 + last) ((q + 1) * m + 1) - max 1 (q * m + 1) ≡ min last (q * m + m) - q * m = omega arith in
    sym (ap (λ xs. length (filter (λ j. coordinate_under (Block m) 1 j == q) xs)) (section-range last)
    ∙ count-section (λ j. coordinate_under (Block m) 1 j == q) last (q * m + 1) ((q + 1) * m) (λ j low high. sym (in_block m q j some low))
    ∙ own)

pub count-gen : (sizes : List ℕ) (procs q last : ℕ) → q < length sizes → last ≤ sum sizes
    → min last (size_before sizes (q + 1)) - size_before sizes q ≡ length (filter (λ j. coordinate_under (Gen sizes) procs j == q) (section 1 last))
count-gen sizes procs q last inside upto =
    let own : min (1 + last) (size_before sizes (q + 1) + 1) - max 1 (size_before sizes q + 1) ≡ min last (size_before sizes (q + 1)) - size_before sizes q =
    omega arith in
    sym (ap (λ xs. length (filter (λ j. coordinate_under (Gen sizes) procs j == q) xs)) (section-range last)
    ∙ count-section (λ j. coordinate_under (Gen sizes) procs j == q) last (size_before sizes q + 1) (size_before sizes (q + 1))
    (λ j low high. sym (in_gen sizes procs q j inside low (omega (arith, high, upto))))
    ∙ own)

-- in one cycle
count-cycle : (k procs q r : ℕ) → 1 ≤ k → q < procs → r ≤ k * procs
    → length (filter (λ j. coordinate_under (Cyclic k) procs j == q) (range_with_len 1 r)) ≡ min r (q * k + k) - q * k
count-cycle k procs q r some inside below =
    let own : min (1 + r) ((q + 1) * k + 1) - max 1 (q * k + 1) ≡ min r (q * k + k) - q * k = omega arith in
    count-section (λ j. coordinate_under (Cyclic k) procs j == q) r (q * k + 1) ((q + 1) * k)
    (λ j low high. sym (in_cycle k procs q j some inside low (omega (arith, high, below))))
    ∙ own

-- a cycle further the owner is the same
repeats : (k procs q j : ℕ) → 1 ≤ k → 0 < procs → 1 ≤ j → (coordinate_under (Cyclic k) procs (j + k * procs) == q) ≡ (coordinate_under (Cyclic k) procs j == q)
repeats k procs q j some some_procs begins =
    ap (λ c. c == q) (same_coordinate k procs j (j + k * procs) 0 1 some some_procs begins (omega (arith, begins)) (omega arith))

pub count-cyclic : (k procs q last : ℕ) → 1 ≤ k → q < procs
    → last / (k * procs) * k + (min (last % (k * procs)) (q * k + k) - q * k) ≡ length (filter (λ j. coordinate_under (Cyclic k) procs j == q) (section 1 last))
count-cyclic k procs q last some inside =
    let some_cycle : 0 < k * procs = (let e = one-le-mul some (let p : 1 ≤ procs = omega (arith, inside) in p) in omega (arith, e)) in
    let below : last % (k * procs) < k * procs = mod_below last (k * procs) some_cycle in
    let split : last ≡ last / (k * procs) * (k * procs) + last % (k * procs) = (let e = mod-add-div last (k * procs) in omega (arith, e)) in
    let room : (q + 1) * k ≤ procs * k = mul-le-mul_right k (let e : q + 1 ≤ procs = omega (arith, inside) in e) in
    let block : min (k * procs) (q * k + k) - q * k ≡ k = omega (arith, room) in
    sym (ap (λ xs. length (filter (λ j. coordinate_under (Cyclic k) procs j == q) xs)) (section-range last)
    ∙ ap (λ n. length (filter (λ j. coordinate_under (Cyclic k) procs j == q) (range_with_len 1 n))) split
    ∙ count-periods (λ j. coordinate_under (Cyclic k) procs j == q) (k * procs) 1 (λ j low. repeats k procs q j some (omega (arith, inside)) low) (last / (k * procs)) (last % (k * procs))
    ∙ ap (λ n. last / (k * procs) * n + length (filter (λ j. coordinate_under (Cyclic k) procs j == q) (range_with_len 1 (last % (k * procs)))))
    (count-cycle k procs q (k * procs) some inside (omega arith) ∙ block)
    ∙ ap (λ n. last / (k * procs) * k + n) (count-cycle k procs q (last % (k * procs)) some inside (omega (arith, below))))
