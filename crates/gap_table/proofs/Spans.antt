-- The places of a regular section whose positions stand in a section from a first to a last position.
use Rattle.std.proofs.Common.{◌≡◌, ℕ, zero, suc, ℤ, pos, negsuc, ◌+ℤ◌, ◌≤ℤ◌, ◌<ℤ◌, neg_ℤ, unsigned_abs, ◌+◌, ◌-◌, ◌*◌, ◌<◌, ◌≤◌, ◌⊎◌, inl, inr, ◌&&◌, nat_le, nat_lt, Bool, true, List, length, sum, [], ◌∷◌, refl, sym, ◌∙◌, ap, subst, arith, map, min, max, eq-eqb, ◌==◌}
use Rattle.std.proofs.Math.Nat.{lt_of_mul-lt-mul_right, mul-le-mul_right, mod-one, div-one}
use Rattle.std.proofs.Math.IntN.{pos-*ℤ-pos, negsuc-*ℤ-pos, *ℤ-zero}
use Rattle.std.proofs.lemmas.Bool.{cases_lt}
use Rattle.std.proofs.lemmas.Bool.Decides.{nat_tests}
use Rattle.std.proofs.lemmas.Grind.{div_ceil_times}
use Rattle.std.proofs.lemmas.Int.{ints}
use Rattle.std.specs.Int.{div_ceil}
use Rattle.std.specs.Prelude.{filter}
use Rattle.std.specs.List.{range_with_len}
use Rattle.mappings.specs.declared.mapping.Form.TheVariants.{Whole, Block, Gen}
use Rattle.mappings.specs.declared.mapping.Line.{Line}
use Rattle.distribution.proofs.Cycles.{in_block}
use Rattle.distribution.proofs.GivenBlocks.{in_gen}
use Rattle.mappings.specs.GenBlock.{size_before}
use Rattle.mappings.specs.Mapping.{IsLine}
use Rattle.mappings.specs.Positions.{in_section}
use Rattle.hpf_base.proofs.Ranges.{map-range_shifted}
use Rattle.mappings.proofs.Sections.{same_test, in_section_true, in_section_holds, filter-range}
use Rattle.gap_table.specs.OwnedSequence.{IsSectionOf, position_of, owned_under}
use Rattle.gap_table.specs.Sections.{IsLimited}
use Rattle.gap_table.specs.GapTable.{place_at}
use Rattle.gap_table.proofs.Tables.{filter-agree, minus}

ceil_le : (n a j : ℕ) → 1 ≤ a → n ≤ j * a → div_ceil n a ≤ j
ceil_le n a j some h =
    let times = div_ceil_times n a some in
    let below : div_ceil n a < j + 1 = lt_of_mul-lt-mul_right a (omega (arith, times.1, h)) in
    omega (arith, below)

ceil_ge : (n a j : ℕ) → 1 ≤ a → div_ceil n a ≤ j → n ≤ j * a
ceil_ge n a j some h =
    let times = div_ceil_times n a some in
    let more : div_ceil n a * a ≤ j * a = mul-le-mul_right a h in
    omega (arith, times.0, more)

pub between_true : (a b j : ℕ) → (nat_le a j && nat_lt j b) ≡ true → (a ≤ j) × (j < b)
between_true a b j h = grind (arith, nat_tests)

pub between_holds : (a b j : ℕ) → a ≤ j → j < b → (nat_le a j && nat_lt j b) ≡ true
between_holds a b j h k = grind (arith, nat_tests)

pub span_test : (near far a count j end first : ℕ) → 1 ≤ a → j < count → end ≡ min (div_ceil far a) count → first ≡ min (div_ceil near a) end
    → (nat_le near (j * a) && nat_lt (j * a) far) ≡ (nat_le first j && nat_lt j end)
span_test near far a count j end first some inside end-is first-is = same_test _ _ forth back
  where
    forth : (nat_le near (j * a) && nat_lt (j * a) far) ≡ true → (nat_le first j && nat_lt j end) ≡ true
    forth h =
        let w = between_true near far (j * a) h in
        let low : div_ceil near a ≤ j = ceil_le near a j some w.0 in
        between_holds first end j (omega (arith, low, first-is)) (high w.1 (cases_lt j (div_ceil far a)))
      where
        high : j * a < far → (j < div_ceil far a) ⊎ (div_ceil far a ≤ j) → j < end
        high less (inl k) = omega (arith, k, inside, end-is)
        high less (inr k) = let more = ceil_ge far a j some k in absurd (omega (arith, more, less))

    back : (nat_le first j && nat_lt j end) ≡ true → (nat_le near (j * a) && nat_lt (j * a) far) ≡ true
    back h =
        let w = between_true first end j h in
        let low : near ≤ j * a = ceil_ge near a j some (omega (arith, w.0, w.1, first-is)) in
        between_holds near far (j * a) low (high w.1 (cases_lt (j * a) far))
      where
        high : j < end → (j * a < far) ⊎ (far ≤ j * a) → j * a < far
        high less (inl k) = k
        high less (inr k) = let more = ceil_le far a j some k in absurd (omega (arith, more, less, end-is))

-- a position of an ascending section, and of a descending one
pub section_up : (low high start a j : ℕ) → in_section low high (unsigned_abs (position_of start (pos a) j)) ≡ (nat_le (low - start) (j * a) && nat_lt (j * a) (high + 1 - start))
section_up low high start a j =
    let e : position_of start (pos a) j ≡ pos (start + a * j) = ap (λ z. pos start +ℤ z) (pos-*ℤ-pos a j) in
    let u : unsigned_abs (position_of start (pos a) j) ≡ start + a * j = ap unsigned_abs e in
    same_test _ _
    (λ h. let w = in_section_true low high (unsigned_abs (position_of start (pos a) j)) h in between_holds (low - start) (high + 1 - start) (j * a) (omega (arith, w.0, u))
    (omega (arith, w.1, u)))
    (λ h. let w = between_true (low - start) (high + 1 - start) (j * a) h in in_section_holds low high (unsigned_abs (position_of start (pos a) j)) (omega (arith, w.0, u))
    (omega (arith, w.1, u)))

pub section_down : (low high start a j : ℕ) → 1 ≤ low → pos 1 ≤ℤ position_of start (negsuc a) j
    → in_section low high (unsigned_abs (position_of start (negsuc a) j)) ≡ (nat_le (start - high) (j * suc a) && nat_lt (j * suc a) (start + 1 - low))
section_down low high start a j some inside =
    let e : position_of start (negsuc a) j ≡ pos start +ℤ neg_ℤ (pos (suc a * j)) = ap (λ z. pos start +ℤ z) (negsuc-*ℤ-pos a j) in
    let d = minus start (suc a * j) (position_of start (negsuc a) j) e inside in
    same_test _ _
    (λ h. let w = in_section_true low high (unsigned_abs (position_of start (negsuc a) j)) h in between_holds (start - high) (start + 1 - low) (j * suc a)
    (omega (arith, w.1, d.0)) (omega (arith, w.0, d.0)))
    (λ h. let w = between_true (start - high) (start + 1 - low) (j * suc a) h in in_section_holds low high (unsigned_abs (position_of start (negsuc a) j))
    (omega (arith, w.1, d.0)) (omega (arith, w.0, d.0)))

-- the places of a span
pub filter-span : (P : ℕ → Bool) (first end count : ℕ) → first ≤ end → end ≤ count → ((j : ℕ) → j < count → P j ≡ (nat_le first j && nat_lt j end))
    → filter P (range_with_len 0 count) ≡ range_with_len first (end - first)
filter-span P first zero count order within same =
    filter-range P 0 count 1 0 (λ j low high. same_test _ _
    (λ h. let w = between_true first zero j (sym (same j (omega (arith, high))) ∙ h) in absurd (omega (arith, w.1)))
    (λ h. let w = in_section_true 1 0 j h in absurd (omega (arith, w.0, w.1))))
    ∙ (let none : min (0 + count) (0 + 1) - max 0 1 ≡ 0 = omega arith in let none' : zero - first ≡ 0 = omega arith in ap (range_with_len (max 0 1)) none ∙ sym
    (ap (range_with_len first) none'))
filter-span P first (suc e) count order within same =
    filter-range P 0 count first e (λ j low high. same_test _ _
    (λ h. let w = between_true first (suc e) j (sym (same j (omega (arith, high))) ∙ h) in in_section_holds first e j w.0 (omega (arith, w.1)))
    (λ h. let w = in_section_true first e j h in same j (omega (arith, high)) ∙ between_holds first (suc e) j w.0 (omega (arith, w.1))))
    ∙ (let at : max 0 first ≡ first = omega arith in let long : min (0 + count) (e + 1) - max 0 first ≡ suc e - first = omega (arith, within) in ap
    (range_with_len (max 0 first)) long ∙ ap (λ a. range_with_len a (suc e - first)) at)

-- a table of one offset
pub places_span : (first len : ℕ) → map (place_at first 1 (0 ∷ [])) (range_with_len 0 len) ≡ range_with_len first len
places_span first len = map-range_shifted 0 first len (place_at first 1 (0 ∷ [])) (λ j low high. at j)
  where
    at : (j : ℕ) → place_at first 1 (0 ∷ []) j + 0 ≡ first + j
    at j = rw (mod-one j, div-one j) (omega arith)

pub section_rising : (low high start near far size j first end : ℕ) (stride : ℤ) → pos 0 <ℤ stride → size ≡ unsigned_abs stride → near ≡ low - start → far ≡ high + 1 - start
    → (nat_le near (j * size) && nat_lt (j * size) far) ≡ (nat_le first j && nat_lt j end)
    → in_section low high (unsigned_abs (position_of start stride j)) ≡ (nat_le first j && nat_lt j end)
section_rising low high start near far size j first end (negsuc a) up size-is near-is far-is same = absurd (omega (arith, ints, up))
section_rising low high start near far size j first end (pos a) up size-is near-is far-is same =
    section_up low high start a j
    ∙ ap (λ n. nat_le n (j * a) && nat_lt (j * a) (high + 1 - start)) (sym near-is)
    ∙ ap (λ n. nat_le near (j * a) && nat_lt (j * a) n) (sym far-is)
    ∙ ap (λ n. nat_le near (j * n) && nat_lt (j * n) far) (sym size-is) ∙ same

pub section_falling : (low high start near far size j first end : ℕ) (stride : ℤ) → 1 ≤ low → stride <ℤ pos 0 → pos 1 ≤ℤ position_of start stride j
    → size ≡ unsigned_abs stride → near ≡ start - high → far ≡ start + 1 - low
    → (nat_le near (j * size) && nat_lt (j * size) far) ≡ (nat_le first j && nat_lt j end)
    → in_section low high (unsigned_abs (position_of start stride j)) ≡ (nat_le first j && nat_lt j end)
section_falling low high start near far size j first end (pos a) some down inside size-is near-is far-is same = absurd (omega (arith, ints, down))
section_falling low high start near far size j first end (negsuc a) some down inside size-is near-is far-is same =
    section_down low high start a j some inside
    ∙ ap (λ n. nat_le n (j * suc a) && nat_lt (j * suc a) (start + 1 - low)) (sym near-is)
    ∙ ap (λ n. nat_le near (j * suc a) && nat_lt (j * suc a) n) (sym far-is)
    ∙ ap (λ n. nat_le near (j * n) && nat_lt (j * n) far) (sym size-is) ∙ same

pub below_zero : (z : ℤ) → z ≤ℤ pos 0 → (z ≡ pos 0 → ⊥) → z <ℤ pos 0
below_zero (pos zero) le ne = absurd (ne refl)
below_zero (pos (suc n)) le ne = absurd (omega (arith, ints, le))
below_zero (negsuc n) le ne = omega (arith, ints)

-- the first position of a section, and how many it has
section_start : (line : Line) (start count : ℕ) (stride : ℤ) → IsSectionOf line start stride count → 0 < count → (1 ≤ start) × (start ≤ line.extent)
section_start line start count stride section some =
    let e : position_of start stride 0 ≡ pos start = ap (λ z. pos start +ℤ z) (*ℤ-zero stride) ∙ zero_more start in
    let low : pos 1 ≤ℤ pos start = subst (λ z. pos 1 ≤ℤ z) e (section 0 some).0 in
    let high : pos start ≤ℤ pos line.extent = subst (λ z. z ≤ℤ pos line.extent) e (section 0 some).1 in
    (omega (arith, ints, low), omega (arith, ints, high))
  where
    zero_more : (n : ℕ) → pos n +ℤ pos 0 ≡ pos n
    zero_more n = omega (arith, ints)

section_count : (line : Line) (start count : ℕ) (stride : ℤ) → (stride ≡ pos 0 → ⊥) → IsSectionOf line start stride count → count ≤ line.extent
section_count line start zero stride moves section = omega arith
section_count line start (suc n) (pos zero) moves section = absurd (moves refl)
section_count line start (suc n) (pos (suc a)) moves section =
    let first = section_start line start (suc n) (pos (suc a)) section (omega arith) in
    let e : position_of start (pos (suc a)) n ≡ pos (start + suc a * n) = ap (λ z. pos start +ℤ z) (pos-*ℤ-pos (suc a) n) in
    let high : pos (start + suc a * n) ≤ℤ pos line.extent = subst (λ z. z ≤ℤ pos line.extent) e (section n (omega arith)).1 in
    let high' : start + suc a * n ≤ line.extent = omega (arith, ints, high) in
    omega (arith, high', first.0)
section_count line start (suc n) (negsuc a) moves section =
    let first = section_start line start (suc n) (negsuc a) section (omega arith) in
    let e : position_of start (negsuc a) n ≡ pos start +ℤ neg_ℤ (pos (suc a * n)) = ap (λ z. pos start +ℤ z) (negsuc-*ℤ-pos a n) in
    let d = minus start (suc a * n) (position_of start (negsuc a) n) e (section n (omega arith)).0 in
    omega (arith, first.1, d.0, d.1)

-- what holds of a section of a line, with the stride as code has it
pub section_limited : (line : Line) (start count : ℕ) (stride same : ℤ) → same ≡ stride → IsLine line → (stride ≡ pos 0 → ⊥) → 0 < count
    → IsSectionOf line start stride count → IsLimited (record { start = start; stride = same; count = count })
section_limited line start count stride same e is moves some section =
    let first = section_start line start count stride section some in
    let few = section_count line start count stride moves section in
    subst (λ s. IsLimited (record { start = start; stride = s; count = count })) (sym e) (record {
      start = first.0;
      near = omega (arith, first.1, is.extent);
      stride = moves;
      few = omega (arith, few, is.extent);
      inside = λ j below. (section j below).0;
    })

-- what a processor owns of a section under BLOCK(m), and of one that isn't distributed
pub in_whole : (extent q p : ℕ) → q < 1 → 1 ≤ p → p ≤ extent → in_section 1 extent p ≡ (0 == q)
in_whole extent q p inside begins ends = let e : 0 ≡ q = omega (arith, inside) in in_section_holds 1 extent p begins ends ∙ sym (eq-eqb 0 q e)

-- positions of a section as numbers
pub section_position : (line : Line) (start count j : ℕ) (stride : ℤ) → IsSectionOf line start stride count → j < count
    → (1 ≤ unsigned_abs (position_of start stride j)) × (unsigned_abs (position_of start stride j) ≤ line.extent)
section_position line start count j stride section below = inside (position_of start stride j) (section j below).0 (section j below).1
  where
    inside : (z : ℤ) → pos 1 ≤ℤ z → z ≤ℤ pos line.extent → (1 ≤ unsigned_abs z) × (unsigned_abs z ≤ line.extent)
    inside (pos n) low high = (omega (arith, ints, low), omega (arith, ints, high))
    inside (negsuc n) low high = absurd (omega (arith, ints, low))

pub places_block : (m procs q start count : ℕ) (stride : ℤ) (line : Line) → 1 ≤ m → IsSectionOf line start stride count
    → filter (λ j. in_section (q * m + 1) ((q + 1) * m) (unsigned_abs (position_of start stride j))) (range_with_len 0 count) ≡ owned_under (Block m) procs q start stride count
places_block m procs q start count stride line some section =
    filter-agree _ _ 0 count (λ j low high. in_block m q (unsigned_abs (position_of start stride j)) some
    (section_position line start count j stride section (omega (arith, high))).0)

pub places_gen : (sizes : List ℕ) (procs q start count : ℕ) (stride : ℤ) (line : Line) → q < length sizes → line.extent ≤ sum sizes
    → IsSectionOf line start stride count
    → filter (λ j. in_section (size_before sizes q + 1) (size_before sizes (q + 1)) (unsigned_abs (position_of start stride j))) (range_with_len 0 count)
    ≡ owned_under (Gen sizes) procs q start stride count
places_gen sizes procs q start count stride line inside upto section =
    filter-agree _ _ 0 count (λ j low high. let at = section_position line start count j stride section (omega (arith, high)) in
    in_gen sizes procs q (unsigned_abs (position_of start stride j)) inside at.0 (omega (arith, at.1, upto)))

pub places_whole : (procs q start count : ℕ) (stride : ℤ) (line : Line) → q < 1 → IsSectionOf line start stride count
    → filter (λ j. in_section 1 line.extent (unsigned_abs (position_of start stride j))) (range_with_len 0 count) ≡ owned_under Whole procs q start stride count
places_whole procs q start count stride line inside section =
    filter-agree _ _ 0 count (λ j low high. let at = section_position line start count j stride section (omega (arith, high)) in in_whole line.extent q
    (unsigned_abs (position_of start stride j)) inside at.0 at.1)
