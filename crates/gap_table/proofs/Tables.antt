-- All places of a section by the offsets of one period.
use Rattle.std.proofs.Common.{◌≡◌, ℕ, zero, suc, ℤ, pos, negsuc, ◌+ℤ◌, ◌≤ℤ◌, neg_ℤ, unsigned_abs, ◌+◌, ◌-◌, ◌*◌, ◌/◌, ◌%◌, ◌<◌, ◌≤◌, ◌==◌, ◌⊎◌, inl, inr, nat_lt, Bool, true, false, cond, List, ◌∷◌, ◌++◌, refl, sym, ◌∙◌, ap, subst, arith, length, length-append, map, get_or, ◌*ℤ◌}
use Rattle.std.proofs.Math.ListN.{get_or-append}
use Rattle.std.proofs.Math.Nat.{mod-add-div, one-le-mul}
use Rattle.std.proofs.lemmas.Nat.{mod_below}
use Rattle.std.proofs.lemmas.Grind.{get_or_default_zero}
use Rattle.std.proofs.lemmas.Int.{ints}
use Rattle.std.proofs.lemmas.Bool.{cases_lt}
use Rattle.std.proofs.lemmas.Bool.Decides.{nat_tests}
use Rattle.std.proofs.lemmas.List.{get_or-append_right}
use Rattle.std.specs.Prelude.{filter}
use Rattle.std.specs.List.{range_with_len}
use Rattle.std.specs.List.Sorted.{IsPartitionPoint}
use Rattle.mappings.specs.declared.limits.TheConstants.{MAX_CYCLIC, MAX_TEMPLATE_EXTENT}
use Rattle.mappings.specs.declared.mapping.Form.TheVariants.{Cyclic}
use Rattle.mappings.specs.Owner.{coordinate_under}
use Rattle.distribution.proofs.Cycles.{same_coordinate}
use Rattle.gap_table.specs.GapTable.{IsGapTable, place_at}
use Rattle.gap_table.specs.OwnedSequence.{position_of, owned_under}
use Rattle.congruences.specs.Congruences.{residue_of}
use Rattle.congruences.proofs.Remainders.{residue, scaled}
use Rattle.gap_table.specs.Residues.{AreOffsets}
use Rattle.gap_table.proofs.Periodic.{filter-periodic-step, split}
use Rattle.gap_table.proofs.AscendingLists.{In, contains-in, in-filter, map_range-in}

pub filter-agree : (P Q : ℕ → Bool) (lo n : ℕ) → ((j : ℕ) → lo ≤ j → j < lo + n → P j ≡ Q j) → filter P (range_with_len lo n) ≡ filter Q (range_with_len lo n)
filter-agree P Q lo zero same = refl
filter-agree P Q lo (suc n) same =
    ap (λ b. cond b (lo ∷ filter P (range_with_len (lo + 1) n)) (filter P (range_with_len (lo + 1) n))) (same lo (omega arith) (omega arith))
    ∙ ap (λ ys. cond (Q lo) (lo ∷ ys) ys) (filter-agree P Q (lo + 1) n (λ j low high. same j (omega (arith, low)) (omega (arith, high))))

-- a difference that isn't negative
pub minus : (s x : ℕ) (z : ℤ) → z ≡ pos s +ℤ neg_ℤ (pos x) → pos 1 ≤ℤ z → (unsigned_abs z + x ≡ s) × (1 ≤ unsigned_abs z)
minus s x (pos n) is some = (omega (arith, ints, is, some), omega (arith, ints, is, some))
minus s x (negsuc n) is some = absurd (omega (arith, ints, is, some))

-- a position of the section, and the same by what remains of the stride
pub reduced : (start : ℕ) (stride : ℤ) (m j : ℕ) → 0 < m → pos 1 ≤ℤ position_of start stride j
    → (a : ℕ) × (b : ℕ) × (unsigned_abs (position_of start stride j) + m * a ≡ start + residue_of stride m * j + m * b) × (1 ≤ unsigned_abs (position_of start stride j))
reduced start stride m j some inside =
    let f = residue stride m some in
    let same = scaled stride (residue_of stride m) m j f.0 f.1 f.2 in
    let is = plain (position_of start stride j) (stride *ℤ pos j) start (residue_of stride m * j) (m * (f.0 * j)) (m * (f.1 * j)) refl inside same in
    (f.0 * j, f.1 * j, is.0, is.1)
  where
    plain : (p z : ℤ) (s y u v : ℕ) → p ≡ pos s +ℤ z → pos 1 ≤ℤ p → z +ℤ pos u ≡ pos y +ℤ pos v → (unsigned_abs p + u ≡ s + y + v) × (1 ≤ unsigned_abs p)
    plain (pos n) z s y u v is some same = (omega (arith, ints, is, same), omega (arith, ints, some))
    plain (negsuc n) z s y u v is some same = absurd (omega (arith, ints, some))

at-in : (xs : List ℕ) (i : ℕ) → i < length xs → In (get_or xs i 0) xs
at-in xs i below = contains-in (get_or xs i 0) xs (i, below, get_or_default_zero xs i (get_or xs i 0) below)

pub lt_true : (a b : ℕ) → nat_lt a b ≡ true → a < b
lt_true a b h = grind (arith, nat_tests)

pub lt_false : (a b : ℕ) → nat_lt a b ≡ false → b ≤ a
lt_false a b h = grind (arith, nat_tests)

-- how many of the offsets are below a place
pub count_below : (P : ℕ → Bool) (r T i : ℕ) (os : List ℕ) → r ≤ T → os ≡ filter P (range_with_len 0 T) → i ≤ length os
    → IsPartitionPoint (λ x. nat_lt x r ≡ true) (λ x. nat_lt x r ≡ false) os i → i ≡ length (filter P (range_with_len 0 r))
count_below P r T i os below is upto point = by_case (cases_lt i (length xs)) (cases_lt (length xs) i)
  where
    xs : List ℕ
    xs = filter P (range_with_len 0 r)

    ys : List ℕ
    ys = filter P (range_with_len (0 + r) (T - r))

    parts : os ≡ xs ++ ys
    parts = is ∙ split P r T below

    whole : length os ≡ length xs + length ys
    whole = ap length parts ∙ length-append xs ys

    by_case : (i < length xs) ⊎ (length xs ≤ i) → (length xs < i) ⊎ (i ≤ length xs) → i ≡ length xs
    by_case (inl less) _ =
        let here : get_or os i 0 ≡ get_or xs i 0 = ap (λ l. get_or l i 0) parts ∙ get_or-append xs ys 0 i less in
        let before = (in-filter P 0 r (get_or xs i 0) (at-in xs i less)).1 in
        let after : r ≤ get_or os i 0 = lt_false _ _ (point.1 i 0 (omega arith) (omega (arith, less, whole))) in
        absurd (omega (arith, here, before, after))
    by_case (inr _) (inl more) =
        let some : 0 < length ys = omega (arith, more, upto, whole) in
        let zero_is : length xs - length xs ≡ 0 = omega arith in
        let here : get_or os (length xs) 0 ≡ get_or ys 0 0 = ap (λ l. get_or l (length xs) 0) parts ∙ get_or-append_right xs ys (length xs) (length xs) 0 refl (omega arith)
        ∙ ap (λ k. get_or ys k 0) zero_is in
        let after = (in-filter P (0 + r) (T - r) (get_or ys 0 0) (at-in ys 0 some)).0 in
        let before : get_or os (length xs) 0 < r = lt_true _ _ (point.0 (length xs) 0 (omega arith) more) in
        absurd (omega (arith, here, before, after))
    by_case (inr more) (inr less) = omega (arith, more, less)

-- by the factor the test repeats
pub repeats : (k procs q start d t c : ℕ) → 1 ≤ k → 0 < procs → 1 ≤ start → d * t ≡ k * procs * c → (j : ℕ)
    → (coordinate_under (Cyclic k) procs (start + d * (j + t)) == q) ≡ (coordinate_under (Cyclic k) procs (start + d * j) == q)
repeats k procs q start d t c some some_procs begins dt j =
    ap (λ x. x == q) (same_coordinate k procs (start + d * j) (start + d * (j + t)) 0 c some some_procs (omega (arith, begins)) (omega (arith, begins)) (omega (arith, dt)))

-- all places of a section under CYCLIC(k)
pub places_cyclic : (k procs q start count t i : ℕ) (stride : ℤ) (os : List ℕ) → 1 ≤ k → 0 < procs → 1 ≤ start
    → ((j : ℕ) → j < count → pos 1 ≤ℤ position_of start stride j) → AreOffsets k procs q start (residue_of stride (k * procs)) os t
    → i ≤ length os → IsPartitionPoint (λ x. nat_lt x (count % t) ≡ true) (λ x. nat_lt x (count % t) ≡ false) os i → (len : ℕ) → len ≡ count / t * length os + i
    → map (place_at 0 t os) (range_with_len 0 len) ≡ owned_under (Cyclic k) procs q start stride count
places_cyclic k procs q start count t i stride os some some_procs begins inside are upto point len is =
    let d = residue_of stride (k * procs) in
    let r = count % t in
    let m : 0 < k * procs = omega (arith, one-le-mul some some_procs) in
    let below : r < t = mod_below count t are.some in
    let r-is = count_below (λ j. coordinate_under (Cyclic k) procs (start + d * j) == q) r t i os (omega (arith, below)) are.all upto point in
    let count-is : count / t * t + r ≡ count = omega (arith, mod-add-div count t) in
    sym (
    filter-agree (λ j. coordinate_under (Cyclic k) procs (unsigned_abs (position_of start stride j)) == q) (λ j. coordinate_under (Cyclic k) procs (start + d * j) == q) 0 count
    (λ j low high. let red = reduced start stride (k * procs) j m (inside j (omega (arith, high))) in
    ap (λ x. x == q) (same_coordinate k procs (start + d * j) (unsigned_abs (position_of start stride j)) red.0 red.1 some some_procs (omega (arith, begins)) red.3 red.2))
    ∙ ap (λ n. filter (λ j. coordinate_under (Cyclic k) procs (start + d * j) == q) (range_with_len 0 n)) (sym count-is)
    ∙ filter-periodic-step (λ j. coordinate_under (Cyclic k) procs (start + d * j) == q) t (repeats k procs q start d t are.repeats.0 some some_procs begins are.repeats.1)
    (count / t) r (omega (arith, below)) os are.all
    ∙ ap (λ n. map (place_at 0 t os) (range_with_len 0 (count / t * length os + n))) (sym r-is)
    ∙ ap (λ n. map (place_at 0 t os) (range_with_len 0 n)) (sym is))

-- a place of a table is one of the section
place-in : (base t : ℕ) (os : List ℕ) (len n : ℕ) (P : ℕ → Bool) (count : ℕ) → n < len
    → map (place_at base t os) (range_with_len 0 len) ≡ filter P (range_with_len 0 count) → place_at base t os n < count
place-in base t os len n P count below is =
    let i : In (place_at base t os n) (filter P (range_with_len 0 count)) = subst (λ l. In (place_at base t os n) l) is
    (map_range-in (place_at base t os) 0 len n (omega arith) (omega (arith, below))) in
    let h = (in-filter P 0 count (place_at base t os n) i).1 in
    omega (arith, h)

pub table_cyclic : (k procs q start count t i d : ℕ) (stride : ℤ) (os : List ℕ) → AreOffsets k procs q start d os t
    → i ≤ length os → (len : ℕ) → len ≡ count / t * length os + i → count ≤ MAX_TEMPLATE_EXTENT
    → map (place_at 0 t os) (range_with_len 0 len) ≡ owned_under (Cyclic k) procs q start stride count
    → k ≤ MAX_CYCLIC → IsGapTable (record { base = 0; period = t; offsets = os; len = len })
table_cyclic k procs q start count t i d stride os are upto len is few numbers k-small = record {
  few = omega (arith, are.few, k-small);
  some = are.some;
  ascends = are.ascends;
  below = λ n e inside.
      let member : In (get_or os n 0) (filter (λ j. coordinate_under (Cyclic k) procs (start + d * j) == q) (range_with_len 0 t)) = subst
      (λ l. In (get_or os n 0) l) are.all (at-in os n inside) in
      let h = (in-filter (λ j. coordinate_under (Cyclic k) procs (start + d * j) == q) 0 t (get_or os n 0) member).1 in
      let same = get_or_default_zero os n e inside in
      omega (arith, h, same);
  filled = λ some. filled some (cases_lt 0 (length os));
  small = λ n below. let h = place-in 0 t os len n _ count below numbers in omega (arith, h, few);
}
  where
    filled : 0 < len → (0 < length os) ⊎ (length os ≤ 0) → 0 < length os
    filled some (inl h) = h
    filled some (inr h) =
        let none : length os ≡ 0 = omega (arith, h) in
        let product : count / t * length os ≡ count / t * 0 = ap (λ n. count / t * n) none in
        absurd (omega (arith, some, is, product, upto, none))
