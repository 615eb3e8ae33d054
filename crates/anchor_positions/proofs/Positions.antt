-- Subscripts by the positions of a tuple.
use Rattle.std.proofs.Common.{◌≡◌, ℕ, zero, suc, ◌+◌, ◌*◌, ◌/◌, ◌%◌, ◌<◌, ◌≤◌, ◌⊎◌, inl, inr, List, [], ◌∷◌, map, get_or, Bool, true, false, ℤ, pos, negsuc, ◌+ℤ◌, ◌-ℤ◌, ◌*ℤ◌, ◌≤ℤ◌, ◌<ℤ◌, unsigned_abs, FitsSigned, w64, Option, Some, None, Ok, if◌then◌else◌, nat_le, refl, sym, ap, ◌∙◌, subst, arith, mul-le-mul}
use Rattle.std.proofs.Math.IntN.{*ℤ_comm, zero-*ℤ}
use Rattle.std.proofs.Math.Nat.{mul_comm}
use Rattle.std.proofs.lemmas.Bool.{and_parts, leb-true}
use Rattle.std.proofs.lemmas.Int.{ints, int_wrap_fits, fits_signed_from_abs, unsigned_abs-mul}
use Rattle.std.proofs.lemmas.Nat.{div_below, mod_below}
use Rattle.std.specs.List.{AllByRecursion, list_all}
use Rattle.hpf_base.proofs.ElementOrder.{factor_some}
use Rattle.hpf_base.proofs.Integers.{sum-*ℤ, linear_of_linear, within_magnitude}
use Rattle.hpf_base.proofs.Elements.{elements-get}
use Rattle.hpf_base.proofs.Places.{place_at}
use Rattle.hpf_base.specs.ElementOrder.{product, index_at, extents_of}
use Rattle.op_tables.specs.Operators.{wrapped}
use Rattle.mappings.specs.declared.mapping.AlignDim.TheVariants.{Linear as LinearDim}
use Rattle.array_meaning.specs.Terms.{Term}
use Rattle.array_meaning.specs.State.{State}
use Rattle.array_meaning.specs.Expressions.{value, index_value}
use Rattle.array_meaning.specs.Forall.{Linear, index_extents, indices_at, is_index_in_limits, is_linear_in_limits, linear}
use Rattle.array_meaning.specs.Sections.{extents, nth, positions, subscripts_at, is_at_most}
use Rattle.array_meaning.specs.declared.limits.TheConstants.{MAX_INDEX_VALUE, MAX_FACTOR, MAX_OFFSET}
use Rattle.array_meaning.specs.declared.sections.Selection.{Selection}
use Rattle.array_meaning.specs.declared.sections.Selection.TheVariants.{At, Along}
use Rattle.array_meaning.specs.declared.sections.Sequence.{Sequence}
use Rattle.machine_steps.specs.CopyLayout.{copy_shape}
use Rattle.machine_steps.specs.Layout.{element_index}
use Rattle.machine_steps.specs.Space.{space_count}
use Rattle.aligned_copies.specs.Beside.{subscript_by}
use Rattle.aligned_copies.proofs.CopyLaws.{extents-back}
use Rattle.aligned_copies.proofs.Inside.{between}
use Rattle.code_meaning.specs.Anchors.{by_linear, by_positions, none_taken}
use Rattle.anchor_positions.specs.Subscripts.{HasEnds, IsLinearIn, linear_at, section_value}
use Rattle.anchor_positions.proofs.Forms.{form-says, Says}

-- ---- the tuple of a number

counted : (ns : List ℕ) (at : ℕ) → at < space_count ns → at < product ns
counted ns at below = by (nat_le (product ns) _) below
  where
    by : (t : Bool) → at < (if t then product ns else 0) → at < product ns
    by true lt = lt
    by false lt = absurd (omega (arith, lt))

positions-index : (ns : List ℕ) (at : ℕ) → index_at (map (λ e. pos 1) ns) (place_at ns at) ≡ positions ns at
positions-index [] at = refl
positions-index (n ∷ ns) at =
    let one : pos 1 +ℤ pos (at % n) ≡ pos (suc (at % n)) = omega (arith, ints) in λ i. one i ∷ positions-index ns (at / n) i

tuple-is : (ns : List ℕ) (at : ℕ) → at < product ns → element_index (copy_shape ns) at ≡ positions ns at
tuple-is ns at below =
    let inside : at < product (extents_of (copy_shape ns)) = omega (arith, below, ap product (extents-back ns)) in
    elements-get (copy_shape ns) at [] inside ∙ ap (λ es. index_at (map (λ e. pos 1) ns) (place_at es at)) (extents-back ns) ∙ positions-index ns at

-- the first position, and the others
first-some : (n : ℕ) (ns : List ℕ) (at : ℕ) → at < product (n ∷ ns) → (1 ≤ n) × (at / n < product ns)
first-some n ns at below =
    let some : 1 ≤ n = factor_some (product ns) n (omega (arith, below, mul_comm n (product ns))) in
    (some, div_below at n (product ns) some (omega (arith, below, mul_comm n (product ns))))

-- ---- values of a sequence

fitting : (z : ℤ) → FitsSigned w64 z → (negsuc 9223372036854775807 ≤ℤ z) × (z <ℤ pos 9223372036854775808)
fitting (pos n) f = let h = f.sfits in (omega (arith, ints), omega (arith, ints, h))
fitting (negsuc n) f = let h = f.sfits in (omega (arith, ints, h), omega (arith, ints))

fits : (z : ℤ) → negsuc 9223372036854775807 ≤ℤ z → z <ℤ pos 9223372036854775808 → FitsSigned w64 z
fits (pos n) low high = record { sfits = omega (arith, ints, high) }
fits (negsuc n) low high = record { sfits = omega (arith, ints, low) }

abbrev Ends : Sequence → Type 0
Ends p = FitsSigned w64 p.first × FitsSigned w64 (nth p (pos p.count))

module _ (p : Sequence) where
  abbrev straight : ℕ → ℤ
  straight q = (p.step *ℤ pos q) +ℤ (p.first -ℤ p.step)

  nth-is : (q : ℕ) → nth p (pos q) ≡ straight q
  nth-is q =
      let back : (pos q -ℤ pos 1) +ℤ pos 1 ≡ pos q = omega (arith, ints) in
      let whole : ((pos q -ℤ pos 1) *ℤ p.step) +ℤ (pos 1 *ℤ p.step) ≡ p.step *ℤ pos q =
      sym (sum-*ℤ (pos q -ℤ pos 1) (pos 1) p.step) ∙ ap (λ y. y *ℤ p.step) back ∙ *ℤ_comm (pos q) p.step in
      omega (arith, ints, whole)

  -- between the first and the last one nothing wraps
  value-is : (q : ℕ) → 1 ≤ q → q ≤ p.count → Ends p → wrapped (nth p (pos q)) ≡ straight q
  value-is q from to ends =
      let one : p.first ≡ (p.step *ℤ pos 1) +ℤ (p.first -ℤ p.step) = omega (arith, ints) in
      let a = fitting ((p.step *ℤ pos 1) +ℤ (p.first -ℤ p.step)) (subst (FitsSigned w64) one ends.0) in
      let b = fitting (straight p.count) (subst (FitsSigned w64) (nth-is p.count) ends.1) in
      let c = between (negsuc 9223372036854775807) (pos 9223372036854775808) p.step (p.first -ℤ p.step) p.count q from to a.0 a.1 b.0 b.1 in
      ap wrapped (nth-is q) ∙ int_wrap_fits w64 (straight q) (fits (straight q) c.0 c.1)

-- ---- sections

module _ (axes : List Sequence) (ps : List ℤ) where
  section-same : (ds : List Selection) (k at : ℕ) → AllByRecursion HasEnds ds → at < product (extents ds)
      → ((m : ℕ) → get_or ps (k + m) (pos 0) ≡ get_or (positions (extents ds) at) m (pos 0))
      → map (subscript_by ps) (by_positions axes k (map section_value ds)) ≡ subscripts_at ds (positions (extents ds) at)
  section-same [] k at ends below look = refl
  section-same (At v ∷ ds) k at ends below look = ap (λ is. v ∷ is) (section-same ds k at ends.1 below look)
  section-same (Along p ∷ ds) k at ends below look =
      let some = first-some p.count (extents ds) at below in
      let small : at % p.count < p.count = mod_below at p.count some.0 in
      let here : get_or ps k (pos 0) ≡ pos (suc (at % p.count)) = (let e : k ≡ k + 0 = omega arith in ap (λ j. get_or ps j (pos 0)) e ∙ look 0) in
      let rest = section-same ds (suc k) (at / p.count) ends.1 some.1 (λ m. (let e : suc k + m ≡ k + suc m = omega arith in ap (λ j. get_or ps j (pos 0)) e ∙ look (suc m))) in
      let first : subscript_by ps (LinearDim k p.step (p.first -ℤ p.step)) ≡ wrapped (nth p (pos (suc (at % p.count)))) =
      ap (λ i. (p.step *ℤ i) +ℤ (p.first -ℤ p.step)) here ∙ sym (value-is p (suc (at % p.count)) (omega arith) (omega (arith, small)) ends.0) in
      λ i. first i ∷ rest i

pub section-by-positions : (axes : List Sequence) (ds : List Selection) (at : ℕ) → AllByRecursion HasEnds ds → at < space_count (extents ds)
    → map (subscript_by (element_index (copy_shape (extents ds)) at)) (by_positions axes 0 (map section_value ds)) ≡ subscripts_at ds (positions (extents ds) at)
section-by-positions axes ds at ends below =
    let lt = counted (extents ds) at below in
    let tuple = tuple-is (extents ds) at lt in
    section-same axes (element_index (copy_shape (extents ds)) at) ds 0 at ends lt (λ m. (let e : 0 + m ≡ m = omega arith in
    ap (λ j. get_or (element_index (copy_shape (extents ds)) at) j (pos 0)) e ∙ ap (λ l. get_or l m (pos 0)) tuple))

-- ---- indices

small-fits : (z : ℤ) → is_at_most MAX_INDEX_VALUE z ≡ true → FitsSigned w64 z
small-fits z h = let a = leb-true (unsigned_abs z) MAX_INDEX_VALUE h in fits_signed_from_abs w64 z (omega (arith, a))

ends-of : (p : Sequence) → is_index_in_limits p ≡ true → Ends p
ends-of p h = let a = and_parts (is_at_most MAX_INDEX_VALUE p.first) _ h in (small-fits p.first a.0, small-fits (nth p (pos p.count)) a.1)

-- the index at a place takes at its position its value
index-same : (axes : List Sequence) (at k : ℕ) → list_all is_index_in_limits axes ≡ true → at < product (index_extents axes) → (factor offset : ℤ)
    → subscript_by (positions (index_extents axes) at) (by_linear axes (Some k) factor offset) ≡ linear_at (indices_at axes at) (Some k) factor offset
index-same axes at k limits below factor offset =
    linear_of_linear factor offset (get_or axes k none_taken).step ((get_or axes k none_taken).first -ℤ (get_or axes k none_taken).step) (get_or (positions (index_extents axes) at) k (pos 0))
    ∙ ap (λ v. (factor *ℤ v) +ℤ offset) (by axes at k limits below)
  where
    by : (axes : List Sequence) (at k : ℕ) → list_all is_index_in_limits axes ≡ true → at < product (index_extents axes)
        → ((get_or axes k none_taken).step *ℤ get_or (positions (index_extents axes) at) k (pos 0)) +ℤ ((get_or axes k none_taken).first -ℤ (get_or axes k none_taken).step)
        ≡ index_value (indices_at axes at) k
    by [] at k limits below = refl
    by (p ∷ axes) at zero limits below =
        let some = first-some p.count (index_extents axes) at below in
        let small : at % p.count < p.count = mod_below at p.count some.0 in
        let a = and_parts (is_index_in_limits p) _ limits in
        sym (value-is p (suc (at % p.count)) (omega arith) (omega (arith, small)) (ends-of p a.0))
    by (p ∷ axes) at (suc k) limits below =
        let some = first-some p.count (index_extents axes) at below in
        let a = and_parts (is_index_in_limits p) _ limits in
        by axes (at / p.count) k a.1 some.1

form-same : (axes : List Sequence) (k : Option ℕ) (factor offset : ℤ) (at : ℕ) → list_all is_index_in_limits axes ≡ true → at < product (index_extents axes)
    → subscript_by (positions (index_extents axes) at) (by_linear axes k factor offset) ≡ linear_at (indices_at axes at) k factor offset
form-same axes None factor offset at limits below = refl
form-same axes (Some k) factor offset at limits below = index-same axes at k limits below factor offset

pub form-by-positions : (axes : List Sequence) (x : Linear) (at : ℕ) → list_all is_index_in_limits axes ≡ true → at < space_count (index_extents axes)
    → subscript_by (element_index (copy_shape (index_extents axes)) at) (by_linear axes x.index x.factor x.offset) ≡ linear_at (indices_at axes at) x.index x.factor x.offset
form-by-positions axes x at limits below =
    let lt = counted (index_extents axes) at below in
    ap (λ ps. subscript_by ps (by_linear axes x.index x.factor x.offset)) (tuple-is (index_extents axes) at lt)
    ∙ form-same axes x.index x.factor x.offset at limits lt

-- ---- expressions

-- the values of indices are in the limits, too
index-small : (axes : List Sequence) (at k : ℕ) → list_all is_index_in_limits axes ≡ true → at < product (index_extents axes)
    → unsigned_abs (index_value (indices_at axes at) k) ≤ MAX_INDEX_VALUE
index-small [] at k limits below = omega arith
index-small (p ∷ axes) at zero limits below =
    let some = first-some p.count (index_extents axes) at below in
    let small : at % p.count < p.count = mod_below at p.count some.0 in
    let a = and_parts (is_index_in_limits p) _ limits in
    let b = and_parts (is_at_most MAX_INDEX_VALUE p.first) _ a.0 in
    let one : p.first ≡ (p.step *ℤ pos 1) +ℤ (p.first -ℤ p.step) = omega (arith, ints) in
    let from = within_magnitude p.first MAX_INDEX_VALUE (leb-true (unsigned_abs p.first) MAX_INDEX_VALUE b.0) in
    let to = within_magnitude (nth p (pos p.count)) MAX_INDEX_VALUE (leb-true (unsigned_abs (nth p (pos p.count))) MAX_INDEX_VALUE b.1) in
    let last = nth-is p p.count in
    let c = between (negsuc 2199023255551) (pos 2199023255553) p.step (p.first -ℤ p.step) p.count (suc (at % p.count)) (omega arith) (omega (arith, small))
    (let z = from.0 in omega (arith, ints, one, z)) (let z = from.1 in omega (arith, ints, one, z)) (let z = to.0 in omega (arith, ints, last, z)) (let z = to.1 in omega (arith, ints, last, z)) in
    subst (λ v. unsigned_abs v ≤ MAX_INDEX_VALUE) (sym (value-is p (suc (at % p.count)) (omega arith) (omega (arith, small)) (ends-of p a.0)))
    (magnitude (straight p (suc (at % p.count))) c.0 c.1)
  where
    magnitude : (z : ℤ) → negsuc 2199023255551 ≤ℤ z → z <ℤ pos 2199023255553 → unsigned_abs z ≤ MAX_INDEX_VALUE
    magnitude (pos n) low high = omega (arith, ints, high)
    magnitude (negsuc n) low high = omega (arith, ints, low)
index-small (p ∷ axes) at (suc k) limits below =
    let some = first-some p.count (index_extents axes) at below in
    let a = and_parts (is_index_in_limits p) _ limits in
    index-small axes (at / p.count) k a.1 some.1

-- a form in the limits doesn't wrap
form-fits : (f : Linear) (i : ℤ) → is_linear_in_limits f ≡ true → unsigned_abs i ≤ MAX_INDEX_VALUE → FitsSigned w64 ((f.factor *ℤ i) +ℤ f.offset)
form-fits f i h small =
    let a = and_parts (is_at_most MAX_FACTOR f.factor) _ h in
    let factor = leb-true (unsigned_abs f.factor) MAX_FACTOR a.0 in
    let offset = within_magnitude f.offset MAX_OFFSET (leb-true (unsigned_abs f.offset) MAX_OFFSET a.1) in
    let size : unsigned_abs (f.factor *ℤ i) ≤ 2305843009213693952 = omega (arith, unsigned_abs-mul f.factor i, mul-le-mul factor small) in
    let product = within_magnitude (f.factor *ℤ i) 2305843009213693952 size in
    let p = product.0 in
    let q = product.1 in
    let x = offset.0 in
    let y = offset.1 in
    fits ((f.factor *ℤ i) +ℤ f.offset) (omega (arith, ints, p, x)) (omega (arith, ints, q, y))

-- the value of the index that is meant, if any
abbrev index_of : List ℤ → Option ℕ → ℤ
index_of x None = pos 0
index_of x (Some j) = index_value x j

-- a form without an index has the factor 0
flat-form : (x : List ℤ) (f : Linear) (i : ℤ) → f.factor ≡ pos 0 → f.index ≡ None → linear_at x f.index f.factor f.offset ≡ (f.factor *ℤ i) +ℤ f.offset
flat-form x f i flat none =
    let nothing : f.factor *ℤ i ≡ pos 0 = ap (λ y. y *ℤ i) flat ∙ zero-*ℤ i in
    let sum : f.offset ≡ (f.factor *ℤ i) +ℤ f.offset = omega (arith, ints, nothing) in
    ap (λ o. linear_at x o f.factor f.offset) none ∙ sum

at-form : (x : List ℤ) (k : Option ℕ) (f : Linear) → (f.index ≡ None → f.factor ≡ pos 0) → (f.index ≡ None) ⊎ (f.index ≡ k)
    → linear_at x f.index f.factor f.offset ≡ (f.factor *ℤ index_of x k) +ℤ f.offset
at-form x k f flat (inl none) = flat-form x f (index_of x k) (flat none) none
at-form x None f flat (inr none) = flat-form x f (pos 0) (flat none) none
at-form x (Some j) f flat (inr e) = ap (λ o. linear_at x o f.factor f.offset) e

pub value-by-positions : (s : State) (axes : List Sequence) (k : Option ℕ) (t : Term) (at : ℕ) (v : ℤ) → IsLinearIn k t → list_all is_index_in_limits axes ≡ true
    → is_linear_in_limits (linear s t) ≡ true → at < space_count (index_extents axes) → value (indices_at axes at) s t ≡ Ok v
    → subscript_by (element_index (copy_shape (index_extents axes)) at) (by_linear axes (linear s t).index (linear s t).factor (linear s t).offset) ≡ v
value-by-positions s axes k t at v ok limits small below e =
    form-by-positions axes f at limits below ∙ at-form x k f says.flat says.index ∙ by says.fits
  where
    x : List ℤ
    x = indices_at axes at

    f : Linear
    f = linear s t

    chosen : (k : Option ℕ) (j : ℕ) → k ≡ Some j → index_value x j ≡ index_of x k
    chosen k j h = ap (index_of x) (sym h)

    within : (k : Option ℕ) → unsigned_abs (index_of x k) ≤ MAX_INDEX_VALUE
    within None = omega arith
    within (Some j) = index-small axes at j limits (counted (index_extents axes) at below)

    says : Says (index_of x k) k f v
    says = form-says s x (index_of x k) k (chosen k) t ok v e

    by : (v ≡ (f.factor *ℤ index_of x k) +ℤ f.offset) ⊎ (wrapped v ≡ v) → (f.factor *ℤ index_of x k) +ℤ f.offset ≡ v
    by (inl h) = sym h
    by (inr h) = sym (sym h ∙ says.agree ∙ int_wrap_fits w64 ((f.factor *ℤ index_of x k) +ℤ f.offset) (form-fits f (index_of x k) small (within k)))
