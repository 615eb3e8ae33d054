-- The values of the subscripts on both sides.
use Rattle.std.proofs.Common.{◌≡◌, ℕ, suc, ◌+◌, ◌*◌, ◌/◌, ◌%◌, ◌^◌, ◌<◌, max, List, [], ◌∷◌, length, map, reverse, slice_index_or, ℤ, pos, ◌+ℤ◌, ◌-ℤ◌, ◌*ℤ◌, int_le, Ok, refl, sym, ap, ◌∙◌, arith}
use Rattle.std.proofs.lemmas.Int.{ints}
use Rattle.std.proofs.Math.Nat.{mod-eq_of_lt}
use Rattle.std.proofs.lemmas.List.Elements.{All-head, All-tail}
use Rattle.std.proofs.lemmas.Nat.{mod_below}
use Rattle.std.specs.Prelude.{All}
use Rattle.hpf_base.specs.ElementOrder.{product, index_at}
use Rattle.hpf_base.proofs.Places.{place_at}
use Rattle.op_tables.specs.declared.op.Op.{Op}
use Rattle.op_tables.specs.declared.op.Op.TheVariants as op
use Rattle.op_tables.specs.Operators.{modulo, truth, wrapped}
use Rattle.array_meaning.specs.Dim.{Dim}
use Rattle.array_meaning.specs.Dims.{IsDim, extent}
use Rattle.array_meaning.specs.Elementals.{operated}
use Rattle.array_meaning.specs.Expressions.{index_value, value, values}
use Rattle.array_meaning.specs.Faults.{◌>>=◌, with_more}
use Rattle.array_meaning.specs.State.{State}
use Rattle.array_meaning.specs.Terms.{Term, Number}
use Rattle.array_meaning.specs.Transformations.{shifted_place, transposed_place}
use Rattle.statement_trail.specs.TransformedElements.{above_lower, applied, from_lower, indices_from, same_places, shifted_subscripts, transposed_subscripts, turned}
use Rattle.transformed_elements.proofs.Places.{few-subscripts, first-place, fits-above, lowers, parts-of, subscripts_of}
use Rattle.transformed_elements.proofs.Shifts.{modulo-is, residue, residue-below, small, turned-number, turned-place}

-- ---- expressions

module _ (s : State) (js : List ℤ) where
  applied-is : (o : Op) (t u : Term) (a b : ℤ) → value js s t ≡ Ok a → value js s u ≡ Ok b → value js s (applied o t u) ≡ operated o (a ∷ b ∷ [])
  applied-is o t u a b h g = λ i. with_more (h i) (with_more (g i) (Ok [])) >>= operated o

  above-is : (k : ℕ) (d : Dim) (p : ℕ) → index_value js k ≡ d.lower +ℤ pos p → p < 2 ^ 62 → value js s (above_lower k d) ≡ Ok (pos p)
  above-is k d p here few =
      let rest : (d.lower +ℤ pos p) -ℤ d.lower ≡ pos p = omega (arith, ints) in
      ap (λ i. Ok (wrapped (i -ℤ d.lower))) here ∙ ap (λ z. Ok (wrapped z)) rest ∙ ap Ok (small (pos p) (omega (arith, few)))

  from-is : (e : Dim) (t : Term) (p : ℕ) → value js s t ≡ Ok (pos p) → IsDim e → p < 2 ^ 62 → value js s (from_lower e t) ≡ Ok (e.lower +ℤ pos p)
  from-is e t p here known few =
      let turn : pos p +ℤ e.lower ≡ e.lower +ℤ pos p = omega (arith, ints) in
      applied-is op.Add t (Number e.lower) (pos p) e.lower here refl ∙ ap (λ z. Ok (wrapped z)) turn ∙ ap Ok (fits-above e p known few)

  turned-is : (n : ℕ) (t : Term) (v : ℕ) → value js s t ≡ Ok (pos v) → v < n + n → n < 2 ^ 62 → value js s (turned n t) ≡ Ok (pos (v % n))
  turned-is n t v here below few =
      let test = applied op.Ge t (Number (pos n)) in
      let more = truth (int_le (pos n) (pos v)) in
      let tested : value js s test ≡ Ok more = applied-is op.Ge t (Number (pos n)) (pos v) (pos n) here refl in
      let less : value js s (applied op.Mul (Number (pos n)) test) ≡ Ok (wrapped (pos n *ℤ more)) =
      applied-is op.Mul (Number (pos n)) test (pos n) more refl tested in
      applied-is op.Sub t (applied op.Mul (Number (pos n)) test) (pos v) (wrapped (pos n *ℤ more)) here less ∙ ap Ok (turned-number n v below few)

  -- ---- indices in a row

  -- from one on the indices are these
  abbrev From : ℕ → List ℤ → Type 0
  From k is = (m : ℕ) → index_value js (k + m) ≡ index_value is m

  from-here : (k : ℕ) (i : ℤ) (is : List ℤ) → From k (i ∷ is) → index_value js k ≡ i
  from-here k i is look = let here : k ≡ k + 0 = omega arith in ap (index_value js) here ∙ look 0

  from-next : (k : ℕ) (i : ℤ) (is : List ℤ) → From k (i ∷ is) → From (suc k) is
  from-next k i is look = λ m. (let next : suc k + m ≡ k + suc m = omega arith in ap (index_value js) next ∙ look (suc m))

  indices-values : (k : ℕ) (ds : List Dim) (t : ℕ) → From k (subscripts_of ds t) → values js s (indices_from k ds) ≡ Ok (subscripts_of ds t)
  indices-values k [] t look = refl
  indices-values k (d ∷ ds) t look =
      let i = d.lower +ℤ pos (t % extent d) in
      let is = subscripts_of ds (t / extent d) in
      let first = from-here k i is look in
      let rest = indices-values (suc k) ds (t / extent d) (from-next k i is look) in
      λ i. with_more (Ok (first i)) (rest i)

  -- the same places above other lower bounds
  same-values : (k : ℕ) (ds es : List Dim) (t : ℕ) → map extent es ≡ map extent ds → All IsDim ds → All IsDim es → t < product (map extent ds)
      → From k (subscripts_of ds t) → values js s (same_places k ds es) ≡ Ok (index_at (lowers es) (place_at (map extent ds) t))
  same-values k [] [] t same known own below look = refl
  same-values k [] (e ∷ es) t same known own below look = absurd (omega (arith, ap length same))
  same-values k (d ∷ ds) [] t same known own below look = absurd (omega (arith, ap length same))
  same-values k (d ∷ ds) (e ∷ es) t same known own below look =
      let p = t % extent d in
      let i = d.lower +ℤ pos p in
      let is = subscripts_of ds (t / extent d) in
      let parts = first-place (extent d) (map extent ds) t below in
      let few : p < 2 ^ 62 = omega (arith, mod_below t (extent d) parts.0, few-subscripts d (All-head IsDim d ds known)) in
      let first = from-is e (above_lower k d) p (above-is k d p (from-here k i is look) few) (All-head IsDim e es own) few in
      let rest = same-values (suc k) ds es (t / extent d) (cc) (All-tail IsDim d ds known) (All-tail IsDim e es own) parts.1 (from-next k i is look) in
      λ i. with_more (first i) (rest i)

-- the number of places that a shift turns, by the first extent
abbrev turn : List Dim → ℤ → ℤ
turn ds k = modulo k (pos (max 1 (slice_index_or (map extent ds) 0 1)))

-- ---- both sides, at a place of the target

module _ (s : State) where
  from-start : (is : List ℤ) → From s is 0 is
  from-start is = λ m. (let none : 0 + m ≡ m = omega arith in ap (index_value is) none)

  pub left-values : (ds : List Dim) (t : ℕ) → values (subscripts_of ds t) s (indices_from 0 ds) ≡ Ok (subscripts_of ds t)
  left-values ds t = indices-values s (subscripts_of ds t) 0 ds t (from-start (subscripts_of ds t))

  -- by so many places in the first dimension
  pub shifted-values : (k : ℤ) (ds es : List Dim) (t : ℕ) → map extent es ≡ map extent ds → All IsDim ds → All IsDim es → t < product (map extent ds)
      → values (subscripts_of ds t) s (shifted_subscripts (Number (turn ds k)) ds es) ≡ Ok (subscripts_of es (shifted_place k (map extent ds) t))
  shifted-values k [] [] t same known own below = refl
  shifted-values k [] (e ∷ es) t same known own below = absurd (omega (arith, ap length same))
  shifted-values k (d ∷ ds) [] t same known own below = absurd (omega (arith, ap length same))
  shifted-values k (d ∷ ds) (e ∷ es) t same known own below =
      let n = extent d in
      let p = t % n in
      let r = residue k n in
      let u = (p + r) % n in
      let js = subscripts_of (d ∷ ds) t in
      let by = Number (turn (d ∷ ds) k) in
      let moved = applied op.Add (above_lower 0 d) by in
      let parts = first-place n (map extent ds) t below in
      let low : p < n = mod_below t n parts.0 in
      let turns : r < n = residue-below k n parts.0 in
      let u-low : u < n = mod_below (p + r) n parts.0 in
      let few : n < 2 ^ 62 = few-subscripts d (All-head IsDim d ds known) in
      let one : max 1 n ≡ n = (let some = parts.0 in omega (arith, some)) in
      let number : value js s by ≡ Ok (pos r) = ap Ok (ap (λ m. modulo k (pos m)) one ∙ modulo-is k n parts.0) in
      let above = above-is s js 0 d p refl (omega (arith, low, few)) in
      let sum : value js s moved ≡ Ok (pos (p + r)) =
      applied-is s js op.Add (above_lower 0 d) by (pos p) (pos r) above number ∙ ap Ok (small (pos (p + r)) (omega (arith, low, turns, few))) in
      let first = from-is s js e (turned n moved) u (turned-is s js n moved (p + r) sum (omega (arith, low, turns)) few) (All-head IsDim e es own)
      (omega (arith, u-low, few)) in
      let rest = same-values s js 1 ds es (t / n) (cc) (All-tail IsDim d ds known) (All-tail IsDim e es own) parts.1
      (from-next s js 0 (d.lower +ℤ pos p) (subscripts_of ds (t / n)) (from-start js)) in
      let place : shifted_place k (map extent (d ∷ ds)) t ≡ u + n * (t / n) = ap (λ m. m + n * (t / n)) (turned-place k n p low) in
      let both = parts-of n u (t / n) u-low in
      (λ i. with_more (first i) (rest i))
      ∙ ap Ok (sym (ap (λ ns. index_at (lowers (e ∷ es)) (place_at ns (shifted_place k (map extent (d ∷ ds)) t))) same
      ∙ ap (λ v. index_at (lowers (e ∷ es)) (place_at (map extent (d ∷ ds)) v)) place
      ∙ (λ i. (e.lower +ℤ pos (both.0 i)) ∷ index_at (lowers es) (place_at (map extent ds) (both.1 i)))))

  -- by the places of each other's dimension
  pub transposed-values : (ds es : List Dim) (t : ℕ) → reverse (map extent es) ≡ map extent ds → length ds ≡ 2 → length es ≡ length ds
      → All IsDim ds → All IsDim es → t < product (map extent ds)
      → values (subscripts_of ds t) s (transposed_subscripts ds es) ≡ Ok (subscripts_of es (transposed_place (map extent ds) t))
  transposed-values (d ∷ d' ∷ []) (e ∷ e' ∷ []) t same two even known own below =
      let js = subscripts_of (d ∷ d' ∷ []) t in
      let m = extent d in
      let n = extent d' in
      let p = t % m in
      let q = t / m in
      let parts = first-place m (n ∷ []) t below in
      let row : q < n = (let h = parts.1 in omega (arith, h)) in
      let low : p < m = mod_below t m parts.0 in
      let few = few-subscripts d (All-head IsDim d (d' ∷ []) known) in
      let few' = few-subscripts d' (All-head IsDim d' [] (All-tail IsDim d (d' ∷ []) known)) in
      let second : q % n ≡ q = mod-eq_of_lt row in
      let above' = above-is s js 1 d' q (ap (λ v. d'.lower +ℤ pos v) second) (omega (arith, row, few')) in
      let above = above-is s js 0 d p refl (omega (arith, low, few)) in
      let first = from-is s js e (above_lower 1 d') q above' (All-head IsDim e (e' ∷ []) own) (omega (arith, row, few')) in
      let last = from-is s js e' (above_lower 0 d) p above (All-head IsDim e' [] (All-tail IsDim e (e' ∷ []) own)) (omega (arith, low, few)) in
      let other : map extent (e ∷ e' ∷ []) ≡ n ∷ m ∷ [] = ap reverse same in
      let halves = parts-of n q p row in
      (λ i. with_more (first i) (with_more (last i) (Ok [])))
      ∙ ap Ok (sym (ap (λ ns. index_at (lowers (e ∷ e' ∷ [])) (place_at ns (q + n * p))) other
      ∙ (λ i. (e.lower +ℤ pos (halves.0 i)) ∷ (e'.lower +ℤ pos (halves.1 i % m)) ∷ [])
      ∙ ap (λ v. (e.lower +ℤ pos q) ∷ (e'.lower +ℤ pos v) ∷ []) (mod-eq_of_lt low)))
  transposed-values [] es t same two even known own below = absurd (omega (arith, two))
  transposed-values (d ∷ []) es t same two even known own below = absurd (omega (arith, two))
  transposed-values (d ∷ d' ∷ d'' ∷ ds) es t same two even known own below = absurd (omega (arith, two))
  transposed-values ds es t same two even known own below = absurd (omega (arith, two, even))
