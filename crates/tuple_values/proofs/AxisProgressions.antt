-- On the tuples of a row each entry goes by equal steps, in 64 bits.
use Rattle.std.proofs.Common.{◌≡◌, ℕ, zero, suc, ◌+◌, ◌-◌, ◌*◌, ◌/◌, ◌%◌, ◌<◌, ◌≤◌, Option, Some, None, List, [], ◌∷◌, ◌++◌, append_assoc, map, ℤ, pos, ◌+ℤ◌, ◌-ℤ◌, ◌*ℤ◌, refl, ap, sym, subst, ◌∙◌, arith, w64}
use Rattle.std.specs.List.{range_with_len}
use Rattle.std.specs.Prelude.{slice_index_or}
use Rattle.std.proofs.lemmas.Int.{ints, int_wrap_fits, int_wrap-add_left, int_wrap-add_right, int_wrap-sub_right}
use Rattle.std.proofs.Math.IntN.{zero-*ℤ}
use Rattle.std.proofs.Math.Nat.{mul-le-mul_right}
use Rattle.std.proofs.lemmas.Nat.{div-mul-add, mod-mul-add}
use Rattle.hpf_base.proofs.Integers.{sum-*ℤ}
use Rattle.op_tables.specs.Operators.{wrapped}
use Rattle.array_meaning.specs.declared.sections.Selection.{Selection}
use Rattle.array_meaning.specs.declared.sections.Selection.TheVariants.{At, Along}
use Rattle.array_meaning.specs.Sections.{nth, positions, subscripts_at}
use Rattle.courses.specs.Entries.{axes_in, entries_in}
use Rattle.tuple_values.specs.declared.strips.Strip.{Strip}
use Rattle.tuple_values.specs.FormStrips.{entries_in_strip}
use Rattle.tuple_values.specs.Progressions.{progressed}
use Rattle.tuple_values.specs.Statements.{Statement, entries}
use Rattle.tuple_values.specs.Strips.{IsInRow, strip_tuple}

-- ---- numbers of 64 bits

-- one number more
pub progressed-next : (vs us : List ℤ) (next more step : ℤ) (count k : ℕ) (all : List ℤ) → k < count → us ≡ vs ++ next ∷ [] → more ≡ wrapped (next +ℤ step)
    → vs ++ progressed next step (count - k) ≡ all → us ++ progressed more step (count - (k + 1)) ≡ all
progressed-next vs us next more step count k all lt pushed is so_far =
    let left : count - k ≡ suc (count - (k + 1)) = omega (arith, lt) in
    (λ i. pushed i ++ progressed (is i) step (count - (k + 1))) ∙ append_assoc vs (next ∷ []) (progressed (wrapped (next +ℤ step)) step (count - (k + 1)))
    ∙ ap (λ n. vs ++ progressed next step n) (sym left) ∙ so_far

-- a number that is the same each time
stays : (c : ℤ) → wrapped c ≡ c → wrapped (c +ℤ wrapped (c -ℤ c)) ≡ c
stays c fits =
    let none : c +ℤ (c -ℤ c) ≡ c = omega (arith, ints) in
    int_wrap-add_right w64 c (c -ℤ c) ∙ ap wrapped none ∙ fits

-- a sum of numbers that were wrapped
all-wrapped : (x a b : ℤ) → wrapped (wrapped x +ℤ wrapped (wrapped a -ℤ wrapped b)) ≡ wrapped ((x +ℤ a) -ℤ b)
all-wrapped x a b =
    let one : x +ℤ (wrapped a -ℤ wrapped b) ≡ (x -ℤ wrapped b) +ℤ wrapped a = omega (arith, ints) in
    let two : (x -ℤ wrapped b) +ℤ a ≡ (x +ℤ a) -ℤ wrapped b = omega (arith, ints) in
    int_wrap-add_right w64 (wrapped x) (wrapped a -ℤ wrapped b) ∙ int_wrap-add_left w64 x (wrapped a -ℤ wrapped b) ∙ ap wrapped one
    ∙ int_wrap-add_right w64 (x -ℤ wrapped b) a ∙ ap wrapped two ∙ int_wrap-sub_right w64 (x +ℤ a) b

module _ (first step : ℤ) (q d : ℕ) where
  abbrev at : ℕ → ℤ
  at j = first +ℤ (pos (suc (q + j * d)) -ℤ pos 1) *ℤ step

  apart : (m : ℕ) → (pos (suc (q + m)) -ℤ pos 1) *ℤ step ≡ pos q *ℤ step +ℤ pos m *ℤ step
  apart m =
      let one : pos (suc (q + m)) -ℤ pos 1 ≡ pos q +ℤ pos m = omega (arith, ints) in
      ap (λ z. z *ℤ step) one ∙ sum-*ℤ (pos q) (pos m) step

  moves : (j : ℕ) → (at j +ℤ at 1) -ℤ at 0 ≡ at (j + 1)
  moves j =
      let more : pos ((j + 1) * d) *ℤ step ≡ pos (j * d) *ℤ step +ℤ pos (1 * d) *ℤ step =
      ap (λ z. z *ℤ step) (let e : pos ((j + 1) * d) ≡ pos (j * d) +ℤ pos (1 * d) = omega (arith, ints) in e) ∙ sum-*ℤ (pos (j * d)) (pos (1 * d)) step in
      let zero : pos (0 * d) *ℤ step ≡ pos 0 = ap (λ z. z *ℤ step) (let e : pos (0 * d) ≡ pos 0 = omega (arith, ints) in e) ∙ zero-*ℤ step in
      let a = apart (j * d) in
      let b = apart (1 * d) in
      let c = apart (0 * d) in
      let e = apart ((j + 1) * d) in
      omega (arith, ints, more, zero, a, b, c, e)

-- ---- entries

module _ (q d : ℕ) (rest : List ℤ) where
  abbrev entry : List Selection → ℕ → ℕ → ℤ
  entry ds axis j = slice_index_or (subscripts_at ds (pos (suc (q + j * d)) ∷ rest)) axis (pos 0)

  next-entry : (ds : List Selection) (axis j : ℕ) → wrapped (entry ds axis 0) ≡ entry ds axis 0
      → wrapped (entry ds axis j +ℤ wrapped (entry ds axis 1 -ℤ entry ds axis 0)) ≡ entry ds axis (j + 1)
  next-entry [] axis j fits = stays (pos 0) fits
  next-entry (At i ∷ ds) zero j fits = stays i fits
  next-entry (At i ∷ ds) (suc axis) j fits = next-entry ds axis j fits
  next-entry (Along p ∷ ds) zero j fits = all-wrapped (at p.first p.step q d j) (at p.first p.step q d 1) (at p.first p.step q d 0) ∙ ap wrapped (moves p.first p.step q d j)
  next-entry (Along p ∷ ds) (suc axis) j fits = stays (slice_index_or (subscripts_at ds rest) axis (pos 0)) fits

  entries-are : (ds : List Selection) (axis j n : ℕ) → wrapped (entry ds axis 0) ≡ entry ds axis 0
      → progressed (entry ds axis j) (wrapped (entry ds axis 1 -ℤ entry ds axis 0)) n ≡ map (entry ds axis) (range_with_len j n)
  entries-are ds axis j zero fits = refl
  entries-are ds axis j (suc n) fits =
      ap (λ z. entry ds axis j ∷ progressed z (wrapped (entry ds axis 1 -ℤ entry ds axis 0)) n) (next-entry ds axis j fits)
      ∙ ap (λ l. entry ds axis j ∷ l) (entries-are ds axis (j + 1) n fits)

-- ---- tuples of a row

same-map : {A : Type 0} (f g : ℕ → A) (j n : ℕ) → ((k : ℕ) → k < j + n → f k ≡ g k) → map f (range_with_len j n) ≡ map g (range_with_len j n)
same-map f g j zero same = refl
same-map f g j (suc n) same =
    (λ i. same j (omega arith) i ∷ same-map f g (j + 1) n (λ k lt. same k (omega (arith, lt))) i)

row-positions : (n : ℕ) (ns : List ℕ) (s : Strip) (j : ℕ) → IsInRow (n ∷ ns) s → j < s.count
    → pos (suc (s.first % n + j * s.step)) ∷ positions ns (s.first / n) ≡ positions (n ∷ ns) (strip_tuple s j)
row-positions n ns s j row lt =
    let last : j ≤ s.count - 1 = omega (arith, lt) in
    let most : j * s.step ≤ (s.count - 1) * s.step = mul-le-mul_right s.step last in
    let inside : s.first % n + (s.count - 1) * s.step < n = row.1 in
    let here : s.first % n + j * s.step < n = omega (arith, most, inside) in
    let is : s.first + j * s.step ≡ (s.first / n) * n + (s.first % n + j * s.step) = omega arith in
    sym (ap (positions (n ∷ ns)) is
    ∙ (λ i. pos (suc (mod-mul-add (s.first / n) n (s.first % n + j * s.step) here i)) ∷ positions ns (div-mul-add (s.first / n) n (s.first % n + j * s.step) here i)))

module _ (s : Strip) (axis : ℕ) where
  abbrev seen : Option (List Selection) → List ℕ → ℕ → ℤ
  seen indices ns j = slice_index_or (axes_in indices (entries_in indices ns (strip_tuple s j))) axis (pos 0)

  seen-are : (indices : Option (List Selection)) (ns : List ℕ) → IsInRow ns s → wrapped (seen indices ns 0) ≡ seen indices ns 0
      → progressed (seen indices ns 0) (wrapped (seen indices ns 1 -ℤ seen indices ns 0)) s.count ≡ map (seen indices ns) (range_with_len 0 s.count)
  seen-are None ns row fits = entries-are 0 0 [] [] axis 0 s.count fits
  seen-are (Some ds) [] row fits = absurd row
  seen-are (Some ds) (n ∷ ns) row fits =
      let q : ℕ = s.first % n in
      let rest : List ℤ = positions ns (s.first / n) in
      let two : 1 < s.count = row.0 in
      let is : (j : ℕ) → j < s.count → entry (s.first % n) s.step (positions ns (s.first / n)) ds axis j ≡ seen (Some ds) (n ∷ ns) j =
      λ j lt. ap (λ x. slice_index_or (subscripts_at ds x) axis (pos 0)) (row-positions n ns s j row lt) in
      let first = is 0 (omega (arith, two)) in
      (λ i. progressed (sym first i) (wrapped (sym (is 1 two) i -ℤ sym first i)) s.count)
      ∙ entries-are (s.first % n) s.step (positions ns (s.first / n)) ds axis 0 s.count (subst (λ z. wrapped z ≡ z) (sym first) fits)
      ∙ same-map (entry (s.first % n) s.step (positions ns (s.first / n)) ds axis) (seen (Some ds) (n ∷ ns)) 0 s.count (λ k lt. is k (omega (arith, lt)))

  -- by what is seen at the first two tuples
  pub axis_is : (w : Statement) (u v : ℤ) (vs : List ℤ) → IsInRow w.extents s → u ≡ slice_index_or (axes_in w.indices (entries w s.first)) axis (pos 0)
      → v ≡ slice_index_or (axes_in w.indices (entries w (s.first + s.step))) axis (pos 0) → wrapped u ≡ u → vs ≡ progressed u (wrapped (v -ℤ u)) s.count
      → vs ≡ map (λ k. slice_index_or (axes_in w.indices (entries_in_strip w s k)) axis (pos 0)) (range_with_len 0 s.count)
  axis_is w u v vs row first second fits is =
      let zero : s.first ≡ strip_tuple s 0 = omega arith in
      let one : s.first + s.step ≡ strip_tuple s 1 = omega arith in
      let at_first : u ≡ seen w.indices w.extents 0 = first ∙ ap (λ t. slice_index_or (axes_in w.indices (entries w t)) axis (pos 0)) zero in
      let at_second : v ≡ seen w.indices w.extents 1 = second ∙ ap (λ t. slice_index_or (axes_in w.indices (entries w t)) axis (pos 0)) one in
      is ∙ (λ i. progressed (at_first i) (wrapped (at_second i -ℤ at_first i)) s.count)
      ∙ seen-are w.indices w.extents row (subst (λ z. wrapped z ≡ z) at_first fits)
