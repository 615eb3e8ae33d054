-- No two rows of a nest lie at one place, and no marks lie where a row of the nest does.
use Rattle.std.proofs.Common.{◌≡◌, ℕ, suc, ◌+◌, ◌<◌, ◌≤◌, nat_eq, nat_lt, List, [], ◌∷◌, length, slice_index_or, Bool, true, false, Option, Some, None, if◌then◌else◌, refl, sym, ap, ◌∙◌, subst, arith}
use Rattle.std.proofs.lemmas.Bool.Decides.{nat_tests}
use Rattle.nest_syntax.specs.NestKinds.{Kind, Shared, New, Assigned, Reduced}
use Rattle.nest_machine.specs.Finals.{final_slot, NotAmong, AreApart}
use Rattle.nest_machine.specs.Placed.{IsPlace}
use Rattle.statement_trail.specs.NestParts.{index_in}
use Rattle.program_code.specs.Places.{AreDistinct, conditions_from, marks_from, place_by, place_of, is_nest_row, marks_by, marks_of, final_by, finals_from, finals_of, AreScalars}
use Rattle.nest_join.proofs.Names.{in-from}

lt-is : (a b : ℕ) → nat_lt a b ≡ true → a < b
lt-is a b e = grind (arith, nat_tests, e)

lt-not : (a b : ℕ) → nat_lt a b ≡ false → b ≤ a
lt-not a b e = grind (arith, nat_tests, e)

pub lt-so : (a b : ℕ) → a < b → nat_lt a b ≡ true
lt-so a b h = grind (arith, nat_tests, h)

some-none : {A : Type 0} (x : A) → Some x ≡ None → ⊥
some-none x e = cc

module _ (n : ℕ) (scalars : List ℕ) (conditions : ℕ) (are : AreScalars n scalars) where
  abbrev m : ℕ
  m = length scalars

  abbrev place : ℕ → ℕ
  place = place_of n scalars conditions

  abbrev is_row : ℕ → Bool
  is_row = is_nest_row n scalars conditions

  -- copies of a scalar, another name, or a condition
  pub data Lies (r : ℕ) : Type 0 where
    AsCopies : (j : ℕ) → j < m → slice_index_or scalars j 0 ≡ r → r < n → place r ≡ n + j → Lies r
    AsName : r < n → place r ≡ r → Lies r
    AsCondition : n ≤ r → place r ≡ m + r → Lies r

  lies : (r : ℕ) → Lies r
  lies r = by_index (index_in scalars 0 r) refl
    where
      by_test : (t : Bool) → nat_lt r n ≡ t → index_in scalars 0 r ≡ None → Lies r
      by_test true e none = AsName (lt-is r n e) (ap (λ o. place_by n scalars conditions o r) none ∙ ap (λ t. if t then r else m + r) e)
      by_test false e none = AsCondition (lt-not r n e) (ap (λ o. place_by n scalars conditions o r) none ∙ ap (λ t. if t then r else m + r) e)

      by_index : (o : Option ℕ) → index_in scalars 0 r ≡ o → Lies r
      by_index None e = by_test (nat_lt r n) refl e
      by_index (Some j) e =
          let q = in-from scalars 0 r j e in
          let same : q.0 ≡ j = (let z = q.1 in omega (arith, z)) in
          AsCopies j (let z = q.2 in omega (arith, z, same)) (subst (λ x. slice_index_or scalars x 0 ≡ r) same q.3) (are.below r j e)
          (ap (λ o. place_by n scalars conditions o r) e)

  pub places-apart : IsPlace place is_row
  places-apart r q of_r of_q e = by_both (lies r) (lies q)
    where
      by_both : Lies r → Lies q → r ≡ q
      by_both (AsCopies j lj at lr pr) (AsCopies i li at' lq pq) =
          let same : j ≡ i = omega (arith, e, pr, pq) in sym at ∙ ap (λ x. slice_index_or scalars x 0) same ∙ at'
      by_both (AsCopies j lj at lr pr) (AsName lq pq) = absurd (omega (arith, e, pr, pq, lq))
      by_both (AsCopies j lj at lr pr) (AsCondition lq pq) = absurd (omega (arith, e, pr, pq, lq, lj))
      by_both (AsName lr pr) (AsCopies i li at' lq pq) = absurd (omega (arith, e, pr, pq, lr))
      by_both (AsName lr pr) (AsName lq pq) = omega (arith, e, pr, pq)
      by_both (AsName lr pr) (AsCondition lq pq) = absurd (omega (arith, e, pr, pq, lr, lq))
      by_both (AsCondition lr pr) (AsCopies i li at' lq pq) = absurd (omega (arith, e, pr, pq, lr, li))
      by_both (AsCondition lr pr) (AsName lq pq) = absurd (omega (arith, e, pr, pq, lr, lq))
      by_both (AsCondition lr pr) (AsCondition lq pq) = omega (arith, e, pr, pq)

  -- stored conditions
  pub condition-place : (c : ℕ) → place (n + c) ≡ conditions_from n scalars conditions + c
  condition-place c = by_place (lies (n + c))
    where
      by_place : Lies (n + c) → place (n + c) ≡ n + m + c
      by_place (AsCopies j lj at lr pr) = absurd (omega (arith, lr))
      by_place (AsName lr pr) = absurd (omega (arith, lr))
      by_place (AsCondition lr pr) = omega (arith, pr)

  pub condition-row : (c : ℕ) → c < conditions → is_row (n + c) ≡ true
  condition-row c lt = lt-so (n + c) (n + conditions) (omega (arith, lt))

  -- names
  pub name-row : (k : ℕ) → k < n → is_row k ≡ true
  name-row k lt = lt-so k (n + conditions) (omega (arith, lt))

  pub array-place : (a : ℕ) → a < n → index_in scalars 0 a ≡ None → place a ≡ a
  array-place a lt none = ap (λ o. place_by n scalars conditions o a) none ∙ ap (λ t. if t then a else m + a) (lt-so a n lt)

  -- marks
  marks-beyond : (kind : Kind) (o : Option ℕ) (q : ℕ) → marks_by n scalars conditions kind o ≡ Some q → marks_from n scalars conditions ≤ q
  marks-beyond Shared None q e = absurd (some-none q (sym e))
  marks-beyond Shared (Some j) q e = absurd (some-none q (sym e))
  marks-beyond New None q e = absurd (some-none q (sym e))
  marks-beyond New (Some j) q e = let z : n + m + conditions + j ≡ q = cc in omega (arith, z)
  marks-beyond Assigned None q e = absurd (some-none q (sym e))
  marks-beyond Assigned (Some j) q e = let z : n + m + conditions + j ≡ q = cc in omega (arith, z)
  marks-beyond (Reduced op) None q e = absurd (some-none q (sym e))
  marks-beyond (Reduced op) (Some j) q e = absurd (some-none q (sym e))

  pub rows-before : (r : ℕ) → is_row r ≡ true → place r < marks_from n scalars conditions
  rows-before r of_row = let lt = lt-is r (n + conditions) of_row in by_place lt (lies r)
    where
      by_place : r < n + conditions → Lies r → place r < n + m + conditions
      by_place lt (AsCopies j lj at lr pr) = omega (arith, lj, pr)
      by_place lt (AsName lr pr) = omega (arith, lr, pr)
      by_place lt (AsCondition lr pr) = omega (arith, lt, pr)

  pub marks-off : (kinds : ℕ → Kind) (k q : ℕ) → marks_of n scalars conditions kinds k ≡ Some q → (r : ℕ) → is_row r ≡ true → place r ≡ q → ⊥
  marks-off kinds k q e r of_row at =
      let beyond = marks-beyond (kinds k) (index_in scalars 0 k) q e in
      let before = rows-before r of_row in
      omega (arith, beyond, before, at)

  -- copies and marks lie after the names
  pub copies-after : (k j : ℕ) → index_in scalars 0 k ≡ Some j → n ≤ place k
  copies-after k j e = let is : place k ≡ n + j = ap (λ o. place_by n scalars conditions o k) e in omega (arith, is)

  pub marks-after : (kinds : ℕ → Kind) (k q : ℕ) → marks_of n scalars conditions kinds k ≡ Some q → n ≤ q
  marks-after kinds k q e = let beyond = marks-beyond (kinds k) (index_in scalars 0 k) q e in omega (arith, beyond)

  -- ---- scalars

  module _ (kinds : ℕ → Kind) where
    pub slot-is : (kind : Kind) (j k : ℕ) → final_slot (final_by n scalars conditions kind j k) ≡ k
    slot-is Shared j k = refl
    slot-is New j k = refl
    slot-is Assigned j k = refl
    slot-is (Reduced op) j k = refl

    pub not-among : (ks : List ℕ) (i j x : ℕ) → index_in ks i x ≡ None → NotAmong x (finals_from n scalars conditions kinds j ks)
    not-among [] i j x none = tt
    not-among (k ∷ ks) i j x none = by_test (nat_eq k x) refl none (not-among ks (suc i) (suc j) x)
      where
        by_test : (t : Bool) → nat_eq k x ≡ t → (if t then Some i else index_in ks (suc i) x) ≡ None
            → (index_in ks (suc i) x ≡ None → NotAmong x (finals_from n scalars conditions kinds (suc j) ks)) → NotAmong x (finals_from n scalars conditions kinds j (k ∷ ks))
        by_test true e none next = absurd (some-none i none)
        by_test false e none next = ((λ z. let same : k ≡ x = sym (slot-is (kinds k) j k) ∙ z in grind (arith, nat_tests, e, same)), next none)

    finals-apart : (ks : List ℕ) (j : ℕ) → AreDistinct ks → AreApart (finals_from n scalars conditions kinds j ks)
    finals-apart [] j distinct = tt
    finals-apart (k ∷ ks) j distinct =
        (subst (λ x. NotAmong x (finals_from n scalars conditions kinds (suc j) ks)) (sym (slot-is (kinds k) j k)) (not-among ks 0 (suc j) k distinct.0), finals-apart ks (suc j) distinct.1)

    pub scalars-apart : AreApart (finals_of n scalars conditions kinds)
    scalars-apart = finals-apart scalars 0 are.distinct
