-- Linear subscripts of a FORALL.
use Rattle.std.proofs.Common.{◌≡◌, ℕ, zero, suc, ◌-◌, ◌/◌, ◌%◌, ◌==◌, ◌<◌, ◌≤◌, if◌then◌else◌, List, [], ◌∷◌, map, ℤ, pos, ◌+ℤ◌, ◌-ℤ◌, ◌*ℤ◌, slice_index_or, Option, Some, None, Ok, refl, sym, ◌∙◌, ap, arith}
use Rattle.std.proofs.lemmas.Int.{ints}
use Rattle.std.proofs.lemmas.Bool.{eqb-true}
use Rattle.std.proofs.lemmas.Nat.{div_below}
use Rattle.std.proofs.lemmas.Option.{none-some, cond_some, same_Some}
use Rattle.std.proofs.Math.Nat.{mod-lt}
use Rattle.hpf_base.specs.ElementOrder.{product}
use Rattle.hpf_base.proofs.Integers.{linear_of_linear}
use Rattle.op_tables.specs.declared.op.Op.{Op}
use Rattle.op_tables.specs.declared.op.Op.TheVariants as op
use Rattle.op_tables.specs.Operators.{wrapped, operator_value}
use Rattle.array_meaning.specs.Elementals.{operated, unless_zero}
use Rattle.array_meaning.specs.Expressions.{index_value}
use Rattle.array_meaning.specs.Faults.{◌>>=◌, with_more}
use Rattle.node_code.specs.Flat.{Flat, Int, Slot, Axis, Read, Operated, Flats, NoFlat, AndFlat}
use Rattle.code_meaning.specs.Flat.{flat_value, flat_values}
use Rattle.axis_products.specs.Products.{places_at}
use Rattle.axis_products.proofs.Products.{some_factor}
use Rattle.courses.specs.Courses.{Course, Fixed, Moving, course_at, courses_at, is_small, are_small, along}
use Rattle.courses.specs.StraightForms.{AllFit, Straight, Constant, Sloped, straight_value, constant, and_number, numbers, sloped_by, straight_by, and_straight, by_operands, straight, straights, sloped_course, straight_course, course_if, flat_course}
use Rattle.courses.proofs.Sections.{both, small, between, along-is}
use Rattle.courses.proofs.Sums.{alone, negated, added_number, added_to_number, added, less_number, number_less, less, times_number, number_times}

pub same : {A : Type 0} {x y : A} → Some x ≡ Some y → x ≡ y
same {x = x} {y = y} e = same_Some x y e

module _ (slots indices : List ℤ) (fit : AllFit indices) where
  abbrev sv : Straight → ℤ
  sv x = straight_value indices x

  abbrev at : ℕ → ℤ
  at k = index_value indices k

  and-number : (x : Straight) (r : Option (List ℤ)) (vs : List ℤ) → and_number x r ≡ Some vs → (w : ℤ) × (ws : List ℤ) × (r ≡ Some ws) × (x ≡ Constant w) × (w ∷ ws ≡ vs)
  and-number (Constant w) (Some ws) vs e = (w, ws, refl, refl, same e)
  and-number (Constant w) None vs e = absurd (none-some vs e)
  and-number (Sloped k f o) r vs e = absurd (none-some vs e)

  numbers-are : (xs : List Straight) (vs : List ℤ) → numbers xs ≡ Some vs → map sv xs ≡ vs
  numbers-are [] vs e = same e
  numbers-are (x ∷ xs) vs e =
      let h = and-number x (numbers xs) vs e in
      ap (λ y. sv y ∷ map sv xs) h.3 ∙ ap (λ ws. h.0 ∷ ws) (numbers-are xs h.1 h.2) ∙ h.4

  pair : (k j : ℕ) (f o g p : ℤ) (x y : Straight) → (if k == j then Some x else None) ≡ Some y → (k ≡ j) × (x ≡ y)
  pair k j f o g p x y e = let h = cond_some (k == j) x y e in (eqb-true k j h.0, h.1)

  -- a sign, a sum or a product
  sloped-is : (o : Op) (xs : List Straight) (x : Straight) → sloped_by o xs ≡ Some x → operated o (map sv xs) ≡ Ok (sv x)
  sloped-is op.Plus (y ∷ []) x e = ap (λ z. Ok (sv z)) (same e)
  sloped-is op.Neg (Sloped k f o ∷ []) x e = ap Ok (negated (at k) f o) ∙ ap (λ z. Ok (sv z)) (same e)
  sloped-is op.Add (Sloped k f o ∷ Constant b ∷ []) x e = ap Ok (added_number (at k) f o b) ∙ ap (λ z. Ok (sv z)) (same e)
  sloped-is op.Add (Constant a ∷ Sloped k f o ∷ []) x e = ap Ok (added_to_number (at k) a f o) ∙ ap (λ z. Ok (sv z)) (same e)
  sloped-is op.Add (Sloped k f o ∷ Sloped j g p ∷ []) x e =
      let h = pair k j f o g p (Sloped k (wrapped (f +ℤ g)) (wrapped (o +ℤ p))) x e in
      ap (λ m. Ok (wrapped (sv (Sloped k f o) +ℤ sv (Sloped m g p)))) (sym h.0) ∙ ap Ok (added (at k) f o g p) ∙ ap (λ z. Ok (sv z)) h.1
  sloped-is op.Sub (Sloped k f o ∷ Constant b ∷ []) x e = ap Ok (less_number (at k) f o b) ∙ ap (λ z. Ok (sv z)) (same e)
  sloped-is op.Sub (Constant a ∷ Sloped k f o ∷ []) x e = ap Ok (number_less (at k) a f o) ∙ ap (λ z. Ok (sv z)) (same e)
  sloped-is op.Sub (Sloped k f o ∷ Sloped j g p ∷ []) x e =
      let h = pair k j f o g p (Sloped k (wrapped (f -ℤ g)) (wrapped (o -ℤ p))) x e in
      ap (λ m. Ok (wrapped (sv (Sloped k f o) -ℤ sv (Sloped m g p)))) (sym h.0) ∙ ap Ok (less (at k) f o g p) ∙ ap (λ z. Ok (sv z)) h.1
  sloped-is op.Mul (Sloped k f o ∷ Constant b ∷ []) x e = ap Ok (times_number (at k) f o b) ∙ ap (λ z. Ok (sv z)) (same e)
  sloped-is op.Mul (Constant a ∷ Sloped k f o ∷ []) x e = ap Ok (number_times (at k) a f o) ∙ ap (λ z. Ok (sv z)) (same e)
  sloped-is o xs x e = absurd (none-some x e)

  operation-is : (o : Op) (xs : List Straight) (r : Option (List ℤ)) (x : Straight) → numbers xs ≡ r → straight_by o xs r ≡ Some x → operated o (map sv xs) ≡ Ok (sv x)
  operation-is o xs (Some vs) x n e = ap (operated o) (numbers-are xs vs n) ∙ by_value (operator_value o vs) e
    where
      by_value : (v : Option ℤ) → constant v ≡ Some x → unless_zero v ≡ Ok (sv x)
      by_value None e = absurd (none-some x e)
      by_value (Some v) e = ap (λ z. Ok (sv z)) (same e)
  operation-is o xs None x n e = sloped-is o xs x e

  and-straight : (r : Option Straight) (rs : Option (List Straight)) (xs : List Straight) → and_straight r rs ≡ Some xs
      → (y : Straight) × (ys : List Straight) × (r ≡ Some y) × (rs ≡ Some ys) × (y ∷ ys ≡ xs)
  and-straight (Some y) (Some ys) xs e = (y, ys, refl, refl, same e)
  and-straight (Some y) None xs e = absurd (none-some xs e)
  and-straight None rs xs e = absurd (none-some xs e)

  mutual
    value-is : (f : Flat) (x : Straight) → straight slots f ≡ Some x → flat_value slots indices [] f ≡ Ok (sv x)
    value-is (Int v) x e = ap (λ z. Ok (sv z)) (same e)
    value-is (Slot k) x e = ap (λ z. Ok (sv z)) (same e)
    value-is (Axis k) x e = ap Ok (alone (at k) (fit k)) ∙ ap (λ z. Ok (sv z)) (same e)
    value-is (Read k) x e = absurd (none-some x e)
    value-is (Operated o fs) x e = by_parts (straights slots fs) refl (λ xs is. values-are fs xs is) e
      where
        by_parts : (r : Option (List Straight)) → straights slots fs ≡ r
            → ((xs : List Straight) → straights slots fs ≡ Some xs → flat_values slots indices [] fs ≡ Ok (map sv xs)) → by_operands o r ≡ Some x
            → (flat_values slots indices [] fs >>= operated o) ≡ Ok (sv x)
        by_parts None is h e = absurd (none-some x e)
        by_parts (Some xs) is h e = ap (λ q. q >>= operated o) (h xs is) ∙ operation-is o xs (numbers xs) x refl e

    values-are : (fs : Flats) (xs : List Straight) → straights slots fs ≡ Some xs → flat_values slots indices [] fs ≡ Ok (map sv xs)
    values-are NoFlat xs e = ap (λ zs. Ok (map sv zs)) (same e)
    values-are (AndFlat f fs) xs e =
        let h = and-straight (straight slots f) (straights slots fs) xs e in
        ap (λ q. with_more q (flat_values slots indices [] fs)) (value-is f h.0 h.2) ∙ ap (with_more (Ok (sv h.0))) (values-are fs h.1 h.3)
        ∙ ap (λ zs. Ok (map sv zs)) h.4

-- an expression that is linear in one index at most has the value of its form
pub values : (slots indices : List ℤ) (f : Flat) (x : Straight) → AllFit indices → straight slots f ≡ Some x → flat_value slots indices [] f ≡ Ok (straight_value indices x)
values slots indices f x fit e = value-is slots indices fit f x e

-- ---- courses

pub inside : (ns : List ℕ) (t axis : ℕ) → t < product ns → slice_index_or (places_at ns t) axis 0 ≤ slice_index_or ns axis 0 - 1
inside [] t axis below = omega arith
inside (n ∷ ns) t zero below = let h : t % n < n = mod-lt t (some_factor n (product ns) t below) in omega (arith, h)
inside (n ∷ ns) t (suc axis) below = inside ns (t / n) axis (div_below t n (product ns) (some_factor n (product ns) t below) (omega (arith, below)))

index-map : (places : List ℕ) (cs : List Course) (k : ℕ) → index_value (courses_at places cs) k ≡ course_at places (slice_index_or cs k (Fixed (pos 0)))
index-map places [] k = refl
index-map places (c ∷ cs) zero = refl
index-map places (c ∷ cs) (suc k) = index-map places cs k

module _ (ns : List ℕ) (t : ℕ) (below : t < product ns) where
  abbrev places : List ℕ
  places = places_at ns t

  sloped-course : (f o : ℤ) (d c : Course) → sloped_course ns f o d ≡ Some c → wrapped ((f *ℤ course_at places d) +ℤ o) ≡ course_at places c
  sloped-course f o (Fixed i) c e = ap (course_at places) (same e)
  sloped-course f o (Moving axis first step) c e =
      let n = slice_index_or ns axis 0 in
      let x = slice_index_or places axis 0 in
      let h = cond_some (are_small n ((f *ℤ first) +ℤ o) (f *ℤ step)) (along axis n ((f *ℤ first) +ℤ o) (f *ℤ step)) c e in
      let ends = both (is_small ((f *ℤ first) +ℤ o)) (is_small (((f *ℤ first) +ℤ o) +ℤ ((f *ℤ step) *ℤ pos (n - 1)))) h.0 in
      let in_range = inside ns t axis below in
      let fits = between ((f *ℤ first) +ℤ o) (f *ℤ step) (n - 1) x in_range ends.0 ends.1 in
      ap wrapped (moved (pos x) (linear_of_linear f o step first (pos x))) ∙ small (((f *ℤ first) +ℤ o) +ℤ ((f *ℤ step) *ℤ pos x)) fits
      ∙ sym (along-is places axis n ((f *ℤ first) +ℤ o) (f *ℤ step) in_range) ∙ ap (course_at places) h.1
    where
      moved : (x : ℤ) → ((f *ℤ step) *ℤ x) +ℤ ((f *ℤ first) +ℤ o) ≡ (f *ℤ ((step *ℤ x) +ℤ first)) +ℤ o
          → (f *ℤ (first +ℤ (step *ℤ x))) +ℤ o ≡ ((f *ℤ first) +ℤ o) +ℤ ((f *ℤ step) *ℤ x)
      moved x l =
          let turn : first +ℤ (step *ℤ x) ≡ (step *ℤ x) +ℤ first = omega (arith, ints) in
          ap (λ z. (f *ℤ z) +ℤ o) turn ∙ sym l ∙ (let swap : ((f *ℤ step) *ℤ x) +ℤ ((f *ℤ first) +ℤ o) ≡ ((f *ℤ first) +ℤ o) +ℤ ((f *ℤ step) *ℤ x) = omega (arith, ints) in swap)

  straight-course : (cs : List Course) (x : Straight) (c : Course) → straight_course ns cs x ≡ Some c → straight_value (courses_at places cs) x ≡ course_at places c
  straight-course cs (Constant v) c e = ap (course_at places) (same e)
  straight-course cs (Sloped k f o) c e =
      ap (λ i. wrapped ((f *ℤ i) +ℤ o)) (index-map places cs k) ∙ sloped-course f o (slice_index_or cs k (Fixed (pos 0))) c e

-- over a space whose indices are courses, it is one too
pub flats : (slots : List ℤ) (ns : List ℕ) (cs : List Course) (f : Flat) (c : Course) (t : ℕ) → t < product ns → AllFit (courses_at (places_at ns t) cs)
    → flat_course slots ns cs f ≡ Some c → flat_value slots (courses_at (places_at ns t) cs) [] f ≡ Ok (course_at (places_at ns t) c)
flats slots ns cs f c t below fit e = by_straight (straight slots f) refl e
  where
    by_straight : (r : Option Straight) → straight slots f ≡ r → course_if ns cs r ≡ Some c
        → flat_value slots (courses_at (places_at ns t) cs) [] f ≡ Ok (course_at (places_at ns t) c)
    by_straight None is e = absurd (none-some c e)
    by_straight (Some x) is e = values slots (courses_at (places_at ns t) cs) f x fit is ∙ ap Ok (straight-course ns t below cs x c e)
