-- The first clash is the first of all.
use Rattle.std.proofs.Common.{◌≡◌, ℕ, zero, suc, ◌<◌, ◌≤◌, List, [], ◌∷◌, Bool, true, false, ◌&&◌, ◌||◌, if◌then◌else◌, nat_eq, nat_lt, Option, Some, None, refl, ap, ap₂, sym, ◌∙◌, subst, arith, ◌⊎◌, inl, inr, ⊎_elim, Contains, true≢false}
use Rattle.std.specs.List.{list_any}
use Rattle.std.specs.Option.{option_or}
use Rattle.std.specs.Prelude.{option_map}
use Rattle.std.proofs.lemmas.Bool.Decides.{nat_tests}
use Rattle.std.proofs.lemmas.Bool.{cases_eq, cases_lt, and_parts, or_cases}
use Rattle.array_meaning.specs.Touches.{Touch}
use Rattle.array_meaning.specs.Clashes.{meets, is_before, first_touch, in_common, Clash, clash_in, clash_of, first_of, first_clash}
use Rattle.nest_clash.specs.FirstClash.{InterfereIn, IsFirst, IsFirstClash}
use Rattle.nest_clash.proofs.Lists.{nothing_in, by_cases, if_so, if_not, some_met, none_of}

-- the first number at which there is one
record Found {A : Type 0} (n : ℕ) (f : ℕ → Option A) (x : A) : Type 0 where
  at : ℕ
  below : at < n
  is : f at ≡ Some x
  none : (j : ℕ) → j < at → f j ≡ None

-- of the first n, or of the next one
found_more : {A : Type 0} (n : ℕ) (f : ℕ → Option A) (x : A) (r : Option A) → first_of n f ≡ r → (first_of n f ≡ Some x → Found n f x) → first_of (suc n) f ≡ Some x → Found (suc n) f x
found_more n f x None z again e = record { at = n; below = omega arith; is = sym (ap (λ q. option_or q (f n)) z) ∙ e; none = λ j lt. none_of n f z j lt }
found_more n f x (Some y) z again e =
    let same : Some y ≡ Some x = sym (ap (λ q. option_or q (f n)) z) ∙ e in
    let h = again (z ∙ same) in record { at = h.at; below = omega (arith, h.below); is = h.is; none = h.none }

found : {A : Type 0} (n : ℕ) (f : ℕ → Option A) (x : A) → first_of n f ≡ Some x → Found n f x
found zero f x e = absurd cc
found (suc n) f x e = found_more n f x (first_of n f) refl (found n f x) e

-- the first of a list of touches
abbrev NotBelow : Touch → Touch → Type 0
NotBelow x y = (x.name < y.name) ⊎ ((x.name ≡ y.name) × (x.place ≤ y.place))

before_is : (x y : Touch) → is_before x y ≡ true → (x.name < y.name) ⊎ ((x.name ≡ y.name) × (x.place < y.place))
before_is x y e = ⊎_elim
    (λ l. let lt : x.name < y.name = grind (arith, nat_tests) in inl lt)
    (λ r. let p = and_parts (nat_eq x.name y.name) (nat_lt x.place y.place) r in
    let same : x.name ≡ y.name = let z = p.0 in grind (arith, nat_tests) in
    let lt : x.place < y.place = let z = p.1 in grind (arith, nat_tests) in inr (same, lt))
    (or_cases (nat_lt x.name y.name) (nat_eq x.name y.name && nat_lt x.place y.place) e)

not_before : (x y : Touch) → is_before y x ≡ false → NotBelow x y
not_before x y e = ⊎_elim
    (λ lt. let t : nat_lt y.name x.name ≡ true = grind (arith, nat_tests) in
    absurd (true≢false (sym (ap (λ b. b || (nat_eq y.name x.name && nat_lt y.place x.place)) t) ∙ e)))
    (λ le. ⊎_elim
    (λ same. ⊎_elim
    (λ lt. let t : nat_lt y.place x.place ≡ true = grind (arith, nat_tests) in
    let s : nat_eq y.name x.name ≡ true = grind (arith, nat_tests) in
    absurd (true≢false (sym (ap₂ (λ a b. nat_lt y.name x.name || (a && b)) s t ∙ or_true (nat_lt y.name x.name)) ∙ e)))
    (λ ge. inr (same, ge))
    (cases_lt y.place x.place))
    (λ d. let lt : x.name < y.name = omega (arith, le, d) in inl lt)
    (cases_eq x.name y.name))
    (cases_lt y.name x.name)
  where
    or_true : (b : Bool) → (b || true) ≡ true
    or_true true = refl
    or_true false = refl

through : (x y z : Touch) → NotBelow x y → NotBelow y z → NotBelow x z
through x y z h g = ⊎_elim
    (λ a. ⊎_elim (λ b. let lt : x.name < z.name = omega (arith, a, b) in inl lt) (λ b. let e : y.name ≡ z.name = b.0 in let lt : x.name < z.name = omega (arith, a, e) in inl lt) g)
    (λ a. ⊎_elim (λ b. let e : x.name ≡ y.name = a.0 in let lt : x.name < z.name = omega (arith, b, e) in inl lt)
    (λ b. let le : x.place ≤ z.place = omega (arith, a.1, b.1) in inr (a.0 ∙ b.0, le)) g)
    h

record IsFirstTouch (xs : List Touch) (x : Touch) : Type 0 where
  there : Contains xs x
  first : (y : Touch) → Contains xs y → NotBelow x y

some_same : (a b : Touch) → Some a ≡ Some b → a ≡ b
some_same a b e = cc

abbrev earlier_of : Touch → Option Touch → Touch
earlier_of a None = a
earlier_of a (Some y) = if is_before y a then y else a

self : (y : Touch) → NotBelow y y
self y = inr (refl, omega arith)

no_touch : (ys : List Touch) → first_touch ys ≡ None → ys ≡ []
no_touch [] h = refl
no_touch (y ∷ ys) h = absurd cc

either_touch : {P : Type 0} (z : Touch) (xs : List Touch) (w : Touch) → Contains (z ∷ xs) w → (z ≡ w → P) → (Contains xs w → P) → P
either_touch z xs w (zero, lt, k) f g = f k
either_touch z xs w (suc j, lt, k) f g = g (j, omega arith, k)

first_with : (z : Touch) (xs : List Touch) (r : Option Touch) → first_touch xs ≡ r → ((y : Touch) → first_touch xs ≡ Some y → IsFirstTouch xs y) → IsFirstTouch (z ∷ xs) (earlier_of z r)
first_with z xs None n again = record {
  there = (0, omega arith, refl);
  first = λ w c. either_touch z xs w c (λ k. subst (NotBelow z) k (self z)) (λ d. absurd (nothing_in w (subst (λ q. Contains q w) (no_touch xs n) d)));
}
first_with z xs (Some y) n again =
    let h = again y n in
    by_cases (is_before y z)
    (λ t. subst (IsFirstTouch (z ∷ xs)) (sym (if_so (is_before y z) y z t)) (record {
      there = let c = h.there in (suc c.0, omega (arith, c.1), c.2);
      first = λ w c. either_touch z xs w c (λ k. subst (NotBelow y) k (⊎_elim (λ l. inl l) (λ r. let lt = r.1 in let le : y.place ≤ z.place = omega (arith, lt) in inr (r.0, le)) (before_is y z t))) (h.first w);
    }))
    (λ f. subst (IsFirstTouch (z ∷ xs)) (sym (if_not (is_before y z) y z f)) (record {
      there = (0, omega arith, refl);
      first = λ w c. either_touch z xs w c (λ k. subst (NotBelow z) k (self z)) (λ d. through z y w (not_before z y f) (h.first w d));
    }))

first_as : (z : Touch) (xs : List Touch) → first_touch (z ∷ xs) ≡ Some (earlier_of z (first_touch xs))
first_as z xs = of (first_touch xs) where
  of : (r : Option Touch) → Some (earlier_of z r) ≡ Some (earlier_of z r)
  of r = refl

first_is : (xs : List Touch) (x : Touch) → first_touch xs ≡ Some x → IsFirstTouch xs x
first_is [] x e = absurd cc
first_is (z ∷ xs) x e = subst (IsFirstTouch (z ∷ xs)) (some_same (earlier_of z (first_touch xs)) x (sym (first_as z xs) ∙ e)) (first_with z xs (first_touch xs) refl (first_is xs))

-- what two iterations have in common
common_more : (z : Touch) (xs ys : List Touch) (x : Touch) → Contains xs x × (list_any (meets x) ys ≡ true) → Contains (z ∷ xs) x × (list_any (meets x) ys ≡ true)
common_more z xs ys x h = ((suc h.0.0, omega (arith, h.0.1), h.0.2), h.1)

common_is : (xs ys : List Touch) (x : Touch) → Contains (in_common xs ys) x → Contains xs x × (list_any (meets x) ys ≡ true)
common_is [] ys x c = absurd (nothing_in x c)
common_is (z ∷ xs) ys x c = by_cases (list_any (meets z) ys)
    (λ t. either_touch z (in_common xs ys) x (subst (λ q. Contains q x) (if_so (list_any (meets z) ys) (z ∷ in_common xs ys) (in_common xs ys) t) c)
    (λ e. ((0, omega arith, e), subst (λ q. list_any (meets q) ys ≡ true) e t))
    (λ d. common_more z xs ys x (common_is xs ys x d)))
    (λ f. common_more z xs ys x (common_is xs ys x (subst (λ q. Contains q x) (if_not (list_any (meets z) ys) (z ∷ in_common xs ys) (in_common xs ys) f) c)))

in_common_too : (xs ys : List Touch) (x : Touch) → Contains xs x → list_any (meets x) ys ≡ true → Contains (in_common xs ys) x
in_common_too [] ys x c t = absurd (nothing_in x c)
in_common_too (z ∷ xs) ys x c t = either_touch z xs x c
    (λ e. let tz : list_any (meets z) ys ≡ true = subst (λ q. list_any (meets q) ys ≡ true) (sym e) t in
    subst (λ q. Contains q x) (sym (if_so (list_any (meets z) ys) (z ∷ in_common xs ys) (in_common xs ys) tz)) (0, omega arith, e))
    (λ d. let rest = in_common_too xs ys x d t in by_cases (list_any (meets z) ys)
    (λ tz. subst (λ q. Contains q x) (sym (if_so (list_any (meets z) ys) (z ∷ in_common xs ys) (in_common xs ys) tz)) (suc rest.0, omega (arith, rest.1), rest.2))
    (λ f. subst (λ q. Contains q x) (sym (if_not (list_any (meets z) ys) (z ∷ in_common xs ys) (in_common xs ys) f)) rest))

met_one : (x : Touch) (ys : List Touch) → list_any (meets x) ys ≡ true → (y : Touch) × Contains ys y × (meets x y ≡ true)
met_one x [] e = absurd (true≢false (sym e))
met_one x (y ∷ ys) e = ⊎_elim
    (λ l. (y, (0, omega arith, refl), l))
    (λ r. let h = met_one x ys r in (h.0, (suc h.1.0, omega (arith, h.1.1), h.1.2), h.2))
    (or_cases (meets x y) (list_any (meets x) ys) e)

meets_are : (x y : Touch) → meets x y ≡ true → (x.name ≡ y.name) × (x.place ≡ y.place) × ((x.writes || y.writes) ≡ true)
meets_are x y e =
    let p = and_parts (nat_eq x.name y.name && nat_eq x.place y.place) (x.writes || y.writes) e in
    let q = and_parts (nat_eq x.name y.name) (nat_eq x.place y.place) p.0 in
    let name : x.name ≡ y.name = let z = q.0 in grind (arith, nat_tests) in
    let place : x.place ≡ y.place = let z = q.1 in grind (arith, nat_tests) in
    (name, place, p.1)

same_meet : (x y : Touch) → x.name ≡ y.name → x.place ≡ y.place → (x.writes || y.writes) ≡ true → meets x y ≡ true
same_meet x y name place w =
    let a : nat_eq x.name y.name ≡ true = grind (arith, nat_tests, name) in
    let b : nat_eq x.place y.place ≡ true = grind (arith, nat_tests, place) in
    ap (λ c. (c && nat_eq x.place y.place) && (x.writes || y.writes)) a ∙ ap (λ c. (true && c) && (x.writes || y.writes)) b ∙ w

-- a clash of a pair is by its first object
pair_is : (i j : ℕ) (xs : List Touch) (c : Clash) → option_map (clash_in i j) (first_touch xs) ≡ Some c → (x : Touch) × (first_touch xs ≡ Some x) × (clash_in i j x ≡ c)
pair_is i j [] c e = absurd cc
pair_is i j (z ∷ xs) c e = of (first_touch (z ∷ xs)) refl e where
  of : (r : Option Touch) → first_touch (z ∷ xs) ≡ r → option_map (clash_in i j) r ≡ Some c → (x : Touch) × (first_touch (z ∷ xs) ≡ Some x) × (clash_in i j x ≡ c)
  of None n e = absurd cc
  of (Some x) n e = (x, n, cc)

module _ (touched : ℕ → List Touch) (n : ℕ) where
  -- the pair of a clash
  record Pair (i j : ℕ) (c : Clash) : Type 0 where
    order : i < j
    object : Touch
    first : IsFirstTouch (in_common (touched i) (touched j)) object
    is : clash_in i j object ≡ c

  pair_of : (i j : ℕ) (c : Clash) → clash_of touched i j ≡ Some c → Pair i j c
  pair_of i j c e = by_cases (nat_lt i j)
      (λ t. let h = pair_is i j (in_common (touched i) (touched j)) c (sym (if_so (nat_lt i j) (option_map (clash_in i j) (first_touch (in_common (touched i) (touched j)))) None t) ∙ e) in
      record { order = grind (arith, nat_tests); object = h.0; first = first_is (in_common (touched i) (touched j)) h.0 h.1; is = h.2 })
      (λ f. let z : None ≡ Some c = sym (if_not (nat_lt i j) (option_map (clash_in i j) (first_touch (in_common (touched i) (touched j)))) None f) ∙ e in absurd cc)

  -- two that meet have something in common
  meeting : (i j name place : ℕ) → InterfereIn touched i j name place → (x : Touch) × Contains (in_common (touched i) (touched j)) x × (x.name ≡ name) × (x.place ≡ place)
  meeting i j name place m = (
    m.one,
    in_common_too (touched i) (touched j) m.one m.here
        (some_met m.one (touched j) m.other m.there (same_meet m.one m.other (m.one_is.0 ∙ sym m.other_is.0) (m.one_is.1 ∙ sym m.other_is.1) m.writes)),
    m.one_is.0,
    m.one_is.1,
  )

  some_touch : (xs : List Touch) (x : Touch) → Contains xs x → first_touch xs ≡ None → ⊥
  some_touch xs x c e = nothing_in x (subst (λ q. Contains q x) (no_touch xs e) c)

  -- so the pair has a clash
  no_meeting : (i j name place : ℕ) → i < j → clash_of touched i j ≡ None → InterfereIn touched i j name place → ⊥
  no_meeting i j name place lt e m =
      let t : nat_lt i j ≡ true = grind (arith, nat_tests) in
      let object = sym (if_so (nat_lt i j) (option_map (clash_in i j) (first_touch (in_common (touched i) (touched j)))) None t) ∙ e in
      let x = meeting i j name place m in
      some_touch (in_common (touched i) (touched j)) x.0 x.1 (no_object (first_touch (in_common (touched i) (touched j))) object)
    where
      no_object : (r : Option Touch) → option_map (clash_in i j) r ≡ None → r ≡ None
      no_object None e = refl
      no_object (Some x) e = absurd cc

  pub tells_first : (r : Option Clash) → first_clash touched n ≡ r → IsFirstClash touched n r
  tells_first None e = λ i j name place lt below m. no_meeting i j name place lt (none_of n (clash_of touched i) (none_of n (λ i. first_of n (clash_of touched i)) e i (omega (arith, lt, below))) j below) m
  tells_first (Some c) e =
      let a = found n (λ i. first_of n (clash_of touched i)) c e in
      let b = found n (clash_of touched a.at) c a.is in
      let p = pair_of a.at b.at c b.is in
      let met = common_is (touched a.at) (touched b.at) p.object p.first.there in
      let y = met_one p.object (touched b.at) met.1 in
      let is = meets_are p.object y.0 y.2 in
      subst (IsFirst touched n) p.is (record {
        order = p.order;
        below = b.below;
        interfere = record {
          one = p.object;
          other = y.0;
          here = met.0;
          there = y.1;
          one_is = (refl, refl);
          other_is = (sym is.0, sym is.1);
          writes = is.2;
        };
        first = λ i j name place lt below m. ⊎_elim
            (λ less. absurd (no_meeting i j name place lt (none_of n (clash_of touched i) (a.none i less) j below) m))
            (λ le. ⊎_elim
            (λ same. inr (
              same,
              ⊎_elim
                  (λ less. absurd (no_meeting i j name place lt (subst (λ q. clash_of touched q j ≡ None) same (b.none j less)) m))
                  (λ le'. ⊎_elim
                  (λ same'. inr (
                    same',
                    (let x = meeting i j name place m in
                        let near = p.first.first x.0 (subst (λ q. Contains (in_common (touched q) (touched b.at)) x.0) (sym same) (subst (λ q. Contains (in_common (touched i) (touched q)) x.0) (sym same') x.1)) in
                        ⊎_elim (λ l. let z : p.object.name < name = omega (arith, l, x.2) in inl z)
                        (λ r. let z : p.object.place ≤ place = omega (arith, r.1, x.3) in inr (r.0 ∙ x.2, z)) near),
                  ))
                  (λ d. let z : b.at < j = omega (arith, le', d) in inl z)
                  (cases_eq b.at j))
                  (cases_lt j b.at),
            ))
            (λ d. let z : a.at < i = omega (arith, le, d) in inl z)
            (cases_eq a.at i))
            (cases_lt i a.at);
      })
