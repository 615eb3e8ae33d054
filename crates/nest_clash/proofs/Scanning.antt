-- A pass over the objects finds the first clash.
use Rattle.std.proofs.Common.{◌≡◌, ℕ, zero, suc, ◌<◌, ◌≤◌, List, [], ◌∷◌, map, Bool, true, false, ◌&&◌, ◌||◌, if◌then◌else◌, nat_eq, nat_lt, nat_le, Option, Some, None, refl, ap, ap₂, sym, ◌∙◌, subst, arith, ◌⊎◌, inl, inr, ⊎_elim, Contains, true≢false}
use Rattle.std.specs.List.{filter}
use Rattle.std.proofs.lemmas.Bool.Decides.{nat_tests}
use Rattle.std.proofs.lemmas.Bool.{cases_eq, cases_lt, and_parts, or_cases}
use Rattle.nest_clash.specs.Visits.{Visit, Untouched, Read, Written, Met, is_touched, is_written, visit, Interfere, IsFirstPair, TellsPair}
use Rattle.nest_clash.specs.Scan.{is_sooner, better, is_object, acts_on, scan}
use Rattle.nest_clash.proofs.Visiting.{visited}
use Rattle.array_meaning.specs.Touches.{Touch}
use Rattle.array_meaning.specs.Clashes.{Clash}
use Rattle.nest_clash.specs.FirstClash.{InterfereIn, IsFirstClash}
use Rattle.nest_clash.proofs.Lists.{nothing_in, by_cases}

-- the touches that pass a test, each with whether it writes
module _ (p : Touch → Bool) where
  abbrev flags : List Touch → List Bool
  flags xs = map (λ x. x.writes) (filter p xs)

  pushed : (z : Touch) (xs : List Touch) → p z ≡ true → flags (z ∷ xs) ≡ z.writes ∷ flags xs
  pushed z xs t = ap (λ b. map (λ x. x.writes) (if b then z ∷ filter p xs else filter p xs)) t

  passed : (z : Touch) (xs : List Touch) → p z ≡ false → flags (z ∷ xs) ≡ flags xs
  passed z xs f = ap (λ b. map (λ x. x.writes) (if b then z ∷ filter p xs else filter p xs)) f

  -- a touch of the object
  some_one : (xs : List Touch) → is_touched (flags xs) ≡ true → (x : Touch) × Contains xs x × (p x ≡ true)
  some_one [] e = absurd (true≢false (sym e))
  some_one (z ∷ xs) e = by_cases (p z)
      (λ t. (z, (0, omega arith, refl), t))
      (λ f. let h = some_one xs (ap (is_touched) (sym (passed z xs f)) ∙ e) in (h.0, (suc h.1.0, omega (arith, h.1.1), h.1.2), h.2))

  one_some : (xs : List Touch) (x : Touch) → Contains xs x → p x ≡ true → is_touched (flags xs) ≡ true
  one_some [] x c t = absurd (nothing_in x c)
  one_some (z ∷ xs) x (zero, lt, e) t = ap (is_touched) (pushed z xs (ap p e ∙ t))
  one_some (z ∷ xs) x (suc k, lt, e) t = by_cases (p z)
      (λ s. ap (is_touched) (pushed z xs s))
      (λ f. ap (is_touched) (passed z xs f) ∙ one_some xs x (k, omega arith, e) t)

  -- a write of it
  some_write : (xs : List Touch) → is_written (flags xs) ≡ true → (x : Touch) × Contains xs x × (p x ≡ true) × (x.writes ≡ true)
  some_write [] e = absurd (true≢false (sym e))
  some_write (z ∷ xs) e = by_cases (p z)
      (λ t. ⊎_elim (λ w. (z, (0, omega arith, refl), t, w))
      (λ r. let h = some_write xs r in (h.0, (suc h.1.0, omega (arith, h.1.1), h.1.2), h.2, h.3))
      (or_cases z.writes (is_written (flags xs)) (ap (is_written) (sym (pushed z xs t)) ∙ e)))
      (λ f. let h = some_write xs (ap (is_written) (sym (passed z xs f)) ∙ e) in (h.0, (suc h.1.0, omega (arith, h.1.1), h.1.2), h.2, h.3))

  or_right : (a b : Bool) → b ≡ true → (a || b) ≡ true
  or_right true b e = refl
  or_right false b e = e

  one_write : (xs : List Touch) (x : Touch) → Contains xs x → p x ≡ true → x.writes ≡ true → is_written (flags xs) ≡ true
  one_write [] x c t w = absurd (nothing_in x c)
  one_write (z ∷ xs) x (zero, lt, e) t w = ap (is_written) (pushed z xs (ap p e ∙ t)) ∙ ap (λ b. b || is_written (flags xs)) (ap (λ q. q.writes) e ∙ w)
  one_write (z ∷ xs) x (suc k, lt, e) t w = by_cases (p z)
      (λ s. ap (is_written) (pushed z xs s) ∙ or_right z.writes (is_written (flags xs)) (one_write xs x (k, omega arith, e) t w))
      (λ f. ap (is_written) (passed z xs f) ∙ one_write xs x (k, omega arith, e) t w)

module _ (touched : ℕ → List Touch) (n : ℕ) (name place : ℕ → ℕ) where
  abbrev of_object : ℕ → ℕ → List Bool
  of_object o = acts_on touched name place o

  object_is : (o : ℕ) (x : Touch) → is_object touched name place o x ≡ true → (x.name ≡ name o) × (x.place ≡ place o)
  object_is o x e =
      let h = and_parts (nat_eq x.name (name o)) (nat_eq x.place (place o)) e in
      let a : x.name ≡ name o = let z = h.0 in grind (arith, nat_tests) in
      let b : x.place ≡ place o = let z = h.1 in grind (arith, nat_tests) in (a, b)

  is_of : (o : ℕ) (x : Touch) → x.name ≡ name o → x.place ≡ place o → is_object touched name place o x ≡ true
  is_of o x a b =
      let s : nat_eq x.name (name o) ≡ true = grind (arith, nat_tests, a) in
      let t : nat_eq x.place (place o) ≡ true = grind (arith, nat_tests, b) in
      ap₂ (λ u v. u && v) s t

  left : (a b : Bool) → a ≡ true → (a || b) ≡ true
  left a b e = ap (λ c. c || b) e

  right : (a b : Bool) → b ≡ true → (a || b) ≡ true
  right true b e = refl
  right false b e = e

  -- two iterations meet in an object by its acts
  to_meet : (o i j : ℕ) → Interfere (of_object o) i j → InterfereIn touched i j (name o) (place o)
  to_meet o i j m = ⊎_elim
      (λ w. let x = some_write (is_object touched name place o) (touched i) w in
      let y = some_one (is_object touched name place o) (touched j) m.1 in
      record { one = x.0; other = y.0; here = x.1; there = y.1; one_is = object_is o x.0 x.2; other_is = object_is o y.0 y.2; writes = left x.0.writes y.0.writes x.3 })
      (λ w. let x = some_one (is_object touched name place o) (touched i) m.0 in
      let y = some_write (is_object touched name place o) (touched j) w in
      record { one = x.0; other = y.0; here = x.1; there = y.1; one_is = object_is o x.0 x.2; other_is = object_is o y.0 y.2; writes = right x.0.writes y.0.writes y.3 })
      m.2

  from_meet : (o i j : ℕ) → InterfereIn touched i j (name o) (place o) → Interfere (of_object o) i j
  from_meet o i j m =
      let x = is_of o m.one m.one_is.0 m.one_is.1 in
      let y = is_of o m.other m.other_is.0 m.other_is.1 in (
        one_some (is_object touched name place o) (touched i) m.one m.here x,
        one_some (is_object touched name place o) (touched j) m.other m.there y,
        ⊎_elim
            (λ w. inl (one_write (is_object touched name place o) (touched i) m.one m.here x w))
            (λ w. inr (one_write (is_object touched name place o) (touched j) m.other m.there y w))
            (or_cases m.one.writes m.other.writes m.writes),
      )

  -- the first of the first objects
  record FirstSoFar (k : ℕ) (c : Clash) : Type 0 where
    object : ℕ
    below : object < k
    name_is : c.name ≡ name object
    place_is : c.place ≡ place object
    order : c.earlier < c.later
    inside : c.later < n
    interfere : InterfereIn touched c.earlier c.later c.name c.place
    first : (o i j : ℕ) → o < k → i < j → j < n → InterfereIn touched i j (name o) (place o)
        → (c.earlier < i) ⊎ ((c.earlier ≡ i) × ((c.later < j) ⊎ ((c.later ≡ j) × (object ≤ o))))

  abbrev SoFar : ℕ → Option Clash → Type 0
  SoFar k None = (o i j : ℕ) → o < k → i < j → j < n → InterfereIn touched i j (name o) (place o) → ⊥
  SoFar k (Some c) = FirstSoFar k c

  abbrev new_one : ℕ → ℕ → ℕ → Clash
  new_one o a b = record { earlier = a; later = b; name = name o; place = place o }

  sooner_is : (c : Clash) (a b : ℕ) → is_sooner c a b ≡ true → (c.earlier < a) ⊎ ((c.earlier ≡ a) × (c.later ≤ b))
  sooner_is c a b e = ⊎_elim
      (λ l. let lt : c.earlier < a = grind (arith, nat_tests) in inl lt)
      (λ r. let h = and_parts (nat_eq c.earlier a) (nat_le c.later b) r in
      let same : c.earlier ≡ a = let z = h.0 in grind (arith, nat_tests) in
      let le : c.later ≤ b = let z = h.1 in grind (arith, nat_tests) in inr (same, le))
      (or_cases (nat_lt c.earlier a) (nat_eq c.earlier a && nat_le c.later b) e)

  not_sooner : (c : Clash) (a b : ℕ) → is_sooner c a b ≡ false → (a < c.earlier) ⊎ ((a ≡ c.earlier) × (b < c.later))
  not_sooner c a b e = ⊎_elim
      (λ lt. let t : nat_lt c.earlier a ≡ true = grind (arith, nat_tests) in absurd (true≢false (sym (left (nat_lt c.earlier a) (nat_eq c.earlier a && nat_le c.later b) t) ∙ e)))
      (λ le. ⊎_elim
      (λ same. ⊎_elim (λ lt. inr (sym same, lt))
      (λ ge. let s : nat_eq c.earlier a ≡ true = grind (arith, nat_tests) in
      let t : nat_le c.later b ≡ true = grind (arith, nat_tests) in
      absurd (true≢false (sym (right (nat_lt c.earlier a) (nat_eq c.earlier a && nat_le c.later b) (ap₂ (λ u v. u && v) s t)) ∙ e)))
      (cases_lt b c.later))
      (λ d. let lt : a < c.earlier = omega (arith, le, d) in inl lt)
      (cases_eq c.earlier a))
      (cases_lt c.earlier a)

  -- a pair of one object against the first one of it
  same_object : (k a b i j : ℕ) → (a < i) ⊎ ((a ≡ i) × (b ≤ j)) → (a < i) ⊎ ((a ≡ i) × ((b < j) ⊎ ((b ≡ j) × (k ≤ k))))
  same_object k a b i j h = ⊎_elim (λ l. inl l)
      (λ r. inr (r.0, ⊎_elim (λ e. inr (e, omega arith)) (λ d. let lt : b < j = omega (arith, r.1, d) in inl lt) (cases_eq b j))) h

  through_pair : (c : Clash) (a b i j object k : ℕ) → object < k → (c.earlier < a) ⊎ ((c.earlier ≡ a) × (c.later ≤ b)) → (a < i) ⊎ ((a ≡ i) × (b ≤ j))
      → (c.earlier < i) ⊎ ((c.earlier ≡ i) × ((c.later < j) ⊎ ((c.later ≡ j) × (object ≤ k))))
  through_pair c a b i j object k lt h g = ⊎_elim
      (λ l. ⊎_elim (λ m. let z : c.earlier < i = omega (arith, l, m) in inl z) (λ m. let e : a ≡ i = m.0 in let z : c.earlier < i = omega (arith, l, e) in inl z) g)
      (λ r. ⊎_elim (λ m. let e : c.earlier ≡ a = r.0 in let z : c.earlier < i = omega (arith, m, e) in inl z)
      (λ m. inr (r.0 ∙ m.0, ⊎_elim (λ e. let le : object ≤ k = omega (arith, lt) in inr (e, le)) (λ d. let z : c.later < j = omega (arith, r.1, m.1, d) in inl z) (cases_eq c.later j))) g)
      h

  before_pair : (c : Clash) (a b i j object o k : ℕ) → (a < c.earlier) ⊎ ((a ≡ c.earlier) × (b < c.later))
      → (c.earlier < i) ⊎ ((c.earlier ≡ i) × ((c.later < j) ⊎ ((c.later ≡ j) × (object ≤ o))))
      → (a < i) ⊎ ((a ≡ i) × ((b < j) ⊎ ((b ≡ j) × (k ≤ o))))
  before_pair c a b i j object o k h g = ⊎_elim
      (λ l. ⊎_elim (λ m. let z : a < i = omega (arith, l, m) in inl z) (λ m. let e : c.earlier ≡ i = m.0 in let z : a < i = omega (arith, l, e) in inl z) g)
      (λ r. ⊎_elim (λ m. let e : a ≡ c.earlier = r.0 in let z : a < i = omega (arith, m, e) in inl z)
      (λ m. inr (r.0 ∙ m.0, ⊎_elim (λ x. let z : b < j = omega (arith, r.1, x) in inl z) (λ x. let e : c.later ≡ j = x.0 in let z : b < j = omega (arith, r.1, e) in inl z) m.1)) g)
      h

  -- an object in which no pair meets
  abbrev Never : ℕ → Type 0
  Never k = (i j : ℕ) → i < j → j < n → Interfere (of_object k) i j → ⊥

  keep_none : (k : ℕ) → SoFar k None → Never k → SoFar (suc k) None
  keep_none k h never o i j lt less inside m = ⊎_elim
      (λ e. never i j less inside (from_meet k i j (subst (λ q. InterfereIn touched i j (name q) (place q)) e m)))
      (λ d. let z : o < k = omega (arith, lt, d) in h o i j z less inside m)
      (cases_eq o k)

  keep_some : (k : ℕ) (c : Clash) → FirstSoFar k c
      → ((i j : ℕ) → i < j → j < n → Interfere (of_object k) i j → (object : ℕ) → object < k → (c.earlier < i) ⊎ ((c.earlier ≡ i) × ((c.later < j) ⊎ ((c.later ≡ j) × (object ≤ k)))))
      → FirstSoFar (suc k) c
  keep_some k c h of_k = record {
    object = h.object;
    below = omega (arith, h.below);
    name_is = h.name_is;
    place_is = h.place_is;
    order = h.order;
    inside = h.inside;
    interfere = h.interfere;
    first = λ o i j lt less inside m. ⊎_elim
        (λ e. subst (λ q. (c.earlier < i) ⊎ ((c.earlier ≡ i) × ((c.later < j) ⊎ ((c.later ≡ j) × (h.object ≤ q))))) (sym e)
        (of_k i j less inside (from_meet k i j (subst (λ q. InterfereIn touched i j (name q) (place q)) e m)) h.object h.below))
        (λ d. let z : o < k = omega (arith, lt, d) in h.first o i j z less inside m)
        (cases_eq o k);
  }

  take_new : (k a b : ℕ) → IsFirstPair (of_object k) n a b
      → ((o i j : ℕ) → o < k → i < j → j < n → InterfereIn touched i j (name o) (place o) → (a < i) ⊎ ((a ≡ i) × ((b < j) ⊎ ((b ≡ j) × (k ≤ o)))))
      → FirstSoFar (suc k) (new_one k a b)
  take_new k a b f others = record {
    object = k;
    below = omega arith;
    name_is = refl;
    place_is = refl;
    order = f.order;
    inside = f.below;
    interfere = to_meet k a b f.interfere;
    first = λ o i j lt less inside m. ⊎_elim
        (λ e. subst (λ q. (a < i) ⊎ ((a ≡ i) × ((b < j) ⊎ ((b ≡ j) × (k ≤ q))))) (sym e)
        (same_object k a b i j (f.first i j less inside (from_meet k i j (subst (λ q. InterfereIn touched i j (name q) (place q)) e m)))))
        (λ d. let z : o < k = omega (arith, lt, d) in others o i j z less inside m)
        (cases_eq o k);
  }

  choose : (k : ℕ) (c : Clash) (a b : ℕ) (s : Bool) → is_sooner c a b ≡ s → FirstSoFar k c → IsFirstPair (of_object k) n a b → SoFar (suc k) (if s then Some c else Some (new_one k a b))
  choose k c a b true e h f = keep_some k c h (λ i j less inside m object lt. through_pair c a b i j object k lt (sooner_is c a b e) (f.first i j less inside m))
  choose k c a b false e h f = take_new k a b f (λ o i j lt less inside m. before_pair c a b i j h.object o k (not_sooner c a b e) (h.first o i j lt less inside m))

  step : (k : ℕ) (best : Option Clash) (v : Visit) → SoFar k best → TellsPair (of_object k) n v → SoFar (suc k) (better best (name k) (place k) v)
  step k None Untouched h t = keep_none k h t
  step k None (Read a) h t = keep_none k h t
  step k None (Written a) h t = keep_none k h t
  step k (Some c) Untouched h t = keep_some k c h (λ i j less inside m object lt. absurd (t i j less inside m))
  step k (Some c) (Read a) h t = keep_some k c h (λ i j less inside m object lt. absurd (t i j less inside m))
  step k (Some c) (Written a) h t = keep_some k c h (λ i j less inside m object lt. absurd (t i j less inside m))
  step k None (Met a b) h t = take_new k a b t (λ o i j lt less inside m. absurd (h o i j lt less inside m))
  step k (Some c) (Met a b) h t = choose k c a b (is_sooner c a b) refl h t

  so_far : (k : ℕ) → SoFar k (scan touched name place n k)
  so_far zero = λ o i j lt less inside m. absurd (omega (arith, lt))
  so_far (suc k) = step k (scan touched name place n k) (visit (of_object k) n) (so_far k) (visited (of_object k) n)

  -- where the objects are in order, and all are there
  module _ (objects : ℕ) (ordered : (o o' : ℕ) → o < o' → o' < objects → (name o < name o') ⊎ ((name o ≡ name o') × (place o ≤ place o')))
      (there : (i j x y : ℕ) → j < n → InterfereIn touched i j x y → (o : ℕ) × (o < objects) × (name o ≡ x) × (place o ≡ y)) where
    told : (r : Option Clash) → SoFar objects r → IsFirstClash touched n r
    told None h = λ i j x y less inside m.
        let o = there i j x y inside m in
        h o.0 i j o.1 less inside (subst (λ q. InterfereIn touched i j q (place o.0)) (sym o.2) (subst (λ q. InterfereIn touched i j x q) (sym o.3) m))
    told (Some c) h = record {
      order = h.order;
      below = h.inside;
      interfere = h.interfere;
      first = λ i j x y less inside m.
          let o = there i j x y inside m in
          let pair = h.first o.0 i j o.1 less inside (subst (λ q. InterfereIn touched i j q (place o.0)) (sym o.2) (subst (λ q. InterfereIn touched i j x q) (sym o.3) m)) in
          ⊎_elim (λ l. inl l)
          (λ r. inr (
            r.0,
            ⊎_elim (λ l. inl l)
                (λ z. inr (
                  z.0,
                  ⊎_elim
                      (λ same. let le : c.place ≤ y = omega (arith, h.place_is ∙ ap place same ∙ o.3) in inr (h.name_is ∙ ap name same ∙ o.2, le))
                      (λ d. let lt : h.object < o.0 = omega (arith, z.1, d) in ⊎_elim
                      (λ l. let s : c.name < x = omega (arith, l, h.name_is, o.2) in inl s)
                      (λ w. let s : c.place ≤ y = omega (arith, w.1, h.place_is, o.3) in inr (h.name_is ∙ w.0 ∙ o.2, s))
                      (ordered h.object o.0 lt o.1))
                      (cases_eq h.object o.0),
                ))
                r.1,
          ))
          pair;
    }

    pub scan_tells : IsFirstClash touched n (scan touched name place n objects)
    scan_tells = told (scan touched name place n objects) (so_far objects)
