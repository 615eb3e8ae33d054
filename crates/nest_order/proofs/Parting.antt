-- The law of fission: where iterations are apart, the plain order and the parted order end alike. Neither is compared with
-- the other: both are compared with each iteration alone.
use Rattle.std.proofs.Common.{◌≡◌, ℕ, zero, suc, ◌<◌, ◌≤◌, ◌+◌, ◌-◌, nat_eq, nat_lt, if◌then◌else◌, Result, Ok, Err, List, refl, ap, sym, ◌∙◌, subst, ◌⊎◌, inl, inr, ⊎_elim, ℤ, arith}
use Rattle.std.proofs.lemmas.Bool.{cases_eq, cases_lt}
use Rattle.std.proofs.lemmas.Bool.Decides.{nat_tests}
use Rattle.std.specs.List.{Contains}
use Rattle.storage.specs.Storage.{Storage, Spot, read, write, Alike}
use Rattle.nest_order.specs.Turns.{◌>>=◌}
use Rattle.storage.specs.Effect.{Effect, Skip, Put, Fail, apply, then_apply, scatter}
use Rattle.nest_order.specs.Orders.{alone, plain_parts, plain, Apart}
use Rattle.storage.specs.Parted.{parted, kept, IsLeastKept, NoneKept}
use Rattle.storage.proofs.StorageLemmas.{Alike-write, Alike-refl, Alike-trans, Alike-sym, spots, read-write_other, read-write_both, Storage-ext}

-- the least number below n that has a decided fact, or none has it
bounded : (P : ℕ → Type 0) (n : ℕ) → ((i : ℕ) → P i ⊎ (P i → ⊥)) → ((i : ℕ) × (i < n) × P i × ((x : ℕ) → x < i → P x → ⊥)) ⊎ ((i : ℕ) → i < n → P i → ⊥)
bounded P zero dec = inr (λ i lt p. absurd (omega arith))
bounded P (suc n) dec = ⊎_elim
    (λ s. let lt : s.0 < n = s.1 in inl (s.0, omega arith, s.2, s.3))
    (λ none. ⊎_elim
    (λ p. inl (n, omega arith, p, none))
    (λ never. inr (λ i lt p. ⊎_elim (λ e. never (subst P e p)) (λ ne. none i (omega arith) p) (cases_eq i n)))
    (dec n))
    (bounded P n dec)

some_below : (P : ℕ → Type 0) (n : ℕ) → ((i : ℕ) → P i ⊎ (P i → ⊥)) → ((i : ℕ) × (i < n) × P i) ⊎ ((i : ℕ) → i < n → P i → ⊥)
some_below P n dec = ⊎_elim (λ s. inl (s.0, s.1, s.2)) (λ none. inr none) (bounded P n dec)

-- a number for the iterations below i, and one for the others
abbrev below : ℕ → ℕ → ℕ → ℕ → ℕ
below i a b x = if nat_lt x i then a else b

below_in : (i a b x : ℕ) → x < i → below i a b x ≡ a
below_in i a b x lt = grind (arith, nat_tests)

below_out : (i a b x : ℕ) → i ≤ x → below i a b x ≡ b
below_out i a b x le = grind (arith, nat_tests)

below_other : (i a b x : ℕ) → (i ≡ x → ⊥) → below (suc i) a b x ≡ below i a b x
below_other i a b x ne = ⊎_elim
    (λ lt. below_in (suc i) a b x (omega arith) ∙ sym (below_in i a b x lt))
    (λ le. below_out (suc i) a b x (omega arith) ∙ sym (below_out i a b x le))
    (cases_lt x i)

-- the same for the iteration i alone
abbrev here : ℕ → ℕ → (ℕ → ℕ) → ℕ → ℕ
here i j p x = if nat_eq x i then j else p x

here_at : (i j : ℕ) (p : ℕ → ℕ) → here i j p i ≡ j
here_at i j p = grind (arith, nat_tests)

here_other : (i j : ℕ) (p : ℕ → ℕ) (x : ℕ) → (i ≡ x → ⊥) → here i j p x ≡ p x
here_other i j p x ne = grind (arith, nat_tests)

module _ {F : Type 0} where
  ok_same : {A : Type 0} (a b : A) → (let x : Result A F = Ok a in x) ≡ Ok b → a ≡ b
  ok_same a b h = cc

  bound : {A B : Type 0} (r : Result A F) (f : A → Result B F) (b : B) → r >>= f ≡ Ok b → (a : A) × (r ≡ Ok a) × (f a ≡ Ok b)
  bound (Ok a) f b h = (a, refl, h)
  bound (Err e) f b h = absurd cc

  apply_both : (e : Effect F) (m m' : Storage) (l : Spot) → Alike m m' → read m l ≡ read m' l → read (apply e m) l ≡ read (apply e m') l
  apply_both Skip m m' l alike same = same
  apply_both (Put s v) m m' l alike same = read-write_both m m' s l v alike same
  apply_both (Fail f) m m' l alike same = same

  apply_other : (e : Effect F) (m : Storage) (l : Spot) → ((v : ℤ) → e ≡ Put l v → ⊥) → read (apply e m) l ≡ read m l
  apply_other Skip m l never = refl
  apply_other (Put s v) m l never = read-write_other m s l v (λ e. never v (ap (λ x. Put x v) e))
  apply_other (Fail f) m l never = refl

  Alike-apply : (e : Effect F) (m : Storage) → Alike (apply e m) m
  Alike-apply Skip m = Alike-refl m
  Alike-apply (Put s v) m = Alike-write m s v
  Alike-apply (Fail f) m = Alike-refl m

  puts : (e : Effect F) (l : Spot) → ((v : ℤ) × (e ≡ Put l v)) ⊎ ((v : ℤ) × (e ≡ Put l v) → ⊥)
  puts Skip l = inr (λ h. let e = h.1 in cc)
  puts (Fail f) l = inr (λ h. let e = h.1 in cc)
  puts (Put s v) l = ⊎_elim
      (λ e. inl (v, ap (λ x. Put x v) e))
      (λ ne. inr (λ h. let e = h.1 in ne cc))
      (spots s l)

  applied : (e : Effect F) (m m' : Storage) → then_apply e m ≡ Ok m' → apply e m ≡ m'
  applied Skip m m' h = ok_same m m' h
  applied (Put s v) m m' h = ok_same (write m s v) m' h
  applied (Fail f) m m' h = cc

  fails : (e : Effect F) → ((f : F) × (e ≡ Fail f)) ⊎ ((f : F) × (e ≡ Fail f) → ⊥)
  fails Skip = inr (λ h. let e = h.1 in cc)
  fails (Put s v) = inr (λ h. let e = h.1 in cc)
  fails (Fail f) = inl (f, refl)

  goes_on : (e : Effect F) (m : Storage) → ((f : F) → e ≡ Fail f → ⊥) → then_apply e m ≡ Ok (apply e m)
  goes_on Skip m never = refl
  goes_on (Put s v) m never = refl
  goes_on (Fail f) m never = absurd (never f refl)

  module _ (act : ℕ → ℕ → Storage → Effect F) (start : Storage) where
    pub Alike-alone : (i j : ℕ) → Alike (alone act start i j) start
    Alike-alone i zero = Alike-refl start
    Alike-alone i (suc j) =
        Alike-trans (alone act start i (suc j)) (alone act start i j) start (Alike-apply (act i j (alone act start i j)) (alone act start i j))
        (Alike-alone i j)

    -- where a fault is kept, one has the least key
    module _ (n k : ℕ) where
      abbrev KeepsAt : ℕ → ℕ → Type 0
      KeepsAt i j = (f : F) × (kept act start n i j ≡ Fail f)

      abbrev Keeps : ℕ → Type 0
      Keeps i = (j : ℕ) × (j < k) × KeepsAt i j × ((x : ℕ) → x < j → KeepsAt i x → ⊥)

      keeps : (i : ℕ) → Keeps i ⊎ ((j : ℕ) → j < k → KeepsAt i j → ⊥)
      keeps i = bounded (KeepsAt i) k (λ j. fails (kept act start n i j))

      none_at : (i : ℕ) → (Keeps i → ⊥) → (j : ℕ) → j < k → KeepsAt i j → ⊥
      none_at i never j lt h = ⊎_elim never (λ none. none j lt h) (keeps i)

      pub none_or_least : NoneKept act start n k ⊎ ((i : ℕ) × (j : ℕ) × (f : F) × IsLeastKept act start n k i j f)
      none_or_least = ⊎_elim
          (λ s. let t = s.2 in inr (
            s.0,
            t.0,
            t.2.0,
            record {
              iteration = s.1;
              part = t.1;
              here = t.2.1;
              sooner = λ i j g lt lt' before is. ⊎_elim
                  (λ less. none_at i (s.3 i less) j lt' (g, is))
                  (λ same. t.3 j same.1 (subst (λ x. KeepsAt x j) same.0 (g, is)))
                  before;
            },
          ))
          (λ none. inl (λ i j f lt lt' is. none_at i (none i lt) j lt' (f, is)))
          (bounded Keeps n (λ i. ⊎_elim (λ h. inl h) (λ none. inr (λ h. none h.0 h.1 h.2)) (keeps i)))

    module _ (n k : ℕ) (touches : ℕ → List Spot) (free : Apart act start n k touches) where
      abbrev Unwritten : Spot → Type 0
      Unwritten l = (i j : ℕ) (v : ℤ) → i < n → j < k → act i j (alone act start i j) ≡ Put l v → ⊥

      -- a storage after p i parts of each iteration i, in some order
      record Merged (p : ℕ → ℕ) (m : Storage) : Type 0 where
        alike : Alike m start
        touched : (i : ℕ) (l : Spot) → i < n → Contains (touches i) l → read m l ≡ read (alone act start i (p i)) l
        rest : (l : Spot) → Unwritten l → read m l ≡ read start l

      Merged-same : (p q : ℕ → ℕ) (m : Storage) → ((i : ℕ) → i < n → q i ≡ p i) → Merged p m → Merged q m
      Merged-same p q m same h = record {
        alike = h.alike;
        touched = λ i l lt t. h.touched i l lt t ∙ ap (λ x. read (alone act start i x) l) (sym (same i lt));
        rest = h.rest;
      }

      -- one more part of one iteration
      step : (p q : ℕ → ℕ) (m : Storage) (i j : ℕ) → i < n → j < k → p i ≡ j → q i ≡ suc j → ((x : ℕ) → (i ≡ x → ⊥) → q x ≡ p x) → Merged p m →
          Merged q (apply (act i j (alone act start i j)) m)
      step p q m i j lt lt' at after others h =
          let s = alone act start i j in
          let e = act i j s in
          record {
            alike = Alike-trans (apply e m) m start (Alike-apply e m) h.alike;
            touched = λ x l ltx t. ⊎_elim
                (λ same. subst (λ y. Contains (touches y) l → read (apply e m) l ≡ read (alone act start y (q y)) l) same
                (λ t. apply_both e m s l (Alike-trans m start s h.alike (Alike-sym s start (Alike-alone i j)))
                (h.touched i l lt t ∙ ap (λ y. read (alone act start i y) l) at)
                ∙ ap (λ y. read (alone act start i y) l) (sym after)) t)
                (λ ne. apply_other e m l (λ v is. free.apart i x j l v lt ltx lt' ne is t)
                ∙ h.touched x l ltx t ∙ ap (λ y. read (alone act start x y) l) (sym (others x ne)))
                (cases_eq i x);
            rest = λ l un. apply_other e m l (λ v is. un i j v lt lt' is) ∙ h.rest l un;
          }

      -- what a part does in such a storage is what it does alone
      as_alone : (p : ℕ → ℕ) (m : Storage) (i j : ℕ) → i < n → j < k → p i ≡ j → Merged p m → act i j m ≡ act i j (alone act start i j)
      as_alone p m i j lt lt' at h =
          free.local i j m lt lt' h.alike (λ l t. h.touched i l lt t ∙ ap (λ y. read (alone act start i y) l) at)

      Merged-start : Merged (λ i. 0) start
      Merged-start = record { alike = Alike-refl start; touched = λ i l lt t. refl; rest = λ l un. refl }

      -- part j for the first i iterations
      scatter_merged : (j : ℕ) (m : Storage) → j < k → Merged (λ i. j) m → (i : ℕ) → i ≤ n → Merged (below i (suc j) j) (scatter (λ x. act x j m) i m)
      scatter_merged j m lt h zero le = Merged-same (λ i. j) (below 0 (suc j) j) m (λ i ltn. below_out 0 (suc j) j i (omega arith)) h
      scatter_merged j m lt h (suc i) le =
          let so_far = scatter_merged j m lt h i (omega arith) in
          subst (λ e. Merged (below (suc i) (suc j) j) (apply e (scatter (λ x. act x j m) i m))) (sym (as_alone (λ i. j) m i j (omega arith) lt refl h))
          (step (below i (suc j) j) (below (suc i) (suc j) j) (scatter (λ x. act x j m) i m) i j (omega arith) lt
          (below_out i (suc j) j i (omega arith)) (below_in (suc i) (suc j) j i (omega arith)) (λ x ne. below_other i (suc j) j x ne) so_far)

      parted_merged : (j : ℕ) → j ≤ k → Merged (λ i. j) (parted act start n j)
      parted_merged zero le = Merged-start
      parted_merged (suc j) le =
          let m = parted act start n j in
          Merged-same (below n (suc j) j) (λ i. suc j) (parted act start n (suc j)) (λ i lt. sym (below_in n (suc j) j i lt))
          (scatter_merged j m (omega arith) (parted_merged j (omega arith)) n (omega arith))

      pub kept_alone : (i j : ℕ) → i < n → j < k → kept act start n i j ≡ act i j (alone act start i j)
      kept_alone i j lt lt' = as_alone (λ i. j) (parted act start n j) i j lt lt' refl (parted_merged j (omega arith))

      -- no fault of an iteration alone below the key (i, j)
      abbrev Clean : ℕ → ℕ → Type 0
      Clean i j = (x y : ℕ) (f : F) → x < n → y < k → (x < i) ⊎ ((x ≡ i) × (y < j)) → act x y (alone act start x y) ≡ Fail f → ⊥

      -- the plain order as far as it comes
      parts_merged : (i : ℕ) → i < n → (m : Storage) → Merged (below i k 0) m → (j : ℕ) → j ≤ k → (m' : Storage) → plain_parts act start i j m ≡ Ok m'
          → Merged (here i j (below i k 0)) m'
      parts_merged i lt m h zero le m' e =
          let p = below i k 0 in
          subst (Merged (here i 0 p)) (ok_same m m' e)
          (Merged-same p (here i 0 p) m (λ x ltx. ⊎_elim
          (λ is. subst (λ y. here i 0 p y ≡ p y) is (here_at i 0 p ∙ sym (below_out i k 0 i (omega arith))))
          (λ ne. here_other i 0 p x ne) (cases_eq i x)) h)
      parts_merged i lt m h (suc j) le m' e =
          let p = below i k 0 in
          let r = bound (plain_parts act start i j m) (λ t. then_apply (act i j t) t) m' e in
          let so_far = parts_merged i lt m h j (omega arith) r.0 r.1 in
          let same = as_alone (here i j p) r.0 i j lt (omega arith) (here_at i j p) so_far in
          subst (Merged (here i (suc j) p)) (ap (λ f. apply f r.0) (sym same) ∙ applied (act i j r.0) r.0 m' r.2)
          (step (here i j p) (here i (suc j) p) r.0 i j lt (omega arith) (here_at i j p) (here_at i (suc j) p)
          (λ x ne. here_other i (suc j) p x ne ∙ sym (here_other i j p x ne)) so_far)

      plain_merged : (i : ℕ) → i ≤ n → (m : Storage) → plain act start k i ≡ Ok m → Merged (below i k 0) m
      plain_merged zero le m e = subst (Merged (below 0 k 0)) (ok_same start m e) (Merged-same (λ i. 0) (below 0 k 0) start (λ i lt. below_out 0 k 0 i (omega arith)) Merged-start)
      plain_merged (suc i) le m e =
          let p = below i k 0 in
          let r = bound (plain act start k i) (plain_parts act start i k) m e in
          Merged-same (here i k p) (below (suc i) k 0) m (λ x ltx. ⊎_elim
          (λ is. subst (λ y. below (suc i) k 0 y ≡ here i k p y) is (below_in (suc i) k 0 i (omega arith) ∙ sym (here_at i k p)))
          (λ ne. below_other i k 0 x ne ∙ sym (here_other i k p x ne)) (cases_eq i x))
          (parts_merged i (omega arith) r.0 (plain_merged i (omega arith) r.0 r.1) k (omega arith) m r.2)

      -- what a part does where the plain order comes to it is what it does alone
      plain_alone : (i j : ℕ) → i < n → j < k → (before m : Storage) → plain act start k i ≡ Ok before → plain_parts act start i j before ≡ Ok m
          → act i j m ≡ act i j (alone act start i j)
      plain_alone i j lt lt' before m come at =
          let p = here i j (below i k 0) in
          as_alone p m i j lt lt' (here_at i j (below i k 0)) (parts_merged i lt before (plain_merged i (omega arith) before come) j (omega arith) m at)

      pub plain_kept : (i j : ℕ) (before m : Storage) → i < n → j < k → plain act start k i ≡ Ok before → plain_parts act start i j before ≡ Ok m → act i j m ≡ kept act start n i j
      plain_kept i j before m lt lt' come at = plain_alone i j lt lt' before m come at ∙ sym (kept_alone i j lt lt')

      -- the plain order comes to (i, j)
      parts_come : (i : ℕ) → i < n → (before : Storage) → plain act start k i ≡ Ok before → (j : ℕ) → j ≤ k → Clean i j → (m : Storage) × (plain_parts act start i j before ≡ Ok m)
      parts_come i lt before come zero le clean = (before, refl)
      parts_come i lt before come (suc j) le clean =
          let r =
          parts_come i lt before come j (omega arith)
          (λ x y f ltx lty sooner. clean x y f ltx lty (⊎_elim (λ a. inl a) (λ b. inr (b.0, let z : y < j = b.1 in omega arith)) sooner)) in
          let s = alone act start i j in (
            apply (act i j s) r.0,
            ap (λ x. x >>= (λ t. then_apply (act i j t) t)) r.1
                ∙ ap (λ e. then_apply e r.0) (plain_alone i j lt (omega arith) before r.0 come r.1)
                ∙ goes_on (act i j s) r.0 (λ f is. clean i j f lt (omega arith) (inr (refl, omega arith)) is),
          )

      plain_comes : (i : ℕ) → i ≤ n → Clean i 0 → (m : Storage) × (plain act start k i ≡ Ok m)
      plain_comes zero le clean = (start, refl)
      plain_comes (suc i) le clean =
          let r =
          plain_comes i (omega arith)
          (λ x y f ltx lty sooner.
          clean x y f ltx lty
          (⊎_elim (λ a. inl (let z : x < i = a in omega arith)) (λ b. absurd (let z : y < 0 = b.1 in omega arith)) sooner)) in
          let t =
          parts_come i (omega arith) r.0 r.1 k (omega arith)
          (λ x y f ltx lty sooner.
          clean x y f ltx lty (inl (⊎_elim (λ a. let z : x < i = a in omega arith) (λ b. let z : x ≡ i = b.0 in omega arith) sooner))) in
          (t.0, ap (λ x. x >>= plain_parts act start i k) r.1 ∙ t.1)

      -- all parts of all iterations, in any two orders
      ends_alike : (m m' : Storage) → Merged (λ i. k) m → Merged (λ i. k) m' → m ≡ m'
      ends_alike m m' h g = Storage-ext m m' (Alike-trans m start m' h.alike (Alike-sym m' start g.alike)) (λ l. ⊎_elim
          (λ w. let i = w.0 in let t = free.stores i w.2.0 l w.2.2.0 w.1 w.2.1 w.2.2.1 in h.touched i l w.1 t ∙ sym (g.touched i l w.1 t))
          (λ none. let un : Unwritten l = λ i j v lt lt' is. none i lt (j, lt', (v, is)) in h.rest l un ∙ sym (g.rest l un))
          (writer l))
        where
          Writes : Spot → ℕ → ℕ → Type 0
          Writes l i j = (v : ℤ) × (act i j (alone act start i j) ≡ Put l v)

          of_row : (l : Spot) (i : ℕ)
              → (((j : ℕ) × (j < k) × ((v : ℤ) × (act i j (alone act start i j) ≡ Put l v)))
              ⊎ ((j : ℕ) × (j < k) × ((v : ℤ) × (act i j (alone act start i j) ≡ Put l v)) → ⊥))
          of_row l i = ⊎_elim (λ s. inl s) (λ none. inr (λ s. none s.0 s.1 s.2))
              (some_below (λ j. (v : ℤ) × (act i j (alone act start i j) ≡ Put l v)) k (λ j. puts (act i j (alone act start i j)) l))

          writer : (l : Spot)
              → ((i : ℕ) × (i < n) × ((j : ℕ) × (j < k) × ((v : ℤ) × (act i j (alone act start i j) ≡ Put l v))))
              ⊎ ((i : ℕ) → i < n → (j : ℕ) × (j < k) × ((v : ℤ) × (act i j (alone act start i j) ≡ Put l v)) → ⊥)
          writer l = some_below (λ i. (j : ℕ) × (j < k) × ((v : ℤ) × (act i j (alone act start i j) ≡ Put l v))) n (λ i. of_row l i)

      pub parted_alone : (i : ℕ) (l : Spot) → i < n → Contains (touches i) l → read (parted act start n k) l ≡ read (alone act start i k) l
      parted_alone i l lt t = (parted_merged k (omega arith)).touched i l lt t

      -- where no fault is kept
      pub fission_finishes : NoneKept act start n k → plain act start k n ≡ Ok (parted act start n k)
      fission_finishes clean =
          let r = plain_comes n (omega arith) (λ x y f ltx lty sooner is. clean x y f ltx lty (kept_alone x y ltx lty ∙ is)) in
          r.1 ∙ ap Ok (ends_alike r.0 (parted act start n k)
          (Merged-same (below n k 0) (λ i. k) r.0 (λ i lt. sym (below_in n k 0 i lt)) (plain_merged n (omega arith) r.0 r.1)) (parted_merged k (omega arith)))

      parts_stop : (i j d : ℕ) (m : Storage) (f : F) → plain_parts act start i j m ≡ Err f → plain_parts act start i (d + j) m ≡ Err f
      parts_stop i j zero m f e = let z : j ≡ 0 + j = omega arith in subst (λ x. plain_parts act start i x m ≡ Err f) z e
      parts_stop i j (suc d) m f e =
          let z : suc (d + j) ≡ suc d + j = omega arith in
          subst (λ x. plain_parts act start i x m ≡ Err f) z (ap (λ x. x >>= (λ t. then_apply (act i (d + j) t) t)) (parts_stop i j d m f e))

      plain_stops : (i d : ℕ) (f : F) → plain act start k i ≡ Err f → plain act start k (d + i) ≡ Err f
      plain_stops i zero f e = let z : i ≡ 0 + i = omega arith in subst (λ x. plain act start k x ≡ Err f) z e
      plain_stops i (suc d) f e =
          let z : suc (d + i) ≡ suc d + i = omega arith in
          subst (λ x. plain act start k x ≡ Err f) z (ap (λ x. x >>= plain_parts act start (d + i) k) (plain_stops i d f e))

      -- where one is kept, the least key has the first fault of the plain order
      pub fission_faults : (i j : ℕ) (f : F) → IsLeastKept act start n k i j f → plain act start k n ≡ Err f
      fission_faults i j f least =
          let lt = least.iteration in
          let lt' = least.part in
          let clean : Clean i j = λ x y g ltx lty sooner is. least.sooner x y g ltx lty sooner (kept_alone x y ltx lty ∙ is) in
          let r = plain_comes i (omega arith) (λ x y g ltx lty sooner. clean x y g ltx lty (⊎_elim (λ a. inl a) (λ b. absurd (let z : y < 0 = b.1 in omega arith)) sooner)) in
          let t = parts_come i lt r.0 r.1 j (omega arith) clean in
          let same = plain_kept i j r.0 t.0 lt lt' r.1 t.1 ∙ least.here in
          let at : plain_parts act start i (suc j) r.0 ≡ Err f = ap (λ x. x >>= (λ m. then_apply (act i j m) m)) t.1 ∙ ap (λ e. then_apply e t.0) same in
          let z : k - suc j + suc j ≡ k = omega arith in
          let row_of = subst (λ x. plain_parts act start i x r.0 ≡ Err f) z (parts_stop i (suc j) (k - suc j) r.0 f at) in
          let all = ap (λ x. x >>= plain_parts act start i k) r.1 ∙ row_of in
          let y : n - suc i + suc i ≡ n = omega arith in
          subst (λ x. plain act start k x ≡ Err f) y (plain_stops (suc i) (n - suc i) f all)
