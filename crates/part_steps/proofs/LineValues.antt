-- The values of elements of a line, some after others.
use Rattle.std.proofs.Common.{◌≡◌, ℕ, zero, suc, ◌+◌, ◌*◌, ◌<◌, true, List, [], ◌∷◌, ◌++◌, append_assoc, append-nil, length, map, ℤ, if◌then◌else◌, refl, ap, sym, ◌∙◌, arith}
use Rattle.std.specs.List.{range_with_len}
use Rattle.std.proofs.lemmas.List.FromFn.{length-map-range_with_len, map-range_with_len_more}
use Rattle.storage.specs.Storage.{Spot}
use Rattle.machine_steps.specs.Layout.{owns_spot}
use Rattle.machine_steps.specs.Node.{local_read}
use Rattle.owner_tables.specs.Lines as owned
use Rattle.tuple_values.specs.declared.strips.ElementLine.{ElementLine}
use Rattle.tuple_values.specs.Strips.{line_spot}
use Rattle.part_steps.specs.After.{After, received_value, value_of}

same-over : {A : Type 0} (f g : ℕ → A) (n : ℕ) → ((k : ℕ) → k < n → f k ≡ g k) → map f (range_with_len 0 n) ≡ map g (range_with_len 0 n)
same-over f g zero same = refl
same-over f g (suc n) same =
    let next : suc n ≡ n + 1 = omega arith in
    let all : 0 + n ≡ n = omega arith in
    ap (λ m. map f (range_with_len 0 m)) next ∙ map-range_with_len_more f 0 n n all
    ∙ (λ i. same-over f g n (λ k lt. same k (omega (arith, lt))) i ++ same n (omega arith) i ∷ [])
    ∙ sym (ap (λ m. map g (range_with_len 0 m)) next ∙ map-range_with_len_more g 0 n n all)

module _ (g : ℕ → ℤ) where
  after-some : (a n : ℕ) → map g (range_with_len 0 (a + n)) ≡ map g (range_with_len 0 a) ++ map (λ k. g (a + k)) (range_with_len 0 n)
  after-some a zero = (let none : a + 0 ≡ a = omega arith in ap (λ m. map g (range_with_len 0 m)) none) ∙ sym (append-nil (map g (range_with_len 0 a)))
  after-some a (suc n) =
      let next : suc n ≡ n + 1 = omega arith in
      let more : a + suc n ≡ (a + n) + 1 = omega arith in
      let first : 0 + (a + n) ≡ a + n = omega arith in
      let second : 0 + n ≡ n = omega arith in
      ap (λ m. map g (range_with_len 0 m)) more ∙ map-range_with_len_more g 0 (a + n) (a + n) first ∙ ap (λ l. l ++ g (a + n) ∷ []) (after-some a n)
      ∙ append_assoc (map g (range_with_len 0 a)) (map (λ k. g (a + k)) (range_with_len 0 n)) (g (a + n) ∷ [])
      ∙ ap (λ l. map g (range_with_len 0 a) ++ l) (sym (ap (λ m. map (λ k. g (a + k)) (range_with_len 0 m)) next ∙ map-range_with_len_more (λ k. g (a + k)) 0 n n second))

  -- so many more
  pub values-more : (old new : List ℤ) (done n : ℕ) (f : ℕ → ℤ) → old ≡ map g (range_with_len 0 done) → new ≡ old ++ map f (range_with_len 0 n) → ((k : ℕ) → k < n → f k ≡ g (done + k))
      → (new ≡ map g (range_with_len 0 (length new))) × (length new ≡ done + n)
  values-more old new done n f before is same = (all ∙ ap (λ m. map g (range_with_len 0 m)) (sym count), count) where
    all : new ≡ map g (range_with_len 0 (done + n))
    all = is ∙ (λ i. before i ++ same-over f (λ k. g (done + k)) n same i) ∙ sym (after-some done n)

    count : length new ≡ done + n
    count = ap length all ∙ length-map-range_with_len g 0 (done + n)

  -- and one
  pub value-more : (old mid new : List ℤ) (done n : ℕ) (f : ℕ → ℤ) → old ≡ map g (range_with_len 0 done) → mid ≡ old ++ map f (range_with_len 0 n) → n ≡ 0 → new ≡ mid ++ g done ∷ []
      → (new ≡ map g (range_with_len 0 (length new))) × (length new ≡ done + 1)
  value-more old mid new done n f before is none pushed =
      let zero : done ≡ done + 0 = omega arith in
      values-more old new done 1 (λ k. g (done + k)) before
      (pushed ∙ (λ i. (is ∙ ap (λ m. old ++ map f (range_with_len 0 m)) none ∙ append-nil old) i ++ g (zero i) ∷ [])) (λ k lt. refl)

-- the value of an element that the node owns
pub held-value : (b : After) (l : ElementLine) (next : Spot) (done k : ℕ) → next ≡ line_spot l done → owns_spot b.part.layouts b.id (owned.line_spot next l.step k) ≡ true
    → local_read b.part.layouts b.id b.pieces (owned.line_spot next l.step k) ≡ value_of b (line_spot l (done + k))
held-value b l next done k is owner =
    let place : l.first.at + done * l.step + k * l.step ≡ l.first.at + (done + k) * l.step = omega arith in
    let same : owned.line_spot next l.step k ≡ line_spot l (done + k) = ap (λ spot. owned.line_spot spot l.step k) is ∙ ap (λ at. record { row = l.first.row; at = at }) place in
    sym (ap (λ t. if t then local_read b.part.layouts b.id b.pieces (owned.line_spot next l.step k) else received_value b (owned.line_spot next l.step k)) owner) ∙ ap (value_of b) same

-- what is there once some were put after others: those of elements that the node owns, or one where these are none
module _ (b : After) (l : ElementLine) (next : Spot) (done n : ℕ) (old mid : List ℤ) (is : next ≡ line_spot l done)
    (before : old ≡ map (λ k. value_of b (line_spot l k)) (range_with_len 0 done))
    (pushed : mid ≡ old ++ map (λ k. local_read b.part.layouts b.id b.pieces (owned.line_spot next l.step k)) (range_with_len 0 n)) where
  pub after-owned : ((k : ℕ) → k < n → owns_spot b.part.layouts b.id (owned.line_spot next l.step k) ≡ true)
      → (mid ≡ map (λ k. value_of b (line_spot l k)) (range_with_len 0 (length mid))) × (length mid ≡ done + n)
  after-owned owner = values-more (λ k. value_of b (line_spot l k)) old mid done n (λ k. local_read b.part.layouts b.id b.pieces (owned.line_spot next l.step k)) before pushed
      (λ k lt. held-value b l next done k is (owner k lt))

  pub after-one : (new : List ℤ) → n ≡ 0 → new ≡ mid ++ value_of b next ∷ [] → (new ≡ map (λ k. value_of b (line_spot l k)) (range_with_len 0 (length new))) × (length new ≡ done + 1)
  after-one new none one = value-more (λ k. value_of b (line_spot l k)) old mid new done n (λ k. local_read b.part.layouts b.id b.pieces (owned.line_spot next l.step k)) before pushed none
      (one ∙ ap (λ spot. mid ++ value_of b spot ∷ []) is)
