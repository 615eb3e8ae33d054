-- Rows of storages after stores.
use Rattle.std.proofs.Common.{◌≡◌, ℕ, zero, suc, ◌<◌, ◌≤◌, List, [], ◌∷◌, length, replicate, ℤ, pos, refl, sym, ap, ◌∙◌, subst, arith, slice_set, slice_index_or, length-set, get_or-set_same, get_or-set_other, ⊎_elim}
use Rattle.std.proofs.lemmas.Bool.{cases_eq}
use Rattle.storage.specs.Storage.{Storage, Spot, row_of, write}
use Rattle.storage.specs.Effect.{Effect, Skip, Put, Fail, apply, scatter}
use Rattle.storage.specs.Parted.{parted}

-- there is no such row
pub row-beyond : (m : Storage) (r : ℕ) → length m ≤ r → row_of m r ≡ []
row-beyond [] r le = refl
row-beyond (x ∷ m) zero le = absurd (omega (arith, le))
row-beyond (x ∷ m) (suc r) le = row-beyond m r (omega (arith, le))

-- the row of a store
pub write-here : (m : Storage) (r at : ℕ) (v : ℤ) → row_of (slice_set m r (slice_set (row_of m r) at v)) r ≡ slice_set (row_of m r) at v
write-here [] r at v = refl
write-here (z ∷ m) zero at v = refl
write-here (z ∷ m) (suc r) at v = write-here m r at v

pub write-length : (m : Storage) (spot : Spot) (v : ℤ) → length (write m spot v) ≡ length m
write-length m spot v = length-set m spot.row (slice_set (row_of m spot.row) spot.at v)

pub write-other : (m : Storage) (spot : Spot) (v : ℤ) (q : ℕ) → (q ≡ spot.row → ⊥) → row_of (write m spot v) q ≡ row_of m q
write-other m spot v q ne = get_or-set_other m spot.row q (slice_set (row_of m spot.row) spot.at v) [] ne

pub write-extent : (m : Storage) (spot : Spot) (v : ℤ) (q : ℕ) → length (row_of (write m spot v) q) ≡ length (row_of m q)
write-extent m spot v q = ⊎_elim
    (λ (e : q ≡ spot.row). subst (λ x. length (row_of (write m spot v) x) ≡ length (row_of m x)) (sym e)
    (ap length (write-here m spot.row spot.at v) ∙ length-set (row_of m spot.row) spot.at v))
    (λ (ne : q ≡ spot.row → ⊥). ap length (write-other m spot v q ne))
    (cases_eq q spot.row)

module _ {F : Type 0} where
  pub apply-length : (e : Effect F) (m : Storage) → length (apply e m) ≡ length m
  apply-length Skip m = refl
  apply-length (Put spot v) m = write-length m spot v
  apply-length (Fail f) m = refl

  apply-extent : (e : Effect F) (m : Storage) (q : ℕ) → length (row_of (apply e m) q) ≡ length (row_of m q)
  apply-extent Skip m q = refl
  apply-extent (Put spot v) m q = write-extent m spot v q
  apply-extent (Fail f) m q = refl

  pub scatter-length : (e : ℕ → Effect F) (t : ℕ) (m : Storage) → length (scatter e t m) ≡ length m
  scatter-length e zero m = refl
  scatter-length e (suc t) m = apply-length (e t) (scatter e t m) ∙ scatter-length e t m

  pub scatter-extent : (e : ℕ → Effect F) (t : ℕ) (m : Storage) (q : ℕ) → length (row_of (scatter e t m) q) ≡ length (row_of m q)
  scatter-extent e zero m q = refl
  scatter-extent e (suc t) m q = apply-extent (e t) (scatter e t m) q ∙ scatter-extent e t m q

  pub parted-extent : (act : ℕ → ℕ → Storage → Effect F) (start : Storage) (n j q : ℕ) → length (row_of (parted act start n j) q) ≡ length (row_of start q)
  parted-extent act start n zero q = refl
  parted-extent act start n (suc j) q = scatter-extent (λ i. act i j (parted act start n j)) n (parted act start n j) q ∙ parted-extent act start n j q

-- ---- zeros into a whole row

abbrev pub fill : ℤ → ℕ → List ℤ → List ℤ
fill v zero xs = xs
fill v (suc t) xs = slice_set (fill v t xs) t v

fill-length : (v : ℤ) (t : ℕ) (xs : List ℤ) → length (fill v t xs) ≡ length xs
fill-length v zero xs = refl
fill-length v (suc t) xs = length-set (fill v t xs) t v ∙ fill-length v t xs

fill-at : (v d : ℤ) (t : ℕ) (xs : List ℤ) (k : ℕ) → k < t → t ≤ length xs → slice_index_or (fill v t xs) k d ≡ v
fill-at v d zero xs k lt le = absurd (omega (arith, lt))
fill-at v d (suc t) xs k lt le = ⊎_elim
    (λ (e : k ≡ t). subst (λ x. slice_index_or (fill v (suc t) xs) x d ≡ v) (sym e)
    (get_or-set_same (fill v t xs) t v d (let l : length (fill v t xs) ≡ length xs = fill-length v t xs in omega (arith, l, le))))
    (λ (ne : k ≡ t → ⊥). get_or-set_other (fill v t xs) t k v d ne ∙ fill-at v d t xs k (omega (arith, lt, ne)) (omega (arith, le)))
    (cases_eq k t)

all-alike : (v d : ℤ) (n : ℕ) (xs : List ℤ) → length xs ≡ n → ((k : ℕ) → k < n → slice_index_or xs k d ≡ v) → xs ≡ replicate n v
all-alike v d zero [] e h = refl
all-alike v d zero (x ∷ xs) e h = absurd (omega (arith, e))
all-alike v d (suc n) [] e h = absurd (omega (arith, e))
all-alike v d (suc n) (x ∷ xs) e h = λ i. h 0 (omega arith) i ∷ all-alike v d n xs (omega (arith, e)) (λ k lt. h (suc k) (omega (arith, lt))) i

pub fill-all : (v : ℤ) (n : ℕ) (xs : List ℤ) → length xs ≡ n → fill v n xs ≡ replicate n v
fill-all v n xs e = all-alike v (pos 0) n (fill v n xs) (fill-length v n xs ∙ e) (λ k lt. fill-at v (pos 0) n xs k lt (omega (arith, e)))

module _ (F : Type 0) (r : ℕ) (v : ℤ) where
  abbrev puts : ℕ → Effect F
  puts i = Put (record { row = r; at = i }) v

  pub puts-here : (t : ℕ) (m : Storage) → row_of (scatter puts t m) r ≡ fill v t (row_of m r)
  puts-here zero m = refl
  puts-here (suc t) m = write-here (scatter puts t m) r t v ∙ ap (λ xs. slice_set xs t v) (puts-here t m)

  pub puts-other : (t : ℕ) (m : Storage) (q : ℕ) → (q ≡ r → ⊥) → row_of (scatter puts t m) q ≡ row_of m q
  puts-other zero m q ne = refl
  puts-other (suc t) m q ne = write-other (scatter puts t m) (record { row = r; at = t }) v q ne ∙ puts-other t m q ne
