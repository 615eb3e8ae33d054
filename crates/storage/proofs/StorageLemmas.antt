-- Reads after writes.
use Rattle.std.proofs.Common.{◌≡◌, ℕ, ◌<◌, [], length, get_or, set, refl, ap, sym, ◌∙◌, subst, ◌⊎◌, inl, inr, ⊎_elim, ℤ, pos, arith, get_or-set_other, get_or-set_same}
use Rattle.std.proofs.lemmas.Bool.{cases_eq, cases_lt}
use Rattle.std.proofs.lemmas.List.{length-set, ext_get_or, get_or_past}
use Rattle.storage.specs.Storage.{Storage, Spot, row_of, read, write, Alike}

-- a row after a write of a row
row_of-set_same : (m : Storage) (p k : ℕ) (v : ℤ) → row_of (set m p (set (row_of m p) k v)) p ≡ set (row_of m p) k v
row_of-set_same m p k v = ⊎_elim
    (λ lt. get_or-set_same m p (set (row_of m p) k v) [] lt)
    (λ le. let e : row_of m p ≡ [] = get_or_past m p [] le in
    get_or_past (set m p (set (row_of m p) k v)) p [] (omega (arith, length-set m p (set (row_of m p) k v))) ∙ ap (λ r. set r k v) (sym e))
    (cases_lt p (length m))

row_of-write : (m : Storage) (l : Spot) (v : ℤ) (p : ℕ)
    → ((row_of (write m l v) p ≡ set (row_of m p) l.at v) × (l.row ≡ p)) ⊎ ((row_of (write m l v) p ≡ row_of m p) × (l.row ≡ p → ⊥))
row_of-write m l v p = ⊎_elim
    (λ e. inl (subst (λ q. row_of (write m l v) q ≡ set (row_of m q) l.at v) e (row_of-set_same m l.row l.at v), e))
    (λ n. inr (get_or-set_other m l.row p (set (row_of m l.row) l.at v) [] (λ e. n (sym e)), n))
    (cases_eq l.row p)

pub Alike-write : (m : Storage) (l : Spot) (v : ℤ) → Alike (write m l v) m
Alike-write m l v = record {
  count = length-set m l.row (set (row_of m l.row) l.at v);
  extent = λ p. ⊎_elim (λ h. ap length h.0 ∙ length-set (row_of m p) l.at v) (λ h. ap length h.0) (row_of-write m l v p);
}

pub Alike-trans : (a b c : Storage) → Alike a b → Alike b c → Alike a c
Alike-trans a b c h g = record { count = h.count ∙ g.count; extent = λ p. h.extent p ∙ g.extent p }

pub Alike-refl : (a : Storage) → Alike a a
Alike-refl a = record { count = refl; extent = λ p. refl }

pub Alike-sym : (a b : Storage) → Alike a b → Alike b a
Alike-sym a b h = record { count = sym h.count; extent = λ p. sym (h.extent p) }

pub read-write_other : (m : Storage) (l l' : Spot) (v : ℤ) → (l ≡ l' → ⊥) → read (write m l v) l' ≡ read m l'
read-write_other m l l' v n = ⊎_elim
    (λ h. ap (λ r. get_or r l'.at (pos 0)) h.0
    ∙ get_or-set_other (row_of m l'.row) l.at l'.at v (pos 0) (λ e. n (λ i. record { row = h.1 i; at = sym e i })))
    (λ h. ap (λ r. get_or r l'.at (pos 0)) h.0)
    (row_of-write m l v l'.row)

pub spots : (l l' : Spot) → (l ≡ l') ⊎ (l ≡ l' → ⊥)
spots l l' = ⊎_elim
    (λ e. ⊎_elim (λ f. inl (λ i. record { row = e i; at = f i })) (λ n. inr (λ h. n (ap (λ s. s.at) h))) (cases_eq l.at l'.at))
    (λ n. inr (λ h. n (ap (λ s. s.row) h)))
    (cases_eq l.row l'.row)

-- a write keeps two storages equal where they are, if the row that is written has one length
pub read-write_rows : (m m' : Storage) (l l' : Spot) (v : ℤ) → length (row_of m l.row) ≡ length (row_of m' l.row) → read m l' ≡ read m' l'
    → read (write m l v) l' ≡ read (write m' l v) l'
read-write_rows m m' l l' v long same = ⊎_elim
    (λ e. subst (λ q. read (write m l v) q ≡ read (write m' l v) q) e (at_spot m m' l v long))
    (λ n. read-write_other m l l' v n ∙ same ∙ sym (read-write_other m' l l' v n))
    (spots l l')
  where
    at_spot : (m m' : Storage) (l : Spot) (v : ℤ) → length (row_of m l.row) ≡ length (row_of m' l.row) → read (write m l v) l ≡ read (write m' l v) l
    at_spot m m' l v long =
        let a = row_of-set_same m l.row l.at v in
        let b = row_of-set_same m' l.row l.at v in
        ap (λ r. get_or r l.at (pos 0)) a ∙ ⊎_elim
        (λ lt. get_or-set_same (row_of m l.row) l.at v (pos 0) lt
        ∙ sym (get_or-set_same (row_of m' l.row) l.at v (pos 0) (omega (arith, long))))
        (λ le. get_or_past (set (row_of m l.row) l.at v) l.at (pos 0) (omega (arith, length-set (row_of m l.row) l.at v))
        ∙ sym (get_or_past (set (row_of m' l.row) l.at v) l.at (pos 0) (omega (arith, length-set (row_of m' l.row) l.at v, long))))
        (cases_lt l.at (length (row_of m l.row)))
        ∙ ap (λ r. get_or r l.at (pos 0)) (sym b)

pub read-write_both : (m m' : Storage) (l l' : Spot) (v : ℤ) → Alike m m' → read m l' ≡ read m' l' → read (write m l v) l' ≡ read (write m' l v) l'
read-write_both m m' l l' v alike = read-write_rows m m' l l' v (alike.extent l.row)

pub Storage-ext : (m m' : Storage) → Alike m m' → ((l : Spot) → read m l ≡ read m' l) → m ≡ m'
Storage-ext m m' alike same =
    ext_get_or [] m m' alike.count (λ p lt. ext_get_or (pos 0) (row_of m p) (row_of m' p) (alike.extent p) (λ k lt'. same (record { row = p; at = k })))

pub read-write_at : (m : Storage) (l : Spot) (v : ℤ) → l.at < length (row_of m l.row) → read (write m l v) l ≡ v
read-write_at m l v lt = ap (λ r. get_or r l.at (pos 0)) (row_of-set_same m l.row l.at v) ∙ get_or-set_same (row_of m l.row) l.at v (pos 0) lt
