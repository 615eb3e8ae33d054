-- A store to a storage is that store to its state.
use Rattle.std.proofs.Common.{◌≡◌, ℕ, zero, suc, ◌+◌, ◌<◌, List, [], ◌∷◌, length, get_or, set, ℤ, pos, Bool, true, false, if◌then◌else◌, refl, ap, sym, ◌∙◌, subst, ⊎_elim, arith, get_or-set_same, get_or-set_other, ext_get_or, length-set, true≢false}
use Rattle.std.proofs.lemmas.Bool.{cases_eq, cases_lt}
use Rattle.std.proofs.lemmas.List.{get_or_past}
use Rattle.storage.specs.Storage.{Storage, Spot, row_of, read, write}
use Rattle.nest_syntax.specs.NestKinds.{Kind, has_copies}
use Rattle.nest_order.specs.Copies.{scalar_at}
use Rattle.storage.proofs.StorageLemmas.{Alike-write, read-write_at, read-write_other}
use Rattle.array_meaning.specs.State.{State, Array, no_array, scalar, array, set_scalar, store}
use Rattle.nest_items.specs.StateStorage.{scalars_in, arrays_in, state_of, rows_from, storage_of}
use Rattle.nest_items.specs.NestEnds.{HasRows}

abbrev with_row : Array → List ℤ → Array
with_row a x = record a { elements = x }

abbrev with_set : ℕ → ℤ → Array → Array
with_set p v a = record a { elements = set a.elements p v }

pub if_so : {A : Type 0} (b : Bool) (x y : A) → b ≡ true → (if b then x else y) ≡ x
if_so b x y e = ap (λ c. if c then x else y) e

pub if_not : {A : Type 0} (b : Bool) (x y : A) → b ≡ false → (if b then x else y) ≡ y
if_not b x y e = ap (λ c. if c then x else y) e

pub by_cases : {Z : Type 0} (b : Bool) → (b ≡ true → Z) → (b ≡ false → Z) → Z
by_cases true t f = t refl
by_cases false t f = f refl

module _ (kinds : ℕ → Kind) where
  scalars-length : (m : Storage) (k : ℕ) (vs : List ℤ) → length (scalars_in kinds m k vs) ≡ length vs
  scalars-length m k [] = refl
  scalars-length m k (v ∷ vs) = let e = scalars-length m (suc k) vs in omega arith

  arrays-length : (m : Storage) (k : ℕ) (as' : List Array) → length (arrays_in kinds m k as') ≡ length as'
  arrays-length m k [] = refl
  arrays-length m k (a ∷ as') = let e = arrays-length m (suc k) as' in omega arith

  scalars-at : (m : Storage) (k : ℕ) (vs : List ℤ) (i : ℕ) → i < length vs
      → get_or (scalars_in kinds m k vs) i (pos 0) ≡ (if has_copies (kinds (k + i)) then read m (scalar_at (k + i)) else get_or vs i (pos 0))
  scalars-at m k [] i lt = absurd (omega arith)
  scalars-at m k (v ∷ vs) zero lt = let e : k ≡ k + 0 = omega arith in ap (λ q. if has_copies (kinds q) then read m (scalar_at q) else v) e
  scalars-at m k (v ∷ vs) (suc i) lt =
      let e : suc k + i ≡ k + suc i = omega arith in
      scalars-at m (suc k) vs i (omega arith) ∙ ap (λ q. if has_copies (kinds q) then read m (scalar_at q) else get_or vs i (pos 0)) e

  arrays-at : (m : Storage) (k : ℕ) (as' : List Array) (i : ℕ) → i < length as'
      → get_or (arrays_in kinds m k as') i no_array
      ≡ (if has_copies (kinds (k + i)) then get_or as' i no_array else record (get_or as' i no_array) { elements = row_of m (k + i) })
  arrays-at m k [] i lt = absurd (omega arith)
  arrays-at m k (a ∷ as') zero lt = let e : k ≡ k + 0 = omega arith in ap (λ q. if has_copies (kinds q) then a else record a { elements = row_of m q }) e
  arrays-at m k (a ∷ as') (suc i) lt =
      let e : suc k + i ≡ k + suc i = omega arith in
      arrays-at m (suc k) as' i (omega arith)
      ∙ ap (λ q. if has_copies (kinds q) then get_or as' i no_array else record (get_or as' i no_array) { elements = row_of m q }) e

  pub rows-length : (s : State) (k : ℕ) (as' : List Array) → length (rows_from kinds s k as') ≡ length as'
  rows-length s k [] = refl
  rows-length s k (a ∷ as') = let e = rows-length s (suc k) as' in omega arith

  rows-at : (s : State) (k : ℕ) (as' : List Array) (i : ℕ) → i < length as'
      → get_or (rows_from kinds s k as') i [] ≡ (if has_copies (kinds (k + i)) then scalar s (k + i) ∷ [] else (get_or as' i no_array).elements)
  rows-at s k [] i lt = absurd (omega arith)
  rows-at s k (a ∷ as') zero lt = let e : k ≡ k + 0 = omega arith in ap (λ q. if has_copies (kinds q) then scalar s q ∷ [] else a.elements) e
  rows-at s k (a ∷ as') (suc i) lt =
      let e : suc k + i ≡ k + suc i = omega arith in
      rows-at s (suc k) as' i (omega arith)
      ∙ ap (λ q. if has_copies (kinds q) then scalar s q ∷ [] else (get_or as' i no_array).elements) e

  -- from 0
  pub scalar-at : (s : State) (m : Storage) (i : ℕ) → i < length s.scalars
      → scalar (state_of kinds s m) i ≡ (if has_copies (kinds i) then read m (scalar_at i) else scalar s i)
  scalar-at s m i lt = let e : 0 + i ≡ i = omega arith in
      scalars-at m 0 s.scalars i lt ∙ ap (λ q. if has_copies (kinds q) then read m (scalar_at q) else scalar s i) e

  pub array-at : (s : State) (m : Storage) (i : ℕ) → i < length s.arrays
      → array (state_of kinds s m) i ≡ (if has_copies (kinds i) then array s i else record (array s i) { elements = row_of m i })
  array-at s m i lt = let e : 0 + i ≡ i = omega arith in
      arrays-at m 0 s.arrays i lt ∙ ap (λ q. if has_copies (kinds q) then array s i else record (array s i) { elements = row_of m q }) e

  pub row-at : (s : State) (i : ℕ) → i < length s.arrays
      → row_of (storage_of kinds s) i ≡ (if has_copies (kinds i) then scalar s i ∷ [] else (array s i).elements)
  row-at s i lt = let e : 0 + i ≡ i = omega arith in
      rows-at s 0 s.arrays i lt ∙ ap (λ q. if has_copies (kinds q) then scalar s q ∷ [] else (array s i).elements) e

  pub state-scalars : (s : State) (m : Storage) → length (state_of kinds s m).scalars ≡ length s.scalars
  state-scalars s m = scalars-length m 0 s.scalars

  pub state-arrays : (s : State) (m : Storage) → length (state_of kinds s m).arrays ≡ length s.arrays
  state-arrays s m = arrays-length m 0 s.arrays

  differ : (i j : ℕ) → has_copies (kinds i) ≡ true → has_copies (kinds j) ≡ false → i ≡ j → ⊥
  differ i j t f e = true≢false (sym t ∙ ap (λ q. has_copies (kinds q)) e ∙ f)

  row-other : (m : Storage) (l : Spot) (v : ℤ) (p : ℕ) → (l.row ≡ p → ⊥) → row_of (write m l v) p ≡ row_of m p
  row-other m l v p n = get_or-set_other m l.row p (set (row_of m l.row) l.at v) [] (λ e. n (sym e))

  row-stored : (m : Storage) (l : Spot) (v : ℤ) → row_of (write m l v) l.row ≡ set (row_of m l.row) l.at v
  row-stored m l v = ⊎_elim
      (λ lt. get_or-set_same m l.row (set (row_of m l.row) l.at v) [] lt)
      (λ le. let e : row_of m l.row ≡ [] = get_or_past m l.row [] le in
      get_or_past (write m l v) l.row [] (omega (arith, length-set m l.row (set (row_of m l.row) l.at v))) ∙ ap (λ r. set r l.at v) (sym e))
      (cases_lt l.row (length m))

  -- a scalar
  pub scalar-stored : (s : State) (m : Storage) (k : ℕ) (v : ℤ) → has_copies (kinds k) ≡ true → length (row_of m k) ≡ 1
      → state_of kinds s (write m (scalar_at k) v) ≡ set_scalar (state_of kinds s m) k v
  scalar-stored s m k v c one = λ i. record s { scalars = scalars i; arrays = arrays i } where
    m' : Storage
    m' = write m (scalar_at k) v

    at : (i : ℕ) → i < length s.scalars → get_or (scalars_in kinds m' 0 s.scalars) i (pos 0) ≡ get_or (set (scalars_in kinds m 0 s.scalars) k v) i (pos 0)
    at i lt = ⊎_elim
        (λ e. scalar-at s m' i lt ∙ if_so (has_copies (kinds i)) (read m' (scalar_at i)) (scalar s i) (subst (λ q. has_copies (kinds q) ≡ true) e c)
        ∙ subst (λ q. read m' (scalar_at q) ≡ v) e (read-write_at m (scalar_at k) v (omega (arith, one)))
        ∙ sym (subst (λ q. get_or (set (scalars_in kinds m 0 s.scalars) k v) q (pos 0) ≡ v) e
        (get_or-set_same (scalars_in kinds m 0 s.scalars) k v (pos 0) (omega (arith, scalars-length m 0 s.scalars, lt, e)))))
        (λ n. scalar-at s m' i lt
        ∙ ap (λ x. if has_copies (kinds i) then x else scalar s i) (read-write_other m (scalar_at k) (scalar_at i) v (λ e. n (ap (λ l. l.row) e)))
        ∙ sym (scalar-at s m i lt)
        ∙ sym (get_or-set_other (scalars_in kinds m 0 s.scalars) k i v (pos 0) (λ e. n (sym e))))
        (cases_eq k i)

    scalars : scalars_in kinds m' 0 s.scalars ≡ set (scalars_in kinds m 0 s.scalars) k v
    scalars = ext_get_or (pos 0) (scalars_in kinds m' 0 s.scalars) (set (scalars_in kinds m 0 s.scalars) k v)
        (scalars-length m' 0 s.scalars ∙ sym (scalars-length m 0 s.scalars) ∙ sym (length-set (scalars_in kinds m 0 s.scalars) k v))
        (λ i lt. at i (omega (arith, lt, scalars-length m' 0 s.scalars)))

    of_array : (i : ℕ) → i < length s.arrays → array (state_of kinds s m') i ≡ array (state_of kinds s m) i
    of_array i lt = array-at s m' i lt ∙ by_cases (has_copies (kinds i))
        (λ t. if_so (has_copies (kinds i)) (array s i) (record (array s i) { elements = row_of m' i }) t
        ∙ sym (if_so (has_copies (kinds i)) (array s i) (record (array s i) { elements = row_of m i }) t))
        (λ f. ap (λ x. if has_copies (kinds i) then array s i else record (array s i) { elements = x }) (row-other m (scalar_at k) v i (differ k i c f)))
        ∙ sym (array-at s m i lt)

    arrays : arrays_in kinds m' 0 s.arrays ≡ arrays_in kinds m 0 s.arrays
    arrays = ext_get_or no_array (arrays_in kinds m' 0 s.arrays) (arrays_in kinds m 0 s.arrays)
        (arrays-length m' 0 s.arrays ∙ sym (arrays-length m 0 s.arrays))
        (λ i lt. of_array i (omega (arith, lt, arrays-length m' 0 s.arrays)))

  -- an element
  pub element-stored : (s : State) (m : Storage) (a p : ℕ) (v : ℤ) → has_copies (kinds a) ≡ false
      → state_of kinds s (write m (record { row = a; at = p }) v) ≡ store (state_of kinds s m) a p v
  element-stored s m a p v c = λ i. record s { scalars = scalars i; arrays = arrays i } where
    l : Spot
    l = record { row = a; at = p }

    m' : Storage
    m' = write m l v

    b : Array
    b = array (state_of kinds s m) a

    b' : Array
    b' = record b { elements = set b.elements p v }

    at : (i : ℕ) → i < length s.scalars → scalar (state_of kinds s m') i ≡ scalar (state_of kinds s m) i
    at i lt = scalar-at s m' i lt ∙ by_cases (has_copies (kinds i))
        (λ t. ap (λ x. if has_copies (kinds i) then x else scalar s i) (read-write_other m l (scalar_at i) v (λ e. differ i a t c (sym (ap (λ q. q.row) e)))))
        (λ f. if_not (has_copies (kinds i)) (read m' (scalar_at i)) (scalar s i) f ∙ sym (if_not (has_copies (kinds i)) (read m (scalar_at i)) (scalar s i) f))
        ∙ sym (scalar-at s m i lt)

    scalars : scalars_in kinds m' 0 s.scalars ≡ scalars_in kinds m 0 s.scalars
    scalars = ext_get_or (pos 0) (scalars_in kinds m' 0 s.scalars) (scalars_in kinds m 0 s.scalars)
        (scalars-length m' 0 s.scalars ∙ sym (scalars-length m 0 s.scalars))
        (λ i lt. at i (omega (arith, lt, scalars-length m' 0 s.scalars)))

    whole : a < length s.arrays → record (array s a) { elements = row_of m a } ≡ b
    whole lt = sym (array-at s m a lt ∙ if_not (has_copies (kinds a)) (array s a) (record (array s a) { elements = row_of m a }) c)

    new_row : row_of m' a ≡ set (row_of m a) p v
    new_row = row-stored m l v

    of_array : (i : ℕ) → i < length s.arrays → array (state_of kinds s m') i ≡ get_or (set (arrays_in kinds m 0 s.arrays) a b') i no_array
    of_array i lt = ⊎_elim
        (λ e. subst (λ q. q < length s.arrays → array (state_of kinds s m') q ≡ get_or (set (arrays_in kinds m 0 s.arrays) a b') q no_array) e
        (λ lt'. array-at s m' a lt' ∙ if_not (has_copies (kinds a)) (array s a) (record (array s a) { elements = row_of m' a }) c
        ∙ ap (with_row (array s a)) new_row
        ∙ ap (with_set p v) (whole lt')
        ∙ sym (get_or-set_same (arrays_in kinds m 0 s.arrays) a b' no_array (omega (arith, lt', arrays-length m 0 s.arrays)))) lt)
        (λ n. array-at s m' i lt ∙ ap (λ x. if has_copies (kinds i) then array s i else record (array s i) { elements = x }) (row-other m l v i n)
        ∙ sym (array-at s m i lt)
        ∙ sym (get_or-set_other (arrays_in kinds m 0 s.arrays) a i b' no_array (λ e. n (sym e))))
        (cases_eq a i)

    arrays : arrays_in kinds m' 0 s.arrays ≡ set (arrays_in kinds m 0 s.arrays) a b'
    arrays = ext_get_or no_array (arrays_in kinds m' 0 s.arrays) (set (arrays_in kinds m 0 s.arrays) a b')
        (arrays-length m' 0 s.arrays ∙ sym (arrays-length m 0 s.arrays) ∙ sym (length-set (arrays_in kinds m 0 s.arrays) a b'))
        (λ i lt. of_array i (omega (arith, lt, arrays-length m' 0 s.arrays)))

  -- a scalar that isn't in the storage
  pub index-stored : (s : State) (m : Storage) (x : ℕ) (v : ℤ) → has_copies (kinds x) ≡ false
      → state_of kinds (set_scalar s x v) m ≡ set_scalar (state_of kinds s m) x v
  index-stored s m x v c = λ i. record s { scalars = scalars i; arrays = arrays_in kinds m 0 s.arrays } where
    at : (i : ℕ) → i < length s.scalars → get_or (scalars_in kinds m 0 (set s.scalars x v)) i (pos 0) ≡ get_or (set (scalars_in kinds m 0 s.scalars) x v) i (pos 0)
    at i lt =
        let lt' : i < length (set s.scalars x v) = omega (arith, lt, length-set s.scalars x v) in
        scalar-at (set_scalar s x v) m i lt' ∙ ⊎_elim
        (λ e. subst (λ q. q < length s.scalars → (if has_copies (kinds q) then read m (scalar_at q) else get_or (set s.scalars x v) q (pos 0))
        ≡ get_or (set (scalars_in kinds m 0 s.scalars) x v) q (pos 0)) e
        (λ below. if_not (has_copies (kinds x)) (read m (scalar_at x)) (get_or (set s.scalars x v) x (pos 0)) c
        ∙ get_or-set_same s.scalars x v (pos 0) below
        ∙ sym (get_or-set_same (scalars_in kinds m 0 s.scalars) x v (pos 0) (omega (arith, below, scalars-length m 0 s.scalars)))) lt)
        (λ n. ap (λ q. if has_copies (kinds i) then read m (scalar_at i) else q) (get_or-set_other s.scalars x i v (pos 0) (λ e. n (sym e)))
        ∙ sym (scalar-at s m i lt)
        ∙ sym (get_or-set_other (scalars_in kinds m 0 s.scalars) x i v (pos 0) (λ e. n (sym e))))
        (cases_eq x i)

    scalars : scalars_in kinds m 0 (set s.scalars x v) ≡ set (scalars_in kinds m 0 s.scalars) x v
    scalars = ext_get_or (pos 0) (scalars_in kinds m 0 (set s.scalars x v)) (set (scalars_in kinds m 0 s.scalars) x v)
        (scalars-length m 0 (set s.scalars x v) ∙ length-set s.scalars x v ∙ sym (scalars-length m 0 s.scalars) ∙ sym (length-set (scalars_in kinds m 0 s.scalars) x v))
        (λ i lt. at i (omega (arith, lt, scalars-length m 0 (set s.scalars x v), length-set s.scalars x v)))

  -- a scalar that isn't assigned
  pub fixed-scalar : (s : State) (m : Storage) (k : ℕ) → has_copies (kinds k) ≡ false → scalar (state_of kinds s m) k ≡ scalar s k
  fixed-scalar s m k f = ⊎_elim
      (λ lt. scalar-at s m k lt ∙ if_not (has_copies (kinds k)) (read m (scalar_at k)) (scalar s k) f)
      (λ le. get_or_past (scalars_in kinds m 0 s.scalars) k (pos 0) (omega (arith, le, scalars-length m 0 s.scalars)) ∙ sym (get_or_past s.scalars k (pos 0) le))
      (cases_lt k (length s.scalars))

  -- at the entry
  pub entry-state : (s : State) (m : Storage) → ((i : ℕ) → i < length s.arrays → row_of m i ≡ row_of (storage_of kinds s) i) → length s.scalars ≡ length s.arrays → state_of kinds s m ≡ s
  entry-state s m alike even = λ i. record s { scalars = scalars i; arrays = arrays i } where
    at : (i : ℕ) → i < length s.scalars → scalar (state_of kinds s m) i ≡ scalar s i
    at i lt = scalar-at s m i lt ∙ by_cases (has_copies (kinds i))
        (λ t. if_so (has_copies (kinds i)) (read m (scalar_at i)) (scalar s i) t
        ∙ ap (λ x. get_or x 0 (pos 0)) (alike i (omega (arith, lt, even)) ∙ row-at s i (omega (arith, lt, even)) ∙ if_so (has_copies (kinds i)) (scalar s i ∷ []) (array s i).elements t))
        (λ f. if_not (has_copies (kinds i)) (read m (scalar_at i)) (scalar s i) f)

    scalars : scalars_in kinds m 0 s.scalars ≡ s.scalars
    scalars = ext_get_or (pos 0) (scalars_in kinds m 0 s.scalars) s.scalars (scalars-length m 0 s.scalars)
        (λ i lt. at i (omega (arith, lt, scalars-length m 0 s.scalars)))

    of_array : (i : ℕ) → i < length s.arrays → array (state_of kinds s m) i ≡ array s i
    of_array i lt = array-at s m i lt ∙ by_cases (has_copies (kinds i))
        (λ t. if_so (has_copies (kinds i)) (array s i) (record (array s i) { elements = row_of m i }) t)
        (λ f. if_not (has_copies (kinds i)) (array s i) (record (array s i) { elements = row_of m i }) f
        ∙ ap (with_row (array s i)) (alike i lt ∙ row-at s i lt ∙ if_not (has_copies (kinds i)) (scalar s i ∷ []) (array s i).elements f))

    arrays : arrays_in kinds m 0 s.arrays ≡ s.arrays
    arrays = ext_get_or no_array (arrays_in kinds m 0 s.arrays) s.arrays (arrays-length m 0 s.arrays)
        (λ i lt. of_array i (omega (arith, lt, arrays-length m 0 s.arrays)))

  pub rows-kept : (m : Storage) (l : Spot) (v : ℤ) → HasRows kinds m → HasRows kinds (write m l v)
  rows-kept m l v h k t = (Alike-write m l v).extent k ∙ h k t
