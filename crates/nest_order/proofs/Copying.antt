-- What an iteration sees of a storage with copies, and what the copies are at the entry.
use Rattle.std.proofs.Common.{◌≡◌, ℕ, zero, suc, ◌+◌, ◌<◌, ◌≤◌, List, [], ◌∷◌, length, get_or, Bool, true, false, if◌then◌else◌, refl, ap, sym, ◌∙◌, arith, ℤ, pos, ⊎_elim}
use Rattle.std.proofs.lemmas.Bool.{cases_lt}
use Rattle.std.proofs.lemmas.List.{get_or_past, get_or-replicate, length-replicate}
use Rattle.storage.specs.Storage.{Storage, Spot, row_of, read, Alike}
use Rattle.nest_order.specs.LastValue.{copy_at}
use Rattle.op_tables.specs.Joins.{unit}
use Rattle.nest_syntax.specs.NestKinds.{Kind, Shared, New, Assigned, Reduced, has_copies}
use Rattle.nest_order.specs.Copies.{scalar_at, each_row, entry_copies, seen_by, own_spot, with_copies}

pub shared_of : (k : Kind) → has_copies k ≡ false → k ≡ Shared
shared_of Shared e = refl
shared_of New e = absurd cc
shared_of Assigned e = absurd cc
shared_of (Reduced op) e = absurd cc

each_row-length : (f : ℕ → List ℤ → List ℤ) (b : ℕ) (m : Storage) → length (each_row f b m) ≡ length m
each_row-length f b [] = refl
each_row-length f b (r ∷ m) = ap suc (each_row-length f (suc b) m)

each_row-in : (f : ℕ → List ℤ → List ℤ) (b : ℕ) (m : Storage) (k row : ℕ) → row ≡ b + k → k < length m → row_of (each_row f b m) k ≡ f row (row_of m k)
each_row-in f b [] k row e lt = absurd (omega arith)
each_row-in f b (r ∷ m) zero row e lt = ap (λ x. f x r) (omega arith)
each_row-in f b (r ∷ m) (suc k) row e lt = each_row-in f (suc b) m k row (omega arith) (omega arith)

each_row-out : (f : ℕ → List ℤ → List ℤ) (b : ℕ) (m : Storage) (k : ℕ) → length m ≤ k → row_of (each_row f b m) k ≡ []
each_row-out f b m k le = get_or_past (each_row f b m) k [] (omega (arith, each_row-length f b m))

module _ (kinds : ℕ → Kind) where
  abbrev seen_row : ℕ → ℕ → List ℤ → List ℤ
  seen_row i row elements = if has_copies (kinds row) then get_or elements i (pos 0) ∷ [] else elements

  pub seen-shared : (i : ℕ) (m : Storage) (spot : Spot) → kinds spot.row ≡ Shared → read (seen_by kinds i m) spot ≡ read m spot
  seen-shared i m spot e = ap (λ r. get_or r spot.at (pos 0)) (⊎_elim
      (λ lt. each_row-in (seen_row i) 0 m spot.row spot.row (omega arith) lt ∙ ap (λ k. if has_copies k then get_or (row_of m spot.row) i (pos 0) ∷ [] else row_of m spot.row) e)
      (λ le. each_row-out (seen_row i) 0 m spot.row le ∙ sym (get_or_past m spot.row [] le))
      (cases_lt spot.row (length m)))

  pub seen-copy : (i : ℕ) (m : Storage) (row : ℕ) → has_copies (kinds row) ≡ true → read (seen_by kinds i m) (scalar_at row) ≡ read m (copy_at row i)
  seen-copy i m row e = ⊎_elim
      (λ lt. ap (λ r. get_or r 0 (pos 0)) (each_row-in (seen_row i) 0 m row row (omega arith) lt ∙ ap (λ t. if t then get_or (row_of m row) i (pos 0) ∷ [] else row_of m row) e))
      (λ le. ap (λ r. get_or r 0 (pos 0)) (each_row-out (seen_row i) 0 m row le) ∙ sym (ap (λ r. get_or r i (pos 0)) (get_or_past m row [] le)))
      (cases_lt row (length m))

  pub own-shared : (i : ℕ) (spot : Spot) → kinds spot.row ≡ Shared → own_spot kinds i spot ≡ spot
  own-shared i spot e = ap (λ k. if has_copies k then copy_at spot.row i else spot) e

  pub own-copy : (i row : ℕ) → has_copies (kinds row) ≡ true → own_spot kinds i (scalar_at row) ≡ copy_at row i
  own-copy i row e = ap (λ t. if t then copy_at row i else scalar_at row) e

  module _ (n : ℕ) (start : Storage) where
    pub copies-shared : (row : ℕ) → kinds row ≡ Shared → row_of (with_copies kinds n start) row ≡ row_of start row
    copies-shared row e = ⊎_elim
        (λ lt. each_row-in (λ r. entry_copies (kinds r) n) 0 start row row (omega arith) lt ∙ ap (λ k. entry_copies k n (row_of start row)) e)
        (λ le. each_row-out (λ r. entry_copies (kinds r) n) 0 start row le ∙ sym (get_or_past start row [] le))
        (cases_lt row (length start))

    abbrev pub entry_value : Kind → List ℤ → ℤ
    entry_value Shared elements = pos 0
    entry_value New elements = get_or elements 0 (pos 0)
    entry_value Assigned elements = get_or elements 0 (pos 0)
    entry_value (Reduced op) elements = unit op

    at_entry : (k : Kind) (elements : List ℤ) → has_copies k ≡ true
        → (length (entry_copies k n elements) ≡ n) × ((i : ℕ) → i < n → get_or (entry_copies k n elements) i (pos 0) ≡ entry_value k elements)
    at_entry Shared elements e = absurd cc
    at_entry New elements e = (length-replicate n (get_or elements 0 (pos 0)), λ i lt. get_or-replicate n i (get_or elements 0 (pos 0)) (pos 0) lt)
    at_entry Assigned elements e = (length-replicate n (get_or elements 0 (pos 0)), λ i lt. get_or-replicate n i (get_or elements 0 (pos 0)) (pos 0) lt)
    at_entry (Reduced op) elements e = (length-replicate n (unit op), λ i lt. get_or-replicate n i (unit op) (pos 0) lt)

    module _ (scalars : (row : ℕ) → has_copies (kinds row) ≡ true → length (row_of start row) ≡ 1) where
      there : (row : ℕ) → has_copies (kinds row) ≡ true → row < length start
      there row e = ⊎_elim
          (λ lt. lt)
          (λ le. let z : length (row_of start row) ≡ 0 = ap length (get_or_past start row [] le) in absurd (omega (arith, scalars row e)))
          (cases_lt row (length start))

      copies-row : (row : ℕ) → has_copies (kinds row) ≡ true → row_of (with_copies kinds n start) row ≡ entry_copies (kinds row) n (row_of start row)
      copies-row row e = each_row-in (λ r. entry_copies (kinds r) n) 0 start row row (omega arith) (there row e)

      pub copies-length : (row : ℕ) → has_copies (kinds row) ≡ true → length (row_of (with_copies kinds n start) row) ≡ n
      copies-length row e = ap length (copies-row row e) ∙ (at_entry (kinds row) (row_of start row) e).0

      pub copies-value : (row i : ℕ) → has_copies (kinds row) ≡ true → i < n → read (with_copies kinds n start) (copy_at row i) ≡ entry_value (kinds row) (row_of start row)
      copies-value row i e lt = ap (λ r. get_or r i (pos 0)) (copies-row row e) ∙ (at_entry (kinds row) (row_of start row) e).1 i lt

      -- what an iteration sees has the extents of the storage with one object each
      pub alike-seen : (i : ℕ) (m : Storage) → Alike m (with_copies kinds n start) → Alike (seen_by kinds i m) start
      alike-seen i m alike = record {
        count = each_row-length (seen_row i) 0 m ∙ alike.count ∙ each_row-length (λ r. entry_copies (kinds r) n) 0 start;
        extent = λ row. ⊎_elim
            (λ lt. ap length (each_row-in (seen_row i) 0 m row row (omega arith) lt) ∙ go row (has_copies (kinds row)) refl)
            (λ le.
            let s : length start ≤ row = omega (arith, le, alike.count, each_row-length (λ r. entry_copies (kinds r) n) 0 start) in
            ap length (each_row-out (seen_row i) 0 m row le) ∙ sym (ap length (get_or_past start row [] s)))
            (cases_lt row (length m));
      }
        where
          go : (row : ℕ) (t : Bool) → has_copies (kinds row) ≡ t → length (if t then get_or (row_of m row) i (pos 0) ∷ [] else row_of m row) ≡ length (row_of start row)
          go row true e = sym (scalars row e)
          go row false e = alike.extent row ∙ ap length (copies-shared row (shared_of (kinds row) e))
