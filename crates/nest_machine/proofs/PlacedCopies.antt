-- After the copies that are made at the entry of a nest its rows lie at their places, and the marks of each scalar are unset and lie as its copies.
use Rattle.std.proofs.Common.{◌≡◌, ℕ, zero, suc, ◌+◌, ◌<◌, ◌⊎◌, inl, inr, List, [], ◌∷◌, length, replicate, slice_get, slice_index_or, ℤ, pos, Bool, true, false, Some, refl, sym, ap, ◌∙◌, arith}
use Rattle.std.specs.List.{Contains}
use Rattle.std.proofs.lemmas.List.{length-replicate}
use Rattle.std.proofs.lemmas.List.Elements.{Contains-append_left}
use Rattle.storage.specs.Storage.{Storage, row_of, read}
use Rattle.nest_syntax.specs.NestKinds.{Kind}
use Rattle.nest_order.specs.Copies.{each_row, entry_copies, with_copies}
use Rattle.machine_steps.specs.Layout.{Layout, size_of}
use Rattle.machine_steps.specs.Machine.{lie_alike, is_one}
use Rattle.nest_machine.specs.Counting.{slot}
use Rattle.nest_machine.specs.Trace.{Data}
use Rattle.nest_syntax.specs.Finals.{Final, Lasts}
use Rattle.nest_machine.specs.Entries.{Entry, at_zero, finals_entries, conditions_entries, nest_entries, all_made, NotMade}
use Rattle.nest_machine.specs.Placed.{Placed}
use Rattle.nest_machine.specs.PlacedEntry.{IsPlacedMemory}
use Rattle.nest_machine.proofs.MadeCopies.{in-first, in-later, entries-of-final, made-other, all-made-here}

-- ---- rows of storages with copies

pub row-each : (f : ℕ → List ℤ → List ℤ) (k : ℕ) (m : Storage) (r : ℕ) → r < length m → row_of (each_row f k m) r ≡ f (k + r) (row_of m r)
row-each f k [] r lt = absurd (omega (arith, lt))
row-each f k (x ∷ m) zero lt = let e : k ≡ k + 0 = omega arith in ap (λ z. f z x) e
row-each f k (x ∷ m) (suc r) lt = let e : suc k + r ≡ k + suc r = omega arith in row-each f (suc k) m r (omega (arith, lt)) ∙ ap (λ z. f z (row_of m r)) e

pub length-each : (f : ℕ → List ℤ → List ℤ) (k : ℕ) (m : Storage) → length (each_row f k m) ≡ length m
length-each f k [] = refl
length-each f k (x ∷ m) = ap suc (length-each f (suc k) m)

row-copies : (kinds : ℕ → Kind) (n : ℕ) (start : Storage) (r : ℕ) → r < length start → row_of (with_copies kinds n start) r ≡ entry_copies (kinds r) n (row_of start r)
row-copies kinds n start r lt = let e : 0 + r ≡ r = omega arith in row-each (λ row. entry_copies (kinds row) n) 0 start r lt ∙ ap (λ z. entry_copies (kinds z) n (row_of start r)) e

-- before the body the marks of a scalar are unset at all n iterations, and lie as its copies do
pub record AreUnset {F : Type 0} (alike : Layout → Layout → Bool) (n : ℕ) (d : Data F) (mr q : ℕ) : Type 0 where
  pub long : length (row_of d.rows q) ≡ n
  pub unset : (i : ℕ) → i < n → is_one (read d.rows (record { row = q; at = i })) ≡ false
  pub lie : lie_alike alike (slice_get d.layouts mr) (slice_get d.layouts q) ≡ true
  pub many : length (row_of d.rows mr) ≡ n

zeros-unset : (k i : ℕ) → is_one (slice_index_or (replicate k (pos 0)) i (pos 0)) ≡ false
zeros-unset zero i = refl
zeros-unset (suc k) zero = refl
zeros-unset (suc k) (suc i) = zeros-unset k i

module _ {F : Type 0} (layout : List Layout → List ℤ → Layout) (s : List ℤ) (place : ℕ → ℕ) (is_row : ℕ → Bool) (kinds : ℕ → Kind) (n : ℕ) (start : Storage) (es : List Entry) (d : Data F)
    (memory : IsPlacedMemory layout s place is_row kinds n start es d) (sized : size_of (layout d.layouts s) ≡ n) where
  abbrev d1 : Data F
  d1 = all_made layout es s d

  entry-made : (e : Entry) → Contains es e → (row_of d1.rows e.row ≡ replicate n (e.start s)) × (slice_get d1.layouts e.row ≡ Some (layout d.layouts s))
  entry-made e c =
      let h = all-made-here layout s es d memory.apart memory.few memory.as_many memory.steady e c in
      (h.0 ∙ ap (λ z. replicate z (e.start s)) sized, h.1)

  pub entered-placed : Placed place is_row (with_copies kinds n start) d1.rows
  entered-placed r of_row = by_entry (memory.rows r of_row) ∙ sym (row-copies kinds n start r (memory.inside r of_row))
    where
      by_entry : ((e : Entry) × Contains es e × (e.row ≡ place r) × (entry_copies (kinds r) n (row_of start r) ≡ replicate n (e.start s)))
          ⊎ (NotMade (place r) es × (entry_copies (kinds r) n (row_of start r) ≡ row_of d.rows (place r)))
          → row_of d1.rows (place r) ≡ entry_copies (kinds r) n (row_of start r)
      by_entry (inl (e, c, at, value)) = ap (row_of d1.rows) (sym at) ∙ (entry-made e c).0 ∙ sym value
      by_entry (inr (off, value)) = (made-other layout s es d (place r) off).0 ∙ sym value

  -- the marks of a scalar
  pub are-unset : (alike : Layout → Layout → Bool) → ((l : Layout) → alike l l ≡ true) → (mr q x : ℕ) → Contains es (record { row = mr; start = λ z. slot z x })
      → Contains es (at_zero q) → AreUnset alike n d1 mr q
  are-unset alike alike_refl mr q x cr cq =
      let copies = entry-made (record { row = mr; start = λ z. slot z x }) cr in
      let marks = entry-made (at_zero q) cq in record {
        long = ap length marks.0 ∙ length-replicate n (pos 0);
        unset = λ i lt. ap (λ xs. is_one (slice_index_or xs i (pos 0))) marks.0 ∙ zeros-unset n i;
        lie = (λ k. lie_alike alike (copies.1 k) (marks.1 k)) ∙ alike_refl (layout d.layouts s);
        many = ap length copies.0 ∙ length-replicate n (slot s x);
      }

-- of each scalar that has marks
module _ {F : Type 0} (layout : List Layout → List ℤ → Layout) (s : List ℤ) (place : ℕ → ℕ) (is_row : ℕ → Bool) (kinds : ℕ → Kind) (n : ℕ) (start : Storage) (finals : List Final)
    (stored count : ℕ) (d : Data F) (memory : IsPlacedMemory layout s place is_row kinds n start (nest_entries finals stored count) d) (sized : size_of (layout d.layouts s) ≡ n) where
  pub unset-marks : (alike : Layout → Layout → Bool) → ((l : Layout) → alike l l ≡ true) → (mr q x : ℕ) → Contains finals (Lasts mr q x)
      → AreUnset alike n (all_made layout (nest_entries finals stored count) s d) mr q
  unset-marks alike alike_refl mr q x c =
      let er : Entry = record { row = mr; start = λ z. slot z x } in
      are-unset layout s place is_row kinds n start (nest_entries finals stored count) d memory sized alike alike_refl mr q x
      (Contains-append_left (finals_entries finals) (conditions_entries stored count) er (entries-of-final finals (Lasts mr q x) c er (in-first er (at_zero q ∷ []))))
      (Contains-append_left (finals_entries finals) (conditions_entries stored count) (at_zero q)
      (entries-of-final finals (Lasts mr q x) c (at_zero q) (in-later er (at_zero q) (at_zero q ∷ []) (in-first (at_zero q) []))))
