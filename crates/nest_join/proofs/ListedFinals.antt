-- Each scalar with copies has its final in the list of a nest.
use Rattle.std.proofs.Common.{◌≡◌, ℕ, suc, ◌+◌, ◌<◌, ◌≤◌, ◌⊎◌, inl, inr, nat_eq, List, [], ◌∷◌, ℤ, Bool, true, false, Some, if◌then◌else◌, refl, sym, ◌∙◌, arith}
use Rattle.std.specs.List.{Contains}
use Rattle.storage.specs.Storage.{Storage, read}
use Rattle.nest_syntax.specs.NestKinds.{Kind, Shared, New, Assigned, Reduced, has_copies}
use Rattle.nest_order.specs.Copies.{scalar_at}
use Rattle.code_meaning.specs.Flat.{slot}
use Rattle.nest_syntax.specs.Finals.{Final}
use Rattle.nest_machine.specs.Finals.{final_slot}
use Rattle.nest_machine.specs.PlacedEnds.{OfScalar, OfMarks, IsPlacedFinal}
use Rattle.statement_trail.specs.NestParts.{index_in}
use Rattle.nest_join.specs.NestNames.{NestNames}
use Rattle.nest_join.specs.NestTexts.{texts_of}
use Rattle.program_code.specs.Places.{conditions_from, marks_from, place_of, is_nest_row, marks_of, final_by, finals_from, finals_of, AreScalars}
use Rattle.nest_join.proofs.Names.{eq-is}
use Rattle.nest_join.proofs.RowPlaces.{rows-before, name-row, slot-is}
use Rattle.nest_join.proofs.PairedTexts.{are-paired, place-here}

module _ (w : NestNames) (scalars : List ℕ) (conditions : ℕ) (are : AreScalars w.count scalars)
    (places : (k : ℕ) → w.place k ≡ place_of w.count scalars conditions k) (marks : (k : ℕ) → w.marks k ≡ marks_of w.count scalars conditions w.kinds k)
    (listed : (k : ℕ) → has_copies (w.kinds k) ≡ true → (j : ℕ) × (index_in scalars 0 k ≡ Some j))
    (rows : (r : ℕ) → w.is_row r ≡ is_nest_row w.count scalars conditions r)
    (b : ℕ) (start : Storage) (entry : List ℤ) (below : w.count ≤ b) where
  abbrev n : ℕ
  n = w.count

  abbrev IsFinal : Final → ℕ → Type 0
  IsFinal = IsPlacedFinal (texts_of w) (conditions_from n scalars conditions) n conditions b w.place w.is_row w.is_index w.kinds start entry

  module _ (k j : ℕ) (lt : k < n) (e : index_in scalars 0 k ≡ Some j) (no_index : w.is_index k ≡ false) (value : slot entry k ≡ read start (scalar_at k)) where
    abbrev OfThis : Type 0
    OfThis = OfScalar (texts_of w) (conditions_from n scalars conditions) n conditions b w.place w.is_row w.is_index w.kinds start entry k (n + j) k

    abbrev OfItsMarks : Type 0
    OfItsMarks = OfMarks (texts_of w) (conditions_from n scalars conditions) n conditions b w.place w.is_row w.is_index w.kinds start entry (n + j) (marks_from n scalars conditions + j)

    of-this : OfThis
    of-this = record {
      lies = sym (place-here w scalars conditions are places marks listed k j e);
      own = rows k ∙ name-row n scalars conditions are k lt;
      below = lt;
      slot_below = omega (arith, lt, below);
      value = value;
      no_index = no_index;
    }

    of-marks : (w.kinds k ≡ New) ⊎ (w.kinds k ≡ Assigned) → OfItsMarks
    of-marks kind = record {
      off = λ r of_row at. let before = rows-before n scalars conditions are r (sym (rows r) ∙ of_row) in let lies = sym (places r) ∙ at in omega (arith, before, lies);
      paired = are-paired w scalars conditions are places marks listed k j e kind;
    }

    by-kind : (kind : Kind) → w.kinds k ≡ kind → has_copies kind ≡ true → IsFinal (final_by n scalars conditions kind j k) k
    by-kind Shared is has = cc
    by-kind New is has = (of-this, inl is, of-marks (inl is))
    by-kind Assigned is has = (of-this, inr is, of-marks (inr is))
    by-kind (Reduced op) is has = (of-this, is)

    pub is-final : has_copies (w.kinds k) ≡ true → IsFinal (final_by n scalars conditions (w.kinds k) j k) k
    is-final has = by-kind (w.kinds k) refl has

    contains : (ks : List ℕ) (i : ℕ) → index_in ks i k ≡ Some j → Contains (finals_from n scalars conditions w.kinds i ks) (final_by n scalars conditions (w.kinds k) j k)
    contains [] i h = cc
    contains (x ∷ xs) i h = by_test (nat_eq x k) refl h (contains xs (suc i))
      where
        by_test : (t : Bool) → nat_eq x k ≡ t → (if t then Some i else index_in xs (suc i) k) ≡ Some j
            → (index_in xs (suc i) k ≡ Some j → Contains (finals_from n scalars conditions w.kinds (suc i) xs) (final_by n scalars conditions (w.kinds k) j k))
            → Contains (finals_from n scalars conditions w.kinds i (x ∷ xs)) (final_by n scalars conditions (w.kinds k) j k)
        by_test true same h next =
            let name : x ≡ k = eq-is x k same in
            let at : i ≡ j = cc in
            (0, omega arith, λ p. final_by n scalars conditions (w.kinds (name p)) (at p) (name p))
        by_test false other h next = let r = next h in (suc r.0, (let z = r.1 in omega (arith, z)), r.2)

    pub has-final : has_copies (w.kinds k) ≡ true → (f : Final) × Contains (finals_of n scalars conditions w.kinds) f × (final_slot f ≡ k) × IsFinal f k
    has-final has = (final_by n scalars conditions (w.kinds k) j k, contains scalars 0 e, slot-is n scalars conditions are w.kinds (w.kinds k) j k, is-final has)
