-- Of the claim.
-- Where the rows of a nest lie among the machine's rows, as numbers. The nest's storage has a row for each name, and after those its stored conditions.
-- The machine has a row for each name, after those the copies of each scalar that the nest assigns, then the stored conditions, and then the marks.
use Rattle.std.specs.Prelude.{◌≡◌, ℕ, suc, ◌+◌, ◌<◌, nat_lt, List, [], ◌∷◌, length, Bool, Option, Some, None, if◌then◌else◌}
use Rattle.statement_trail.specs.NestKinds.{Kind, New, Assigned, Reduced}
use Rattle.statement_trail.specs.Finals.{Final, Folds, Lasts}
use Rattle.statement_trail.specs.NestParts.{index_in}

-- no number stands twice in a list
abbrev pub AreDistinct : List ℕ → Type 0
AreDistinct [] = Unit {0}
AreDistinct (k ∷ ks) = (index_in ks 0 k ≡ None) × AreDistinct ks

-- scalars that are among n names, each once
pub record AreScalars (n : ℕ) (scalars : List ℕ) : Type 0 where
  pub below : (k j : ℕ) → index_in scalars 0 k ≡ Some j → k < n
  pub distinct : AreDistinct scalars

-- n names, the scalars that the nest assigns, and so many stored conditions
module _ (n : ℕ) (scalars : List ℕ) (conditions : ℕ) where
  -- the first rows of stored conditions and of marks
  abbrev pub conditions_from : ℕ
  conditions_from = n + length scalars

  abbrev pub marks_from : ℕ
  marks_from = n + length scalars + conditions

  -- a row of the nest: copies of the scalar with place j among those, or no copies
  abbrev pub place_by : Option ℕ → ℕ → ℕ
  place_by (Some j) r = n + j
  place_by None r = if nat_lt r n then r else length scalars + r

  abbrev pub place_of : ℕ → ℕ
  place_of r = place_by (index_in scalars 0 r) r

  abbrev pub is_nest_row : ℕ → Bool
  is_nest_row r = nat_lt r (n + conditions)

  -- the marks of a scalar; a REDUCTION variable has none
  abbrev pub marks_by : Kind → Option ℕ → Option ℕ
  marks_by New (Some j) = Some (marks_from + j)
  marks_by Assigned (Some j) = Some (marks_from + j)
  marks_by kind o = None

  abbrev pub marks_of : (ℕ → Kind) → ℕ → Option ℕ
  marks_of kinds k = marks_by (kinds k) (index_in scalars 0 k)

  -- how the scalar with place j gets its value after the nest
  abbrev pub final_by : Kind → (j k : ℕ) → Final
  final_by (Reduced op) j k = Folds op (n + j) k
  final_by kind j k = Lasts (n + j) (marks_from + j) k

  abbrev pub finals_from : (ℕ → Kind) → ℕ → List ℕ → List Final
  finals_from kinds j [] = []
  finals_from kinds j (k ∷ ks) = final_by (kinds k) j k ∷ finals_from kinds (suc j) ks

  -- of all scalars
  abbrev pub finals_of : (ℕ → Kind) → List Final
  finals_of kinds = finals_from kinds 0 scalars
