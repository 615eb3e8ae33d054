-- An act that faults is the last of its part.
use Rattle.std.proofs.Common.{◌≡◌, ℕ, zero, suc, ◌<◌, List, [], ◌∷◌, arith}
use Rattle.std.specs.Prelude.{slice_get}
use Rattle.storage.specs.Storage.{Storage}
use Rattle.storage.specs.Effect.{Fail}
use Rattle.nest_order.specs.Parts.{NestPart, Acts, Tests}
use Rattle.nest_order.specs.Nest.{Interpretation, effects, effect_at, part_of}

module _ {A C F : Type 0} (S : Interpretation A C F) (row i : ℕ) where
  pub later_part : (ps : List (NestPart A C)) (j j' : ℕ) (m : Storage) (f : F) → effect_at (slice_get (effects S row i ps) j) m ≡ Fail f → j < j' → part_of ps j < part_of ps j'
  later_part [] j j' m f fails lt = absurd cc
  later_part (Acts g a ∷ ps) j zero m f fails lt = absurd (omega arith)
  later_part (Acts g a ∷ ps) zero (suc j') m f fails lt = omega arith
  later_part (Acts g a ∷ ps) (suc j) (suc j') m f fails lt = let z = later_part ps j j' m f fails (omega arith) in omega arith
  later_part (Tests k g es test ∷ ps) zero j' m f fails lt = absurd cc
  later_part (Tests k g es test ∷ ps) (suc j) zero m f fails lt = absurd (omega arith)
  later_part (Tests k g es test ∷ ps) (suc j) (suc zero) m f fails lt = absurd (omega arith)
  later_part (Tests k g es test ∷ ps) (suc zero) (suc (suc j')) m f fails lt = omega arith
  later_part (Tests k g es test ∷ ps) (suc (suc j)) (suc (suc j')) m f fails lt = let z = later_part ps j j' m f fails (omega arith) in omega arith
