-- Of private clauses.
-- Expressions that have one value at all tuples. Private contracts alone cite this.
use Rattle.std.specs.Prelude.{◌≡◌, Bool, true, false, ◌&&◌, List, [], ℕ, ℤ, Ok}
use Rattle.node_code.specs.Flat.{Flat, Int, Slot, Axis, Read, Operated, Flats, NoFlat, AndFlat}
use Rattle.code_meaning.specs.Flat.{flat_value}
use Rattle.expression_rules.specs.declared.dims.Dim.{Dim}
use Rattle.storage.specs.Storage.{Spot}
use Rattle.node_code.specs.Forms.{ArrayForm}
use Rattle.code_meaning.specs.NestStatements.{nest_elemental}
use Rattle.tuple_values.specs.ByElements.{value_by_elements}

-- they see no axis, and no copy
abbrev mutual
  pub is_fixed : Flat → Bool
  is_fixed (Int v) = true
  is_fixed (Slot k) = true
  is_fixed (Axis k) = false
  is_fixed (Read k) = true
  is_fixed (Operated o fs) = are_fixed fs

  pub are_fixed : Flats → Bool
  are_fixed NoFlat = true
  are_fixed (AndFlat f fs) = is_fixed f && are_fixed fs

-- one that has this value
pub record IsFixed (slots : List ℤ) (f : Flat) (v : ℤ) : Type 0 where
  pub fixed : is_fixed f ≡ true
  pub value : flat_value slots [] [] f ≡ Ok v

-- an array expression that has this value at each tuple, whatever the elements are
pub record IsFixedForm (slots : List ℤ) (f : ArrayForm) (v : ℤ) : Type 0 where
  pub at : (shapes : List (List Dim)) (get : Spot → ℤ) (x axes seen : List ℤ) → value_by_elements shapes get x (nest_elemental slots axes seen f) ≡ Ok v
