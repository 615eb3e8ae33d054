-- Of the claim.
-- The text of a program's last arrays.
use Rattle.std.specs.Prelude.{ℕ, List, [], ◌∷◌, ◌++◌, length, codes, ℤ, Option, Some, None, slice_get, slice_index_or}
use Rattle.std.specs.Fmt.{signed_decimal}
use Rattle.std.specs.List.{flat_map, range_with_len}
use Rattle.name_table.specs.declared.names.Entry.{Entry}
use Rattle.name_table.specs.declared.names.What.{What}
use Rattle.name_table.specs.declared.names.What.TheVariants as what

-- numbers in decimal, each after a blank
abbrev pub elements_text : List ℤ → List ℕ
elements_text = flat_map (λ n. 32 ∷ signed_decimal n)

-- the line of an array: its name, and its elements in array-element order. What is no array has none
abbrev pub array_line : List ℕ → What → List ℤ → List ℕ
array_line name (what.Array ds v) elements = name ++ codes " =" ++ elements_text elements ++ codes "\n"
array_line name w elements = []

abbrev pub entry_line : Option Entry → List ℤ → List ℕ
entry_line None elements = []
entry_line (Some e) elements = array_line e.name e.what elements

-- the lines of all arrays, in the order of the declarations
abbrev pub arrays_text : List Entry → List (List ℤ) → List ℕ
arrays_text names arrays = flat_map (λ k. entry_line (slice_get names k) (slice_index_or arrays k [])) (range_with_len 0 (length names))
