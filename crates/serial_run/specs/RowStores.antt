-- Of private clauses.
-- Stores by rows of a space: in each row the places follow one another. Private contracts alone cite this.
use Rattle.std.specs.Prelude.{ℕ, suc, ◌+◌, ◌/◌, ◌%◌, List, length, map, slice_index_or, ℤ, pos}
use Rattle.std.specs.List.{range_with_len}
use Rattle.array_meaning.specs.declared.sections.Store.{Store}
use Rattle.serial_run.specs.declared.row_stores.RowStores.{RowStores}
use Rattle.serial_run.specs.declared.row_stores.Stores.{Stores}
use Rattle.serial_run.specs.declared.row_stores.Stores.TheVariants.{Listed, ByRows}

-- what is stored at the tuple with a number, by the first places of the rows, their length and the values
abbrev pub row_store : List ℕ → ℕ → List ℤ → ℕ → Store
row_store firsts n values t = record { place = slice_index_or firsts (t / n) 0 + t % n; value = slice_index_or values t (pos 0) }

-- at the tuples below a number
abbrev pub stores_below : List ℕ → ℕ → List ℤ → ℕ → List Store
stores_below firsts n values t = map (row_store firsts n values) (range_with_len 0 t)

abbrev pub rows_of : RowStores → List Store
rows_of r = stores_below r.firsts.items (suc r.last) r.values.items (length r.values.items)

-- what is stored, in either form
abbrev pub stores_of : Stores → List Store
stores_of (Listed v) = v.items
stores_of (ByRows r) = rows_of r
