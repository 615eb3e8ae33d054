-- The code of the row that a word finds is the word's place.
use Rattle.std.proofs.Common.{◌≡◌, ℕ, ◌+◌, List, [], ◌∷◌, length, map, true, false, cond, Option, Some, refl, sym, ap, ◌∙◌, bytes_eq}
use Rattle.std.proofs.lemmas.Iterator.Adapters.{position_from-zero}
use Rattle.std.specs.List.{position_from, range_with_len}
use Rattle.std.specs.Option.{option_map}
use Rattle.op_tables.specs.Tables.{row_of, IsTableOf}
use Rattle.op_tables.specs.Words.{code_in}
use Rattle.op_tables.specs.declared.table.Row.{Row}

-- the code of the row that a word finds
abbrev pub code_found : List Row → List ℕ → Option ℕ
code_found rows word = option_map (λ row. row.code) (row_of rows word)

-- the place of a word, where places are counted from `at`
abbrev place_from : ℕ → List (List ℕ) → List ℕ → Option ℕ
place_from at words word = position_from (λ w. bytes_eq w word) at words

code_found-from : (word : List ℕ) (rows : List Row) (at : ℕ) → map (λ row. row.code) rows ≡ range_with_len at (length rows) →
    code_found rows word ≡ place_from at (map (λ row. row.spelling.now) rows) word
code_found-from word [] at coded = refl
code_found-from word (row ∷ rows) at coded =
    let head : row.code ≡ at = cc in
    let tail : map (λ row. row.code) rows ≡ range_with_len (at + 1) (length rows) = cc in
    let places = place_from (at + 1) (map (λ row. row.spelling.now) rows) in
    elim (bytes_eq row.spelling.now word) as (λ here. option_map (λ row. row.code) (cond here (Some row) (row_of rows word)) ≡ cond here (Some at) (places word)) [
      | true ↦ ap Some head
      | false ↦ code_found-from word rows (at + 1) tail
    ]

pub code_found-code_in : (words : List (List ℕ)) (rows : List Row) (word : List ℕ) → IsTableOf words rows → code_found rows word ≡ code_in words word
code_found-code_in words rows word is =
    code_found-from word rows 0 is.coded
    ∙ ap (λ (ws : List (List ℕ)). place_from 0 ws word) is.spelled
    ∙ sym (position_from-zero _ words)
