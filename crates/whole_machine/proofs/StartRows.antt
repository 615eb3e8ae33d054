-- Rows whose elements have one value each.
use Rattle.std.proofs.Common.{◌≡◌, ℕ, zero, suc, ◌<◌, ◌≤◌, ◌+◌, ℤ, List, [], ◌∷◌, ◌++◌, length, get_or, replicate, take, slice_index_or, refl, sym, ◌∙◌, ap, arith}
use Rattle.std.proofs.lemmas.List.{take_all, take_more}
use Rattle.storage.specs.Storage.{Storage}
use Rattle.machine_steps.specs.Layout.{Layout, sizes}
use Rattle.node_program.specs.Openings.{start_rows}

start_rows-length : (layouts : List Layout) (starts : List ℤ) → length starts ≡ length layouts → length (start_rows layouts starts) ≡ length layouts
start_rows-length [] starts e = refl
start_rows-length (l ∷ ls) [] e = absurd (omega arith)
start_rows-length (l ∷ ls) (s ∷ ss) e = ap suc (start_rows-length ls ss (omega arith))

start_row : (layouts : List Layout) (starts : List ℤ) (row : ℕ) (d : ℤ) → length starts ≡ length layouts → row < length starts
    → get_or (start_rows layouts starts) row [] ≡ replicate (slice_index_or (sizes layouts) row 0) (get_or starts row d)
start_row [] starts row d e lt = absurd (omega arith)
start_row (l ∷ ls) [] row d e lt = absurd (omega arith)
start_row (l ∷ ls) (s ∷ ss) zero d e lt = refl
start_row (l ∷ ls) (s ∷ ss) (suc row) d e lt = start_row ls ss row d (omega arith) (omega arith)

pub start_rows-more : (layouts : List Layout) (starts : List ℤ) (row : ℕ) (d : ℤ) (done more : Storage) (values : List ℤ)
    → length starts ≡ length layouts → row < length starts → more ≡ done ++ values ∷ []
    → values ≡ replicate (slice_index_or (sizes layouts) row 0) (get_or starts row d)
    → done ≡ take row (start_rows layouts starts) → more ≡ take (row + 1) (start_rows layouts starts)
start_rows-more layouts starts row d done more values e lt em ev ed =
    let few : row < length (start_rows layouts starts) = let n = start_rows-length layouts starts e in omega (arith, n) in
    em ∙ (λ i. ed i ++ (ev ∙ sym (start_row layouts starts row d e lt)) i ∷ []) ∙ sym (take_more (start_rows layouts starts) row [] few)

pub start_rows-all : (layouts : List Layout) (starts : List ℤ) (row : ℕ) (rows : Storage) → length starts ≡ length layouts → length starts ≤ row
    → rows ≡ take row (start_rows layouts starts) → rows ≡ start_rows layouts starts
start_rows-all layouts starts row rows e le er = er ∙ take_all row (start_rows layouts starts) (let n = start_rows-length layouts starts e in omega (arith, n))
