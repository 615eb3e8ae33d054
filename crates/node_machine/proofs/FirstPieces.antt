-- A node's pieces of rows whose elements have one value.
use Rattle.std.proofs.Common.{◌≡◌, ℕ, zero, suc, ◌<◌, ◌≤◌, ◌+◌, ℤ, List, [], ◌∷◌, ◌++◌, length, get_or, replicate, take, slice_index_or, refl, sym, ◌∙◌, ap, arith}
use Rattle.std.proofs.lemmas.List.{take_all, take_more}
use Rattle.storage.specs.Storage.{Storage}
use Rattle.machine_steps.specs.Layout.{Layout, count_passing, owned_by, owned_in, pieces, size_of, sizes}
use Rattle.owner_tables.proofs.Ranges.{values-replicate}
use Rattle.node_program.specs.Openings.{start_rows}

module _ (id : ℕ) where
  abbrev pub first_pieces : List Layout → List ℤ → Storage
  first_pieces layouts starts = pieces layouts id (start_rows layouts starts)

  pub first_pieces-length : (layouts : List Layout) (starts : List ℤ) → length starts ≡ length layouts → length (first_pieces layouts starts) ≡ length layouts
  first_pieces-length [] starts e = refl
  first_pieces-length (l ∷ ls) [] e = absurd (omega arith)
  first_pieces-length (l ∷ ls) (s ∷ ss) e = ap suc (first_pieces-length ls ss (omega arith))

  pub first_piece : (layouts : List Layout) (starts : List ℤ) (row : ℕ) (d : ℤ) → length starts ≡ length layouts → row < length starts
      → get_or (first_pieces layouts starts) row [] ≡ replicate (count_passing (owned_in layouts row id) 0 (slice_index_or (sizes layouts) row 0)) (get_or starts row d)
  first_piece [] starts row d e lt = absurd (omega arith)
  first_piece (l ∷ ls) [] row d e lt = absurd (omega arith)
  first_piece (l ∷ ls) (s ∷ ss) zero d e lt = values-replicate (owned_by l id) s 0 (size_of l)
  first_piece (l ∷ ls) (s ∷ ss) (suc row) d e lt = first_piece ls ss row d (omega arith) (omega arith)

  pub first_pieces-more : (layouts : List Layout) (starts : List ℤ) (row : ℕ) (d : ℤ) (done more : Storage) (piece : List ℤ)
      → length starts ≡ length layouts → row < length starts → more ≡ done ++ piece ∷ []
      → piece ≡ replicate (count_passing (owned_in layouts row id) 0 (slice_index_or (sizes layouts) row 0)) (get_or starts row d)
      → done ≡ take row (first_pieces layouts starts) → more ≡ take (row + 1) (first_pieces layouts starts)
  first_pieces-more layouts starts row d done more piece e lt em ep ed =
      let few : row < length (first_pieces layouts starts) = let n = first_pieces-length layouts starts e in omega (arith, n) in
      em ∙ (λ i. ed i ++ (ep ∙ sym (first_piece layouts starts row d e lt)) i ∷ []) ∙ sym (take_more (first_pieces layouts starts) row [] few)

  pub first_pieces-all : (layouts : List Layout) (starts : List ℤ) (row : ℕ) (rows : Storage) → length starts ≡ length layouts → length starts ≤ row
      → rows ≡ take row (first_pieces layouts starts) → rows ≡ first_pieces layouts starts
  first_pieces-all layouts starts row rows e le er =
      er ∙ take_all row (first_pieces layouts starts) (let n = first_pieces-length layouts starts e in omega (arith, n))
