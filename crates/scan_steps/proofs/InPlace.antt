-- Values in whose places others come, one after the other.
use Rattle.std.proofs.Common.{◌≡◌, ℕ, ◌+◌, ◌<◌, List, [], ◌∷◌, ◌++◌, length, get_or, map, take, drop, slice_set, ℤ, pos, Some, None, refl, sym, ◌∙◌, ap, arith}
use Rattle.std.proofs.lemmas.List.{append-nil, drop_all, drop_more, get_or_at, map_more, set_at}
use Rattle.std.proofs.lemmas.List.FromFn.{length-map-range_with_len}
use Rattle.std.proofs.lemmas.List.Sums.{fold-append}
use Rattle.std.specs.List.{fold, range_with_len}
use Rattle.hpf_base.proofs.Ranges.{map-range_push}
use Rattle.machine_steps.specs.Node.{join_all, join_options}

module _ (value : ℕ → ℤ) (values : List ℤ) where
  -- the first ones are others
  abbrev pub replaced_to : ℕ → List ℤ
  replaced_to n = map value (range_with_len 0 n) ++ drop n values

  parted : (at : ℕ) → at < length values → replaced_to at ≡ map value (range_with_len 0 at) ++ (get_or values at (pos 0) ∷ drop (at + 1) values)
  parted at lt = ap (λ xs. map value (range_with_len 0 at) ++ xs) (drop_more values at (pos 0) lt)

  -- the next one is still as it was
  pub next-value : (at : ℕ) → at < length values → get_or (replaced_to at) at (pos 0) ≡ get_or values at (pos 0)
  next-value at lt =
      ap (λ xs. get_or xs at (pos 0)) (parted at lt)
      ∙ get_or_at (map value (range_with_len 0 at)) (get_or values at (pos 0)) (drop (at + 1) values) (pos 0) at (length-map-range_with_len value 0 at)

  pub next-replaced : (at : ℕ) → at < length values → slice_set (replaced_to at) at (value at) ≡ replaced_to (at + 1)
  next-replaced at lt =
      let front : List ℤ = map value (range_with_len 0 at) in
      let rest : List ℤ = drop (at + 1) values in
      ap (λ xs. slice_set xs at (value at)) (parted at lt)
      ∙ set_at front (get_or values at (pos 0)) rest (value at) at (length-map-range_with_len value 0 at)
      ∙ one-more front (value at) rest
      ∙ ap (λ xs. xs ++ rest) (map-range_push value front (front ++ value at ∷ []) (value at) at refl refl refl)
    where
      one-more : (xs : List ℤ) (y : ℤ) (ys : List ℤ) → xs ++ (y ∷ ys) ≡ (xs ++ y ∷ []) ++ ys
      one-more [] y ys = refl
      one-more (x ∷ xs) y ys = ap (λ zs. x ∷ zs) (one-more xs y ys)

  pub all-replaced : replaced_to (length values) ≡ map value (range_with_len 0 (length values))
  all-replaced =
      ap (λ xs. map value (range_with_len 0 (length values)) ++ xs) (drop_all (length values) values (omega arith))
      ∙ append-nil (map value (range_with_len 0 (length values)))

-- the first ones and the next one, joined
pub next-joined : (join : ℤ → ℤ → ℤ) (values : List ℤ) (at : ℕ) → at < length values
    → join_options join (join_all join (take at values)) (Some (get_or values at (pos 0))) ≡ join_all join (take (at + 1) values)
next-joined join values at lt =
    sym (fold-append (join_options join) None (map Some (take at values)) (Some (get_or values at (pos 0)) ∷ []))
    ∙ ap (fold (join_options join) None) (sym (map_more Some values at (pos 0) lt))
