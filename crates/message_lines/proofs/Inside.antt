-- The elements of messages are elements of the rows.
use Rattle.std.proofs.Common.{◌≡◌, ℕ, suc, ◌+◌, ◌<◌, Bool, List, [], ◌∷◌, All, get_or, length, map, filter, sym, ◌∙◌, ap, subst, arith}
use Rattle.std.specs.List.{range_with_len}
use Rattle.std.proofs.lemmas.List.{get_or-map, length-map}
use Rattle.std.proofs.lemmas.List.Elements.{All-append, All-filter, All-map, All-nil}
use Rattle.hpf_base.proofs.Ranges.{All-range}
use Rattle.storage.specs.Storage.{Spot}
use Rattle.storage.specs.Spots.{spot_of}
use Rattle.storage.specs.declared.spot.Spot as code
use Rattle.machine_steps.specs.Layout.{Layout, sizes}
use Rattle.machine_steps.specs.Message.{all_spots, spots_from}

module _ (all : List ℕ) where
  abbrev IsThere : Spot → Type 0
  IsThere s = s.at < get_or all s.row 0

  -- those of rows of these sizes, of which the first has this number
  rows-there : (some : List ℕ) (row : ℕ) → ((k : ℕ) → get_or some k 0 ≡ get_or all (row + k) 0) → All IsThere (spots_from row some)
  rows-there [] row same = All-nil IsThere
  rows-there (size ∷ some) row same =
      let here : row + 0 ≡ row = omega arith in
      let size-is : size ≡ get_or all row 0 = same 0 ∙ ap (λ r. get_or all r 0) here in
      All-append IsThere (map (λ at. record { row = row; at = at }) (range_with_len 0 size)) (spots_from (row + 1) some)
      (All-map IsThere (λ at. record { row = row; at = at }) (range_with_len 0 size)
      (All-range (λ at. at < get_or all row 0) 0 size (λ at low below. omega (arith, size-is))))
      (rows-there some (row + 1) (λ k. let e : row + suc k ≡ row + 1 + k = omega arith in same (suc k) ∙ ap (λ r. get_or all r 0) e))

-- those that pass
pub spots-inside : (P : Spot → Bool) (layouts : List Layout) → All (λ s. s.at < get_or (sizes layouts) s.row 0) (filter P (all_spots layouts))
spots-inside P layouts =
    All-filter P (IsThere (sizes layouts)) (all_spots layouts)
    (rows-there (sizes layouts) (sizes layouts) 0 (λ k. let e : k ≡ 0 + k = omega arith in ap (λ r. get_or (sizes layouts) r 0) e))

-- the same of elements as code holds them
pub listed-inside : (layouts : List Layout) (spots : List code.Spot) (message : List Spot) → map spot_of spots ≡ message
    → All (λ s. s.at < get_or (sizes layouts) s.row 0) message → All (λ s. s.at < get_or (sizes layouts) s.row 0) spots
listed-inside layouts spots message is h k d within =
    let many = length-map spots spot_of in
    subst (λ s. s.at < get_or (sizes layouts) s.row 0) (ap (λ m. get_or m k (spot_of d)) (sym is) ∙ get_or-map spot_of spots k d (spot_of d) within)
    (h k (spot_of d) (omega (arith, within, many, ap length is)))
