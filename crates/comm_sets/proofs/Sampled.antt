-- What some elements say of all, where each has the same owners as one of them.
use Rattle.std.proofs.Common.{◌≡◌, ℕ, ◌+◌, ◌<◌, nat_eq, ◌==◌, not, ◌&&◌, ◌||◌, Bool, List, [], ◌∷◌, All, get_or, length, map, take, refl, sym, ◌∙◌, ap, arith}
use Rattle.std.proofs.lemmas.List.FromFn.{get_or-range_with_len, length-range_with_len}
use Rattle.std.proofs.lemmas.List.Folds.{Any-from_list_any, list_any_at, list_any_more}
use Rattle.std.specs.List.{list_any, range_with_len}
use Rattle.storage.specs.Storage.{Spot}
use Rattle.machine_steps.specs.Layout.{Layout, first, least_owner_of, owned_in}
use Rattle.owner_tables.specs.Samples.{AreSamples, owners_by}
use Rattle.owner_tables.proofs.Ranges.{filter-head}
use Rattle.comm_sets.specs.Marks.{any_moved}
use Rattle.covering_rounds.specs.Moved.{is_moved}
use Rattle.comm_sets.proofs.Computing.{computes-it}
use Rattle.comm_sets.proofs.Marking.{in_row, or_turned}
use Rattle.comm_sets.proofs.Visited.{one-truth}

-- ---- a test passes somewhere below a limit where it passes at one of the samples

any-sampled : (P : ℕ → Bool) (n : ℕ) (ns : List ℕ) → All (λ k. k < n) ns → ((k : ℕ) → k < n → (i : ℕ) × (i < length ns) × (P (get_or ns i 0) ≡ P k))
    → list_any P ns ≡ list_any P (range_with_len 0 n)
any-sampled P n ns below every =
    one-truth (list_any P ns) (list_any P (range_with_len 0 n))
    (λ e.
    let x = Any-from_list_any P ns e in
    let inside : get_or ns x.0 x.1 < n = below x.0 x.1 x.2 in
    list_any_at P (range_with_len 0 n) (get_or ns x.0 x.1) 0 (omega (arith, inside, length-range_with_len 0 n))
    (ap P (at (get_or ns x.0 x.1) 0 inside ∙ x.3) ∙ x.4))
    (λ e.
    let x = Any-from_list_any P (range_with_len 0 n) e in
    let inside : x.0 < n = (let within = x.2 in omega (arith, within, length-range_with_len 0 n)) in
    let here : x.0 ≡ x.1 = sym (at x.0 x.1 inside) ∙ x.3 in
    let y = every x.0 inside in
    list_any_at P ns y.0 0 y.1 (y.2 ∙ ap P here ∙ x.4))
  where
    at : (k d : ℕ) → k < n → get_or (range_with_len 0 n) k d ≡ k
    at k d inside = get_or-range_with_len 0 n k d inside ∙ omega arith

any-map : (P : Spot → Bool) (f : ℕ → Spot) (xs : List ℕ) → list_any P (map f xs) ≡ list_any (λ x. P (f x)) xs
any-map P f [] = refl
any-map P f (x ∷ xs) = ap (λ b. P (f x) || b) (any-map P f xs)

-- one element more
pub any-more : (P : Spot → Bool) (row i : ℕ) (ns : List ℕ) → i < length ns
    → (P (in_row row (get_or ns i 0)) || list_any P (map (in_row row) (take i ns))) ≡ list_any P (map (in_row row) (take (i + 1) ns))
any-more P row i ns within =
    ap (λ b. P (in_row row (get_or ns i 0)) || b) (any-map P (in_row row) (take i ns))
    ∙ or_turned (P (in_row row (get_or ns i 0))) (list_any (λ at. P (in_row row at)) (take i ns))
    ∙ sym (list_any_more (λ at. P (in_row row at)) ns i 0 within) ∙ sym (any-map P (in_row row) (take (i + 1) ns))

-- ---- elements with the same owners

module _ (nodes : ℕ) (owner : ℕ → ℕ → Bool) (m n : ℕ) (same : owners_by nodes owner m ≡ owners_by nodes owner n) where
  owns-same : (node : ℕ) → node < nodes → owner node m ≡ owner node n
  owns-same node below =
      sym (computes-it (λ k. owner k m) nodes node below) ∙ ap (list_any (λ k. nat_eq k node)) same ∙ computes-it (λ k. owner k n) nodes node below

  least-same : first (λ node. owner node m) 0 nodes ≡ first (λ node. owner node n) 0 nodes
  least-same = sym (filter-head (λ node. owner node m) 0 nodes) ∙ ap (λ l. get_or l 0 0) same ∙ filter-head (λ node. owner node n) 0 nodes

pub any-moved-samples : (nodes nodes' : ℕ) (old new : List Layout) (row n : ℕ) (ns : List ℕ) → nodes ≡ nodes'
    → AreSamples n (owners_by nodes (owned_in old row)) (owners_by nodes' (owned_in new row)) ns → (from to : ℕ) → to < nodes
    → any_moved nodes old new (map (in_row row) ns) from to ≡ any_moved nodes old new (map (in_row row) (range_with_len 0 n)) from to
any-moved-samples nodes nodes' old new row n ns same are from to below =
    let P : ℕ → Bool = λ at. is_moved nodes old new from to (in_row row at) in
    any-map (is_moved nodes old new from to) (in_row row) ns
    ∙ any-sampled P n ns are.below
    (λ k inside.
    let x = are.every k inside in
    let m = get_or ns x.0 0 in
    let after : owned_in new row to m ≡ owned_in new row to k = owns-same nodes' (owned_in new row) m k x.3 to (omega (arith, below, same)) in
    let before : owned_in old row to m ≡ owned_in old row to k = owns-same nodes (owned_in old row) m k x.2 to below in
    let least : least_owner_of nodes old (in_row row m) ≡ least_owner_of nodes old (in_row row k) = least-same nodes (owned_in old row) m k x.2 in
    (x.0, x.1, λ i. after i && (not (before i) && (least i == from))))
    ∙ sym (any-map (is_moved nodes old new from to) (in_row row) (range_with_len 0 n))
