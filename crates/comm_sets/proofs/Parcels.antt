-- From whom letters come, and to whom they go.
use Rattle.std.proofs.Common.{◌≡◌, ℕ, ℤ, ◌<◌, Bool, List, map, filter, sym, subst}
use Rattle.std.proofs.lemmas.List.Elements.{All-map}
use Rattle.std.specs.List.{All, range_with_len}
use Rattle.machine_steps.specs.Node.{parcel}
use Rattle.letters.specs.Parcel.{Parcel}
use Rattle.comm_sets.proofs.Computing.{are-nodes}

-- all of them are nodes
pub sources-below : (sends : ℕ → Bool) (nodes : ℕ) (sources : List ℕ) → sources ≡ filter sends (range_with_len 0 nodes) → All (λ source. source < nodes) sources
sources-below sends nodes sources e =
    let below : List ℕ → Type 0 = λ xs. All (λ source. source < nodes) xs in
    subst below (sym e) (are-nodes sends nodes)

pub targets-below : (sends : ℕ → Bool) (body : ℕ → List ℤ) (nodes : ℕ) (parcels : List Parcel) → parcels ≡ map (parcel body) (filter sends (range_with_len 0 nodes)) → All (λ p. p.to < nodes) parcels
targets-below sends body nodes parcels e =
    let below : List Parcel → Type 0 = λ ps. All (λ p. p.to < nodes) ps in
    subst below (sym e) (All-map (λ p. p.to < nodes) (parcel body) (filter sends (range_with_len 0 nodes)) (are-nodes sends nodes))
