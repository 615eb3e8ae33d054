-- What is sent and taken, node by node.
use Rattle.std.proofs.Common.{◌≡◌, ℕ, ℤ, ◌+◌, Bool, true, false, List, [], ◌∷◌, ◌++◌, map, filter, if◌then◌else◌, refl, sym, ◌∙◌, ap}
use Rattle.std.proofs.lemmas.List.{map-append}
use Rattle.std.specs.List.{range_with_len}
use Rattle.storage.specs.Storage.{Spot}
use Rattle.machine_steps.specs.Message.{has_any}
use Rattle.machine_steps.specs.Node.{parcel}
use Rattle.letters.specs.Parcel.{Parcel}
use Rattle.comm_sets.proofs.Computing.{filter-more}

module _ (message : ℕ → List Spot) (n : ℕ) (spots : List Spot) (is : spots ≡ message n) where
  -- one node more that sends
  pub sources-more : (old new : List ℕ) → new ≡ old ++ (if has_any spots then n ∷ [] else []) → old ≡ filter (λ p. has_any (message p)) (range_with_len 0 n)
      → new ≡ filter (λ p. has_any (message p)) (range_with_len 0 (n + 1))
  sources-more old new e so_far =
      e ∙ (λ i. so_far i ++ (if has_any (is i) then n ∷ [] else [])) ∙ sym (filter-more (λ p. has_any (message p)) n)

  -- one node more to which is sent
  module _ (read : Spot → ℤ) where
    abbrev body : ℕ → Parcel
    body = parcel (λ q. map read (message q))

    one-parcel : (b : Bool) → (if b then body n ∷ [] else []) ≡ map body (if b then n ∷ [] else [])
    one-parcel true = refl
    one-parcel false = refl

    pub parcels-more : (old new : List Parcel) → new ≡ old ++ (if has_any spots then record { to = n; body = map read spots } ∷ [] else [])
        → old ≡ map (parcel (λ q. map read (message q))) (filter (λ q. has_any (message q)) (range_with_len 0 n))
        → new ≡ map (parcel (λ q. map read (message q))) (filter (λ q. has_any (message q)) (range_with_len 0 (n + 1)))
    parcels-more old new e so_far =
        let sends : ℕ → Bool = λ q. has_any (message q) in
        e ∙ (λ i. so_far i ++ (if has_any (is i) then record { to = n; body = map read (is i) } ∷ [] else [])) ∙ ap (λ ps. map body (filter sends (range_with_len 0 n)) ++ ps) (one-parcel (sends n))
        ∙ sym (ap (map body) (filter-more sends n) ∙ map-append body (filter sends (range_with_len 0 n)) (filter sends (n ∷ [])))
