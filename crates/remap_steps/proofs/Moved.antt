-- The pieces of a node after a redistribution.
use Rattle.std.proofs.Common.{◌≡◌, ℕ, zero, suc, ℤ, pos, ◌+◌, ◌<◌, ◌≤◌, Bool, true, false, if◌then◌else◌, List, [], ◌∷◌, ◌++◌, length, map, filter, get_or, take, refl, sym, ◌∙◌, ap, subst, arith}
use Rattle.std.proofs.lemmas.List.{take_all, take_more}
use Rattle.std.proofs.lemmas.List.Elements.{All-cons, All-nil}
use Rattle.std.specs.List.{All, range_with_len}
use Rattle.hpf_base.proofs.Ranges.{map-agree}
use Rattle.storage.specs.Storage.{Spot, Storage, row_of}
use Rattle.machine_steps.specs.Layout.{count_passing, least_owner_of, owned_in, owns_spot, sizes}
use Rattle.machine_steps.specs.Message.{lookup}
use Rattle.machine_steps.specs.Node.{pieces_by}
use Rattle.owner_tables.proofs.Ranges.{count-more}
use Rattle.message_elements.specs.Ascending.{Ascends}
use Rattle.comm_sets.proofs.MessageLaws.{remap_message-ascends}
use Rattle.owner_tables.proofs.Listed.{listed-is}
use Rattle.remap_steps.specs.Redistributions.{Redistribution, message_between, messages_to, moved_row, value_after}
use Rattle.remap_steps.proofs.Nodes.{map-more}

-- ---- a piece by the local addresses of its elements

module _ (P : ℕ → Bool) (piece : List ℤ) where
  abbrev value : ℕ → ℤ
  value at = get_or piece (count_passing P 0 at) (pos 0)

  no-more : (xs : List ℤ) → xs ++ [] ≡ xs
  no-more [] = refl
  no-more (x ∷ xs) = ap (λ rest. x ∷ rest) (no-more xs)

  front : (n : ℕ) → count_passing P 0 n ≤ length piece → map value (filter P (range_with_len 0 n)) ≡ take (count_passing P 0 n) piece
  front zero le = refl
  front (suc n) le = ap (λ m. map value (filter P (range_with_len 0 m))) next ∙ map-more value P n ∙ by_test (P n) refl (front n)
    where
      next : suc n ≡ n + 1
      next = omega arith

      here : 0 + n ≡ n
      here = omega arith

      by_test : (b : Bool) → P n ≡ b → (count_passing P 0 n ≤ length piece → map value (filter P (range_with_len 0 n)) ≡ take (count_passing P 0 n) piece)
          → map value (filter P (range_with_len 0 n)) ++ map value (if b then n ∷ [] else []) ≡ take (count_passing P 0 (suc n)) piece
      by_test true e before =
          let count : count_passing P 0 (suc n) ≡ suc (count_passing P 0 n) = count-more P true 0 n n here e in
          let inside : count_passing P 0 n < length piece = omega (arith, le, count) in
          let more : suc (count_passing P 0 n) ≡ count_passing P 0 n + 1 = omega arith in
          ap (λ xs. xs ++ value n ∷ []) (before (omega (arith, inside)))
          ∙ sym (ap (λ m. take m piece) (count ∙ more) ∙ take_more piece (count_passing P 0 n) (pos 0) inside)
      by_test false e before =
          let count : count_passing P 0 (suc n) ≡ count_passing P 0 n = count-more P false 0 n n here e in
          no-more (map value (filter P (range_with_len 0 n))) ∙ before (omega (arith, le, count)) ∙ ap (λ m. take m piece) (sym count)

  pub whole-piece : (n : ℕ) → length piece ≡ count_passing P 0 n → piece ≡ map (λ at. get_or piece (count_passing P 0 at) (pos 0)) (filter P (range_with_len 0 n))
  whole-piece n long = sym (front n (omega (arith, long)) ∙ take_all (count_passing P 0 n) piece (omega (arith, long)))

-- what holds of those that pass
passing : (T : ℕ → Bool) (P : ℕ → Type 0) → ((x : ℕ) → T x ≡ true → P x) → (xs : List ℕ) → All P (filter T xs)
passing T P gives [] = All-nil P
passing T P gives (x ∷ xs) = by_test (T x) refl (passing T P gives xs)
  where
    by_test : (b : Bool) → T x ≡ b → All P (filter T xs) → All P (if b then x ∷ filter T xs else filter T xs)
    by_test true e rest = All-cons P x (filter T xs) (gives x e) rest
    by_test false e rest = rest

module _ (r : Redistribution) (pieces : Storage) (received : List (List ℤ)) where
  -- ---- a row that lies as before

  own-value : (row at : ℕ) → owned_in r.old row r.id at ≡ true
      → get_or (row_of pieces row) (count_passing (owned_in r.old row r.id) 0 at) (pos 0) ≡ value_after r pieces received (record { row = row; at = at })
  own-value row at owns =
      ap (λ b. if b then get_or (row_of pieces row) (count_passing (owned_in r.old row r.id) 0 at) (pos 0)
      else lookup (message_between r (least_owner_of r.nodes r.old (record { row = row; at = at })) r.id) (get_or received (least_owner_of r.nodes r.old (record { row = row; at = at })) [])
      (record { row = row; at = at })) (sym owns)

  pub row-kept : (row : ℕ) (piece : List ℤ) → owned_in r.old row ≡ owned_in r.new row → piece ≡ row_of pieces row
      → length piece ≡ count_passing (owned_in r.old row r.id) 0 (get_or (sizes r.old) row 0) → piece ≡ moved_row r pieces received row
  row-kept row piece same is long =
      let P = owned_in r.old row r.id in
      let size = get_or (sizes r.old) row 0 in
      whole-piece P piece size long
      ∙ ap (λ (p : List ℤ). map (λ at. get_or p (count_passing P 0 at) (pos 0)) (filter P (range_with_len 0 size))) is
      ∙ map-agree (λ at. get_or (row_of pieces row) (count_passing P 0 at) (pos 0)) (λ at. value_after r pieces received (record { row = row; at = at })) (filter P (range_with_len 0 size))
      (passing P (λ at. get_or (row_of pieces row) (count_passing P 0 at) (pos 0) ≡ value_after r pieces received (record { row = row; at = at })) (own-value row) (range_with_len 0 size))
      ∙ ap (λ (owner : ℕ → ℕ → Bool). map (λ at. value_after r pieces received (record { row = row; at = at })) (filter (owner r.id) (range_with_len 0 size))) same

  -- ---- what was received

  module _ (incoming : List (List Spot)) (is : incoming ≡ messages_to r) (source : ℕ) (below : source < r.nodes) (spots : List Spot) (at : spots ≡ get_or incoming source []) where
    message-is : spots ≡ message_between r source r.id
    message-is = at ∙ listed-is incoming (λ from. message_between r from r.id) r.nodes is source below []

    pub received-ascends : Ascends spots
    received-ascends = subst (λ (ss : List Spot). Ascends ss) (sym message-is) (remap_message-ascends r.nodes r.old r.new source r.id)

    pub received-is : (spot : Spot) (values : List ℤ) → source ≡ least_owner_of r.nodes r.old spot → values ≡ get_or received source [] → owns_spot r.old r.id spot ≡ false
        → lookup spots values spot ≡ value_after r pieces received spot
    received-is spot values least vs owns =
        (λ i. lookup (message-is i) (vs i) spot)
        ∙ ap (λ p. lookup (message_between r p r.id) (get_or received p []) spot) least
        ∙ ap (λ b. if b then get_or (row_of pieces spot.row) (count_passing (owned_in r.old spot.row r.id) 0 spot.at) (pos 0)
        else lookup (message_between r (least_owner_of r.nodes r.old spot) r.id) (get_or received (least_owner_of r.nodes r.old spot) []) spot) (sym owns)

  -- ---- all rows

  rows-by : (first : ℕ) (ns all : List ℕ) → ((k : ℕ) → get_or all (first + k) 0 ≡ get_or ns k 0)
      → map (λ row. map (λ at. value_after r pieces received (record { row = row; at = at })) (filter (owned_in r.new row r.id) (range_with_len 0 (get_or all row 0))))
      (range_with_len first (length ns)) ≡ pieces_by r.new r.id (value_after r pieces received) first ns
  rows-by first [] all same = refl
  rows-by first (n ∷ ns) all same =
      let here : first + 0 ≡ first = omega arith in
      let size : get_or all first 0 ≡ n = ap (λ row. get_or all row 0) (sym here) ∙ same 0 in
      (λ i. map (λ at. value_after r pieces received (record { row = first; at = at })) (filter (owned_in r.new first r.id) (range_with_len 0 (size i)))
      ∷ rows-by (first + 1) ns all (λ k. let next : first + 1 + k ≡ first + suc k = omega arith in ap (λ row. get_or all row 0) next ∙ same (suc k)) i)

  pub all-rows : (n : ℕ) → n ≡ length (sizes r.old) → map (moved_row r pieces received) (range_with_len 0 n) ≡ pieces_by r.new r.id (value_after r pieces received) 0 (sizes r.old)
  all-rows n count =
      ap (λ m. map (moved_row r pieces received) (range_with_len 0 m)) count
      ∙ rows-by 0 (sizes r.old) (sizes r.old) (λ k. let same : 0 + k ≡ k = omega arith in ap (λ row. get_or (sizes r.old) row 0) same)
