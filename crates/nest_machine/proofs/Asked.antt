-- Stored conditions that are asked: by the values that are read, and by the storage.
use Rattle.std.proofs.Common.{◌≡◌, ℕ, ◌+◌, ◌<◌, ◌&&◌, List, [], ◌∷◌, ◌++◌, map, Bool, true, false, not, Option, Some, None, refl, ap}
use Rattle.storage.specs.Storage.{Storage, Spot, read}
use Rattle.storage.specs.Truth.{is_set}
use Rattle.nest_order.specs.Parts.{IsBelow, guard_holds, none_holds, is_tested}
use Rattle.machine_steps.specs.Machine.{value_by}
use Rattle.nest_syntax.specs.Asked.{Asked, guard_asked, none_asked, tested_asked}
use Rattle.nest_machine.specs.Asked.{as_asked, asked_spots, are_asked, after_asked}

module _ (row i : ℕ) (m : Storage) where
  abbrev pub asked_in : List Asked → Bool
  asked_in [] = true
  asked_in (w ∷ ws) = as_asked w.value (is_set (read m (record { row = row + w.number; at = i }))) && asked_in ws

  pub asked-is : (ws : List Asked) (reads : List (Option Spot)) → are_asked ws (map (value_by (read m)) (asked_spots row ws i ++ reads)) ≡ asked_in ws
  asked-is [] reads = refl
  asked-is (w ∷ ws) reads = ap (λ b. as_asked w.value (is_set (read m (record { row = row + w.number; at = i }))) && b) (asked-is ws reads)

  pub after-is : (ws : List Asked) (reads : List (Option Spot)) → after_asked ws (map (value_by (read m)) (asked_spots row ws i ++ reads)) ≡ map (value_by (read m)) reads
  after-is [] reads = refl
  after-is (w ∷ ws) reads = after-is ws reads

  and-true : (b : Bool) → (b && true) ≡ b
  and-true true = refl
  and-true false = refl

  none-asked : (ks : List ℕ) → asked_in (none_asked ks) ≡ none_holds ks (λ number. is_set (read m (record { row = row + number; at = i })))
  none-asked [] = refl
  none-asked (k ∷ ks) = ap (λ b. not (is_set (read m (record { row = row + k; at = i }))) && b) (none-asked ks)

  pub guard-asked : (g : Option ℕ) → asked_in (guard_asked g) ≡ guard_holds g (λ number. is_set (read m (record { row = row + number; at = i })))
  guard-asked None = refl
  guard-asked (Some k) = and-true (is_set (read m (record { row = row + k; at = i })))

  pub tested-asked : (g : Option ℕ) (ks : List ℕ) → asked_in (tested_asked g ks) ≡ is_tested g ks (λ number. is_set (read m (record { row = row + number; at = i })))
  tested-asked None ks = none-asked ks
  tested-asked (Some k) ks = ap (λ b. is_set (read m (record { row = row + k; at = i })) && b) (none-asked ks)

-- ---- numbers of conditions

-- all conditions that are asked have numbers below
abbrev pub AskedBelow : ℕ → List Asked → Type 0
AskedBelow count [] = Unit {0}
AskedBelow count (w ∷ ws) = (w.number < count) × AskedBelow count ws

abbrev pub EarlierBelow : ℕ → List ℕ → Type 0
EarlierBelow count [] = Unit {0}
EarlierBelow count (k ∷ ks) = (k < count) × EarlierBelow count ks

pub guard-below : (count : ℕ) (g : Option ℕ) → IsBelow g count → AskedBelow count (guard_asked g)
guard-below count None h = tt
guard-below count (Some k) h = (h, tt)

none-below : (count : ℕ) (ks : List ℕ) → EarlierBelow count ks → AskedBelow count (none_asked ks)
none-below count [] h = tt
none-below count (k ∷ ks) h = (h.0, none-below count ks h.1)

pub tested-below : (count : ℕ) (g : Option ℕ) (ks : List ℕ) → IsBelow g count → EarlierBelow count ks → AskedBelow count (tested_asked g ks)
tested-below count None ks h e = none-below count ks e
tested-below count (Some k) ks h e = (h, none-below count ks e)
