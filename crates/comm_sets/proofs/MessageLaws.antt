-- Messages ascend, as a search in them asks.
use Rattle.std.proofs.Common.{ℕ, ◌<◌, ◌≤◌, ◌==◌, not, ◌&&◌, List, [], map, get_or, sym, subst, arith, ◌⊎◌, inl, inr}
use Rattle.std.proofs.lemmas.Bool.{cases_lt}
use Rattle.std.proofs.lemmas.List.{get_or_past}
use Rattle.std.proofs.lemmas.List.FromFn.{get_or-map-range_with_len, length-map-range_with_len}
use Rattle.std.specs.List.{range_with_len}
use Rattle.storage.specs.Storage.{Spot}
use Rattle.machine_steps.specs.Layout.{Layout, owns_spot, least_owner_of}
use Rattle.machine_steps.specs.Message.{Part, needs, message, remap_message}
use Rattle.message_elements.specs.Ascending.{Ascends}
use Rattle.message_elements.proofs.Ascending.{ascends-nil}
use Rattle.message_elements.proofs.AllSpots.{filter-ascends}

pub message-ascends : (nodes : ℕ) (layouts : List Layout) (part : Part) (from to : ℕ) → Ascends (message nodes layouts part from to)
message-ascends nodes layouts part from to = filter-ascends (λ s. needs part to s && (not (owns_spot layouts to s) && (least_owner_of nodes layouts s == from))) layouts

pub remap_message-ascends : (nodes : ℕ) (old new : List Layout) (from to : ℕ) → Ascends (remap_message nodes old new from to)
remap_message-ascends nodes old new from to = filter-ascends (λ s. owns_spot new to s && (not (owns_spot old to s) && (least_owner_of nodes old s == from))) old

-- the lists that `incoming` gives
pub incoming-ascend : (nodes : ℕ) (layouts : List Layout) (part : Part) (to from : ℕ) → Ascends (get_or (map (λ p. message nodes layouts part p to) (range_with_len 0 nodes)) from [])
incoming-ascend nodes layouts part to from = by_size (cases_lt from nodes)
  where
    by_size : (from < nodes) ⊎ (nodes ≤ from) → Ascends (get_or (map (λ p. message nodes layouts part p to) (range_with_len 0 nodes)) from [])
    by_size (inl less) =
        subst (λ (spots : List Spot). Ascends spots) (sym (get_or-map-range_with_len (λ p. message nodes layouts part p to) 0 nodes from from [] less (omega arith)))
        (message-ascends nodes layouts part from to)
    by_size (inr past) =
        subst (λ (spots : List Spot). Ascends spots)
        (sym (get_or_past (map (λ p. message nodes layouts part p to) (range_with_len 0 nodes)) from [] (omega (arith, length-map-range_with_len (λ p. message nodes layouts part p to) 0 nodes)))) ascends-nil
