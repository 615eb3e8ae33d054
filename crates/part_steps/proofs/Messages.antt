-- The messages to a node, and what it received by them.
use Rattle.std.proofs.Common.{◌≡◌, ℕ, ℤ, ◌<◌, List, [], map, get_or, sym, ◌∙◌, ap, subst}
use Rattle.std.specs.List.{range_with_len}
use Rattle.storage.specs.Storage.{Spot}
use Rattle.machine_steps.specs.Layout.{Layout, least_owner_of}
use Rattle.machine_steps.specs.Message.{Part, message, lookup}
use Rattle.message_elements.specs.Ascending.{Ascends}
use Rattle.comm_sets.proofs.MessageLaws.{incoming-ascend}
use Rattle.owner_tables.proofs.Listed.{listed-is}

module _ (nodes : ℕ) (layouts : List Layout) (part : Part) (id : ℕ) (messages : List (List Spot)) (are : messages ≡ map (λ p. message nodes layouts part p id) (range_with_len 0 nodes)) where
  -- a message is in order
  pub ascends : (source : ℕ) (spots : List Spot) → spots ≡ get_or messages source [] → Ascends spots
  ascends source spots es =
      subst (λ (ss : List Spot). Ascends ss) (sym (es ∙ ap (λ (ms : List (List Spot)). get_or ms source []) are)) (incoming-ascend nodes layouts part id source)

  -- an element is looked up in the message of its least owner
  pub received-is : (received : List (List ℤ)) (spot : Spot) (source : ℕ) (spots : List Spot) (values : List ℤ) → source ≡ least_owner_of nodes layouts spot → source < nodes → spots ≡ get_or messages source []
      → values ≡ get_or received source []
      → lookup spots values spot ≡ lookup (message nodes layouts part (least_owner_of nodes layouts spot) id) (get_or received (least_owner_of nodes layouts spot) []) spot
  received-is received spot source spots values least below es vs =
      let at : spots ≡ message nodes layouts part source id = es ∙ listed-is messages (λ p. message nodes layouts part p id) nodes are source below [] in
      (λ i. lookup (at i) (vs i) spot) ∙ ap (λ p. lookup (message nodes layouts part p id) (get_or received p []) spot) least
