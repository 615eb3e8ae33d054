-- Of private clauses.
-- No public clause cites this file.
-- What one node sends another of what references name.
use Rattle.std.specs.Prelude.{◌≡◌, ℕ, Bool, ◌&&◌, ◌||◌, List}
use Rattle.std.specs.List.{list_any, range_with_len}
use Rattle.hpf_base.specs.ElementOrder.{product}
use Rattle.storage.specs.Storage.{Spot}
use Rattle.machine_steps.specs.Layout.{Layout, in_bounds}
use Rattle.machine_steps.specs.Message.{any_below, computes_left}
use Rattle.message_elements.specs.Elements.{is_among, is_named, is_sent}
use Rattle.axis_products.specs.Products.{places_at}
use Rattle.axis_products.specs.Tests.{Test, holds}
use Rattle.courses.specs.References.{Named, named_spot}

-- just the elements that pass are among those after, beside those before. How often and where they stand is left open
abbrev pub AreAdded : (Spot → Bool) → (before after : List Spot) → Type 0
AreAdded test before after = (spot : Spot) → is_among after spot ≡ (test spot || is_among before spot)

-- the reference names the element at a tuple, and at one of some
abbrev pub is_named_by : List ℕ → Named → ℕ → Spot → Bool
is_named_by ns r t spot = is_named (named_spot ns t r) spot

abbrev pub is_named_among : List ℕ → Named → List ℕ → Spot → Bool
is_named_among ns r tuples spot = list_any (λ t. is_named_by ns r t spot) tuples

-- one of some references names it at a tuple
abbrev pub is_named_of : List ℕ → List Named → ℕ → Spot → Bool
is_named_of ns rs t spot = list_any (λ r. is_named_by ns r t spot) rs

-- a reference names it at a tuple that passes, and the one node sends it to the other
abbrev pub is_sent_of : ℕ → List Layout → List ℕ → Test → (from to : ℕ) → Named → Spot → Bool
is_sent_of nodes layouts ns computed from to r spot =
    list_any (λ t. holds computed (places_at ns t) && is_named_by ns r t spot) (range_with_len 0 (product ns)) && is_sent nodes layouts from to spot

-- the node computes a tuple, as an owner of what the left side names there
abbrev pub computes_named : List Layout → List ℕ → Named → (node tuple : ℕ) → Bool
computes_named layouts ns left node t = computes_left layouts node (in_bounds layouts (named_spot ns t left))

-- just the elements are among them that one of some references names at a tuple which is computed, and that the one node sends to the other
abbrev pub AreSent : ℕ → List Layout → List ℕ → List Named → (computes : ℕ → Bool) → (from to : ℕ) → List Spot → Type 0
AreSent nodes layouts ns rs computes from to spots = (spot : Spot) → is_among spots spot
    ≡ (any_below (λ t. computes t && is_named_of ns rs t spot) (product ns) && is_sent nodes layouts from to spot)
