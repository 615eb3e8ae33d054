-- Of a promise.
-- What a node exchanges in the phase of a part, and the tuples that it computes.
use Rattle.std.specs.Prelude.{◌≡◌, ◌<◌, ℕ, List, filter, true}
use Rattle.std.specs.List.{range_with_len}
use Rattle.comm_sets.specs.declared.exchanged.Exchange.{Exchange}
use Rattle.comm_sets.specs.Exchanges.{AreExchanged}
use Rattle.part_steps.specs.After.{After, tuples}
use Rattle.part_steps.specs.Parts.{PartView, part_of}

abbrev pub IsExchange : PartView → (id : ℕ) → Exchange → Type 0
IsExchange v id e = AreExchanged v.nodes v.layouts (part_of v) id e

-- the tuples that it computes, ascending
abbrev pub computed_of : After → List ℕ
computed_of b = filter ((part_of b.part).computes b.id) (range_with_len 0 (tuples b))

-- one of them
pub record IsComputed (b : After) (tuple : ℕ) : Type 0 where
  pub below : tuple < tuples b
  pub computes : (part_of b.part).computes b.id tuple ≡ true
