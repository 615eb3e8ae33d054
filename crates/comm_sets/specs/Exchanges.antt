-- Of a promise.
-- What a node exchanges in the phase of a part.
use Rattle.std.specs.Prelude.{◌≡◌, ℕ, List, filter, map}
use Rattle.std.specs.List.{range_with_len}
use Rattle.machine_steps.specs.Layout.{Layout}
use Rattle.machine_steps.specs.Message.{Part, message}
use Rattle.comm_sets.specs.declared.exchanged.Exchange.{Exchange}

-- its messages to each node and from each node, and the tuples that it computes, ascending
pub record AreExchanged (nodes : ℕ) (layouts : List Layout) (part : Part) (id : ℕ) (e : Exchange) : Type 0 where
  pub outgoing : e.outgoing ≡ map (λ to. message nodes layouts part id to) (range_with_len 0 nodes)
  pub incoming : e.incoming ≡ map (λ from. message nodes layouts part from id) (range_with_len 0 nodes)
  pub computed : e.computed ≡ filter (part.computes id) (range_with_len 0 part.tuples)
