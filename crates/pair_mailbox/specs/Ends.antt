-- Of the claim.
-- What contracts see of the ends of a pair's queue, and of a closed one.
use Rattle.std.specs.Prelude.{ℕ, List}
use Rattle.atomic_table.specs.Seated.{TableId}
use Rattle.letters.specs.declared.letter.Letter.{Letter}
use Rattle.pair_mailbox.specs.declared.route.Route.{Route}

-- the end of the source: the letters sent, how many pushes were refused, and of which queue it is
pub record Outgoing : Type 0 where
  pub route : Route
  pub sent : List Letter
  pub refused : ℕ
  pub queue : TableId

-- the end of the target: the letters taken, how many pops were refused, and of which queue it is
pub record Incoming : Type 0 where
  pub route : Route
  pub taken : List Letter
  pub refused : ℕ
  pub queue : TableId

-- a closed queue: all letters sent on it, and those taken
pub record Exchanged : Type 0 where
  pub route : Route
  pub letters : List Letter
  pub taken : List Letter
