-- Of the claim.
-- Which letters pass between two nodes.
use Rattle.std.specs.Prelude.{ℕ}
use Rattle.pair_mailbox.specs.declared.route.Route.{Route}

-- the pair of two nodes in run 1
abbrev pub route : ℕ → ℕ → Route
route from to = record { run = 1; from = record { 0 = from }; to = record { 0 = to } }
