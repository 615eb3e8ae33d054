-- Of a promise.
-- The route of the letters.
use Rattle.pair_mailbox.specs.declared.route.Route.{Route}

-- from node 0 to node 1 in run 1
abbrev pub one_route : Route
one_route = record { run = 1; from = record { 0 = 0 }; to = record { 0 = 1 } }
