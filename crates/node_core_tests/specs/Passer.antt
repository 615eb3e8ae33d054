-- Of a promise.
-- What a node of the ring does.
use Rattle.std.specs.Prelude.{ℕ, ◌+◌, ◌==◌, true, if◌then◌else◌}
use Rattle.node_law.specs.declared.act.Act.{Act}
use Rattle.node_law.specs.declared.act.Act.TheVariants.{Local, Send, Take, Done}
use Rattle.node_law.specs.NodeSteps.{NodeSteps}
use Rattle.node_law.specs.Phases.{next_number}
use Rattle.node_core_tests.specs.declared.passer.Passer.{Passer}

-- the act in a phase after the first: node 0 sends to node 1, which takes, and node 2 is idle
abbrev pub later_act : ℕ → ℕ → Act
later_act phase next = if phase == 6 then Done else if next == 1 then Send (record { 0 = 1 }) else if next == 2 then Take (record { 0 = 0 }) else Local

abbrev pub passer_act : ℕ → ℕ → ℕ → ℕ → Act
passer_act turn phase next before =
    if turn == 0 then Local else if turn == 1 then Send (record { 0 = next }) else if turn == 2 then Take (record { 0 = before })
    else later_act phase next

-- the node after the turn `now` of the first phase, or after its one step of a later phase
abbrev pub turned : ℕ → Passer → Passer
turned now a = if a.turn == now then record a { turn = now + 1 } else record a { phase = next_number a.phase }

abbrev pub passer_steps : NodeSteps Passer ℕ
passer_steps = record {
  act = λ a. passer_act a.turn a.phase a.next a.before;
  phase = λ a. a.phase;
  after_local = turned 0;
  letter = λ a. a.number;
  after_send = turned 1;
  after_take = λ m a. record a { turn = 3; phase = next_number a.phase; number = m };
  awaits = λ a m. true;
}
