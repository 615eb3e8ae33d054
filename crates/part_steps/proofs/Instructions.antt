-- The parts of instructions, and what a node makes of them, by the steps of the machine.
use Rattle.std.proofs.Common.{◌≡◌, ℕ, ℤ, ◌==◌, List, [], ◌∷◌, map, Option, if◌then◌else◌, sym, ◌∙◌}
use Rattle.storage.specs.Storage.{Spot}
use Rattle.op_tables.specs.declared.join.Join.{Join}
use Rattle.op_tables.specs.Joins.{join}
use Rattle.array_meaning.specs.Faults.{Fault}
use Rattle.machine_steps.specs.Instr.{Tuples, Nothing}
use Rattle.machine_steps.specs.Layout.{Layout, in_bounds}
use Rattle.machine_steps.specs.Machine.{value_by, effect_by, earlier, keep, element_values}
use Rattle.machine_steps.specs.Message.{Part, message, par_part, reduce_part, gather_part, computes_left, first_read, least_or_zero}
use Rattle.machine_steps.specs.Node.{Node, part_opened, settled, no_values, held_or_received, gathered, local_outcome, local_scatter, join_below, outcome_value}
use Rattle.letters.specs.Parcel.{Parcel}
use Rattle.tuple_values.specs.Statements.{Statement, IsStatement, tuple_count, tuple_reads, tuple_outcome}
use Rattle.part_steps.specs.declared.who.Who.{Who}
use Rattle.part_steps.specs.declared.who.Who.TheVariants.{Left, First, Root}
use Rattle.part_steps.specs.After.{After, after, value_of, outcome_of, stored_below, fault_below, joined_below, elements_below, tuples as tuples_of}
use Rattle.part_steps.specs.Openings.{outbox_on, inbox_on}
use Rattle.part_steps.specs.Parts.{PartView, part_of}
use Rattle.node_run.proofs.KeptFaults.{kept-apart}

-- ---- which part it is

module _ (nodes : ℕ) (layouts : List Layout) (w : Statement) (slots : List ℤ) where
  module _ (tuples : Tuples Fault) (left : List ℤ → ℕ → Option Spot) (is : IsStatement w slots tuples left) where
    pub par-is : part_of (record { who = Left; nodes = nodes; layouts = layouts; statement = w }) ≡ par_part layouts tuples left slots
    par-is = λ i. record { tuples = is.count i; reads = λ t. is.reads t i; computes = λ node t. computes_left layouts node (in_bounds layouts (is.left t i)) }

    pub reduce-is : part_of (record { who = First; nodes = nodes; layouts = layouts; statement = w }) ≡ reduce_part nodes layouts tuples slots
    reduce-is = λ i. record { tuples = is.count i; reads = λ t. is.reads t i; computes = λ node t. least_or_zero nodes layouts (in_bounds layouts (first_read (is.reads t i))) == node }

  pub gather-is : (count : List ℤ → ℕ) (element : List ℤ → ℕ → Option Spot) → tuple_count w ≡ count slots → ((t : ℕ) → tuple_reads w t ≡ element slots t ∷ [])
      → part_of (record { who = Root; nodes = nodes; layouts = layouts; statement = w }) ≡ gather_part count element slots
  gather-is count element counts reads = λ i. record { tuples = counts i; reads = λ t. reads t i; computes = λ node t. node == 0 }

-- ---- its phase

-- what a node sends and takes opens the phase
pub opened-is : {C F : Type 0} (nodes : ℕ) (a : Node C F) (v : PartView) (part : Part) → part_of v ≡ part → (outbox : List Parcel) (inbox : List ℕ) → outbox ≡ outbox_on nodes a.layouts (part_of v) a.id a.pieces
    → inbox ≡ inbox_on nodes a.layouts (part_of v) a.id → settled (record a { received = no_values nodes }) outbox inbox ≡ part_opened nodes part a
opened-is nodes a v part e outbox inbox sends takes =
    (λ i. settled (record a { received = no_values nodes }) (sends i) (takes i))
    ∙ (λ i. settled (record a { received = no_values nodes }) (outbox_on nodes a.layouts (e i) a.id a.pieces) (inbox_on nodes a.layouts (e i) a.id))

-- ---- after it

module _ {C : Type 0} (nodes : ℕ) (a : Node C Fault) (who : Who) (w : Statement) (part : Part) (e : part_of (record { who = who; nodes = nodes; layouts = a.layouts; statement = w }) ≡ part) where
  -- the node
  abbrev pub here : After
  here = after (record { who = who; nodes = nodes; layouts = a.layouts; statement = w }) a.id a.pieces a.received

  abbrev value : Part → Spot → ℤ
  value p = held_or_received nodes a.layouts (λ q. message nodes a.layouts p q a.id) a.id a.pieces a.received

  module _ (tuples : Tuples Fault) (left : List ℤ → ℕ → Option Spot) (is : IsStatement w a.control.slots tuples left) where
    evaluated : (t : ℕ) → tuple_outcome w t (map (value_by (value_of here)) (tuple_reads w t)) ≡ tuples.outcome a.control.slots t (map (value_by (gathered nodes part a)) (tuples.reads a.control.slots t))
    evaluated t = is.outcome t (map (value_by (value_of here)) (tuple_reads w t)) ∙ (λ i. tuples.outcome a.control.slots t (map (value_by (value (e i))) (is.reads t i)))

    outcome-is : (t : ℕ) → outcome_of here t ≡ local_outcome nodes part tuples a t
    outcome-is t = λ i. if (e i).computes a.id t then evaluated t i else Nothing

    pub pieces-are : stored_below here (tuples_of here) a.pieces
        ≡ local_scatter a.layouts a.id (λ t. effect_by (left a.control.slots t) (local_outcome nodes part tuples a t)) part.tuples a.pieces
    pieces-are = λ i. local_scatter a.layouts a.id (λ t. effect_by (is.left t i) (outcome-is t i)) (e i).tuples a.pieces

    pub kept-is : (number : ℕ) → earlier a.kept (fault_below here number (tuples_of here)) ≡ keep (local_outcome nodes part tuples a) number part.tuples a.kept
    kept-is number = sym (kept-apart (outcome_of here) number (tuples_of here) a.kept) ∙ (λ i. keep (λ t. outcome-is t i) number (e i).tuples a.kept)

    pub joined-is : (op : Join) → joined_below here op (tuples_of here) ≡ join_below (join op) (λ t. outcome_value (local_outcome nodes part tuples a t)) part.tuples
    joined-is op = λ i. join_below (join op) (λ t. outcome_value (outcome-is t i)) (e i).tuples

  -- the values of a section
  pub elements-are : (count : List ℤ → ℕ) (element : List ℤ → ℕ → Option Spot) → tuple_count w ≡ count a.control.slots → ((t : ℕ) → tuple_reads w t ≡ element a.control.slots t ∷ [])
      → elements_below here (tuples_of here) ≡ element_values (gathered nodes part a) (element a.control.slots) (count a.control.slots)
  elements-are count element counts reads = λ i. element_values (value (e i)) (λ t. first_read (reads t i)) (counts i)
