-- Of a promise.
-- The letters of a whole run, by the machine with whole arrays.
use Rattle.std.specs.Prelude.{◌≡◌, ℤ, ◌*◌, ℕ, zero, suc, ◌==◌, ◌&&◌, Bool, true, false, List, [], ◌∷◌, ◌++◌, map, length, Option, Some, None, if◌then◌else◌, slice_get}
use Rattle.std.specs.List.{range_with_len}
use Rattle.node_law.specs.Phases.{next_number}
use Rattle.storage.specs.Storage.{row_of, read}
use Rattle.prefix_scan.specs.Scan.{scanned}
use Rattle.reduction_tree.specs.Tree.{after_rounds}
use Rattle.machine_steps.specs.Agrees.{Own, Exchange, part_exchange, round_exchange, tree_exchanges, part_of, NodesSegment, AreCarried}
use Rattle.machine_steps.specs.Instr.{Status, Running, Finished, Faulted, Outcome, Nothing, Tuples, Fold, Instr, Local, Fetch, Store, Par, Verdict, Reduce, MakeCopy, FoldCopy, LastCopy, Scan, Remap, Print}
use Rattle.machine_steps.specs.Layout.{Layout, least_owner_of, owned_in, piece}
use Rattle.machine_steps.specs.Machine.{Machine, Kept, outcome_of, keep, earlier, lies_so, lie_alike, is_one, last_passing, instr_at, step}
use Rattle.machine_steps.specs.Message.{Part, par_part, reduce_part}
use Rattle.machine_steps.specs.Node.{FaultValues, kept_values, option_values, positioned_values, join_options, join_below, join_all, outcome_value, Positioned, later}
use Rattle.machine_steps.specs.Tree.{levels_of, scan_sends}
use Rattle.letters.specs.declared.letter.Letter.{Letter}

-- what the nodes have each for itself between two steps: the fault that it keeps, and the values of a reduction that it computed, joined
pub record Holds (F : Type 0) : Type 0 where
  pub kept : ℕ → Option (Kept F)
  pub joined : ℕ → Option ℤ

-- nothing yet
abbrev pub holds_nothing : {F : Type 0} → Holds F
holds_nothing = record { kept = λ p. None; joined = λ p. None }

-- of all that the nodes have for themselves, that
abbrev pub holds : {F : Type 0} → Own F → Holds F
holds own = record { kept = own.kept; joined = own.joined }

-- the faults that the nodes keep go up a tree and down again, the first of those so far
abbrev pub verdict_exchanges : {F : Type 0} → FaultValues F → ℕ → Holds F → List Exchange
verdict_exchanges faults count has = tree_exchanges count (λ k p. kept_values faults (after_rounds earlier count has.kept k p)) 0 (2 * levels_of count)

module _ {C F : Type 0} where
  -- what a tuple comes to by the whole arrays, at the nodes that compute it
  abbrev pub share_of : Part → Tuples F → Machine C F → ℕ → ℕ → Outcome F
  share_of part tuples m p t = if part.computes p t then outcome_of tuples m.control.slots (read m.rows) t else Nothing

  -- the first fault of a node's tuples, after what it kept before
  abbrev pub keeps : Part → Tuples F → Machine C F → (ℕ → Option (Kept F)) → ℕ → Option (Kept F)
  keeps part tuples m kept p = keep (share_of part tuples m p) m.parts (tuples.count m.control.slots) (kept p)

  module _ (faults : FaultValues F) (count : ℕ) where
    -- the message phase of a step that has one
    abbrev pub part_exchanges : Machine C F → Option Part → List Exchange
    part_exchanges m None = []
    part_exchanges m (Some part) = part_exchange count m part ∷ []

    -- a reduction has the phase of its values, then a verdict, then a tree of the values joined
    abbrev pub reduce_exchanges : ℕ → Tuples F → Fold → Machine C F → Holds F → List Exchange
    reduce_exchanges zero tuples f m has = part_exchange count m (reduce_part count m.layouts tuples m.control.slots) ∷ []
    reduce_exchanges (suc zero) tuples f m has = verdict_exchanges faults count has
    reduce_exchanges (suc (suc k)) tuples f m has =
        tree_exchanges count (λ j p. option_values (after_rounds (join_options f.join) count has.joined j p)) 0 (2 * levels_of count)

    -- what the nodes have for themselves after each of these
    abbrev pub reduce_holds : ℕ → Tuples F → Fold → Machine C F → Holds F → Holds F
    reduce_holds zero tuples f m has = record {
      kept = keeps (reduce_part count m.layouts tuples m.control.slots) tuples m has.kept;
      joined = λ p. join_below f.join (λ t. outcome_value (share_of (reduce_part count m.layouts tuples m.control.slots) tuples m p t)) (tuples.count m.control.slots);
    }
    reduce_holds (suc zero) tuples f m has = record { kept = λ p. None; joined = has.joined }
    reduce_holds (suc (suc k)) tuples f m has = record { kept = has.kept; joined = λ p. None }

    -- the elements of a copy whose least owner a node is, joined
    abbrev pub fold_share : ℕ → Fold → Machine C F → ℕ → Option ℤ
    fold_share copy f m p =
        join_below f.join
        (λ at. if least_owner_of count m.layouts (record { row = copy; at = at }) == p then Some (read m.rows (record { row = copy; at = at })) else None)
        (length (row_of m.rows copy))

    -- the last element of a copy whose least owner a node is and that was assigned, with its position
    abbrev pub last_share : (copy set : ℕ) → (Layout → Layout → Bool) → Machine C F → ℕ → Option Positioned
    last_share copy set alike m p =
        if lie_alike alike (slice_get m.layouts copy) (slice_get m.layouts set)
        then last_passing
        (λ at. (least_owner_of count m.layouts (record { row = copy; at = at }) == p) && is_one (read m.rows (record { row = set; at = at })))
        (λ at. record { at = at; value = read m.rows (record { row = copy; at = at }) }) (length (row_of m.rows copy))
        else None

    -- the elements of a copy that a node owns, joined
    abbrev pub scan_share : ℕ → Fold → Machine C F → ℕ → Option ℤ
    scan_share copy f m p = join_all f.join (piece (owned_in m.layouts copy) p (row_of m.rows copy))

    -- so many rounds of a scan from k on: a node sends what it has before the round
    abbrev pub scan_rounds : ℕ → Fold → Machine C F → (k many : ℕ) → List Exchange
    scan_rounds copy f m k many =
        map (λ r. record { sends = scan_sends r; body = λ p q. option_values (scanned (join_options f.join) (scan_share copy f m) r p) }) (range_with_len k many)

    -- all of them, where the copy lies so
    abbrev pub scan_exchanges : Bool → ℕ → Fold → Machine C F → List Exchange
    scan_exchanges true copy f m = scan_rounds copy f m 0 (levels_of count)
    scan_exchanges false copy f m = []

    -- the phases of a step, in order: who sends what to whom
    abbrev pub exchanges_of : Instr F → Machine C F → Holds F → List Exchange
    exchanges_of (Local f) m has = []
    exchanges_of (Fetch element slot) m has = part_exchanges m (part_of count m (Fetch element slot))
    exchanges_of (Store element value) m has = []
    exchanges_of (Par tuples left) m has = part_exchange count m (par_part m.layouts tuples left m.control.slots) ∷ []
    exchanges_of Verdict m has = verdict_exchanges faults count has
    exchanges_of (Reduce tuples f slot) m has = reduce_exchanges m.substep tuples f m has
    exchanges_of (MakeCopy copy layout start) m has = []
    exchanges_of (FoldCopy copy f slot) m has =
        tree_exchanges count (λ k p. option_values (after_rounds (join_options f.join) count (fold_share copy f m) k p)) 0 (2 * levels_of count)
    exchanges_of (LastCopy copy set alike slot) m has =
        tree_exchanges count (λ k p. positioned_values (after_rounds later count (last_share copy set alike m) k p)) 0 (2 * levels_of count)
    exchanges_of (Scan copy in_blocks f) m has = scan_exchanges (lies_so in_blocks (slice_get m.layouts copy)) copy f m
    exchanges_of (Remap new rounds) m has = map (round_exchange count m new rounds) (range_with_len 0 (rounds.many m.layouts))
    exchanges_of (Print items line) m has = part_exchanges m (part_of count m (Print items line))

    -- what the nodes have for themselves after them
    abbrev pub holds_after : Instr F → Machine C F → Holds F → Holds F
    holds_after (Local f) m has = has
    holds_after (Fetch element slot) m has = has
    holds_after (Store element value) m has = has
    holds_after (Par tuples left) m has = record { kept = keeps (par_part m.layouts tuples left m.control.slots) tuples m has.kept; joined = has.joined }
    holds_after Verdict m has = record { kept = λ p. None; joined = has.joined }
    holds_after (Reduce tuples f slot) m has = reduce_holds m.substep tuples f m has
    holds_after (MakeCopy copy layout start) m has = has
    holds_after (FoldCopy copy f slot) m has = has
    holds_after (LastCopy copy set alike slot) m has = has
    holds_after (Scan copy in_blocks f) m has = record { kept = has.kept; joined = λ p. None }
    holds_after (Remap new rounds) m has = has
    holds_after (Print items line) m has = has

    module _ (meaning : C → Instr F) where
      -- a run that is over has no phases
      abbrev pub step_exchanges : Status F → Machine C F → Holds F → List Exchange
      step_exchanges Running m has = exchanges_of (instr_at meaning m.code m.control.at) m has
      step_exchanges Finished m has = []
      step_exchanges (Faulted fault) m has = []

      abbrev pub step_holds : Status F → Machine C F → Holds F → Holds F
      step_holds Running m has = holds_after (instr_at meaning m.code m.control.at) m has
      step_holds Finished m has = has
      step_holds (Faulted fault) m has = has

      -- the phases of so many steps, in order
      abbrev pub run_exchanges : ℕ → Machine C F → Holds F → List Exchange
      run_exchanges zero m has = []
      run_exchanges (suc k) m has = step_exchanges m.control.status m has ++ run_exchanges k (step meaning m) (step_holds m.control.status m has)

      -- what the nodes have for themselves after them
      abbrev pub run_holds : ℕ → Machine C F → Holds F → Holds F
      run_holds zero m has = has
      run_holds (suc k) m has = run_holds k (step meaning m) (step_holds m.control.status m has)

-- the letters from p to q in these phases, the first of which has the number n, where the next letter of the pair has this number
abbrev pub pair_letters : (p q n number : ℕ) → List Exchange → List Letter
pair_letters p q n number [] = []
pair_letters p q n number (exchange ∷ exchanges) =
    if exchange.sends p q
    then record { run = 1; phase = n; from = record { 0 = p }; to = record { 0 = q }; number = number; body = exchange.body p q } ∷ pair_letters p q (next_number n) (next_number number) exchanges
    else pair_letters p q (next_number n) number exchanges

module _ {C F : Type 0} (faults : FaultValues F) (meaning : C → Instr F) where
  -- a segment whose phases carry these exchanges, and after which the nodes have this for themselves
  pub record Carrying (count n : ℕ) (m : Machine C F) (own : Own F) (m' : Machine C F) (has : Holds F) (exchanges : List Exchange) : Type 0 where
    pub segment : NodesSegment faults meaning count n m own m'
    pub carried : AreCarried count n segment.phases exchanges
    pub keeping : segment.new.kept ≡ has.kept
    pub joining : segment.new.joined ≡ has.joined
