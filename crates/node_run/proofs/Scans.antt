-- A scan: nodes that agree with the machine pass its rounds, and then have what it has.
use Rattle.std.proofs.Common.{◌≡◌, ℕ, zero, suc, ◌+◌, ◌-◌, ◌^◌, ◌<◌, ◌≤◌, Bool, true, false, if◌then◌else◌, ℤ, List, [], ◌∷◌, map, length, Option, Some, None, nat_lt, refl, sym, ◌∙◌, ap, subst, arith, ◌⊎◌, inl, inr, get_or, set, eq-eqb}
use Rattle.std.specs.List.{fold, range_with_len, slice_get}
use Rattle.std.proofs.lemmas.Bool.{cases_lt, lt-ltb, le-ltb, ne_eqb}
use Rattle.std.proofs.lemmas.List.{map-append}
use Rattle.std.proofs.lemmas.List.Sums.{fold-append}
use Rattle.hpf_base.specs.declared.index.Shape.{Shape}
use Rattle.hpf_base.proofs.Ranges.{range_with_len-add}
use Rattle.op_tables.specs.Joins.{IsJoin}
use Rattle.prefix_scan.specs.Scan.{scanned, taken}
use Rattle.prefix_scan.proofs.Rounds.{below-all}
use Rattle.node_law.specs.declared.act.Act.TheVariants.{Local}
use Rattle.node_law.specs.Phases.{next_number}
use Rattle.storage.specs.Storage.{row_of}
use Rattle.machine_steps.specs.Agrees.{Own, AreNumbered, standing, Agree, IsFold, IsWhole}
use Rattle.machine_steps.specs.Instr.{Instr, Fold, Running, Scan}
use Rattle.machine_steps.specs.Layout.{Layout, IsInBlocks, sizes, size_of, piece, pieces}
use Rattle.machine_steps.specs.Machine.{Machine, lies_so, scan, scanned_rows, step_by, instr_at}
use Rattle.machine_steps.specs.Node.{FaultValues, Node, Stage, Ready, Passed, no_values, act_of, node_steps, join_options, join_below, join_all, option_values, values_option, scan_after, scan_next}
use Rattle.machine_steps.specs.Tree.{levels_of, scan_sends}
use Rattle.node_run.specs.Letters.{Carrying, scan_share, scan_rounds, scan_exchanges}
use Rattle.node_run.proofs.Copies.{owned-found}
use Rattle.node_run.proofs.Exchange.{passed, taken_bodies, counted}
use Rattle.node_run.proofs.JoinedValues.{join-assoc, join-comm, join-none}
use Rattle.node_run.proofs.PartPhase.{length-no_values, get-no_values}
use Rattle.node_run.proofs.PhasesInARow.{Leads, ends-locally, leads-on, own_with}
use Rattle.node_run.proofs.PieceLaws.{row-pieces, pieces-set}
use Rattle.node_run.proofs.Plain.{at-start, begins-with}
use Rattle.node_run.proofs.Ranges.{over_range, over_range-inside}
use Rattle.node_run.proofs.Reading.{size-row}
use Rattle.node_run.proofs.ScannedPieces.{scan-piece}
use Rattle.node_run.proofs.Stepping.{emptied, segment-local, next-numbers}
use Rattle.node_run.proofs.Reduces.{option-back}
use Rattle.node_run.proofs.TreeActs.{same-levels}
use Rattle.node_run.proofs.TreeFold.{power-some}
use Rattle.node_run.proofs.TreeSteps.{goes-on}

-- values that may be missing join as the values do
options-join : (f : Fold) → IsFold f → IsJoin {V = Option ℤ} (λ v. Unit {0}) (join_options f.join) None
options-join f is = record {
  closed = λ a b x y. tt;
  unit_in = tt;
  associative = λ a b c x y z. join-assoc f is a b c;
  commutative = join-comm f is;
  neutral = λ a x. join-none f is a;
}

-- joined over a range from 0 on
below-range : (join : ℤ → ℤ → ℤ) (items : ℕ → Option ℤ) (n : ℕ) → fold (join_options join) None (map items (range_with_len 0 n)) ≡ join_below join items n
below-range join items zero = refl
below-range join items (suc n) =
    let e : suc n ≡ n + 1 = omega arith in
    ap (λ k. fold (join_options join) None (map items (range_with_len 0 k))) e
    ∙ ap (λ l. fold (join_options join) None (map items l)) (range_with_len-add 0 n 1)
    ∙ ap (fold (join_options join) None) (map-append items (range_with_len 0 n) (range_with_len (0 + n) 1))
    ∙ fold-append (join_options join) None (map items (range_with_len 0 n)) (map items (range_with_len (0 + n) 1))
    ∙ let z : 0 + n ≡ n = omega arith in rw z (ap (λ v. join_options join v (items n)) (below-range join items n))

-- no node sends to itself
none-to-self : (r p : ℕ) → scan_sends r p p ≡ false
none-to-self r p = let some = power-some r in ne_eqb p (p + 2 ^ r) (λ e. absurd (omega arith))

size-found : (layouts : List Layout) (row : ℕ) (layout : Layout) → slice_get layouts row ≡ Some layout → get_or (sizes layouts) row 0 ≡ size_of layout
size-found [] row layout e = cc
size-found (l ∷ layouts) zero layout e = let same : l ≡ layout = cc in ap size_of same
size-found (l ∷ layouts) (suc row) layout e = size-found layouts row layout e

module _ {C F : Type 0} (faults : FaultValues F) (meaning : C → Instr F) (count n : ℕ) (m : Machine C F) (own : Own F) (running : m.control.status ≡ Running)
    (agree : Agree faults meaning count m own) (shapes : List Shape) (whole : IsWhole count shapes m) (some : 0 < count)
    (copy : ℕ) (in_blocks : Layout → Bool) (f : Fold) (is : IsFold f) (blocks : (layout : Layout) → in_blocks layout ≡ true → IsInBlocks count layout)
    (e : instr_at meaning m.code m.control.at ≡ Scan copy in_blocks f) where
  abbrev J : Option ℤ → Option ℤ → Option ℤ
  J = join_options f.join

  abbrev m' : Machine C F
  m' = step_by (Scan copy in_blocks f) m

  abbrev lies : Bool
  lies = lies_so in_blocks (slice_get m.layouts copy)

  abbrev share : ℕ → Option ℤ
  share = scan_share {C = C} {F = F} faults count copy f m

  -- what the node p has after k rounds, and what it took
  abbrev has : ℕ → ℕ → Option ℤ
  has k p = scanned J share k p

  abbrev took : ℕ → ℕ → Option ℤ
  took k p = taken J None share k p

  abbrev held : ℕ → List ℤ
  held p = row_of (pieces m.layouts p m.rows) copy

  own-share : (p : ℕ) → join_all f.join (held p) ≡ share p
  own-share p = ap (join_all f.join) (row-pieces m.rows m.layouts p copy)

  -- ---- after the rounds

  took-all : (p : ℕ) → p < count → took (levels_of count) p ≡ join_below f.join share p
  took-all p lt =
      ap (λ k. took k p) (sym (same-levels count))
      ∙ below-all (λ v. Unit {0}) J None (options-join f is) count share (λ q lq. tt) p lt
      ∙ below-range f.join share p

  ends-so : lies ≡ true → (p : ℕ) → p < count → set (pieces m.layouts p m.rows) copy (scan_after f.join f.unit (took (levels_of count) p) (held p)) ≡ pieces m.layouts p (set m.rows copy (scan f (row_of m.rows copy)))
  ends-so h p lt = by_layout (slice_get m.layouts copy) refl h
    where
      by_layout : (o : Option Layout) → slice_get m.layouts copy ≡ o → lies_so in_blocks o ≡ true
          → set (pieces m.layouts p m.rows) copy (scan_after f.join f.unit (took (levels_of count) p) (held p)) ≡ pieces m.layouts p (set m.rows copy (scan f (row_of m.rows copy)))
      by_layout None eo h = cc
      by_layout (Some layout) eo h =
          let owner = owned-found m.layouts copy layout eo in
          let long : length (row_of m.rows copy) ≡ size_of layout = sym (size-row count m.layouts m.rows whole.shaped whole.owned copy) ∙ size-found m.layouts copy layout eo in
          ap (set (pieces m.layouts p m.rows) copy)
          (ap (λ b. scan_after f.join f.unit b (held p)) (took-all p lt)
          ∙ ap (scan_after f.join f.unit (join_below f.join share p)) (row-pieces m.rows m.layouts p copy)
          ∙ ap (λ (w : ℕ → ℕ → Bool). scan_after f.join f.unit (join_below f.join (λ q. join_all f.join (piece w q (row_of m.rows copy))) p) (piece w p (row_of m.rows copy))) owner
          ∙ sym (scan-piece f is count layout (blocks layout h) (row_of m.rows copy) long p lt)
          ∙ ap (λ (w : ℕ → ℕ → Bool). piece w p (scan f (row_of m.rows copy))) (sym owner))
          ∙ sym (pieces-set m.rows m.layouts p copy (scan f (row_of m.rows copy)))

  -- ---- a round

  abbrev round_node : ℕ → ℕ → (ℕ → List ℕ) → (ℕ → List ℕ) → (ℕ → Stage) → (ℕ → List (List ℤ)) → ℕ → Node C F
  round_node k n next_to next_from stage received p = record (standing count m n own p) {
    phase = n;
    stage = stage p;
    received = received p;
    next_to = next_to p;
    next_from = next_from p;
    round = k;
    folded = option_values (has k p);
    joined = took k p;
  }

  module _ (k phase : ℕ) (next_to : ℕ → List ℕ) where
    abbrev numbers_of : ℕ → ℕ → ℕ
    numbers_of p q = get_or (next_to p) q 0

    abbrev round_body : ℕ → ℕ → List ℤ
    round_body p q = option_values (has k p)

    abbrev round_received : ℕ → List (List ℤ)
    round_received p = over_range [] (taken_bodies faults meaning count phase (scan_sends k) round_body numbers_of p) (λ s. scan_sends k s p) 0 count (no_values count)

    received-inside : (p s : ℕ) → s < count → get_or (round_received p) s [] ≡ (if scan_sends k s p then option_values (has k s) else [])
    received-inside p s lt = over_range-inside [] (taken_bodies faults meaning count phase (scan_sends k) round_body numbers_of p)
        (λ s. scan_sends k s p) count 0 (no_values count) s (omega arith) (omega arith) (omega (arith, length-no_values count)) ∙ rw (get-no_values count s) refl

    -- what the node has after the round, and what it took
    abbrev came : ℕ → Option ℤ
    came p = if nat_lt p (2 ^ k) then None else values_option (get_or (round_received p) (p - 2 ^ k) [])

    round-next : (p : ℕ) → p < count → (J (came p) (values_option (option_values (has k p))) ≡ has (suc k) p) × (J (came p) (took k p) ≡ took (suc k) p)
    round-next p lt = by_place (cases_lt p (2 ^ k))
      where
        by_place : (p < 2 ^ k) ⊎ (2 ^ k ≤ p) → (J (came p) (values_option (option_values (has k p))) ≡ has (suc k) p) × (J (came p) (took k p) ≡ took (suc k) p)
        by_place (inl l) = rw (lt-ltb p (2 ^ k) l) (option-back (has k p), refl)
        by_place (inr le) =
            let at : p - 2 ^ k + 2 ^ k ≡ p = omega arith in
            let sent : scan_sends k (p - 2 ^ k) p ≡ true = eq-eqb p (p - 2 ^ k + 2 ^ k) (sym at) in
            let some = power-some k in
            let got : values_option (get_or (round_received p) (p - 2 ^ k) []) ≡ has k (p - 2 ^ k) =
            ap values_option (received-inside p (p - 2 ^ k) (omega arith) ∙ rw sent refl) ∙ option-back (has k (p - 2 ^ k)) in
            rw (le-ltb p (2 ^ k) le) (rw (got, option-back (has k p)) refl, rw got refl)

  abbrev Goal : ℕ → (ℕ → Node C F) → ℕ → ℕ → Type 0
  Goal n old k d = Leads faults meaning count m' own.kept (λ p. None) n old (scan_rounds faults count copy f m k d)

  rounds : lies ≡ true → (d k n : ℕ) → k + d ≡ levels_of count → (next_to next_from : ℕ → List ℕ) (stage : ℕ → Stage) (received : ℕ → List (List ℤ))
      → AreNumbered count next_to next_from → (old : ℕ → Node C F)
      → ((p : ℕ) → p < count → (act_of (old p).control.status (old p).stage ≡ Local) × ((old p).phase ≡ n) ×
      ((node_steps faults meaning).after_local (old p) ≡ scan_next count copy f (round_node k n next_to next_from stage received p)))
      → Goal n old k d
  rounds h zero k n ek next_to next_from stage received numbered old steps =
      let last : k ≡ levels_of count = omega arith in
      ends-locally faults meaning count m' own.kept (λ p. None) n old next_to next_from numbered (λ p lt. let g = steps p lt in (
        g.0,
        g.1,
        subst (λ j. (node_steps faults meaning).after_local (old p) ≡ scan_next count copy f (round_node j n next_to next_from stage received p)) last g.2
            ∙ rw (le-ltb (levels_of count) (levels_of count) (omega arith)) refl
            ∙ ap (λ rows. record (standing count m' n (own_with faults meaning count m' own.kept (λ p. None) next_to next_from) p) { pieces = rows }) (ends-so h p lt)
            ∙ ap (λ b. record (standing count m' n (own_with faults meaning count m' own.kept (λ p. None) next_to next_from) p)
            { pieces = pieces m.layouts p (scanned_rows b f copy m.rows) }) (sym h),
      ))
  rounds h (suc d) k n ek next_to next_from stage received numbered old steps =
      let o : ℕ → Node C F = λ p. emptied (round_node k n next_to next_from stage received p) in
      let to' : ℕ → List ℕ = λ p. over_range 0 counted (scan_sends k p) 0 count (next_to p) in
      let from' : ℕ → List ℕ = λ p. over_range 0 counted (λ s. scan_sends k s p) 0 count (next_from p) in
      let after : ℕ → Node C F = λ p. passed faults meaning count n (scan_sends k) (round_body k n next_to) (numbers_of k n next_to) p (o p) in
      let one : suc k ≡ k + 1 = omega arith in
      leads-on faults meaning count m' own.kept (λ p. None) n old o next_to next_from some (scan_sends k) (round_body k n next_to)
      (λ p lt. none-to-self k p)
      (λ p lt. let g = steps p lt in record {
        act = g.0;
        phase = g.1;
        within = record { running = running; id = refl; phase = refl };
        is = g.2 ∙ rw (lt-ltb k (levels_of count) (omega arith)) refl;
        next_to = λ q lq. refl;
        next_from = λ q lq. sym (numbered.same q p lq lt);
      })
      (scan_rounds faults count copy f m (k + 1) d)
      (subst (λ j. Goal (next_number n) after j d) one
      (rounds h d (suc k) (next_number n) (omega arith) to' from' (λ p. Passed) (round_received k n next_to) (next-numbers count (scan_sends k) next_to next_from numbered) after
      (λ p lt. (
        rw running refl,
        refl,
        goes-on faults meaning count n m own running agree.numbers some (Scan copy in_blocks f) e (after p) refl refl refl refl
            ∙ let r = round-next k n next_to p lt in
            λ i. scan_next count copy f (record (round_node (suc k) (next_number n) to' from' (λ p. Passed) (round_received k n next_to) p)
            { folded = option_values (r.0 i); joined = r.1 i }),
      ))))

  -- ---- the instruction

  scan-so : (b : Bool) → lies ≡ b → Carrying faults meaning count n m own m' (record { kept = own.kept; joined = λ p. None }) (scan_exchanges faults count b copy f m)
  scan-so true h =
      let all : 0 + levels_of count ≡ levels_of count = omega arith in
      let r = rounds h (levels_of count) 0 n all own.next_to own.next_from (λ p. Ready) (λ p. []) agree.numbers (standing count m n own)
      (λ p lt. (
        rw running refl,
        refl,
        begins-with faults meaning count n m own running agree (Scan copy in_blocks f) e p ∙ rw h
            (ap (λ v. scan_next count copy f (record (round_node 0 n own.next_to own.next_from (λ p. Ready) (λ p. []) p) { folded = option_values v })) (own-share p)),
      )) in
      record {
        segment = record {
          phases = r.phases;
          last = r.last;
          new = own_with faults meaning count m' own.kept (λ p. None) r.next_to r.next_from;
          leads = r.leads;
          agree = record { numbers = r.numbers; kept = agree.kept; joined = at-start count (instr_at meaning m'.code m'.control.at) (λ p. None) m'.joined };
        };
        carried = r.carried;
        keeping = refl;
        joining = refl;
      }
  scan-so false h =
      let new : Own F = record own { joined = λ p. None } in
      segment-local faults meaning count n m own running m' new
      (record { numbers = agree.numbers; kept = agree.kept; joined = at-start count (instr_at meaning m'.code m'.control.at) (λ p. None) m'.joined })
      (λ p lt. begins-with faults meaning count n m own running agree (Scan copy in_blocks f) e p ∙ rw h refl)

  pub scan-passes : Carrying faults meaning count n m own m' (record { kept = own.kept; joined = λ p. None }) (scan_exchanges faults count lies copy f m)
  scan-passes = scan-so lies refl
