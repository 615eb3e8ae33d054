-- Phases one after another: nodes before a phase lead to those of a state of the machine.
use Rattle.std.proofs.Common.{◌≡◌, ℕ, ◌<◌, Bool, false, ℤ, List, [], ◌∷◌, Option, refl, sym, subst, arith, get_or}
use Rattle.std.proofs.Math.Path.{fun_ext}
use Rattle.std.proofs.lemmas.Bool.{lt-ltb}
use Rattle.node_law.specs.declared.act.Act.TheVariants.{Local}
use Rattle.node_law.specs.NodeSteps.{Move}
use Rattle.node_law.specs.Phases.{PhaseShare, LeadsTo, next_number, number_after}
use Rattle.machine_steps.specs.Agrees.{by_number, Own, AreNumbered, standing, Exchange, AreCarried}
use Rattle.machine_steps.specs.Instr.{Instr}
use Rattle.machine_steps.specs.Machine.{Machine, Kept}
use Rattle.machine_steps.specs.Node.{FaultValues, Node, act_of, node_steps}
use Rattle.letters.specs.declared.letter.Letter.{Letter}
use Rattle.node_run.proofs.Exchange.{Opens, shares_of, sent-one, passed, exchange-phase, exchange-after}
use Rattle.node_run.proofs.Stepping.{one_step, local-between}

module _ {C F : Type 0} (faults : FaultValues F) (meaning : C → Instr F) (count : ℕ) (m' : Machine C F) (kept : ℕ → Option (Kept F)) (joined : ℕ → Option ℤ) where
  abbrev pub own_with : (ℕ → List ℕ) → (ℕ → List ℕ) → Own F
  own_with next_to next_from = record { kept = kept; joined = joined; next_to = next_to; next_from = next_from }

  -- nodes before the phase n lead to those of the machine's state m', and their phases carry these exchanges
  pub record Leads (n : ℕ) (old : ℕ → Node C F) (exchanges : List Exchange) : Type 0 where
    pub phases : List (ℕ → PhaseShare Letter)
    pub last : ℕ → List (Move Letter)
    pub next_to : ℕ → List ℕ
    pub next_from : ℕ → List ℕ
    pub leads : LeadsTo (node_steps faults meaning) n (by_number count old) phases last (by_number count (standing count m' (number_after n phases) (own_with next_to next_from)))
    pub numbers : AreNumbered count next_to next_from
    pub carried : AreCarried count n phases exchanges

  -- by one local step
  pub ends-locally : (n : ℕ) (old : ℕ → Node C F) (next_to next_from : ℕ → List ℕ) → AreNumbered count next_to next_from
      → ((p : ℕ) → p < count → (act_of (old p).control.status (old p).stage ≡ Local) × ((old p).phase ≡ n) ×
      ((node_steps faults meaning).after_local (old p) ≡ standing count m' n (own_with next_to next_from) p))
      → Leads n old []
  ends-locally n old next_to next_from numbered h = record {
    phases = [];
    last = one_step faults meaning count;
    next_to = next_to;
    next_from = next_from;
    leads = local-between faults meaning count n old (standing count m' n (own_with next_to next_from)) (λ p lt. let g = h p lt in (g.0, g.1, g.2, refl));
    numbers = numbered;
    carried = tt;
  }

  -- by a phase, and then the rest
  module _ (n : ℕ) (old o : ℕ → Node C F) (next_to next_from : ℕ → List ℕ) (some : 0 < count) (sends : ℕ → ℕ → Bool) (body : ℕ → ℕ → List ℤ) where
    abbrev pub number_by : ℕ → ℕ → ℕ
    number_by p q = get_or (next_to p) q 0

    abbrev pub passed_by : ℕ → Node C F
    passed_by p = passed faults meaning count n sends body number_by p (o p)

    pub leads-on : ((p : ℕ) → p < count → sends p p ≡ false) → ((p : ℕ) → p < count → Opens faults meaning count n sends body number_by p (old p) (o p))
        → (rest : List Exchange) → Leads (next_number n) passed_by rest → Leads n old (record { sends = sends; body = body } ∷ rest)
    leads-on to_others opens rest next = record {
      phases = shares_of faults meaning count n sends body number_by ∷ next.phases;
      last = next.last;
      next_to = next.next_to;
      next_from = next.next_from;
      leads = (
        exchange-phase faults meaning count n sends body number_by old o some opens to_others,
        subst (λ ns. LeadsTo (node_steps faults meaning) (next_number n) ns next.phases next.last
            (by_number count (standing count m' (number_after (next_number n) next.phases) (own_with next.next_to next.next_from))))
            (sym (fun_ext (exchange-after faults meaning count n sends body number_by old o some opens))) next.leads,
      );
      numbers = next.numbers;
      carried = ((next_to, λ p q lp lq. rw (lt-ltb p count lp) (sent-one faults meaning count n sends body number_by count 0 p q (omega arith) (omega arith))), next.carried);
    }
