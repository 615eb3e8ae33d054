-- What a node exchanges for a statement is what it exchanges for the instruction.
use Rattle.std.proofs.Common.{◌≡◌, ℕ, length, Some, ap, sym, ◌∙◌, subst}
use Rattle.std.proofs.lemmas.List.FromFn.{length-map-range_with_len}
use Rattle.std.proofs.lemmas.Option.{same_Some}
use Rattle.array_meaning.specs.Faults.{Fault}
use Rattle.machine_steps.specs.Instr.{Instr}
use Rattle.machine_steps.specs.Machine.{instr_at}
use Rattle.machine_steps.specs.Node.{Node, begun_by, part_opened, reduce_begun}
use Rattle.comm_sets.specs.declared.exchanged.Exchange.{Exchange}
use Rattle.comm_sets.specs.Exchanges.{AreExchanged}
use Rattle.code_meaning.specs.FaultValues.{fault_values}
use Rattle.code_meaning.specs.Parallel.{fold_of}
use Rattle.code_meaning.specs.ProgramText.{Text, text_meaning}
use Rattle.op_tables.specs.declared.join.Join.{Join}
use Rattle.tuple_values.specs.Statements.{Statement, no_left}
use Rattle.part_steps.specs.Exchanged.{IsExchange}
use Rattle.part_steps.specs.Parts.{PartView, part_of}
use Rattle.part_steps.specs.declared.who.Who.{Who}
use Rattle.part_steps.specs.declared.who.Who.TheVariants.{Left, First}
use Rattle.part_steps.proofs.Instructions.{par-is, reduce-is}
use Rattle.part_steps.specs.InstructionExchange.{HasLists, IsExchangeOf}
use Rattle.part_steps.specs.InstructionParts.{instruction_part}
use Rattle.node_machine.specs.Exchanges.{IsExchangeBy, owners_of, part_on}
use Rattle.node_machine.specs.Parts.{OpensPart}
use Rattle.tuple_values.specs.Statements.{IsParallel}
use Rattle.node_machine.specs.Reductions.{IsReduced}

-- of parts that are one
pub exchange-at : (v w : PartView) (x y : ℕ) (e : Exchange) → v ≡ w → x ≡ y → IsExchange w y e → IsExchange v x e
exchange-at v w x y e parts ids is = rw (parts, ids) is

module _ (a : Node Text Fault) (i : Instr Fault) (w : Statement) where
  -- ---- the part that the instruction is

  pub parallel-instruction_part : IsParallel i a.control.slots w → instruction_part a.nodes a.layouts a.control.slots i ≡ Some (part_of (part_on a Left w))
  parallel-instruction_part p = ap (instruction_part a.nodes a.layouts a.control.slots) p.is ∙ ap Some (sym (par-is a.nodes a.layouts w a.control.slots p.tuples p.left p.statement))

  pub reduction-instruction_part : (o : Join) → IsReduced i a.control.slots o w → instruction_part a.nodes a.layouts a.control.slots i ≡ Some (part_of (part_on a First w))
  reduction-instruction_part o p = ap (instruction_part a.nodes a.layouts a.control.slots) p.is ∙ ap Some (sym (reduce-is a.nodes a.layouts w a.control.slots p.tuples no_left p.statement))

  -- ---- both ways

  module _ (who : Who) (e : Exchange) (is : instruction_part a.nodes a.layouts a.control.slots i ≡ Some (part_of (part_on a who w))) where
    pub exchange-by : IsExchangeOf i a.control.slots (owners_of a) a.id e → IsExchangeBy a who w e
    exchange-by h = h.exchanged (part_of (part_on a who w)) is

    pub exchange-of : IsExchangeBy a who w e → IsExchangeOf i a.control.slots (owners_of a) a.id e
    exchange-of h = record {
      exchanged = λ part is_part. subst (λ p. AreExchanged a.nodes a.layouts p a.id e) (same_Some _ _ (sym is ∙ is_part)) h;
    }

-- ---- the part at a node's place, whose phase is opened next

module _ (a : Node Text Fault) (w : Statement) where
  pub par-opens : IsParallel (instr_at text_meaning a.code a.control.at) a.control.slots w → OpensPart a (part_of (part_on a Left w))
  par-opens p = record {
    is = parallel-instruction_part a _ w p;
    opened = ap (λ x. part_opened a.nodes x a) (par-is a.nodes a.layouts w a.control.slots p.tuples p.left p.statement) ∙ ap (λ x. begun_by fault_values a.nodes x a) (sym p.is);
  }

  pub reduction-opens : (o : Join) → a.substep ≡ 0 → IsReduced (instr_at text_meaning a.code a.control.at) a.control.slots o w → OpensPart a (part_of (part_on a First w))
  reduction-opens o first p = record {
    is = reduction-instruction_part a _ w o p;
    opened = ap (λ x. part_opened a.nodes x a) (reduce-is a.nodes a.layouts w a.control.slots p.tuples no_left p.statement)
        ∙ ap (λ k. reduce_begun fault_values a.nodes k p.tuples (fold_of o) p.slot a) (sym first) ∙ ap (λ x. begun_by fault_values a.nodes x a) (sym p.is);
  }

-- there is a list for each node
pub exchange-lists : (v : PartView) (id : ℕ) (e : Exchange) → IsExchange v id e → HasLists v.nodes e
exchange-lists v id e is = record {
  outgoing = ap length is.outgoing ∙ length-map-range_with_len _ 0 v.nodes;
  incoming = ap length is.incoming ∙ length-map-range_with_len _ 0 v.nodes;
}
