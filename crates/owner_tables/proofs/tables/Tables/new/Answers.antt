use Rattle.machine_steps.specs.Layout.{size_of}
use Rattle.owner_tables.proofs.TableLaws.{leaders-are}
use Rattle.owner_tables.proofs.tables.Tables.new.Goals as goal

pub invariant_of-result : goal.invariant_of-result
unfolding size_of
invariant_of-result c = record {
  some = c.requires.some;
  few = c.requires.few;
  laid = c.requires.laid;
  alike = c.in_ok-alike.ensures;
  leaders = leaders-are (λ v. v.items) c.args.mapping c.args.nodes c.in_ok-alike.alike.items c.deref.result.now c.in_ok-leaders.leaders.items c.in_ok-leaders.ensures
      c.deref.ensures.value c.in_ok-alike.ensures;
  size = c.element_count-size.ensures.value;
  base = c.in_ok-numbers.ensures.base;
  columns = c.in_ok-numbers.ensures.columns;
  owned = c.in_ok-numbers.ensures.owned;
}
