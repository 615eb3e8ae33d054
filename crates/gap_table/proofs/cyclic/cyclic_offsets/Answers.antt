use Rattle.std.proofs.Common.{rules, ◌≡◌, ◌+◌, ◌*◌, ◌≤◌, ◌<◌, inl, inr, length, ◌-◌, ◌/◌, ◌%◌, sym, ◌∙◌, ap, subst, arith}
use Rattle.std.proofs.Math.Nat.{mul-le-mul}
use Rattle.std.proofs.lemmas.Bool.{cases_lt}
use Rattle.std.proofs.lemmas.Nat.{mod_below, mul-lt, mul-mod_first}
use Rattle.std.proofs.Math.Dec.{eqb}
use Rattle.std.proofs.lemmas.Map.Keys.{IsStrictlyIncreasing-dedup}
use Rattle.std.proofs.lemmas.List.Filters.{dedup_is}
use Rattle.std.proofs.lemmas.List.FromFn.{length-map-range_with_len}
use Rattle.std.proofs.lemmas.List.Sorted.{length_permutation}
use Rattle.hpf_base.specs.declared.limits.TheConstants.{MAX_NODES}
use Rattle.mappings.specs.declared.limits.TheConstants.{MAX_CYCLIC}
use Rattle.hpf_base.proofs.Ranges.{map-range_push}
use Rattle.congruences.proofs.Solutions.{factor_times}
use Rattle.gap_table.proofs.Offsets.{first_offset, next_offset, offsets_filtered, in_sorted, sorted_in}
use Rattle.gap_table.proofs.AscendingLists.{In}
use Rattle.gap_table.proofs.cyclic.cyclic_offsets.Goals as goal

pub overflow_mul-offset : goal.overflow_mul-offset
overflow_mul-offset g c =
    let v = c.inverse_of-found.result in
    let e = c.inverse_of-found.ensures in
    let distance = c.args.start + c.args.block * c.args.procs - (c.args.node * c.args.block + 1) in
    let room : c.args.block * c.args.procs ≤ MAX_CYCLIC * MAX_NODES = mul-le-mul c.requires.small c.requires.procs in
    let rest : distance / v.divisor % v.period < v.period =
    mod_below (distance / v.divisor) v.period e.some in
    let product = mul-lt (distance / v.divisor % v.period) v.number (MAX_CYCLIC * MAX_NODES) (MAX_CYCLIC * MAX_NODES)
    (omega (arith, rest, room, e.within)) (omega (arith, room, e.below)) in
    omega (arith, product)

pub loop-residue-init : goal.loop-residue-init
loop-residue-init g c =
    let v = c.inverse_of-found.result in
    let distance = c.args.start + c.args.block * c.args.procs - (c.args.node * c.args.block + 1) in (
      0,
      record {
        residue = omega arith;
        offset = first_offset (v.period - distance / v.divisor % v.period * v.number % v.period) v.period v.number;
        offsets = c.new-offsets.ensures.items;
        each = λ i below. absurd (omega (arith, below));
        few = omega arith;
        within = omega arith;
        steps = omega arith;
      },
    )

pub overflow_add-offset : goal.overflow_add-offset
overflow_add-offset g c =
    let v = c.inverse_of-found.result in
    let e = c.inverse_of-found.ensures in
    let inv = c.loop-residue.invariant.1 in
    let room : c.args.block * c.args.procs ≤ MAX_CYCLIC * MAX_NODES = mul-le-mul c.requires.small c.requires.procs in
    let below : c.loop-residue.offset < v.period = rw inv.offset (mod_below _ v.period e.some) in
    omega (arith, room, below, e.below, e.within)

pub loop-residue-preserved : goal.loop-residue-preserved
loop-residue-preserved g c =
    let v = c.inverse_of-found.result in
    let e = c.inverse_of-found.ensures in
    let n = c.loop-residue.invariant.0 in
    let inv = c.loop-residue.invariant.1 in
    let few : n ≤ c.loop-residue.residue = inv.few in
    let test : c.loop-residue.residue < c.args.block = c.loop-residue-test.true in (
      n + 1,
      record {
        residue = omega (arith, inv.residue);
        offset = next_offset c.loop-residue.offset _ n v.number v.period inv.offset;
        offsets = map-range_push _ c.loop-residue.offsets.items c.push.new.self.items c.loop-residue.offset n (search rules) inv.offsets inv.offset;
        each = λ i below. elim (cases_lt i n) [
          | inl h ↦ inv.each i h
          | inr h ↦ let same : i ≡ n = omega (arith, h, below) in rw same (rw (← inv.residue) test)
        ];
        few = omega (arith, few, e.inverse.some);
        within = omega (arith, few, test);
        steps = omega (arith, inv.steps, c.tick.ensures, c.tick-in-loop-residue.ensures);
      },
    )

pub returns-clause-offsets : goal.returns-clause-offsets
returns-clause-offsets g c =
    let v = c.inverse_of-found.result in
    let e = c.inverse_of-found.ensures in
    let distance = c.args.start + c.args.block * c.args.procs - (c.args.node * c.args.block + 1) in
    let n = c.loop-residue.invariant.0 in
    let inv = c.loop-residue.invariant.1 in
    let tried = c.loop-residue.offsets.items in
    let sorted = c.sort_unstable.new.self.items in
    let numbers = c.dedup.new.self.items in
    let permutation = c.sort_unstable.ensures.permutation in
    let is = dedup_is eqb sorted numbers c.dedup.ensures.filtered in
    let ends : c.args.block ≤ c.loop-residue.residue = c.loop-residue-test.false in
    let within : n ≤ c.args.block = inv.within in
    let long : length tried ≡ n = ap length inv.offsets ∙ length-map-range_with_len _ 0 n in
    let long' : length sorted ≡ length tried = length_permutation _ _ permutation in
    record {
      some = e.some;
      repeats = (e.inverse.factor.0, factor_times c.args.factor (c.args.block * c.args.procs) v.divisor v.period v.number e.inverse);
      few = omega (arith, within, long, long', c.dedup.ensures.bound, c.dedup.new.self.ok, c.sort_unstable.new.self.ok);
      ascends = rw is (IsStrictlyIncreasing-dedup sorted c.sort_unstable.ensures.sorted);
      all = offsets_filtered c.args.block c.args.procs c.args.node c.args.start c.args.factor v.divisor v.period v.number n _ numbers
          c.requires.block c.requires.node c.requires.start e.some e.inverse
          (ap (λ x. (v.period - x) % v.period) (mul-mod_first (distance / v.divisor) v.number v.period))
          (rw (← inv.residue) ends) inv.each
          (rw is (IsStrictlyIncreasing-dedup sorted c.sort_unstable.ensures.sorted))
          (λ j i. subst (λ l. In j l) inv.offsets (in_sorted tried sorted numbers permutation is j i))
          (λ j i. sorted_in tried sorted numbers permutation is j
          (subst (λ l. In j l) (sym inv.offsets) i));
    }

pub returns-clause-counted : goal.returns-clause-counted
returns-clause-counted g c =
    let inv = c.loop-residue.invariant.1 in
    let long : length c.loop-residue.offsets.items ≡ c.loop-residue.invariant.0 = ap length inv.offsets ∙ length-map-range_with_len _ 0 c.loop-residue.invariant.0 in
    let long' : length c.sort_unstable.new.self.items ≡ length c.loop-residue.offsets.items = length_permutation _ _ c.sort_unstable.ensures.permutation in
    omega (arith, inv.steps, long, long', c.dedup.ensures.bound, c.dedup.new.self.ok, c.sort_unstable.new.self.ok)
