use Rattle.std.proofs.Common.{rules, to_z, of_z, ◌≡◌, ◌≤◌, ◌*◌, ◌+◌, ◌/◌, ◌%◌, nat_lt, true, false, length, arith, subst, ap, ◌∙◌, sym}
use Rattle.std.specs.Int.{w64, w128}
use Rattle.std.specs.List.Sorted.{IsPartitionPoint}
use Rattle.congruences.specs.Congruences.{residue_of}
use Rattle.gap_table.specs.Residues.{AreOffsets}
use Rattle.gap_table.proofs.Tables.{places_cyclic, table_cyclic}
use Rattle.gap_table.proofs.cyclic.cyclic_table.Goals as goal

pub returns-clause-places : goal.returns-clause-places
returns-clause-places g c =
    let xs = c.in_ok-offsets.field-0.offsets.items in
    let t = c.in_ok-offsets.field-0.period in
    let s = c.args.section in
    let long : c.len.result ≡ length xs = c.len.ensures ∙ sym c.deref.ensures.len ∙ ap length c.deref.ensures.value in
    let wide : to_z w128 (of_z w128 (to_z w64 (of_z w64 s.stride))) ≡ s.stride = search rules in
    places_cyclic c.args.block c.args.procs c.args.node s.start s.count t c.count_below.result s.stride xs c.requires.block
    (omega (arith, c.requires.node)) c.requires.section.start c.requires.section.inside
    (subst (λ d. AreOffsets c.args.block c.args.procs c.args.node s.start d xs t) (c.residue_of-factor.ensures.value ∙ ap (λ z. residue_of z (c.args.block * c.args.procs)) wide)
    c.in_ok-offsets.ensures.offsets)
    (subst (λ l. c.count_below.result ≤ length l) c.deref.ensures.value c.count_below.ensures.within)
    (subst (λ l. IsPartitionPoint (λ x. nat_lt x (s.count % t) ≡ true)
    (λ x. nat_lt x (s.count % t) ≡ false) l c.count_below.result) c.deref.ensures.value c.count_below.ensures.point)
    _ (ap (λ n. s.count / t * n + c.count_below.result) long)

pub invariant_of-result : goal.invariant_of-result
invariant_of-result g c =
    let xs = c.in_ok-offsets.field-0.offsets.items in
    let t = c.in_ok-offsets.field-0.period in
    let s = c.args.section in
    let long : c.len.result ≡ length xs = c.len.ensures ∙ sym c.deref.ensures.len ∙ ap length c.deref.ensures.value in
    table_cyclic c.args.block c.args.procs c.args.node s.start s.count t c.count_below.result c.residue_of-factor.result s.stride xs c.in_ok-offsets.ensures.offsets
    (subst (λ l. c.count_below.result ≤ length l) c.deref.ensures.value c.count_below.ensures.within)
    _ (ap (λ n. s.count / t * n + c.count_below.result) long) c.requires.section.few (returns-clause-places g c) c.requires.small
