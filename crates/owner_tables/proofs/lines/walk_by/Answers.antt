use Rattle.std.proofs.Common.{◌≡◌, ◌+◌, ◌*◌, refl, sym, ◌∙◌, ap, arith}
use Rattle.owner_tables.specs.Columns.{place_of}
use Rattle.owner_tables.proofs.StretchLaws.{even-more}
use Rattle.owner_tables.proofs.lines.walk_by.Goals as goal

pub loop-done-preserved : goal.loop-done-preserved
loop-done-preserved c =
    let places = c.args.places.now in
    let done = c.loop-done.done in
    let at : c.loop-done.at + c.args.step ≡ c.args.first + (done + 1) * c.args.step = omega (arith, c.loop-done.invariant.at) in
    let rank : c.loop-done.rank + c.args.apart ≡ (place_of places c.args.first).rank + (done + 1) * c.args.apart = omega (arith, c.loop-done.invariant.rank) in
    record {
      at = at;
      rank = rank;
      small = c.if-not-adds.ensures.small refl;
      even = even-more places c.args.first c.args.step done c.args.apart c.loop-done.invariant.even
          (ap (λ n. (place_of places n).part) (sym at) ∙ sym (ap (λ p. p.part) c.at.ensures) ∙ c.if-not-adds.ensures.part refl
          ∙ ap (λ p. p.part) c.at-part.ensures)
          (ap (λ n. (place_of places n).rank) (sym at) ∙ sym (ap (λ p. p.rank) c.at.ensures) ∙ c.if-not-adds.ensures.rank refl ∙ rank);
    }
