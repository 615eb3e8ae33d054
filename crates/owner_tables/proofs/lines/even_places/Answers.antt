use Rattle.std.proofs.Common.{◌≡◌, ◌+◌, ◌*◌, refl, sym, ◌∙◌, ap}
use Rattle.std.proofs.Math.Nat.{mul-le-mul_right}
use Rattle.owner_tables.specs.Columns.{place_of}
use Rattle.owner_tables.proofs.lines.even_places.Goals as goal

pub returns-then-is_one_block-clause-even : goal.returns-then-is_one_block-clause-even
returns-then-is_one_block-clause-even c = λ k few.
    let places = c.args.places.now in
    let first = c.args.first in
    let distance = c.args.others * c.args.step in
    let part : (place_of places (first + distance)).part ≡ (place_of places first).part =
    sym (ap (λ p. p.part) c.at-2.ensures) ∙ c.if-is_one_block.ensures.part refl ∙ ap (λ p. p.part) c.at.ensures in
    let rank : (place_of places (first + distance)).rank ≡ (place_of places first).rank + distance =
    sym (ap (λ p. p.rank) c.at-2.ensures) ∙ c.if-is_one_block.ensures.rank refl ∙ ap (λ p. p.rank + distance) c.at.ensures in
    c.requires.ranks first distance (k * c.args.step) c.requires.inside part rank (mul-le-mul_right c.args.step few)
