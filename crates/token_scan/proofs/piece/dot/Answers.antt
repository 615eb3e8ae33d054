use Rattle.std.proofs.Common.{ℕ, List, refl, subst, ◌∙◌}
use Rattle.op_tables.specs.Words.{dot_words}
use Rattle.token_scan.specs.Pieces.{IsLongestWord, NoWordLonger}
use Rattle.token_scan.proofs.TableWords.{dot_front, no_dot}
use Rattle.token_scan.proofs.piece.dot.Goals as goal

pub returns-in-Some : goal.returns-in-Some
returns-in-Some c = (
  dot_front c.args.bytes.now c.min.result c.in-Some.len c.in-Some.code c.min.ensures c.requires
      (subst (λ (front : List ℕ). IsLongestWord dot_words front c.in-Some.len c.in-Some.code) (c.deref.ensures.value ∙ c.in_ok-front.ensures) c.in-Some.ensures),
  refl,
)

pub returns : goal.returns
returns c =
    no_dot c.args.bytes.now c.min.result c.min.ensures c.requires
    (subst (λ (front : List ℕ). NoWordLonger dot_words front 0) (c.deref.ensures.value ∙ c.in_ok-front.ensures) c.in-None.ensures)
