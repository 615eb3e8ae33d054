-- What the copies of a nest lie beside names what is declared.
use Rattle.std.proofs.Common.{ℕ, ◌<◌, Bool, Option, Some, None}
use Rattle.std.specs.Option.{option_or}
use Rattle.array_meaning.specs.Terms.{Term, Number, Scalar, Index, Element, Section, Apply, Reduce, Terms, NoTerm, More}
use Rattle.array_meaning.specs.Statements.{Nest, Block, Done, Then, Statement, AssignElement, If, Arms, NoArm, Arm}
use Rattle.array_meaning.specs.Iterations.{nest_indices}
use Rattle.nest_syntax.specs.NestTerms.{indexed, all_indexed, scalar_or_index}
use Rattle.statement_trail.specs.Anchors.{AnchorText, block_anchor, statement_anchor, arms_anchor}
use Rattle.statement_trail.specs.NestParts.{index_in, nest_anchor}
use Rattle.lowered_expressions.specs.WellFormed.{IsScalar, AreScalar, IsSubscript, AreSubscripts, IsWellFormed, IsWellFormedBlock, AreWellFormedArms}
use Rattle.lowered_expressions.specs.Anchors.{IsAnchorText}
use Rattle.lowered_expressions.proofs.Anchors.{linear-safe, element-anchored}
use Rattle.nest_items.specs.NestForm.{IsExact, AreExact, TextsKeep, TextKeeps, ArmsTextsKeep}

module _ (n : ℕ) (f : ℕ → Option ℕ) where
  -- a scalar, or an index
  scalar-subscript : (o : Option ℕ) (k : ℕ) → k < n → IsSubscript n (scalar_or_index o k)
  scalar-subscript None k lt = lt
  scalar-subscript (Some j) k lt = tt

  mutual
    indexed-subscript : (t : Term) → IsExact t → IsScalar n t → IsSubscript n (indexed f t)
    indexed-subscript (Number v) exact ok = tt
    indexed-subscript (Scalar k) exact ok = scalar-subscript (f k) k ok
    indexed-subscript (Index k) exact ok = absurd exact
    indexed-subscript (Element a ts) exact ok = absurd exact
    indexed-subscript (Section a subs) exact ok = absurd exact
    indexed-subscript (Apply o ts) exact ok = (linear-safe o exact.0, indexed-subscripts ts exact.1 ok)
    indexed-subscript (Reduce o t) exact ok = absurd exact

    pub indexed-subscripts : (ts : Terms) → AreExact ts → AreScalar n ts → AreSubscripts n (all_indexed f ts)
    indexed-subscripts NoTerm exact ok = tt
    indexed-subscripts (More t ts) exact ok = (indexed-subscript t exact.0 ok.0, indexed-subscripts ts exact.1 ok.1)

  -- the first of two
  first-anchored : (a b : Option AnchorText) → IsAnchorText n a → IsAnchorText n b → IsAnchorText n (option_or a b)
  first-anchored None b h g = g
  first-anchored (Some a) b h g = h

  module _ (all : ℕ → Bool) where
    mutual
      block-anchored : (b : Block) → IsWellFormedBlock n b → TextsKeep all b → IsAnchorText n (block_anchor f b)
      block-anchored Done ok keeps = tt
      block-anchored (Then line statement rest) ok keeps =
          first-anchored (statement_anchor f statement) (block_anchor f rest) (statement-anchored statement ok.0 keeps.0) (block-anchored rest ok.1 keeps.1)

      statement-anchored : (statement : Statement) → IsWellFormed n statement → TextKeeps all statement → IsAnchorText n (statement_anchor f statement)
      statement-anchored (AssignElement a ts t) ok keeps = element-anchored n a (all_indexed f ts) ok.0 (indexed-subscripts ts keeps.0 ok.1)
      statement-anchored (If arms other) ok keeps =
          first-anchored (arms_anchor f arms) (block_anchor f other) (arms-anchored arms ok.0 keeps.0) (block-anchored other ok.1 keeps.1)
      statement-anchored statement ok keeps = tt

      arms-anchored : (arms : Arms) → AreWellFormedArms n arms → ArmsTextsKeep all arms → IsAnchorText n (arms_anchor f arms)
      arms-anchored NoArm ok keeps = tt
      arms-anchored (Arm line t body arms) ok keeps =
          first-anchored (block_anchor f body) (arms_anchor f arms) (block-anchored body ok.1 keeps.1) (arms-anchored arms ok.2 keeps.2)

pub nest-anchored : (n : ℕ) (all : ℕ → Bool) (nest : Nest) (body : Block) → IsWellFormedBlock n body → TextsKeep all body → IsAnchorText n (nest_anchor nest body)
nest-anchored n all nest body ok keeps = block-anchored n (index_in (nest_indices nest) 0) all body ok keeps
