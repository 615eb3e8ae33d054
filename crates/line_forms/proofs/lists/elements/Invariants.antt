use Rattle.std.proofs.Common.{◌≡◌, map, ℕ, ◌<◌, length}
use Rattle.syntax_tree.specs.Lexeme.{lexemes}
use Rattle.line_forms.specs.Read.{read, comma_list}
use Rattle.line_forms.specs.Gives.{elements, goes_on, with_front}
use Rattle.line_forms.proofs.lists.elements.Given as goal

-- the elements so far, in front of what is read from there on, are the whole list
abbrev pub invariant-elements : goal.invariant-elements
invariant-elements g l =
    (most : ℕ) × (length (lexemes l.rest) < most)
    × (with_front (map g.T.Element.view l.elements.items)
    (comma_list (goes_on l.fn.kind) (read l.fn.depths g.T.Element.grammar) most (lexemes l.rest))
    ≡ elements l.fn.kind (read l.fn.depths g.T.Element.grammar) (lexemes l.fn.tokens))

abbrev pub decreases-elements : goal.decreases-elements
decreases-elements g l = length (lexemes l.rest)
