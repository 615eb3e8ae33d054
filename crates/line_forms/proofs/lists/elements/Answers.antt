use Rattle.std.proofs.Common.{rules, ◌≤◌, ◌<◌, length, map, sym, subst, arith}
use Rattle.std.proofs.lemmas.List.{length-map}
use Rattle.syntax_tree.specs.Lexeme.{lexemes, lexeme_of}
use Rattle.line_forms.specs.Read.{read}
use Rattle.line_forms.specs.Gives.{elements, goes_on}
use Rattle.line_forms.proofs.Rows.{stops, ends, goes, fewer, refused}
use Rattle.line_forms.proofs.Sound.{shorter}
use Rattle.line_forms.proofs.lists.elements.Given.{Over}
use Rattle.line_forms.proofs.lists.elements.Goals as goal

pub returns-in_err-element : goal.returns-in_err-element
returns-in_err-element g c =
    let most = c.elements.invariant.0 in
    refused (λ x. (map g.T.Element.view x.0.items, lexemes x.1.now)) c.from_residual.result
    (elements c.args.kind (read c.args.depths g.T.Element.grammar) (lexemes c.args.tokens.now)) c.in_err-element.field-0.0
    c.from_residual.ensures.1 (λ no.
    stops g.T.Element.view (goes_on c.args.kind) (read c.args.depths g.T.Element.grammar) c.elements.elements.items (lexemes c.elements.rest.now)
    (elements c.args.kind (read c.args.depths g.T.Element.grammar) (lexemes c.args.tokens.now)) most (c.elements.invariant.1, c.elements.invariant.2)
    c.in_err-element.field-0.0 (c.in_err-element.ensures no))

pub returns-then-not-goes_on : goal.returns-then-not-goes_on
returns-then-not-goes_on g c =
    let us = lexemes c.in_ok-element.after_it.now in
    ends g.T.Element.view (goes_on c.args.kind) (read c.args.depths g.T.Element.grammar) c.elements.elements.items (lexemes c.elements.rest.now)
    (elements c.args.kind (read c.args.depths g.T.Element.grammar) (lexemes c.args.tokens.now)) c.elements.invariant.0
    (c.elements.invariant.1, c.elements.invariant.2) c.in_ok-element.element us c.in_ok-element.ensures c.goes_on.result c.goes_on.ensures.value
    c.if-not-goes_on.true c.push.new.self.items c.in_ok-push.ensures.items

smaller : (g : Over) (c : goal.After-skip-rest g) → length (lexemes c.skip-rest.result.now) < length (lexemes c.elements.rest.now)
smaller g c =
    let us = c.in_ok-element.after_it.now in
    let long : 1 ≤ length us = c.goes_on.ensures.within (search rules) in
    subst (λ l. length l < length (lexemes c.elements.rest.now)) (sym c.skip-rest.ensures)
    (fewer (read c.args.depths g.T.Element.grammar (lexemes c.elements.rest.now)) (lexemes c.elements.rest.now)
    (shorter c.args.depths g.T.Element.grammar (lexemes c.elements.rest.now)) (g.T.Element.view c.in_ok-element.element) (lexemes us)
    c.in_ok-element.ensures (omega (arith, length-map us (λ t. lexeme_of t.kind))))

pub elements-smaller : goal.elements-smaller
elements-smaller g c = smaller g c

pub elements-preserved : goal.elements-preserved
elements-preserved g c =
    let us = lexemes c.in_ok-element.after_it.now in
    goes g.T.Element.view (goes_on c.args.kind) (read c.args.depths g.T.Element.grammar) c.elements.elements.items (lexemes c.elements.rest.now)
    (elements c.args.kind (read c.args.depths g.T.Element.grammar) (lexemes c.args.tokens.now)) c.elements.invariant.0
    (c.elements.invariant.1, c.elements.invariant.2) c.in_ok-element.element us c.in_ok-element.ensures c.goes_on.result c.goes_on.ensures.value
    c.if-not-goes_on.false c.push.new.self.items c.in_ok-push.ensures.items (lexemes c.skip-rest.result.now) c.skip-rest.ensures (smaller g c)
