use Rattle.std.proofs.Common.{length, ◌-◌, ◌≡◌, ◌≤◌, ◌+◌, ◌*◌}
use Rattle.syntax_tree.specs.Expression.{expression, parts_of}
use Rattle.expr_reader.specs.TokenReading.{ahead, read, with_front}
use Rattle.expr_reader.proofs.reading.+reading.Given as goal

abbrev pub decreases-expr : goal.decreases-expr
decreases-expr l = 8 * length l.tokens.now + 1

abbrev pub decreases-operand : goal.decreases-operand
decreases-operand l = 8 * length l.rest.now + 8

abbrev pub decreases-from_sign : goal.decreases-from_sign
decreases-from_sign l = 8 * length l.rest.now + 7

abbrev pub decreases-from_word : goal.decreases-from_word
decreases-from_word l = 8 * length l.rest.now + 7

abbrev pub decreases-call : goal.decreases-call
decreases-call l = 8 * length l.rest.now + 5

abbrev pub decreases-arguments : goal.decreases-arguments
decreases-arguments l = 8 * length l.tokens.now + 5

abbrev pub decreases-more : goal.decreases-more
decreases-more l = 8 * length l.tokens.now

abbrev pub decreases-list : goal.decreases-list
decreases-list l = 8 * length l.tokens.now + 4

abbrev pub decreases-part : goal.decreases-part
decreases-part l = 8 * length l.tokens.now + 3

abbrev pub decreases-range : goal.decreases-range
decreases-range l = 8 * length l.tokens.now + 1

abbrev pub decreases-stepped : goal.decreases-stepped
decreases-stepped l = 8 * length l.tokens.now + 1

abbrev pub invariant-list-parts : goal.invariant-list-parts
invariant-list-parts l = record {
  within : l.taken ≤ length l.tokens;
  value : with_front (parts_of l.parts.items) l.taken (ahead l.tokens l.taken).list ≡ (read l.tokens).list;
}

abbrev pub decreases-list-parts : goal.decreases-list-parts
decreases-list-parts l = length l.tokens - l.taken

abbrev pub invariant-more-ops : goal.invariant-more-ops
invariant-more-ops l = record {
  within : l.taken ≤ length l.tokens;
  value : (ahead l.tokens l.taken).core.more l.place (expression l.tree) l.taken ≡ (ahead l.tokens l.initial.taken).core.more l.place (expression l.initial.tree) l.initial.taken;
}

abbrev pub decreases-more-ops : goal.decreases-more-ops
decreases-more-ops l = length l.tokens - l.taken

abbrev pub decreases-reference : goal.decreases-reference
decreases-reference l = 8 * length l.rest.now + 4

abbrev pub decreases-closed : goal.decreases-closed
decreases-closed l = 8 * length l.rest.now + 3

abbrev pub decreases-signed : goal.decreases-signed
decreases-signed l = 8 * length l.rest.now + 3

abbrev pub decreases-maybe : goal.decreases-maybe
decreases-maybe l = 8 * length l.tokens.now + 2
