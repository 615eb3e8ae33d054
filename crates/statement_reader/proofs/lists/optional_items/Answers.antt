use Rattle.std.proofs.Common.{◌≡◌, true, List, [], ◌∷◌, map, drop, Some, None, refl, ap, ◌∙◌, sym}
use Rattle.std.specs.Prelude.{if◌then◌else◌}
use Rattle.syntax_tree.specs.Lexeme.{Lexeme, lexemes}
use Rattle.syntax_tree.specs.declared.stmt.Item.{Item}
use Rattle.line_forms.specs.declared.depths.Depths.TheVariants.{Limited}
use Rattle.line_forms.specs.Grammar.{Item as OneItem, Optional, CommaList}
use Rattle.line_forms.specs.Marks.{comma, starts}
use Rattle.line_forms.specs.Parts.{output_of}
use Rattle.line_forms.specs.Read.{read}
use Rattle.line_forms.specs.Reading.{Found, ◌>>=◌}
use Rattle.statement_reader.specs.Views.{items_of}
use Rattle.statement_reader.proofs.Steps.{filled}
use Rattle.statement_reader.proofs.lists.optional_items.Goals as goal

some_items : (ts : List Lexeme) (items : List Item) (us : List Lexeme) → starts comma ts ≡ true
    → read Limited (CommaList OneItem) (drop 1 ts) ≡ Found (map output_of items, us)
    → read Limited (Optional comma (CommaList OneItem)) ts ≡ Found (items_of items, us)
some_items ts [] us h e = absurd (filled _ _ _ _ _ e refl)
some_items ts (i ∷ is) us h e =
    ap (λ b. if b then (read Limited (CommaList OneItem) (drop 1 ts) >>= λ v. Found (Some v.0, v.1)) else Found (None, ts)) h
    ∙ ap (λ r. r >>= λ v. Found (Some v.0, v.1)) e

pub returns : goal.returns
returns c =
    some_items (lexemes c.args.tokens.now) c.in_ok-items.items.items (lexemes c.in_ok-items.rest.now) (cc)
    (ap (read Limited (CommaList OneItem)) (sym c.skip.ensures) ∙ c.in_ok-items.ensures)
