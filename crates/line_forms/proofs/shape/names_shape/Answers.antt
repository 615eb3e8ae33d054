use Rattle.std.proofs.Common.{◌≡◌, Bool, List, [], ◌∷◌, map, ◌∙◌, refl, ap}
use Rattle.std.specs.Prelude.{◌||◌}
use Rattle.std.specs.List.{list_any}
use Rattle.syntax_tree.specs.Lexeme.{lexeme_of}
use Rattle.line_forms.specs.Shape.{is_shape}
use Rattle.line_forms.proofs.shape.names_shape.Goals as goal

any_map : {A B : Type 0} (p : B → Bool) (f : A → B) (xs : List A) → list_any (λ x. p (f x)) xs ≡ list_any p (map f xs)
any_map p f [] = refl
any_map p f (x ∷ xs) = ap (λ b. p (f x) || b) (any_map p f xs)

pub returns : goal.returns
returns c = c.any_shape.ensures ∙ any_map is_shape (λ t. lexeme_of t.kind) c.args.tokens.now
