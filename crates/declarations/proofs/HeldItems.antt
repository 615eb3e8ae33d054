-- The items of a declaration, as they lie in a tree.
use Rattle.std.proofs.Common.{◌≡◌, ℕ, List, [], ◌∷◌, ◌++◌, map, Option, Some, None, Global, refl, sym, ap, ◌∙◌}
use Rattle.std.specs.Prelude.{Vec}
use Rattle.std.specs.List.{flat_map}
use Rattle.hpf_base.specs.FirstBreach.{at_line, earlier, least}
use Rattle.syntax_tree.specs.declared.decl.ConstDef.{ConstDef}
use Rattle.syntax_tree.specs.declared.decl.Decl.{Decl}
use Rattle.syntax_tree.specs.declared.decl.DeclKind.TheVariants as declared
use Rattle.syntax_tree.specs.declared.decl.Entity.{Entity as HeldEntity}
use Rattle.syntax_tree.specs.declared.decl.IntegerDecl.{IntegerDecl}
use Rattle.syntax_tree.specs.declared.directive.Directive.{Directive}
use Rattle.syntax_tree.specs.declared.directive.Directive.TheVariants as directive
use Rattle.syntax_tree.specs.Directive.{Bound, arrangement, directive_of, entity}
use Rattle.syntax_tree.specs.MainProgram.{Directed, Integer, declared_of, named_constant, type_declaration}
use Rattle.expression_rules.specs.Symbols.{SymbolTable}
use Rattle.declarations.specs.declared.declared_items.Space.TheVariants.{Template, Arrangement}
use Rattle.declarations.specs.Declarations.{DimensionAttribute, TypedEntity, Definition, TemplateEntity, ArrangementEntity, PlacedItem, after_all, bounds_of, items_of, own_or}
use Rattle.declarations.specs.Declaring.{bounds_held, constant_reason, definition_items, items_in, placed_item, space_items, typed_items}
use Rattle.declarations.specs.DeclarationRules.{item_breaches}
use Rattle.expression_rules.specs.Inner.{bound_expressions, present}
use Rattle.declarations.proofs.ItemReasons.{item_reason}
use Rattle.declarations.proofs.ItemTurns.{after_append, first_append, first_one}

map_append : {X Y : Type 0} (f : X → Y) (xs ys : List X) → map f (xs ++ ys) ≡ map f xs ++ map f ys
map_append f [] ys = refl
map_append f (x ∷ xs) ys = ap (λ l. f x ∷ l) (map_append f xs ys)

map_three : {X Y Z W : Type 0} (f : Z → W) (g : Y → Z) (h : X → Y) (xs : List X) → map f (map g (map h xs)) ≡ map (λ x. f (g (h x))) xs
map_three f g h [] = refl
map_three f g h (x ∷ xs) = ap (λ l. f (g (h x)) ∷ l) (map_three f g h xs)

-- what stands after DIMENSION
abbrev attribute_items : ℕ → Option (List Bound) → List PlacedItem
attribute_items line bs = map (placed_item line) (map DimensionAttribute (present bs))

attribute_after : (t : SymbolTable) (line : ℕ) (bs : Option (List Bound)) → after_all t (attribute_items line bs) ≡ t
attribute_after t line None = refl
attribute_after t line (Some bs) = refl

attribute_first : (t : SymbolTable) (line : ℕ) (bs : Option (List Bound)) → least (item_breaches t (attribute_items line bs))
    ≡ at_line line (constant_reason t (flat_map bound_expressions (bounds_of bs)))
attribute_first t line None = refl
attribute_first t line (Some bs) = first_one line t (DimensionAttribute bs) ∙ ap (at_line line) (item_reason t (DimensionAttribute bs))

-- an INTEGER
integer_items : (line : ℕ) (d : IntegerDecl) → map (placed_item line) (items_of (Integer (type_declaration d)))
    ≡ attribute_items line (bounds_held d.dims) ++ typed_items line d.constant (bounds_held d.dims) d.entities.items
integer_items line d =
    map_append (placed_item line) (map DimensionAttribute (present (bounds_held d.dims))) (map (λ e. TypedEntity d.constant (own_or e.bounds (bounds_held d.dims)) e)
    (map entity d.entities.items))
    ∙ ap (λ l. attribute_items line (bounds_held d.dims) ++ l) (map_three (placed_item line)
    (λ e. TypedEntity d.constant (own_or e.bounds (bounds_held d.dims)) e) entity d.entities.items)

module _ (t : SymbolTable) (line : ℕ) (d : IntegerDecl) where
  pub integer_after : after_all t (typed_items line d.constant (bounds_held d.dims) d.entities.items)
      ≡ after_all t (map (placed_item line) (items_of (Integer (type_declaration d))))
  integer_after = sym (
      ap (after_all t) (integer_items line d)
      ∙ after_append t (attribute_items line (bounds_held d.dims)) (typed_items line d.constant (bounds_held d.dims) d.entities.items)
      ∙ ap (λ a. after_all a (typed_items line d.constant (bounds_held d.dims) d.entities.items)) (attribute_after t line (bounds_held d.dims)))

  pub integer_first :
      earlier (at_line line (constant_reason t (flat_map bound_expressions (bounds_of (bounds_held d.dims)))))
      (least (item_breaches t (typed_items line d.constant (bounds_held d.dims) d.entities.items)))
      ≡ least (item_breaches t (map (placed_item line) (items_of (Integer (type_declaration d)))))
  integer_first = sym (
      ap (λ l. least (item_breaches t l)) (integer_items line d)
      ∙ first_append t (attribute_items line (bounds_held d.dims)) (typed_items line d.constant (bounds_held d.dims) d.entities.items)
      ∙ (λ i. earlier (attribute_first t line (bounds_held d.dims) i) (least (item_breaches (attribute_after t line (bounds_held d.dims) i)
      (typed_items line d.constant (bounds_held d.dims) d.entities.items)))))

-- a PARAMETER
pub definitions_of : (d : Decl) (v : Vec ConstDef Global) (cs : List ConstDef) → d.what ≡ declared.Parameter v → cs ≡ v.items → definition_items d.line cs ≡ items_in d
definitions_of d v cs is items =
    ap (definition_items d.line) items
    ∙ sym (ap (λ w. map (placed_item d.line) (items_of (declared_of w))) is ∙ map_three (placed_item d.line) Definition named_constant v.items)

-- a TEMPLATE and a PROCESSORS
module _ (line : ℕ) (x : Directive) (v : Vec HeldEntity Global) (es : List HeldEntity) where
  pub templates_of : x ≡ directive.Template v → es ≡ v.items → space_items line Template es ≡ map (placed_item line) (items_of (Directed (directive_of x)))
  templates_of is items =
      ap (space_items line Template) items
      ∙ sym (ap (λ y. map (placed_item line) (items_of (Directed (directive_of y)))) is ∙ map_three (placed_item line) TemplateEntity arrangement v.items)

  pub arrangements_of : x ≡ directive.Processors v → es ≡ v.items → space_items line Arrangement es ≡ map (placed_item line) (items_of (Directed (directive_of x)))
  arrangements_of is items =
      ap (space_items line Arrangement) items
      ∙ sym (ap (λ y. map (placed_item line) (items_of (Directed (directive_of y)))) is ∙ map_three (placed_item line) ArrangementEntity arrangement v.items)
