-- Of the claim.
-- The abstract syntax of programs (Fortran 95, 5 and 11.1), and what it is of a tree: what a program says, apart from where
-- it lies in memory and from spellings that change nothing. All rules of programs, and their meaning, speak of it.
use Rattle.std.specs.Prelude.{ℕ, Bool, true, false, List, [], map, Option, Some, None, option_map}
use Rattle.syntax_tree.specs.declared.decl.ConstDef.{ConstDef}
use Rattle.syntax_tree.specs.declared.decl.Decl.{Decl}
use Rattle.syntax_tree.specs.declared.decl.DeclKind.{DeclKind}
use Rattle.syntax_tree.specs.declared.decl.DeclKind.TheVariants as declared
use Rattle.syntax_tree.specs.declared.decl.IntegerDecl.{IntegerDecl}
use Rattle.syntax_tree.specs.declared.decl.Tree.{Tree}
use Rattle.syntax_tree.specs.Expression.{Expression, expression}
use Rattle.syntax_tree.specs.Directive.{Bound, Entity, Directive, bound, entity, directive_of}
use Rattle.syntax_tree.specs.Statement.{Block, block_of}

-- INTEGER (Fortran 95, 5.1): whether PARAMETER stands among its attributes, the bounds after DIMENSION, and the entities
pub record TypeDeclaration : Type 0 where
  pub constant : Bool
  pub bounds : Option (List Bound)
  pub entities : List Entity

-- a named constant of a PARAMETER statement, with its value (5.2.9)
pub record NamedConstant : Type 0 where
  pub name : List ℕ
  pub value : Expression

-- what a declaration says: IMPLICIT NONE, INTEGER, PARAMETER, or a directive
pub data Declared : Type 0 where
  ImplicitNone : Declared
  Integer : TypeDeclaration → Declared
  Parameter : List NamedConstant → Declared
  Directed : Directive → Declared

-- a declaration, with the number of its line
pub record Declaration : Type 0 where
  pub line : ℕ
  pub what : Declared

-- a main program (11.1): the name after PROGRAM, the declarations in order, the statements, the name after END PROGRAM,
-- and the number of the line of END
pub record MainProgram : Type 0 where
  pub name : Option (List ℕ)
  pub declarations : List Declaration
  pub body : Block
  pub end_name : Option (List ℕ)
  pub end_line : ℕ

-- ---- what these are of a tree

abbrev pub type_declaration : IntegerDecl → TypeDeclaration
type_declaration d = record {
  constant = d.constant;
  bounds = option_map (λ bs. map bound bs.items) d.dims;
  entities = map entity d.entities.items;
}

abbrev pub named_constant : ConstDef → NamedConstant
named_constant c = record { name = c.name; value = expression c.value }

abbrev pub declared_of : DeclKind → Declared
declared_of declared.ImplicitNone = ImplicitNone
declared_of (declared.Integer d) = Integer (type_declaration d)
declared_of (declared.Parameter cs) = Parameter (map named_constant cs.items)
declared_of (declared.Directive d) = Directed (directive_of d)

abbrev pub declaration : Decl → Declaration
declaration d = record { line = d.line; what = declared_of d.what }

-- no name stands after END alone; where a tree has one nevertheless, it is a name that nothing spells
abbrev pub end_name_of : Bool → Option (List ℕ) → Option (List ℕ)
end_name_of true name = name
end_name_of false None = None
end_name_of false (Some x) = Some []

abbrev pub main_program : Tree → MainProgram
main_program t = record {
  name = t.name;
  declarations = map declaration t.decls.items;
  body = block_of t.body.items;
  end_name = end_name_of t.end.word t.end.name;
  end_line = t.end.line;
}
