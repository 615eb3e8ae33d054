-- An assignment that is a circular shift, a transpose or a prefix sum: its right side has no type, and both arrays have the dimensions that are declared.
use Rattle.std.proofs.Common.{◌≡◌, ℕ, ◌≤◌, true, [], length, map, Option, Some, None, refl, sym, ap, subst, ◌∙◌, arith}
use Rattle.std.specs.Prelude.{◌&&◌, nat_eq, nat_le}
use Rattle.std.proofs.lemmas.Bool.{eqb-true}
use Rattle.std.proofs.lemmas.Bool.Decides.{nat_tests}
use Rattle.op_tables.specs.declared.op.Op.{Op}
use Rattle.op_tables.specs.declared.op.Op.TheVariants as op
use Rattle.syntax_tree.specs.Expression as e
use Rattle.syntax_tree.specs.Expression.{Expression, Parts}
use Rattle.expression_rules.specs.declared.symbols.Symbol.{Symbol}
use Rattle.expression_rules.specs.declared.symbols.Symbol.TheVariants.{Array}
use Rattle.expression_rules.specs.declared.types.Context.{Context}
use Rattle.expression_rules.specs.declared.types.Context.TheVariants.{Statement}
use Rattle.expression_rules.specs.Symbols.{Name, SymbolTable, find, rank_of}
use Rattle.expression_rules.specs.Types.{if_typed, is_integer_scalar, type_and_rank}
use Rattle.name_table.specs.Entries.{entry, what_is}
use Rattle.name_table.specs.Places.{is_transformed, transforms_to, whole_rank}
use Rattle.array_meaning.specs.Statements as statements
use Rattle.array_meaning.specs.Statements.{CircularShift, Transform, Transformation, Transposition, PrefixSum, WholeArray}
use Rattle.array_meaning.specs.Resolution.{array_of, place_of, term_of, transform_between, transform_or, transformation_by, transformation_of, whole_array}
use Rattle.lowering.specs.Ranks.{AreTransformed, IsDeclared}
use Rattle.name_table.proofs.Tests.{HasValue, both, no_value}
use Rattle.well_formed.proofs.Dimensions.{IsFull, declared_found, shape_is, shapes_in}

-- what has a type is no call of a transformation
pub untransformed : (t : SymbolTable) (x : Expression) → HasValue (type_and_rank Statement t x) → transformation_of (map entry t) x ≡ None
untransformed t (e.Call o ps) h = called o ps h
  where
    called : (o : Op) (ps : Parts) → HasValue (type_and_rank Statement t (e.Call o ps)) → transformation_by (map entry t) o ps ≡ None
    called op.CShift (e.More (e.One b) (e.More (e.One by) e.End)) h = absurd (no_value h)
    called op.Transpose (e.More (e.One b) e.End) h = absurd (no_value h)
    called op.SumPrefix (e.More (e.One b) e.End) h = absurd (no_value h)
    called o ps h = refl
untransformed t x h = refl

-- ---- a transformation into this left side

pub data IsMoved (c : Context) (t : SymbolTable) (left : Expression) : Expression → Type 0 where
  Shifted : (b k : Expression) → 1 ≤ whole_rank t left → whole_rank t b ≡ whole_rank t left → if_typed is_integer_scalar (type_and_rank c t k) ≡ true →
      IsMoved c t left (e.Call op.CShift (e.More (e.One b) (e.More (e.One k) e.End)))
  Transposed : (b : Expression) → whole_rank t left ≡ 2 → whole_rank t b ≡ 2 → IsMoved c t left (e.Call op.Transpose (e.More (e.One b) e.End))
  Summed : (b : Expression) → whole_rank t left ≡ 1 → whole_rank t b ≡ 1 → IsMoved c t left (e.Call op.SumPrefix (e.More (e.One b) e.End))

some_rank : (n : ℕ) → nat_le 1 n ≡ true → 1 ≤ n
some_rank n h = grind (arith, nat_tests)

pub is_moved : (c : Context) (t : SymbolTable) (left right : Expression) → is_transformed c t (whole_rank t left) right ≡ true → IsMoved c t left right
is_moved c t left (e.Call o ps) h = by o ps h
  where
    by : (o : Op) (ps : Parts) → transforms_to c t (whole_rank t left) o ps ≡ true → IsMoved c t left (e.Call o ps)
    by op.CShift (e.More (e.One b) (e.More (e.One k) e.End)) h =
        let two = both (nat_le 1 (whole_rank t left)) (nat_eq (whole_rank t b) (whole_rank t left) && if_typed is_integer_scalar (type_and_rank c t k)) h in
        let more = both (nat_eq (whole_rank t b) (whole_rank t left)) (if_typed is_integer_scalar (type_and_rank c t k)) two.1 in
        Shifted b k (some_rank (whole_rank t left) two.0) (eqb-true (whole_rank t b) (whole_rank t left) more.0) more.1
    by op.Transpose (e.More (e.One b) e.End) h =
        let two = both (nat_eq (whole_rank t left) 2) (nat_eq (whole_rank t b) 2) h in
        Transposed b (eqb-true (whole_rank t left) 2 two.0) (eqb-true (whole_rank t b) 2 two.1)
    by op.SumPrefix (e.More (e.One b) e.End) h =
        let two = both (nat_eq (whole_rank t left) 1) (nat_eq (whole_rank t b) 1) h in
        Summed b (eqb-true (whole_rank t left) 1 two.0) (eqb-true (whole_rank t b) 1 two.1)
    by o ps h = absurd (no_value h)
is_moved c t left x h = absurd (no_value h)

-- how far it is shifted is an integer scalar
pub data IsShift (t : SymbolTable) : Transformation → Type 0 where
  ByScalar : (x : Expression) → if_typed is_integer_scalar (type_and_rank Statement t x) ≡ true → IsShift t (CircularShift (term_of (map entry t) [] x))
  Unshifted : IsShift t Transposition
  Unturned : IsShift t PrefixSum

module _ (t : SymbolTable) (full : (x : Name) (s : Symbol) → find x t ≡ Some s → IsFull s) where
  -- an expression that names an array by itself
  record IsWhole (x : Expression) : Type 0 where
    array : WholeArray
    is : whole_array (map entry t) x ≡ Some array
    declared : IsDeclared (shapes_in (map entry t)) array
    rank : length array.dims ≡ whole_rank t x

  is_whole : (x : Expression) → 1 ≤ whole_rank t x → IsWhole x
  is_whole (e.Name x) h = by (find x t) refl h
    where
      by : (o : Option Symbol) → find x t ≡ o → 1 ≤ rank_of o → IsWhole (e.Name x)
      by (Some (Array r None n)) found h = absurd (full x (Array r None n) found)
      by (Some (Array r (Some ds) n)) found h =
          let own = full x (Array r (Some ds) n) found in
          let known = declared_found x t (Array r (Some ds) n) found in
          record {
            array = record { array = place_of (map entry t) x; dims = ds };
            is = ap (array_of (place_of (map entry t) x)) known;
            declared = (sym (shape_is (map entry t) x (what_is (Array r (Some ds) n)) known), own.2);
            rank = sym own.0 ∙ sym (ap rank_of found);
          }
      by o found h = absurd (omega (arith, h))
  is_whole x h = absurd (omega (arith, h))

  -- what holds of each transformation holds of the statement
  module _ (P : statements.Statement → Type 0) (left : Expression) (other : statements.Statement)
      (each : (x y : WholeArray) (how : Transformation) → AreTransformed (shapes_in (map entry t)) x y how → IsShift t how → P (Transform x y how)) where
    between : (b : Expression) (how : Transformation) (x : IsWhole left) (y : IsWhole b) → AreTransformed (shapes_in (map entry t)) x.array y.array how → IsShift t how →
        P (transform_between (whole_array (map entry t) left) (whole_array (map entry t) b) how other)
    between b how x y ranks shift =
        subst (λ o. P (transform_between o (whole_array (map entry t) b) how other)) (sym x.is)
        (subst (λ o. P (transform_between (Some x.array) o how other)) (sym y.is) (each x.array y.array how ranks shift))

    pub transformed : (right : Expression) → IsMoved Statement t left right → P (transform_or (map entry t) left (transformation_of (map entry t) right) other)
    transformed right (Shifted b k some same scalar) =
        let x = is_whole left some in
        let y = is_whole b (subst (λ n. 1 ≤ n) (sym same) some) in
        between b (CircularShift (term_of (map entry t) [] k)) x y
        (x.declared, y.declared, y.rank ∙ same ∙ sym x.rank, subst (λ n. 1 ≤ n) (sym x.rank) some) (ByScalar k scalar)
    transformed right (Transposed b one same) =
        let x = is_whole left (omega (arith, one)) in
        let y = is_whole b (omega (arith, same)) in
        between b Transposition x y (x.declared, y.declared, y.rank ∙ same ∙ sym (x.rank ∙ one), x.rank ∙ one) Unshifted
    transformed right (Summed b one same) =
        let x = is_whole left (omega (arith, one)) in
        let y = is_whole b (omega (arith, same)) in
        between b PrefixSum x y (x.declared, y.declared, y.rank ∙ same ∙ sym (x.rank ∙ one), x.rank ∙ one) Unturned
