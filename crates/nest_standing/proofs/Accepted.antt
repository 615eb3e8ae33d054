-- A nest whose lists of breaches are empty.
use Rattle.std.proofs.Common.{◌≡◌, ℕ, ◌+◌, Bool, true, false, true≢false, List, [], ◌∷◌, map, bytes_eq, cond, Option, Some, None, refl, sym, ap, ◌∙◌}
use Rattle.std.specs.Prelude.{◌&&◌, ◌||◌, not, is_some}
use Rattle.std.specs.List.{AllByRecursion, flat_map, list_all, position_from}
use Rattle.std.proofs.lemmas.Iterator.Adapters.{position_from-zero}
use Rattle.hpf_base.specs.declared.refusal.Reason.TheVariants as reason
use Rattle.syntax_tree.specs.Expression.{Expression}
use Rattle.expression_rules.specs.Inner.{axis_expressions}
use Rattle.expression_rules.specs.Operands.{are_operands, names_in}
use Rattle.expression_rules.specs.Symbols.{Name, SymbolTable, find, satisfies, is_operand, is_scalar, is_variable, is_among}
use Rattle.expression_rules.specs.declared.symbols.Symbol.{Symbol}
use Rattle.expression_rules.specs.declared.symbols.Symbol.TheVariants as symbol
use Rattle.statement_walk.specs.Heads.{PlacedHead}
use Rattle.statement_walk.specs.Nests.{Loop}
use Rattle.declarations.specs.Reasons.{when}
use Rattle.name_table.specs.Entries.{entry, what_is}
use Rattle.name_table.specs.declared.names.Entry.{Entry}
use Rattle.name_table.specs.NameRules.{expressions_of, header_names, name_breaches_at, name_reasons, own_uses}
use Rattle.name_table.specs.Uses.{Use, Assigned, DoVariable, ForallIndex, Listed, allows, repeats}
use Rattle.body_forms.specs.Names.{is_scalar as is_scalar_variable}
use Rattle.nest_check.specs.NestNames.{NestNames}
use Rattle.nest_check.specs.NestRules.{are_linear_inside, head_expressions, is_inner_axis, is_axis_allowed, is_allowed_in_nest, is_readable, keeps_nest_rules, keeps_path_rules, nest_breaches_at, path_breaches_at, list_breaches, axis_breaches, inner_loop_breaches}
use Rattle.nest_check.specs.Paths.{ReachedHead}
use Rattle.well_formed.proofs.Dimensions.{declared_found}
use Rattle.name_table.proofs.Tests.{both, empties, fails, holds, neither, no_reason}
use Rattle.nest_standing.specs.Named.{Declared, AreDeclared, IsScalar, Names, names_arrays, IsGoodUse, IsNamed}
use Rattle.nest_standing.proofs.Ruled.{IsKept, IsReached}
use Rattle.nest_standing.proofs.Exprs.{not_true}

pub kept_all : (n : NestNames) (hs : List PlacedHead) → flat_map (nest_breaches_at n) hs ≡ [] → AllByRecursion (IsKept n) hs
kept_all n [] h = tt
kept_all n (p ∷ ps) h =
    let s = empties (nest_breaches_at n p) (flat_map (nest_breaches_at n) ps) h in
    let r = empties (when (not (are_linear_inside n (head_expressions p.what))) reason.BadSubscript) (when (not (keeps_nest_rules n p.do_variables p.what)) reason.BadIndependent)
    (no_reason p.line _ s.0) in (
      record {
        linear = holds (are_linear_inside n (head_expressions p.what)) (fails _ reason.BadSubscript r.0);
        rules = holds (keeps_nest_rules n p.do_variables p.what) (fails _ reason.BadIndependent r.1);
      },
      kept_all n ps s.1,
    )

pub reached_all : (n : NestNames) (rs : List ReachedHead) → flat_map (path_breaches_at n) rs ≡ [] → AllByRecursion (IsReached n) rs
reached_all n [] h = tt
reached_all n (r ∷ rs) h =
    let s = empties (path_breaches_at n r) (flat_map (path_breaches_at n) rs) h in
    (holds (keeps_path_rules n r.is_conditional r.assigned r.what) (fails _ reason.BadIndependent (no_reason r.line _ s.0)), reached_all n rs s.1)

-- the bounds and the step of the loops inside the outermost one
pub axes_all : (n : NestNames) (ls : List Loop) → flat_map (inner_loop_breaches n) ls ≡ [] → AllByRecursion (λ l. is_inner_axis n l.axis ≡ true) ls
axes_all n [] h = tt
axes_all n (l ∷ ls) h =
    let s = empties (inner_loop_breaches n l) (flat_map (inner_loop_breaches n) ls) h in
    let a = empties (list_breaches n l.mark) (axis_breaches n l.line l.axis) s.0 in
    let allowed : Bool = is_axis_allowed n [] l.axis && list_all (is_readable n []) (axis_expressions l.axis) in
    let r = empties (when (not (are_linear_inside n (axis_expressions l.axis))) reason.BadSubscript) (when (not allowed) reason.BadIndependent) (no_reason l.line _ a.1) in
    let t = both (is_axis_allowed n [] l.axis) _ (holds allowed (fails _ reason.BadIndependent r.1)) in
    ((both (is_inner_axis n l.axis) (list_all (is_allowed_in_nest n [] None) (axis_expressions l.axis)) t.0).0, axes_all n ls s.1)

-- ---- names

declared_from : (x : Name) (t : SymbolTable) (i : ℕ) → is_some (find x t) ≡ true → is_some (position_from (λ (e : Entry). bytes_eq x e.name) i (map entry t)) ≡ true
declared_from x [] i h = h
declared_from x (e ∷ es) i h = by (bytes_eq x e.0) h (declared_from x es (i + 1))
  where
    by : (b : Bool) → is_some (cond b (Some e.1) (find x es)) ≡ true
        → (is_some (find x es) ≡ true → is_some (position_from (λ (e : Entry). bytes_eq x e.name) (i + 1) (map entry es)) ≡ true)
        → is_some (cond b (Some i) (position_from (λ (e : Entry). bytes_eq x e.name) (i + 1) (map entry es))) ≡ true
    by true h more = refl
    by false h more = more h

is_found : (test : Symbol → Bool) (o : Option Symbol) → satisfies test o ≡ true → is_some o ≡ true
is_found test None h = absurd (true≢false (sym h))
is_found test (Some s) h = refl

pub declared : (x : Name) (t : SymbolTable) → is_some (find x t) ≡ true → Declared (map entry t) x
declared x t h = ap is_some (position_from-zero (λ (e : Entry). bytes_eq x e.name) (map entry t)) ∙ declared_from x t 0 h

all_declared : (t : SymbolTable) (xs : List Name) → list_all (λ x. satisfies is_operand (find x t)) xs ≡ true → AreDeclared (map entry t) xs
all_declared t [] h = tt
all_declared t (x ∷ xs) h =
    let s = both (satisfies is_operand (find x t)) (list_all (λ x. satisfies is_operand (find x t)) xs) h in
    (declared x t (is_found is_operand (find x t) s.0), all_declared t xs s.1)

operands_declared : (t : SymbolTable) (es : List Expression) → list_all (are_operands t) es ≡ true → AllByRecursion (Names (map entry t)) es
operands_declared t [] h = tt
operands_declared t (e ∷ es) h = let s = both (are_operands t e) (list_all (are_operands t) es) h in (all_declared t (names_in e) s.0, operands_declared t es s.1)

scalar_symbol : (s : Symbol) → is_scalar s ≡ true → is_scalar_variable (Some (what_is s)) ≡ true
scalar_symbol symbol.Uninitialized h = refl
scalar_symbol (symbol.Initialized n) h = refl
scalar_symbol s h = absurd (true≢false (sym h))

scalar_found : (x : Name) (t : SymbolTable) → satisfies is_scalar (find x t) ≡ true → IsScalar (map entry t) x
scalar_found x t h = by (find x t) refl h
  where
    by : (o : Option Symbol) → find x t ≡ o → satisfies is_scalar o ≡ true → IsScalar (map entry t) x
    by None f g = absurd (true≢false (sym g))
    by (Some s) f g = (declared x t (ap is_some f), ap is_scalar_variable (declared_found x t s f) ∙ scalar_symbol s g)

good_use : (t : SymbolTable) (ys : List Name) (u : Use) → allows t ys u ≡ true → IsGoodUse (map entry t) ys u
good_use t ys (Assigned hidden x) h =
    let s = both (satisfies is_variable (find x t)) (not (is_among x ys) || is_among x hidden) h in (declared x t (is_found is_variable (find x t) s.0), s.1)
good_use t ys (DoVariable x) h =
    let s = both (satisfies is_scalar (find x t)) (not (is_among x ys)) h in (scalar_found x t s.0, not_true (is_among x ys) s.1)
good_use t ys (ForallIndex x) h = tt
good_use t ys (Listed x) h = tt

good_uses : (t : SymbolTable) (ys : List Name) (us : List Use) → list_all (allows t ys) us ≡ true → AllByRecursion (IsGoodUse (map entry t) ys) us
good_uses t ys [] h = tt
good_uses t ys (u ∷ us) h = let s = both (allows t ys u) (list_all (allows t ys) us) h in (good_use t ys u s.0, good_uses t ys us s.1)

-- what the rules of names say, with what those of types say of subscripts
pub named : (t : SymbolTable) (h : PlacedHead) → name_breaches_at t h ≡ [] → list_all (names_arrays (map entry t)) (expressions_of h.what) ≡ true → IsNamed (map entry t) h
named t h names arrays =
    let allowed : Bool = list_all (allows t h.do_variables) (own_uses h.what) in
    let operands : Bool = list_all (are_operands t) (expressions_of h.what) in
    let twice : Bool = repeats (header_names h.what) in
    let reasons = empties (when (not (allowed && operands) || twice) reason.BadName) _ (no_reason h.line (name_reasons t h) names) in
    let s = both allowed operands (holds (allowed && operands) (neither (not (allowed && operands)) twice (fails _ reason.BadName reasons.0)).0) in
    record { expressions = operands_declared t (expressions_of h.what) s.1; uses = good_uses t h.do_variables (own_uses h.what) s.0; arrays = arrays }
