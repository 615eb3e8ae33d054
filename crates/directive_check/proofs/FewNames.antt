-- A program that breaks no rule of names declares few names, and its arrays have few dimensions.
use Rattle.std.proofs.Common.{◌≡◌, ℕ, suc, ◌<◌, ◌≤◌, Bool, true, false, bytes_eq, cond, List, [], ◌∷◌, ◌++◌, get_or, length, map, All, Option, Some, None, refl, sym, ap, subst, ◌∙◌, arith}
use Rattle.std.specs.List.{flat_map, list_all}
use Rattle.std.specs.Prelude.{◌&&◌, is_some, nat_le, not, slice_get, if◌then◌else◌}
use Rattle.std.proofs.lemmas.Bool.Decides.{nat_tests}
use Rattle.std.proofs.lemmas.List.Elements.{All-cons, All-nil}
use Rattle.std.proofs.lemmas.Option.{same_Some, slice_get-get_or, slice_get_within}
use Rattle.indexmap.specs.IndexMap.{insert_entry}
use Rattle.hpf_base.specs.FirstBreach.{Among}
use Rattle.hpf_base.specs.Refusal.{NoBreach}
use Rattle.declarations.specs.declared.limits.TheConstants.{MAX_NAMES}
use Rattle.hpf_base.specs.declared.refusal.Reason.TheVariants as reason
use Rattle.syntax_tree.specs.MainProgram.{MainProgram}
use Rattle.expression_rules.specs.Symbols.{Name, SymbolTable, added, changed, find, is_declared, is_uninitialized, satisfies}
use Rattle.expression_rules.specs.declared.symbols.Symbol.{Symbol}
use Rattle.expression_rules.specs.declared.symbols.Symbol.TheVariants as symbol
use Rattle.expression_rules.specs.Operands.{are_operands}
use Rattle.declarations.specs.DeclarationRules.{constants_of, declared_again, item_breaches, item_reasons, own_reasons}
use Rattle.declarations.specs.Declarations.{Item, DimensionAttribute, TypedEntity, Definition, TemplateEntity, ArrangementEntity, PlacedItem, after, after_all, items, number, rank_in_text, symbol_of, symbol_table}
use Rattle.declarations.specs.Reasons.{at, when}
use Rattle.name_table.specs.Entries.{entries, entry, what_is}
use Rattle.statement_walk.specs.Heads.{all_heads}
use Rattle.statement_walk.specs.Nests.{nests}
use Rattle.name_table.specs.NameRules.{directive_breaches_at, end_breaches, name_breaches, name_breaches_at, nest_breaches}
use Rattle.name_table.specs.declared.names.Entry.{Entry}
use Rattle.directive_check.specs.Limits.{HasFewDims}
use Rattle.directive_check.proofs.SizedArrays.{IsKept, SizedSymbol, table_kept}
use Rattle.directive_check.proofs.ValidMapped.{no_breach, none_at, none_of}

-- ---- names

one_more : (x : Name) (s : Symbol) (t : SymbolTable) → length (insert_entry bytes_eq t x s) ≤ suc (length t)
one_more x s [] = omega arith
one_more x s (e ∷ es) = by (bytes_eq x e.0) (one_more x s es)
  where
    by : (b : Bool) → length (insert_entry bytes_eq es x s) ≤ suc (length es) → length (if b then (e.0, s) ∷ es else e ∷ insert_entry bytes_eq es x s) ≤ suc (suc (length es))
    by true rest = omega arith
    by false rest = omega (arith, rest)

none_more : (x : Name) (s : Symbol) (t : SymbolTable) → is_declared x t ≡ true → length (insert_entry bytes_eq t x s) ≡ length t
none_more x s [] declared = absurd cc
none_more x s (e ∷ es) declared = by (bytes_eq x e.0) (none_more x s es) declared
  where
    by : (b : Bool) → (is_declared x es ≡ true → length (insert_entry bytes_eq es x s) ≡ length es) → is_some (cond b (Some e.1) (find x es)) ≡ true →
        length (if b then (e.0, s) ∷ es else e ∷ insert_entry bytes_eq es x s) ≡ suc (length es)
    by true rest is = refl
    by false rest is = ap suc (rest is)

few_added : (t : SymbolTable) (x : Name) (s : Symbol) → declared_again t x ≡ [] → length t ≤ MAX_NAMES → length (added t x s) ≤ MAX_NAMES
few_added t x s none few = by (is_declared x t) (nat_le MAX_NAMES (length t)) refl none
  where
    by : (declared full : Bool) → nat_le MAX_NAMES (length t) ≡ full → (when declared reason.BadName ++ when (full && not declared) reason.Limit) ≡ [] →
        length (if declared then t else changed x s t) ≤ MAX_NAMES
    by true full is kept = few
    by false true is kept = absurd cc
    by false false is kept =
        let less : length t < MAX_NAMES = grind (arith, nat_tests) in
        let more = one_more x s t in
        omega (arith, more, less)

satisfied : (o : Option Symbol) → satisfies is_uninitialized o ≡ true → is_some o ≡ true
satisfied None h = absurd cc
satisfied (Some s) h = refl

few_after : (t : SymbolTable) (i : Item) → own_reasons t i ≡ [] → length t ≤ MAX_NAMES → length (after t i) ≤ MAX_NAMES
few_after t (DimensionAttribute bs) none few = few
few_after t (TypedEntity constant bs e) none few = few_added t e.name (symbol_of t constant bs e.start) (none_of (declared_again t e.name) _ none).0 few
few_after t (Definition c) none few = by (satisfies is_uninitialized (find c.name t)) refl
  where
    value : Symbol
    value = symbol.Constant (number t c.value)

    by : (b : Bool) → satisfies is_uninitialized (find c.name t) ≡ b → length (if b then changed c.name value t else t) ≤ MAX_NAMES
    by true is = subst (λ n. n ≤ MAX_NAMES) (sym (none_more c.name value t (satisfied (find c.name t) is))) few
    by false is = few
few_after t (TemplateEntity e) none few = few_added t e.name (symbol.Template (rank_in_text e)) (none_of (declared_again t e.name) _ none).0 few
few_after t (ArrangementEntity e) none few = few_added t e.name (symbol.Arrangement (rank_in_text e)) (none_of (declared_again t e.name) _ none).0 few

few_after_all : (t : SymbolTable) (is : List PlacedItem) → item_breaches t is ≡ [] → length t ≤ MAX_NAMES → length (after_all t is) ≤ MAX_NAMES
few_after_all t [] none few = few
few_after_all t (i ∷ is) none few =
    let both = none_of (at i.line (item_reasons t i.what)) (item_breaches (after t i.what) is) none in
    let all = none_at i.line (item_reasons t i.what) both.0 in
    let two = none_of (own_reasons t i.what ++ when (not (list_all (are_operands t) (constants_of i.what))) reason.BadName) _ all in
    let own = none_of (own_reasons t i.what) _ two.0 in
    few_after_all (after t i.what) is both.1 (few_after t i.what own.0 few)

pub few_names : (p : MainProgram) → NoBreach (Among (name_breaches p)) → length (symbol_table p.declarations) ≤ MAX_NAMES
few_names p none =
    let declared = item_breaches [] (items p.declarations) in
    let named = flat_map (directive_breaches_at (symbol_table p.declarations)) p.declarations in
    let said = flat_map (name_breaches_at (symbol_table p.declarations)) (all_heads p.body) in
    let four = none_of (declared ++ named ++ said ++ flat_map nest_breaches (nests p.body)) (end_breaches p) (no_breach (name_breaches p) none) in
    let three = none_of (declared ++ named ++ said) (flat_map nest_breaches (nests p.body)) four.0 in
    let two = none_of (declared ++ named) said three.0 in
    few_after_all [] (items p.declarations) (none_of declared named two.0).0 (omega arith)

-- ---- dimensions

few_of : (s : Symbol) → SizedSymbol s → HasFewDims (what_is s)
few_of (symbol.Array r None n) sized = omega arith
few_of (symbol.Array r (Some ds) n) sized = sized.1
few_of symbol.Uninitialized sized = tt
few_of (symbol.Initialized n) sized = tt
few_of (symbol.Constant n) sized = tt
few_of (symbol.Template r) sized = tt
few_of (symbol.Arrangement r) sized = tt

few_in : (t : SymbolTable) → IsKept t → All (λ e. HasFewDims e.what) (map entry t)
few_in [] kept = All-nil (λ e. HasFewDims e.what)
few_in (e ∷ es) kept = All-cons (λ e. HasFewDims e.what) (entry e) (map entry es) (few_of e.1 kept.0) (few_in es kept.2)

-- of every program
pub few_dims : (p : MainProgram) → All (λ e. HasFewDims e.what) (entries p)
few_dims p = few_in (symbol_table p.declarations) (table_kept p.declarations)

-- of the name at a place
pub few_at : (es : List Entry) (n : ℕ) (e : Entry) → All (λ e. HasFewDims e.what) es → Some e ≡ slice_get es n → HasFewDims e.what
few_at es n e all is =
    let within = slice_get_within es n e (sym is) in
    subst (λ e. HasFewDims e.what) (same_Some (get_or es n e) e (sym (slice_get-get_or es n e within) ∙ sym is)) (all n e within)
