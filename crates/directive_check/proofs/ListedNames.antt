-- In a program that breaks no rule of names, what a directive maps stands after `::`, or is one name.
use Rattle.std.proofs.Common.{◌≡◌, ℕ, Bool, true, false, true≢false, List, [], ◌∷◌, ◌++◌, map, None, refl, sym, ap, ◌∙◌, inl}
use Rattle.std.specs.Prelude.{◌&&◌, All, is_some, not}
use Rattle.std.specs.List.{flat_map, list_all}
use Rattle.std.proofs.lemmas.List.Elements.{All-cons, All-nil}
use Rattle.hpf_base.specs.FirstBreach.{Among}
use Rattle.hpf_base.specs.Refusal.{NoBreach}
use Rattle.hpf_base.specs.declared.refusal.Reason.{Reason}
use Rattle.hpf_base.specs.declared.refusal.Reason.TheVariants as reason
use Rattle.hpf_base.specs.declared.refusal.Refusal.{Refusal}
use Rattle.syntax_tree.specs.declared.decl.Decl.{Decl}
use Rattle.syntax_tree.specs.declared.decl.DeclKind.{DeclKind}
use Rattle.syntax_tree.specs.declared.decl.DeclKind.TheVariants as declared
use Rattle.syntax_tree.specs.declared.decl.Tree.{Tree}
use Rattle.syntax_tree.specs.declared.directive.Directive.{Directive}
use Rattle.syntax_tree.specs.declared.directive.Directive.TheVariants as directive
use Rattle.syntax_tree.specs.Directive.{directive_of, names_of}
use Rattle.syntax_tree.specs.MainProgram.{Directed, declaration, declared_of, main_program}
use Rattle.expression_rules.specs.Inner.{present}
use Rattle.expression_rules.specs.Symbols.{Name, SymbolTable, find, is_declared}
use Rattle.declarations.specs.Declarations.{symbol_table}
use Rattle.declarations.specs.Reasons.{at, when}
use Rattle.name_table.specs.NameRules.{directive_breaches_at, directive_reasons, name_breaches}
use Rattle.name_table.specs.Resolved.{HasNoBreach}
use Rattle.name_table.specs.Uses.{Listed, allows}
use Rattle.directive_check.specs.MappedSteps.{AreListed, IsListed, IsListedDirective, IsListedKind}

not_empty : {A : Type 0} (a : A) (as' : List A) → a ∷ as' ≡ [] → ⊥
not_empty a as' h = cc

pub empties : {A : Type 0} (xs ys : List A) → xs ++ ys ≡ [] → (xs ≡ []) × (ys ≡ [])
empties [] ys h = (refl, h)
empties (x ∷ xs) ys h = absurd (not_empty x (xs ++ ys) h)

pub no_breach : (rs : List Refusal) → NoBreach (Among rs) → rs ≡ []
no_breach [] h = refl
no_breach (r ∷ rs) h = absurd (h r.line r.reason (inl refl))

no_reason : (line : ℕ) (whys : List Reason) → at line whys ≡ [] → whys ≡ []
no_reason line [] h = refl
no_reason line (w ∷ ws) h = absurd (not_empty _ _ h)

holds : (b : Bool) (why : Reason) → when (not b) why ≡ [] → b ≡ true
holds true why h = refl
holds false why h = absurd (not_empty why [] h)

front : (a b : Bool) → (a && b) ≡ true → a ≡ true
front true b h = refl
front false b h = absurd (true≢false (sym h))

-- a name without bytes isn't declared
not_declared : (t : SymbolTable) (more : List Name) → find [] t ≡ None → list_all (allows t []) (map Listed ([] ∷ more)) ≡ true → ⊥
not_declared t more none h = true≢false (sym (front (is_declared [] t) _ h) ∙ ap is_some none)

are_listed : (t : SymbolTable) (colons : Bool) (xs more : List Name) → find [] t ≡ None →
    list_all (allows t []) (map Listed (names_of colons xs ++ more)) ≡ true → AreListed colons xs
are_listed t true xs more none h = refl
are_listed t false (x ∷ []) more none h = refl
are_listed t false [] more none h = absurd (not_declared t more none h)
are_listed t false (x ∷ y ∷ xs) more none h = absurd (not_declared t more none h)

listed_directive : (t : SymbolTable) (d : Directive) → find [] t ≡ None → directive_reasons t (Directed (directive_of d)) ≡ [] → IsListedDirective d
listed_directive t (directive.Distribute d) none h = are_listed t d.colons d.names (present d.onto) none (front _ _ (holds _ reason.BadName h))
listed_directive t (directive.Align a) none h = are_listed t a.colons a.names (a.target ∷ []) none (front _ _ (holds _ reason.BadName h))
listed_directive t (directive.Processors es) none h = tt
listed_directive t (directive.Template es) none h = tt
listed_directive t (directive.Dynamic xs) none h = tt
listed_directive t directive.Passed none h = tt

listed_kind : (t : SymbolTable) (k : DeclKind) → find [] t ≡ None → directive_reasons t (declared_of k) ≡ [] → IsListedKind k
listed_kind t declared.ImplicitNone none h = tt
listed_kind t (declared.Integer d) none h = tt
listed_kind t (declared.Parameter cs) none h = tt
listed_kind t (declared.Directive d) none h = listed_directive t d none h

listed_all : (t : SymbolTable) (ds : List Decl) → find [] t ≡ None → flat_map (directive_breaches_at t) (map declaration ds) ≡ [] → All IsListed ds
listed_all t [] none h = All-nil IsListed
listed_all t (d ∷ ds) none h =
    let parts = empties (directive_breaches_at t (declaration d)) (flat_map (directive_breaches_at t) (map declaration ds)) h in
    All-cons IsListed d ds (listed_kind t d.what none (no_reason d.line (directive_reasons t (declared_of d.what)) parts.0)) (listed_all t ds none parts.1)

pub all_listed : (t : Tree) → find [] (symbol_table (map declaration t.decls.items)) ≡ None → HasNoBreach (main_program t) → All IsListed t.decls.items
all_listed t none h =
    let named = empties _ _ (empties _ _ (empties _ _ (empties _ _ (no_breach (name_breaches (main_program t)) h.names)).0).0).0 in
    listed_all (symbol_table (map declaration t.decls.items)) t.decls.items none named.1
