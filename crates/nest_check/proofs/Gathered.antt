-- The names of a nest, gathered one by one.
use Rattle.std.proofs.Common.{◌≡◌, ℕ, false, List, [], ◌∷◌, ◌++◌, append_assoc, arith, length, get_or, map, Some, None, refl, sym, ap, ◌∙◌}
use Rattle.std.specs.List.{flat_map}
use Rattle.std.proofs.lemmas.Grind.{flat_map-append}
use Rattle.std.proofs.lemmas.List.{append-nil}
use Rattle.syntax_tree.specs.declared.stmt.DoLoop.{DoLoop, out-DoLoop}
use Rattle.syntax_tree.specs.declared.stmt.StatementKind as StatementKind
use Rattle.syntax_tree.specs.declared.stmt.Mark.{Mark}
use Rattle.syntax_tree.specs.declared.stmt.Stmt.{Stmt}
use Rattle.syntax_tree.specs.Statement.{Block, Done, Then, Statement, Do, block_of, do_construct, statement}
use Rattle.statement_walk.specs.Head.{Head}
use Rattle.statement_walk.specs.Nests.{Loop, Nest, in_loop, nest_in}
use Rattle.expression_rules.specs.Symbols.{Name}
use Rattle.name_table.specs.declared.names.Entry.{Entry}
use Rattle.nest_check.proofs.StatementForms.{do_is}
use Rattle.nest_check.specs.declared.nest_names.Operator.{Operator}
use Rattle.nest_check.specs.Gathering.{is_independent, is_one_loop, nest_of, no_names, with_heads, with_loops, with_mark, with_nest}
use Rattle.nest_check.specs.NestNames.{NestNames, added, all_added, do_variable_of, inner_heads, nest_names, operator_added, operators_added, operators_of, scalar_assigned}

all_added_append : (xs ys zs : List Name) → all_added xs (ys ++ zs) ≡ all_added (all_added xs ys) zs
all_added_append xs [] zs = refl
all_added_append xs (y ∷ ys) zs = all_added_append (added xs y) ys zs

operators_append : (os ps qs : List Operator) → operators_added os (ps ++ qs) ≡ operators_added (operators_added os ps) qs
operators_append os [] qs = refl
operators_append os (p ∷ ps) qs = operators_append (operator_added os p) ps qs

-- statements one after the other
pub heads_append : (n : NestNames) (hs ks : List Head) → with_heads n (hs ++ ks) ≡ with_heads (with_heads n hs) ks
heads_append n hs ks =
    let a = ap (all_added n.indices) (flat_map-append do_variable_of hs ks) ∙ all_added_append n.indices (flat_map do_variable_of hs) (flat_map do_variable_of ks) in
    let b = ap (all_added n.assigned) (flat_map-append scalar_assigned hs ks) ∙ all_added_append n.assigned (flat_map scalar_assigned hs) (flat_map scalar_assigned ks) in
    let r = operators_of n.reduction_names in
    let c = ap (operators_added n.operators) (flat_map-append r hs ks) ∙ operators_append n.operators (flat_map r hs) (flat_map r ks) in
    λ i. record n { indices = a i; assigned = b i; operators = c i }

-- a loop, and those inside it
pub mark_first : (n : NestNames) (l : Loop) (ls : List Loop) → with_loops n (l ∷ ls) ≡ with_loops (with_mark n l.axis.index l.mark) ls
mark_first n l ls =
    let a = sym (append_assoc n.loops (l.axis.index ∷ []) (map (λ l. l.axis.index) ls)) in
    let b = all_added_append n.new_names l.mark.new (flat_map (λ l. l.mark.new) ls) in
    let c = all_added_append n.reduction_names l.mark.reduction (flat_map (λ l. l.mark.reduction) ls) in
    λ i. record n { loops = a i; indices = all_added n.indices (map (λ l. l.axis.index) (l ∷ ls)); new_names = b i; reduction_names = c i }

pub nest_first : (n : NestNames) (l : Loop) (t : Nest) → with_nest n (in_loop l t) ≡ with_nest (with_mark n l.axis.index l.mark) t
nest_first n l t = ap (λ m. with_heads m (inner_heads t.body)) (mark_first n l t.loops)

-- a body without a loop round it
pub no_loops : (n : NestNames) (b : Block) → with_heads n (inner_heads b) ≡ with_nest n (record { loops = []; body = b })
no_loops n b = λ i. with_heads (record n { loops = sym (append-nil n.loops) i }) (inner_heads b)

-- all names of a nest
pub all_names : (es : List Entry) (t : Nest) → with_nest (no_names es) t ≡ nest_names es t
all_names es t =
    λ i. record (with_nest (no_names es) t) {
      indices = sym (all_added_append [] (map (λ l. l.axis.index) t.loops) (flat_map do_variable_of (inner_heads t.body))) i;
    }

-- ---- the loops of a nest

pub nest_of_do : (line : ℕ) (d : DoLoop) (m : Mark) → (out-DoLoop d).mark ≡ Some m → nest_in (Then line (do_construct d) Done) ≡ nest_of line m d
nest_of_do line d m is = ap (λ s. nest_in (Then line s Done)) (do_is d (Some m) is)

pub do_statement : (line : ℕ) (k : StatementKind.StatementKind) (d : DoLoop) → k ≡ StatementKind.Do d → statement line k ≡ do_construct d
do_statement line k d is = ap (statement line) is

one_statement : (line : ℕ) (s : Statement) → is_independent s ≡ false → nest_in (Then line s Done) ≡ record { loops = []; body = Then line s Done }
one_statement line (Do (Some m) axis b) h = cc
one_statement line (Do None axis b) h = refl
one_statement line s h = refl

two_statements : (line next : ℕ) (s t : Statement) (b : Block) → nest_in (Then line s (Then next t b)) ≡ record { loops = []; body = Then line s (Then next t b) }
two_statements line next (Do (Some m) axis body) t b = refl
two_statements line next (Do None axis body) t b = refl
two_statements line next s t b = refl

pub no_loop : (ss : List Stmt) → is_one_loop (block_of ss) ≡ false → nest_in (block_of ss) ≡ record { loops = []; body = block_of ss }
no_loop [] h = refl
no_loop (s ∷ []) h = one_statement s.line (statement s.line s.what) h
no_loop (s ∷ r ∷ ss) h = two_statements s.line r.line (statement s.line s.what) (statement r.line r.what) (block_of ss)

pub only_one : (ss : List Stmt) (s : Stmt) → length ss ≡ 1 → s ≡ get_or ss 0 s → block_of ss ≡ Then s.line (statement s.line s.what) Done
only_one [] s one is = absurd (omega arith)
only_one (r ∷ []) s one is = ap (λ s. Then s.line (statement s.line s.what) Done) (sym is)
only_one (r ∷ q ∷ ss) s one is = absurd (omega arith)

pub not_one : (ss : List Stmt) → (length ss ≡ 1 → ⊥) → false ≡ is_one_loop (block_of ss)
not_one [] h = refl
not_one (s ∷ []) h = absurd (h refl)
not_one (s ∷ r ∷ ss) h = refl
