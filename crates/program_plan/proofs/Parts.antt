-- Expressions and their parts, as they lie in memory.
use Rattle.std.proofs.Common.{◌≡◌, ℕ, ◌+◌, List, [], ◌∷◌, ◌++◌, drop, Some, Global, sym, ap, ◌∙◌, add-zero}
use Rattle.std.specs.Prelude.{Vec, slice_index_or, true, false, if◌then◌else◌}
use Rattle.std.proofs.lemmas.List.{drop-drop, get_or-drop}
use Rattle.expression_rules.specs.declared.dims.Dim.{Dim}
use Rattle.expression_rules.specs.Symbols.{Name}
use Rattle.name_table.specs.declared.names.Entry.{Entry}
use Rattle.op_tables.specs.declared.op.Op.{Op}
use Rattle.op_tables.specs.Arguments.{is_inquiry, is_reduction}
use Rattle.syntax_tree.specs.declared.expr.Expr.{Expr}
use Rattle.syntax_tree.specs.declared.expr.Expr as Expr
use Rattle.syntax_tree.specs.declared.expr.Subscript.{Subscript}
use Rattle.syntax_tree.specs.declared.expr.Expr.TheBlock.{back-Ref-subs}
use Rattle.syntax_tree.specs.Expression.{Call, Element, Parts, expression, parts_of, arguments_of, reference, subscript}
use Rattle.syntax_tree.proofs.Rows.{call_vec, reference_vec}
use Rattle.array_meaning.specs.Terms.{Apply, Element as Element', Reduce, Section, SectionSubscripts, Terms}
use Rattle.array_meaning.specs.Resolution.{called, dims_of, first_named, first_term, inquiry, is_element, no_dim, place_of, section_subscript, section_subscripts, term_of, terms_of}
use Rattle.name_table.specs.Entries.{declared_as}
use Rattle.resolved_program.specs.declared.terms.SectionSubscript.{SectionSubscript as HeldSubscript}
use Rattle.resolved_program.specs.Made.{before}
use Rattle.resolved_program.specs.Resolved.{with_subscript}
use Rattle.resolved_program.proofs.Made.{before_next}

-- a name with subscripts
pub subscripted : (x : Name) (subs : _) (v : Vec Subscript Global) → subs ≡ Some v → Element x (parts_of v.items) ≡ reference x (back-Ref-subs subs)
subscripted x subs v is = sym (ap (λ s. reference x (back-Ref-subs s)) is ∙ reference_vec x v)

pub element_term : (names : List Entry) (indices : List Name) (x : Name) (ps : Parts) → is_element ps ≡ true →
    Element' (place_of names x) (terms_of names indices ps) ≡ term_of names indices (Element x ps)
element_term names indices x ps h =
    ap (λ b. if b then Element' (place_of names x) (terms_of names indices ps) else Section (place_of names x) (section_subscripts names indices (dims_of (declared_as names x)) ps)) (sym h)

pub section_term : (names : List Entry) (indices : List Name) (x : Name) (ps : Parts) → is_element ps ≡ false →
    Section (place_of names x) (section_subscripts names indices (dims_of (declared_as names x)) ps) ≡ term_of names indices (Element x ps)
section_term names indices x ps h =
    ap (λ b. if b then Element' (place_of names x) (terms_of names indices ps) else Section (place_of names x) (section_subscripts names indices (dims_of (declared_as names x)) ps)) (sym h)

-- a call
pub call_term : (names : List Entry) (indices : List Name) (e : Expr) (o : Op) (v : Vec Expr Global) (es : List Expr) → e ≡ Expr.Call o v → es ≡ v.items →
    called names indices o (arguments_of es) (terms_of names indices (arguments_of es)) ≡ term_of names indices (expression e)
call_term names indices e o v es is items =
    ap (λ l. called names indices o (arguments_of l) (terms_of names indices (arguments_of l))) items
    ∙ sym (ap (λ e. term_of names indices (expression e)) is ∙ ap (λ ps. term_of names indices (Call o ps)) (call_vec v))

-- a call of an elemental procedure
pub applied : (names : List Entry) (indices : List Name) (o : Op) (ps : Parts) (ts : Terms) → is_inquiry o ≡ false → is_reduction o ≡ false →
    Apply o ts ≡ called names indices o ps ts
applied names indices o ps ts no_inquiry no_reduction =
    ap (λ b. if b then Reduce o (first_term ts) else Apply o ts) (sym no_reduction)
    ∙ ap (λ b. if b then inquiry o (dims_of (first_named names ps)) ts else (if is_reduction o then Reduce o (first_term ts) else Apply o ts)) (sym no_inquiry)

-- a turn of the loop over the subscripts of a section
pub section_next : (names : List Entry) (indices : List Name) (ds : List Dim) (ss : List Subscript) (n : ℕ) (s : Subscript) (made new : List HeldSubscript) (d : HeldSubscript)
    (whole : SectionSubscripts) → drop n ss ≡ s ∷ drop (n + 1) ss → new ≡ made ++ d ∷ [] →
    ((rest : SectionSubscripts) → with_subscript d rest ≡ section_subscript names indices (slice_index_or ds n no_dim) (subscript s) rest) →
    before with_subscript made (section_subscripts names indices (drop n ds) (parts_of (drop n ss))) ≡ whole →
    before with_subscript new (section_subscripts names indices (drop (n + 1) ds) (parts_of (drop (n + 1) ss))) ≡ whole
section_next names indices ds ss n s made new d whole at more is so_far =
    let rest = section_subscripts names indices (drop (n + 1) ds) (parts_of (drop (n + 1) ss)) in
    ap (λ l. before with_subscript l rest) more
    ∙ before_next with_subscript made d rest
    ∙ ap (before with_subscript made) (is rest
    ∙ ap (λ dim. section_subscript names indices dim (subscript s) rest) (ap (λ m. slice_index_or ds m no_dim) (sym (add-zero n)) ∙ sym (get_or-drop n ds 0 no_dim))
    ∙ ap (λ l. section_subscript names indices (slice_index_or (drop n ds) 0 no_dim) (subscript s) (section_subscripts names indices l (parts_of (drop (n + 1) ss)))) (sym (drop-drop 1 n ds))
    ∙ ap (λ l. section_subscripts names indices (drop n ds) (parts_of l)) (sym at))
    ∙ so_far
