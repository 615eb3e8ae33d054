-- The align dummies among names.
use Rattle.std.proofs.Common.{◌≡◌, ◌==◌, ℕ, ◌+◌, ◌<◌, Bool, true, false, List, [], ◌∷◌, ◌++◌, append_assoc, drop, get_or, length, filter, Option, Some, None, Global, refl, sym, ap, ◌∙◌, arith}
use Rattle.std.proofs.lemmas.Bool.Decides.{nat_tests}
use Rattle.std.specs.Prelude.{◌||◌, not, if◌then◌else◌}
use Rattle.std.specs.List.{list_any}
use Rattle.std.proofs.lemmas.List.Elements.{filter-append}
use Rattle.std.specs.Prelude.{Vec}
use Rattle.op_tables.specs.declared.op.Op.{Op}
use Rattle.syntax_tree.specs.declared.expr.Expr as Expr
use Rattle.syntax_tree.specs.declared.expr.Subscript as Subscript
use Rattle.syntax_tree.specs.declared.expr.Expr.TheBlock.{back-Ref-subs}
use Rattle.syntax_tree.specs.Expression.{Range, arguments_of, expression, parts_of, reference, subscript}
use Rattle.syntax_tree.proofs.Rows.{call_vec, reference_vec}
use Rattle.expression_rules.proofs.Lists.{drop_item}
use Rattle.expression_rules.specs.Operands.{names_in_maybe, names_in_part, names_in_parts}
use Rattle.expression_rules.specs.Partial.{maybe_of}
use Rattle.expression_rules.specs.Symbols.{Name, is_among}
use Rattle.linear_subscripts.specs.LinearForms.{dummies_in}

-- of two lists, after what was found before
pub filter_two : (p : Name → Bool) (before xs ys : List Name) → before ++ filter p xs ++ filter p ys ≡ before ++ filter p (xs ++ ys)
filter_two p before xs ys = append_assoc before (filter p xs) (filter p ys) ∙ ap (λ l. before ++ l) (sym (filter-append p xs ys))

pub filter_three : (p : Name → Bool) (before xs ys zs : List Name) →
    before ++ filter p xs ++ filter p ys ++ filter p zs ≡ before ++ filter p (xs ++ ys ++ zs)
filter_three p before xs ys zs =
    ap (λ l. l ++ filter p zs) (filter_two p before xs ys) ∙ filter_two p before (xs ++ ys) zs

none_more : (b : Bool) (x : Name) (found : List Name) (some : Bool) → (length found == 0) ≡ not some →
    (length (if b then x ∷ found else found) == 0) ≡ not (b || some)
none_more true x found some is = grind (arith, nat_tests)
none_more false x found some is = is

-- none is found exactly where none is there
pub none_found : (p : Name → Bool) (xs : List Name) → (length (filter p xs) == 0) ≡ not (list_any p xs)
none_found p [] = refl
none_found p (x ∷ xs) = none_more (p x) x (filter p xs) (list_any p xs) (none_found p xs)

-- the dummies of three parts, one after the other
pub three_names : (p : Name → Bool) (before one two after xs ys zs : List Name) → one ≡ before ++ filter p xs → two ≡ one ++ filter p ys → after ≡ two ++ filter p zs →
    after ≡ before ++ filter p (xs ++ ys ++ zs)
three_names p before one two after xs ys zs of_one of_two of_all =
    of_all ∙ ap (λ l. l ++ filter p zs) (of_two ∙ ap (λ l. l ++ filter p ys) of_one) ∙ filter_three p before xs ys zs

-- a triplet, as a tree has it
pub triplet_is : (a b c : Option Expr.Expr) → subscript (Subscript.Triplet a b c) ≡ Range (maybe_of a) (maybe_of b) (maybe_of c)
triplet_is None None None = refl
triplet_is None None (Some z) = refl
triplet_is None (Some y) None = refl
triplet_is None (Some y) (Some z) = refl
triplet_is (Some x) None None = refl
triplet_is (Some x) None (Some z) = refl
triplet_is (Some x) (Some y) None = refl
triplet_is (Some x) (Some y) (Some z) = refl

-- the dummies of a triplet
pub triplet_names : (p : Name → Bool) (before one two after : List Name) (part : Subscript.Subscript) (a b c : Option Expr.Expr) → part ≡ Subscript.Triplet a b c →
    one ≡ before ++ filter p (names_in_maybe (maybe_of a)) → two ≡ one ++ filter p (names_in_maybe (maybe_of b)) →
    after ≡ two ++ filter p (names_in_maybe (maybe_of c)) → after ≡ before ++ filter p (names_in_part (subscript part))
triplet_names p before one two after part a b c is of_one of_two of_all =
    three_names p before one two after (names_in_maybe (maybe_of a)) (names_in_maybe (maybe_of b)) (names_in_maybe (maybe_of c)) of_one of_two of_all
    ∙ sym (ap (λ t. before ++ filter p (names_in_part t)) (ap subscript is ∙ triplet_is a b c))

-- those of a call
pub call_names : (ds before after : List Name) (e : Expr.Expr) (o : Op) (v : Vec Expr.Expr Global) (es : List Expr.Expr) → e ≡ Expr.Call o v → es ≡ v.items →
    after ≡ before ++ filter (λ x. is_among x ds) (names_in_parts (arguments_of es)) → after ≡ before ++ dummies_in ds (expression e)
call_names ds before after e o v es is items of_all =
    of_all
    ∙ ap (λ ps. before ++ filter (λ x. is_among x ds) (names_in_parts ps)) (ap arguments_of items ∙ sym (call_vec v))
    ∙ sym (ap (λ f. before ++ dummies_in ds (expression f)) is)

-- those of a name with subscripts after it
pub element_names : (ds before one after : List Name) (x : Name) (subs : Option (Vec Subscript.Subscript Global)) (v : Vec Subscript.Subscript Global)
    (ss : List Subscript.Subscript) → subs ≡ Some v → ss ≡ v.items →
    one ≡ before ++ filter (λ y. is_among y ds) (x ∷ []) → after ≡ one ++ filter (λ y. is_among y ds) (names_in_parts (parts_of ss)) →
    after ≡ before ++ dummies_in ds (reference x (back-Ref-subs subs))
element_names ds before one after x subs v ss is items of_name of_all =
    let p : Name → Bool = λ y. is_among y ds in
    of_all
    ∙ ap (λ l. l ++ filter p (names_in_parts (parts_of ss))) of_name
    ∙ filter_two p before (x ∷ []) (names_in_parts (parts_of ss))
    ∙ ap (λ l. before ++ filter p (x ∷ names_in_parts (parts_of l))) items
    ∙ sym (ap (λ h. before ++ dummies_in ds (reference x (back-Ref-subs h))) is ∙ ap (λ e. before ++ dummies_in ds e) (reference_vec x v))

-- a turn of a loop that finds the names of items
pub names_next : {X : Type 0} (p : Name → Bool) (F : List X → List Name) (f : X → List Name) → ((x : X) (xs : List X) → F (x ∷ xs) ≡ f x ++ F xs) →
    (xs : List X) (n : ℕ) (x : X) (found after whole : List Name) → n < length xs → x ≡ get_or xs n x → after ≡ found ++ filter p (f x) →
    found ++ filter p (F (drop n xs)) ≡ whole → after ++ filter p (F (drop (n + 1) xs)) ≡ whole
names_next p F f step xs n x found after whole within is more so_far =
    ap (λ l. l ++ filter p (F (drop (n + 1) xs))) more
    ∙ filter_two p found (f x) (F (drop (n + 1) xs))
    ∙ ap (λ l. found ++ filter p l) (sym (step x (drop (n + 1) xs)) ∙ ap F (sym (drop_item xs n x within is)))
    ∙ so_far
