-- The dimensions of an align target beside those of an alignee.
use Rattle.std.proofs.Common.{◌≡◌, ℕ, zero, suc, ◌+◌, ◌<◌, ◌≤◌, Bool, true, false, List, [], ◌∷◌, ◌++◌, append_assoc, drop, get_or, length, Option, Some, None, refl, sym, ap, ◌∙◌, arith}
use Rattle.std.specs.Prelude.{not, if◌then◌else◌}
use Rattle.std.proofs.Math.Seq.{drop-nil}
use Rattle.syntax_tree.specs.Directive.{Source}
use Rattle.expression_rules.proofs.Lists.{drop_item}
use Rattle.expression_rules.specs.Symbols.{Name}
use Rattle.expression_rules.specs.declared.dims.Dim.{Dim}
use Rattle.linear_subscripts.specs.declared.form.LinearForm.{LinearForm}
use Rattle.alignment_rules.specs.declared.alignment_values.Pair.{Pair}
use Rattle.alignment_rules.specs.declared.alignment_values.TargetValue.{TargetValue}
use Rattle.alignment_rules.specs.declared.alignment_values.TargetValue.TheVariants.{Subscript}
use Rattle.alignment_rules.specs.AlignmentEntries.{at_place, dimension_of, is_triplet, pair, pairs_from}
use Rattle.alignment_rules.specs.AlignmentValues.{first_dim}
use Rattle.alignment_rules.proofs.TargetLists.{drop_next}

-- neither the `:` that are left nor the form of a subscript tells its dimension
pub same_dimension : (ss : List Source) (cs : List ℕ) (x : Option Name) (l : Option LinearForm) →
    dimension_of ss [] (Subscript x None) ≡ dimension_of ss cs (Subscript x l)
same_dimension ss cs None l = refl
same_dimension ss cs (Some x) l = refl

pub place_is : (ds : List (Option Dim)) (n : ℕ) → first_dim (drop n ds) ≡ at_place ds n
place_is [] n = ap first_dim (drop-nil n)
place_is (d ∷ ds) zero = refl
place_is (d ∷ ds) (suc n) = place_is ds n

cut : (cs : List ℕ) (done : ℕ) (b : Bool) → (if b then drop 1 (drop done cs) else drop done cs) ≡ drop (if not b then done else done + 1) cs
cut cs done true = drop_next cs done
cut cs done false = refl

-- a turn of a loop over the dimensions of the target
pub pairs_next : (ss : List Source) (ds : List (Option Dim)) (cs : List ℕ) (vs : List TargetValue) (bs : List (Option Dim)) (n done next : ℕ) (v : TargetValue)
    (so_far after whole : List Pair) (left : List ℕ) (b : Option Dim) → n < length vs → v ≡ get_or vs n v → left ≡ drop done cs → b ≡ first_dim (drop n bs) →
    after ≡ so_far ++ pair v b (dimension_of ss left v) (at_place ds (dimension_of ss left v)) ∷ [] →
    next ≡ (if not (is_triplet v) then done else done + 1) →
    so_far ++ pairs_from ss ds (drop done cs) (drop n vs) (drop n bs) ≡ whole →
    after ++ pairs_from ss ds (drop next cs) (drop (n + 1) vs) (drop (n + 1) bs) ≡ whole
pairs_next ss ds cs vs bs n done next v so_far after whole left b within is left_is b_is more next_is rest =
    let one : Pair = pair v b (dimension_of ss left v) (at_place ds (dimension_of ss left v)) in
    let cs_is : drop next cs ≡ (if is_triplet v then drop 1 (drop done cs) else drop done cs) = ap (λ m. drop m cs) next_is ∙ sym (cut cs done (is_triplet v)) in
    ap (λ l. l ++ pairs_from ss ds (drop next cs) (drop (n + 1) vs) (drop (n + 1) bs)) more
    ∙ append_assoc so_far (one ∷ []) (pairs_from ss ds (drop next cs) (drop (n + 1) vs) (drop (n + 1) bs))
    ∙ (λ i. so_far ++ pair v (b_is i) (dimension_of ss (left_is i) v) (at_place ds (dimension_of ss (left_is i) v))
    ∷ pairs_from ss ds (cs_is i) (drop (n + 1) vs) (sym (drop_next bs n) i))
    ∙ ap (λ l. so_far ++ pairs_from ss ds (drop done cs) l (drop n bs)) (sym (drop_item vs n v within is))
    ∙ rest

-- a count that may be one more is no more than the turns
pub at_most_next : (b : Bool) (count n : ℕ) → count ≤ n → (if b then count else count + 1) ≤ n + 1
at_most_next true count n h = omega arith
at_most_next false count n h = omega arith

-- one more of a count
pub count_more : {X : Type 0} (b : Bool) (x : X) (found : List X) (count : ℕ) →
    (if not b then count else count + 1) + length found ≡ count + length (if b then x ∷ found else found)
count_more true x found count = omega arith
count_more false x found count = refl
