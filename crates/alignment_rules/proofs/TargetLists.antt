-- What stands for the dimensions of an align target, one after the other.
use Rattle.std.proofs.Common.{◌≡◌, ℕ, ◌+◌, ◌<◌, List, [], ◌∷◌, ◌++◌, append_assoc, drop, get_or, length, map, replicate, Option, refl, sym, ap, ◌∙◌}
use Rattle.std.proofs.lemmas.List.{drop-drop, replicate-append-replicate}
use Rattle.syntax_tree.specs.declared.directive.Target.{Target}
use Rattle.syntax_tree.specs.Directive.{target_of}
use Rattle.expression_rules.proofs.Lists.{drop_item}
use Rattle.expression_rules.specs.Symbols.{Name}
use Rattle.expression_rules.specs.declared.dims.Dim.{Dim}
use Rattle.distribution_rules.specs.Setting.{Setting}
use Rattle.alignment_rules.specs.declared.alignment_values.TargetValue.{TargetValue}
use Rattle.alignment_rules.specs.AlignmentValues.{first_dim, full, target_value, values_from}
use Rattle.alignment_rules.specs.TargetParts.{full_value}

-- a list that is left out
pub full_list : (s : Setting) (ds : List Name) (bs : List (Option Dim)) → values_from s ds bs (replicate (length bs) full) ≡ map full_value bs
full_list s ds [] = refl
full_list s ds (b ∷ bs) = ap (λ vs. full_value b ∷ vs) (full_list s ds bs)

-- what is left after the next dimension
pub drop_next : {X : Type 0} (xs : List X) (n : ℕ) → drop 1 (drop n xs) ≡ drop (n + 1) xs
drop_next xs n = drop-drop 1 n xs

-- one more of the same
pub replicate_next : {X : Type 0} (n : ℕ) (x : X) → replicate n x ++ x ∷ [] ≡ replicate (n + 1) x
replicate_next n x = replicate-append-replicate n 1 x

-- a turn of a loop over the entries of the target's list
pub values_next : (s : Setting) (ds : List Name) (bs : List (Option Dim)) (ts : List Target) (n : ℕ) (t : Target) (b : Option Dim) (so_far after whole : List TargetValue) →
    n < length ts → t ≡ get_or ts n t → b ≡ first_dim (drop n bs) → after ≡ so_far ++ target_value s ds b (target_of t) ∷ [] →
    so_far ++ values_from s ds (drop n bs) (map target_of (drop n ts)) ≡ whole → after ++ values_from s ds (drop (n + 1) bs) (map target_of (drop (n + 1) ts)) ≡ whole
values_next s ds bs ts n t b so_far after whole within is b_is more rest =
    let others = map target_of (drop (n + 1) ts) in
    ap (λ l. l ++ values_from s ds (drop (n + 1) bs) others) more
    ∙ append_assoc so_far (target_value s ds b (target_of t) ∷ []) (values_from s ds (drop (n + 1) bs) others)
    ∙ (λ i. so_far ++ target_value s ds (b_is i) (target_of t) ∷ values_from s ds (sym (drop_next bs n) i) others)
    ∙ ap (λ l. so_far ++ values_from s ds (drop n bs) (map target_of l)) (sym (drop_item ts n t within is))
    ∙ rest
