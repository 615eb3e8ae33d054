-- Alignments that are put together, one dimension of the target after the other.
use Rattle.std.proofs.Common.{◌≡◌, ℕ, ◌+◌, ◌<◌, Bool, true, false, List, [], ◌∷◌, append_assoc, drop, get_or, length, Option, Some, None, refl, sym, ap, ◌∙◌}
use Rattle.std.specs.Prelude.{◌||◌, if◌then◌else◌}
use Rattle.std.specs.List.{list_any}
use Rattle.std.proofs.lemmas.List.{append-nil}
use Rattle.mappings.specs.declared.mapping.AlignDim.{AlignDim}
use Rattle.expression_rules.proofs.Lists.{drop_item}
use Rattle.distribution_rules.specs.Distributed.{all_or_none, and_more}
use Rattle.alignment_rules.specs.declared.alignment_values.Alignment.{Alignment}
use Rattle.alignment_rules.specs.declared.alignment_values.Alignment.TheVariants.{Known, PastLimits, Unknown}
use Rattle.alignment_rules.specs.declared.alignment_values.Pair.{Pair}
use Rattle.alignment_rules.specs.AlignmentEntries.{alignment_with, entry_of, is_past_limits}
use Rattle.alignment_rules.specs.WideEntries.{joined, single}

joined_assoc : (a b c : Alignment) → joined (joined a b) c ≡ joined a (joined b c)
joined_assoc Unknown b c = refl
joined_assoc PastLimits Unknown c = refl
joined_assoc PastLimits PastLimits Unknown = refl
joined_assoc PastLimits PastLimits PastLimits = refl
joined_assoc PastLimits PastLimits (Known zs) = refl
joined_assoc PastLimits (Known ys) Unknown = refl
joined_assoc PastLimits (Known ys) PastLimits = refl
joined_assoc PastLimits (Known ys) (Known zs) = refl
joined_assoc (Known xs) Unknown c = refl
joined_assoc (Known xs) PastLimits Unknown = refl
joined_assoc (Known xs) PastLimits PastLimits = refl
joined_assoc (Known xs) PastLimits (Known zs) = refl
joined_assoc (Known xs) (Known ys) Unknown = refl
joined_assoc (Known xs) (Known ys) PastLimits = refl
joined_assoc (Known xs) (Known ys) (Known zs) = ap Known (append_assoc xs ys zs)

pub none_joined : (a : Alignment) → joined (Known []) a ≡ a
none_joined Unknown = refl
none_joined PastLimits = refl
none_joined (Known ys) = refl

pub joined_none : (a : Alignment) → joined a (Known []) ≡ a
joined_none Unknown = refl
joined_none PastLimits = refl
joined_none (Known xs) = ap Known (append-nil xs)

more_known : (e : AlignDim) (es : List AlignDim) (b c : Bool) →
    (if b || c then PastLimits else Known (e ∷ es)) ≡ joined (if b then PastLimits else Known (e ∷ [])) (if c then PastLimits else Known es)
more_known e es true true = refl
more_known e es true false = refl
more_known e es false true = refl
more_known e es false false = refl

past_or_unknown : (b : Bool) (e : AlignDim) → Unknown ≡ joined (if b then PastLimits else Known (e ∷ [])) Unknown
past_or_unknown true e = refl
past_or_unknown false e = refl

more : (e : Option AlignDim) (es : Option (List AlignDim)) → alignment_with (and_more e es) ≡ joined (single e) (alignment_with es)
more None es = refl
more (Some e) None = past_or_unknown (is_past_limits e) e
more (Some e) (Some es) = more_known e es (is_past_limits e) (list_any is_past_limits es)

-- a turn of a loop over the dimensions of the target
pub joined_next : (ps : List Pair) (n : ℕ) (p : Pair) (found after whole : Alignment) → n < length ps → p ≡ get_or ps n p → after ≡ joined found (single (entry_of p)) →
    joined found (alignment_with (all_or_none entry_of (drop n ps))) ≡ whole → joined after (alignment_with (all_or_none entry_of (drop (n + 1) ps))) ≡ whole
joined_next ps n p found after whole within item is so_far =
    let rest : Option (List AlignDim) = all_or_none entry_of (drop (n + 1) ps) in
    ap (λ a. joined a (alignment_with rest)) is
    ∙ joined_assoc found (single (entry_of p)) (alignment_with rest)
    ∙ ap (joined found) (sym (more (entry_of p) rest) ∙ ap (λ l. alignment_with (all_or_none entry_of l)) (sym (drop_item ps n p within item)))
    ∙ so_far
