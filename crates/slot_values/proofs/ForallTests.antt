-- The triplets of a section's space, and the terms of a FORALL.
use Rattle.std.proofs.Common.{◌≡◌, ◌∙◌, ◌<◌, List, [], ◌∷◌, map, ◌==◌, ◌||◌, ◌&&◌, false, refl, ap, sym, subst, arith}
use Rattle.std.proofs.lemmas.Bool.{lt-leb, ne_eqb}
use Rattle.std.specs.List.{list_all}
use Rattle.array_meaning.specs.declared.limits.TheConstants.{MAX_TUPLES}
use Rattle.hpf_base.specs.ElementOrder.{product}
use Rattle.array_meaning.specs.declared.sections.Selection.{Selection}
use Rattle.array_meaning.specs.declared.sections.Selection.TheVariants.{At, Along}
use Rattle.array_meaning.specs.Forall.{index_extents, is_forall_in_limits, is_index_in_limits, is_linear_in_limits, linear}
use Rattle.array_meaning.specs.Sections.{extents}
use Rattle.array_meaning.specs.State.{State}
use Rattle.array_meaning.specs.Terms.{Term, list_of}
use Rattle.node_code.specs.declared.flat.Flat.{Flat as HeldFlat}
use Rattle.code_meaning.specs.ForallLimits.{sequences_of, term_of, terms_of}
use Rattle.node_code.specs.Texts.{flat, flats_of}

pub same_extents : (ds : List Selection) → extents ds ≡ index_extents (sequences_of ds)
same_extents [] = refl
same_extents (At i ∷ ds) = same_extents ds
same_extents (Along p ∷ ds) = ap (λ ns. p.count ∷ ns) (same_extents ds)

pub listed_terms : (fs : List HeldFlat) → list_of (terms_of (flats_of fs)) ≡ map term_of (map flat fs)
listed_terms [] = refl
listed_terms (f ∷ fs) = ap (λ ts. term_of (flat f) ∷ ts) (listed_terms fs)

pub too_many : (ds : List Selection) (s : State) (ts : List Term) → MAX_TUPLES < product (extents ds) → false ≡ (product (extents ds) == 0) || is_forall_in_limits s (sequences_of ds) ts
too_many ds s ts more = sym (
    ap (λ b. b || is_forall_in_limits s (sequences_of ds) ts) (ne_eqb (product (extents ds)) 0 (λ e. let f : ⊥ = omega (arith, more, e) in f))
    ∙ ap (λ b. b && list_all is_index_in_limits (sequences_of ds) && list_all (λ t. is_linear_in_limits (linear s t)) ts)
    (lt-leb (product (index_extents (sequences_of ds))) MAX_TUPLES (subst (λ ns. MAX_TUPLES < product ns) (same_extents ds) more)))
