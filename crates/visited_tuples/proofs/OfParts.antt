-- The tuples of a part that a node has to ask.
use Rattle.std.proofs.Common.{◌≡◌, ℕ, ◌<◌, ◌==◌, ◌&&◌, not, nat_lt, slice_index_or, Bool, true, false, List, filter, Option, All, sym, ◌∙◌, ap, subst, arith}
use Rattle.std.specs.List.{range_with_len}
use Rattle.hpf_base.specs.ElementOrder.{product}
use Rattle.storage.specs.Storage.{Spot}
use Rattle.machine_steps.specs.Layout.{Layout, least_owner_of, owns_spot, sizes}
use Rattle.machine_steps.specs.Message.{Part, names_spot}
use Rattle.message_elements.specs.declared.candidates.Candidates.{Candidates}
use Rattle.message_elements.specs.Elements.{is_sent}
use Rattle.message_elements.specs.Candidates.{AreCandidates, is_sent_at}
use Rattle.courses.specs.References.{Named}
use Rattle.courses.proofs.Sections.{both}
use Rattle.visited_tuples.specs.Own.{IsOwn, listed_tuples}
use Rattle.visited_tuples.specs.Parts.{IsPartOf}
use Rattle.visited_tuples.specs.Visited.{IsSending, IsTaking}
use Rattle.visited_tuples.proofs.Members.{all-at, all-of, filter-agree}
use Rattle.visited_tuples.proofs.Sent.{not-true}
use Rattle.visited_tuples.proofs.Taken.{computed}

pub visits : (who : (node tuple : ℕ) → Bool) (nodes : ℕ) (layouts : List Layout) (ns : List ℕ) (rs : List Named) (id : ℕ) (lists : Option (List (List ℕ))) (beside : List ℕ)
    (v : Candidates) (part : Part) → IsOwn who nodes ns id lists beside → v.computed ≡ listed_tuples ns lists → IsTaking who layouts ns rs id v.taking.items
    → IsSending who nodes layouts ns rs id v.sending.items → IsPartOf ns rs who part → AreCandidates nodes layouts part id v
visits who nodes layouts ns rs id lists beside v part own is taking sending of = record {
  computed =
      is ∙ sym (computed who nodes ns id lists beside own)
      ∙ filter-agree (who id) (part.computes id) 0 (product ns) (λ t from below. sym (of.computes id t (omega (arith, below))))
      ∙ ap (λ n. filter (part.computes id) (range_with_len 0 n)) (sym of.tuples);
  own = all-of (λ t. part.computes id t ≡ true) v.taking.items (λ t any.
      of.computes id t (all-at (λ t. t < product ns) v.taking.items t taking.below any) ∙ all-at (λ t. who id t ≡ true) v.taking.items t taking.own any);
  taking = record {
    below = subst (λ n. All (λ t. t < n) v.taking.items) (sym of.tuples) taking.below;
    every = λ t other spot small within takes.
        let t-small : t < product ns = subst (λ n. t < n) of.tuples small in
        let e = sent_facts t other id spot takes in
        taking.every t spot t-small (sym (of.computes id t t-small) ∙ e.0) (sym (of.reads t spot t-small) ∙ e.1) e.3;
  };
  sending = record {
    below = subst (λ n. All (λ t. t < n) v.sending.items) (sym of.tuples) sending.below;
    every = λ t other spot small within sends.
        let t-small : t < product ns = subst (λ n. t < n) of.tuples small in
        let e = sent_facts t id other spot sends in
        sending.every t other spot t-small within (sym (of.computes other t t-small) ∙ e.0) (sym (of.reads t spot t-small) ∙ e.1) e.2;
  };
}
  where
    sent_facts : (t from to : ℕ) (spot : Spot) → is_sent_at nodes layouts part t from to spot ≡ true
        → (part.computes to t ≡ true) × (names_spot (part.reads t) spot ≡ true) × (is_sent nodes layouts from to spot ≡ true) × (owns_spot layouts to spot ≡ false)
    sent_facts t from to spot sends =
        let h = both (part.computes to t && names_spot (part.reads t) spot) (is_sent nodes layouts from to spot) sends in
        let g = both (part.computes to t) (names_spot (part.reads t) spot) h.0 in
        let s = both (nat_lt spot.at (slice_index_or (sizes layouts) spot.row 0)) (not (owns_spot layouts to spot) && (least_owner_of nodes layouts spot == from)) h.1 in
        let u = both (not (owns_spot layouts to spot)) (least_owner_of nodes layouts spot == from) s.1 in
        (g.0, g.1, h.1, not-true (owns_spot layouts to spot) u.0)
