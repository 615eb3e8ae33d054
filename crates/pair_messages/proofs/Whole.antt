-- A list in order of what is sent of all references is the message.
use Rattle.std.proofs.Common.{◌≡◌, ℕ, ◌<◌, ◌==◌, ◌&&◌, not, nat_lt, slice_index_or, Bool, true, false, List, refl, sym, ◌∙◌, ap, arith}
use Rattle.std.specs.List.{list_any, range_with_len}
use Rattle.hpf_base.specs.ElementOrder.{product}
use Rattle.storage.specs.Storage.{Spot}
use Rattle.machine_steps.specs.Layout.{Layout, in_bounds, least_owner_of, owns_spot, sizes}
use Rattle.machine_steps.specs.Message.{Part, any_below, computes_left, message, names_spot, needs}
use Rattle.message_elements.specs.Ascending.{Ascends}
use Rattle.message_elements.specs.Elements.{is_sent}
use Rattle.message_elements.proofs.AllSpots.{is-filter}
use Rattle.axis_products.specs.Products.{places_at}
use Rattle.axis_products.specs.Tests.{Test, holds}
use Rattle.courses.specs.Owners.{IsLaidOut, bounds_test, owner_test}
use Rattle.courses.specs.References.{Named, named_spot}
use Rattle.courses.proofs.Owners.{holds-and, left}
use Rattle.visited_tuples.specs.Owned.{owns_in, owns_named}
use Rattle.visited_tuples.specs.Parts.{IsPartOf}
use Rattle.pair_messages.specs.Sent.{AreSent, is_named_by, is_named_of, is_sent_of}
use Rattle.pair_messages.proofs.Anys.{any-and, any-below, any-range, any-reads, names-any}

-- who computes, where what is assigned is in bounds at each tuple
pub computes-owned : (ns : List ℕ) (layouts : List Layout) (l : Named) (layout : Layout) (node t : ℕ) → IsLaidOut ns layouts l layout
    → holds (bounds_test l.dims l.courses) (places_at ns t) ≡ true
    → computes_left layouts node (in_bounds layouts (named_spot ns t l)) ≡ holds (owns_named layouts node l) (places_at ns t)
computes-owned ns layouts l layout node t laid inside =
    let B : Test = bounds_test l.dims l.courses in
    let O : Test = owner_test layout.mapping node l.courses in
    left ns layouts l layout node t laid inside
    ∙ sym (ap (λ o. holds (owns_in o node l) (places_at ns t)) laid.row ∙ holds-and B O (places_at ns t) ∙ ap (λ b. b && holds O (places_at ns t)) inside)

pub turned : (need within sent : Bool) → (need && (within && sent)) ≡ (within && (need && sent))
turned true within sent = refl
turned false true sent = refl
turned false false sent = refl

-- ---- what is sent of all references

module _ (nodes : ℕ) (layouts : List Layout) (ns : List ℕ) (rs : List Named) (computes : ℕ → Bool) (from to : ℕ) where
  -- reference by reference, by a test of each axis by itself
  pub by-axes : (computed : Test) → ((t : ℕ) → t < product ns → computes t ≡ holds computed (places_at ns t)) → (s : Spot)
      → list_any (λ r. is_sent_of nodes layouts ns computed from to r s) rs
      ≡ (any_below (λ t. computes t && is_named_of ns rs t s) (product ns) && is_sent nodes layouts from to s)
  by-axes computed by s =
      any-and (λ r. list_any (λ t. holds computed (places_at ns t) && is_named_by ns r t s) (range_with_len 0 (product ns))) (is_sent nodes layouts from to s) rs
      ∙ ap (λ b. b && is_sent nodes layouts from to s)
      (any-reads ns (λ t. holds computed (places_at ns t)) s (range_with_len 0 (product ns)) rs
      ∙ any-range (λ t. holds computed (places_at ns t) && is_named_of ns rs t s) (λ t. computes t && is_named_of ns rs t s) 0 (product ns)
      (λ t low high. let below : t < product ns = omega (arith, high) in ap (λ b. b && is_named_of ns rs t s) (sym (by t below)))
      ∙ sym (any-below (λ t. computes t && is_named_of ns rs t s) (product ns)))

module _ (nodes : ℕ) (layouts : List Layout) (ns : List ℕ) (rs : List Named) (from to : ℕ) (who : (node tuple : ℕ) → Bool) (part : Part) (of : IsPartOf ns rs who part) where
  -- what is named at tuples that are computed is what the taker needs
  needed : (s : Spot) → any_below (λ t. who to t && is_named_of ns rs t s) (product ns) ≡ needs part to s
  needed s =
      any-below (λ t. who to t && is_named_of ns rs t s) (product ns)
      ∙ any-range (λ t. who to t && is_named_of ns rs t s) (λ t. part.computes to t && names_spot (part.reads t) s) 0 (product ns)
      (λ t low high.
      let below : t < product ns = omega (arith, high) in
      ap (λ b. b && is_named_of ns rs t s) (sym (of.computes to t below))
      ∙ ap (λ b. part.computes to t && b) (sym (names-any ns rs t s) ∙ sym (of.reads t s below)))
      ∙ sym (any-below (λ t. part.computes to t && names_spot (part.reads t) s) (product ns))
      ∙ sym (ap (any_below (λ t. part.computes to t && names_spot (part.reads t) s)) of.tuples)

  pub is-message : (spots : List Spot) → Ascends spots → AreSent nodes layouts ns rs (who to) from to spots → spots ≡ message nodes layouts part from to
  is-message spots ascends sent =
      is-filter (λ s. needs part to s && (not (owns_spot layouts to s) && (least_owner_of nodes layouts s == from))) layouts spots ascends
      (λ s. sent s ∙ ap (λ b. b && is_sent nodes layouts from to s) (needed s)
      ∙ turned (needs part to s) (nat_lt s.at (slice_index_or (sizes layouts) s.row 0)) (not (owns_spot layouts to s) && (least_owner_of nodes layouts s == from)))
