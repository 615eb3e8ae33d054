-- References with one more, and the tuples at which what they name is sent.
use Rattle.std.proofs.Common.{◌≡◌, ℕ, ◌<◌, ◌==◌, ◌&&◌, ◌||◌, Bool, true, List, [], ◌∷◌, ◌++◌, map, nat_eq, Option, Some, None, refl, sym, ◌∙◌, ap, ◌⊎◌, inl, inr, ⊎_elim, eq-eqb}
use Rattle.std.proofs.lemmas.List.Elements.{All-append}
use Rattle.std.specs.List.{list_any}
use Rattle.hpf_base.specs.ElementOrder.{product}
use Rattle.storage.specs.Storage.{Spot, is_same_spot}
use Rattle.machine_steps.specs.Layout.{Layout}
use Rattle.machine_steps.specs.Message.{names_spot}
use Rattle.courses.specs.References.{Named, named_spot}
use Rattle.visited_tuples.specs.Visited.{IsHeld, IsSending, IsSendingOf, Suffice}
use Rattle.visited_tuples.proofs.Members.{all-at, all-of, one-append, or-right}
use Rattle.visited_tuples.proofs.Reading.{named-first}

module _ (spot : Spot) where
  names-here : (o : Option Spot) (reads : List (Option Spot)) → o ≡ Some spot → names_spot (o ∷ reads) spot ≡ true
  names-here o reads is = ap (λ o. names_spot (o ∷ reads) spot) is ∙ ap (λ b. b || names_spot reads spot) (same spot)
    where
      same : (s : Spot) → is_same_spot s s ≡ true
      same s = ap (λ b. b && nat_eq s.at s.at) (eq-eqb s.row s.row refl) ∙ eq-eqb s.at s.at refl

  names-later : (o : Option Spot) (reads : List (Option Spot)) → names_spot reads spot ≡ true → names_spot (o ∷ reads) spot ≡ true
  names-later None reads h = h
  names-later (Some s) reads h = or-right (is_same_spot s spot) (names_spot reads spot) h

module _ (ns : List ℕ) (t : ℕ) (spot : Spot) where
  -- the element is named by one of the first references, or by the last one
  names-last : (rs : List Named) (r : Named) → names_spot (map (named_spot ns t) (rs ++ r ∷ [])) spot ≡ true
      → (names_spot (map (named_spot ns t) rs) spot ≡ true) ⊎ (named_spot ns t r ≡ Some spot)
  names-last [] r e = ⊎_elim (λ h. inr h) (λ h. inl h) (named-first (named_spot ns t r) [] spot e)
  names-last (q ∷ rs) r e =
      ⊎_elim (λ h. inl (names-here spot (named_spot ns t q) (map (named_spot ns t) rs) h))
      (λ h. ⊎_elim (λ g. inl (names-later spot (named_spot ns t q) (map (named_spot ns t) rs) g)) (λ g. inr g) (names-last rs r h))
      (named-first (named_spot ns t q) (map (named_spot ns t) (rs ++ r ∷ [])) spot e)

  names-front : (rs : List Named) (r : Named) → names_spot (map (named_spot ns t) rs) spot ≡ true → names_spot (map (named_spot ns t) (rs ++ r ∷ [])) spot ≡ true
  names-front [] r e = absurd cc
  names-front (q ∷ rs) r e =
      ⊎_elim (λ h. names-here spot (named_spot ns t q) (map (named_spot ns t) (rs ++ r ∷ [])) h)
      (λ h. names-later spot (named_spot ns t q) (map (named_spot ns t) (rs ++ r ∷ [])) (names-front rs r h))
      (named-first (named_spot ns t q) (map (named_spot ns t) rs) spot e)

  names-new : (rs : List Named) (r : Named) → named_spot ns t r ≡ Some spot → names_spot (map (named_spot ns t) (rs ++ r ∷ [])) spot ≡ true
  names-new [] r e = names-here spot (named_spot ns t r) [] e
  names-new (q ∷ rs) r e = names-later spot (named_spot ns t q) (map (named_spot ns t) (rs ++ r ∷ [])) (names-new rs r e)

-- ---- references that suffice

module _ (computes : (node tuple : ℕ) → Bool) (layouts : List Layout) (ns : List ℕ) (rs few : List Named) (r : Named)
    (suffice : Suffice computes layouts ns rs few) where
  -- one more that each node owns which computes
  pub suffice-held : IsHeld computes layouts ns r → Suffice computes layouts ns (rs ++ r ∷ []) few
  suffice-held held t spot small named =
      ⊎_elim (λ e. suffice t spot small e) (λ e. inr (held t spot small e)) (names-last ns t spot rs r named)

  -- and any other
  pub suffice-more : Suffice computes layouts ns (rs ++ r ∷ []) (few ++ r ∷ [])
  suffice-more t spot small named =
      ⊎_elim (λ e. ⊎_elim (λ h. inl (names-front ns t spot few r h)) (λ h. inr h) (suffice t spot small e)) (λ e. inl (names-new ns t spot few r e))
      (names-last ns t spot rs r named)

-- ---- what is sent

pub sending-more : (who : (node tuple : ℕ) → Bool) (nodes : ℕ) (layouts : List Layout) (ns : List ℕ) (rs : List Named) (r : Named) (id : ℕ) (xs ys : List ℕ)
    → IsSending who nodes layouts ns rs id xs → IsSendingOf who nodes layouts ns r id ys → IsSending who nodes layouts ns (rs ++ r ∷ []) id (xs ++ ys)
sending-more who nodes layouts ns rs r id xs ys is more = record {
  below = All-append (λ t. t < product ns) xs ys is.below more.below;
  every = λ t other spot small inside theirs named sends.
      one-append xs ys t
      ∙ ⊎_elim (λ h. ap (λ b. b || list_any (λ v. v == t) ys) (is.every t other spot small inside theirs h sends))
      (λ h. or-right (list_any (λ v. v == t) xs) (list_any (λ v. v == t) ys) (more.every t other spot small inside theirs h sends)) (names-last ns t spot rs r named);
}

-- in another list of the same numbers
pub sending-among : (who : (node tuple : ℕ) → Bool) (nodes : ℕ) (layouts : List Layout) (ns : List ℕ) (rs : List Named) (id : ℕ) (xs ys : List ℕ)
    → ((t : ℕ) → list_any (λ v. v == t) ys ≡ list_any (λ v. v == t) xs) → IsSending who nodes layouts ns rs id xs → IsSending who nodes layouts ns rs id ys
sending-among who nodes layouts ns rs id xs ys same is = record {
  below = all-of (λ t. t < product ns) ys (λ t any. all-at (λ t. t < product ns) xs t is.below (sym (same t) ∙ any));
  every = λ t other spot small inside theirs named sends. same t ∙ is.every t other spot small inside theirs named sends;
}
