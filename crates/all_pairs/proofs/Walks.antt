-- A walk through two lists side by side, whose elements at one place have one key.
use Rattle.std.proofs.Common.{◌≡◌, ◌<◌, List, [], ◌∷◌, ◌++◌, length, map, sym, refl, ap, ◌∙◌, subst, ⊎_elim, append_assoc, append-nil, arith}
use Rattle.std.proofs.lemmas.List.{length-map, map-append}
use Rattle.std.proofs.lemmas.Option.{slice_get_within, none-some}
use Rattle.all_pairs.specs.RowSteps.{joined_by, AreTied}
use Rattle.all_pairs.proofs.Tables.{get_more}

joined_more : {A B D : Type 0} (join : A → B → List D) (xs : List A) (ys : List B) (x : A) (y : B) → length xs ≡ length ys
    → joined_by join (xs ++ x ∷ []) (ys ++ y ∷ []) ≡ joined_by join xs ys ++ join x y
joined_more join [] [] x y e = append-nil (join x y)
joined_more join [] (b ∷ ys) x y e = absurd (omega (arith, e))
joined_more join (a ∷ xs) [] x y e = absurd (omega (arith, e))
joined_more join (a ∷ xs) (b ∷ ys) x y e = ap (λ l. join a b ++ l) (joined_more join xs ys x y (omega (arith, e))) ∙ sym (append_assoc (join a b) (joined_by join xs ys) (join x y))

pub none_by_length : {A : Type 0} (xs : List A) → length xs ≡ 0 → xs ≡ []
none_by_length [] e = refl
none_by_length (x ∷ xs) e = absurd (omega (arith, e))

module _ {A B C D : Type 0} (f : A → C) (g : B → C) (join : A → B → List D) (Tied : A → B → Type 0) where
  -- the first elements are joined, and the others are left
  pub record IsWalk (before : List D) (ys : List B) (xs xs_left : List A) (ys_left : List B) (all : List D) : Type 0 where
    pub done : List B
    pub parts : ys ≡ done ++ ys_left
    pub keys : map f xs ≡ map g done
    pub left : map f xs_left ≡ map g ys_left
    pub joined : AreTied join Tied before xs done all

  head_key : (x : A) (xs : List A) (y : B) (ys : List B) → map f (x ∷ xs) ≡ map g (y ∷ ys) → f x ≡ g y
  head_key x xs y ys e = cc

  tail_keys : (x : A) (xs : List A) (y : B) (ys : List B) → map f (x ∷ xs) ≡ map g (y ∷ ys) → map f xs ≡ map g ys
  tail_keys x xs y ys e = cc

  none_left : (ys : List B) → [] ≡ map g ys → ys ≡ []
  none_left [] e = refl
  none_left (y ∷ ys) e = cc

  pub walk_begins : (before all : List D) (xs xs_left : List A) (ys ys_left : List B) → map f xs ≡ map g ys → xs ≡ xs_left → ys ≡ ys_left → all ≡ before
      → IsWalk before ys [] xs_left ys_left all
  walk_begins before all xs xs_left ys ys_left e ex ey ea = record {
    done = [];
    parts = ey;
    keys = refl;
    left = ap (map f) (sym ex) ∙ e ∙ ap (map g) ey;
    joined = record { appended = ea ∙ sym (append-nil before); tied = λ k x y a b. absurd (none-some x a) };
  }

  lefts : (before all : List D) (xs xs_left xs' : List A) (ys ys_left ys' : List B) (x : A) (y : B)
      → IsWalk before ys xs xs_left ys_left all → xs_left ≡ x ∷ xs' → ys_left ≡ y ∷ ys' → map f (x ∷ xs') ≡ map g (y ∷ ys')
  lefts before all xs xs_left xs' ys ys_left ys' x y h ex ey = ap (map f) (sym ex) ∙ h.left ∙ ap (map g) ey

  pub walk_goes : (before all all' : List D) (xs xs_left xs' : List A) (ys ys_left ys' : List B) (x : A) (y : B)
      → IsWalk before ys xs xs_left ys_left all → xs_left ≡ x ∷ xs' → ys_left ≡ y ∷ ys' → all' ≡ all ++ join x y → Tied x y → IsWalk before ys (xs ++ x ∷ []) xs' ys' all'
  walk_goes before all all' xs xs_left xs' ys ys_left ys' x y h ex ey ea new =
      let left : map f (x ∷ xs') ≡ map g (y ∷ ys') = lefts before all xs xs_left xs' ys ys_left ys' x y h ex ey in
      let many : length xs ≡ length h.done = sym (length-map xs f) ∙ ap length h.keys ∙ length-map h.done g in
      record {
        done = h.done ++ y ∷ [];
        parts = h.parts ∙ ap (λ l. h.done ++ l) ey ∙ sym (append_assoc h.done (y ∷ []) ys');
        keys = map-append f xs (x ∷ []) ∙ ap (λ l. l ++ f x ∷ []) h.keys ∙ ap (λ z. map g h.done ++ z ∷ []) (head_key x xs' y ys' left)
            ∙ sym (map-append g h.done (y ∷ []));
        left = tail_keys x xs' y ys' left;
        joined = record {
          appended = ea ∙ ap (λ l. l ++ join x y) h.joined.appended ∙ append_assoc before (joined_by join xs h.done) (join x y)
              ∙ ap (λ l. before ++ l) (sym (joined_more join xs h.done x y many));
          tied = λ k u v eu ev. ⊎_elim
              (λ w. ⊎_elim (λ z. h.joined.tied k u v w z) (λ (z : (k ≡ length h.done) × (y ≡ v)).
              let near : k < length xs = slice_get_within xs k u w in
              absurd (omega (arith, near, many, z.0)))
              (get_more h.done y v k ev))
              (λ (w : (k ≡ length xs) × (x ≡ u)). ⊎_elim (λ z. let near : k < length h.done = slice_get_within h.done k v z in absurd (omega (arith, near, many, w.0)))
              (λ (z : (k ≡ length h.done) × (y ≡ v)). subst (λ (p : A × B). Tied p.0 p.1) (λ t. (w.1 t, z.1 t)) new) (get_more h.done y v k ev))
              (get_more xs x u k eu);
        };
      }

  pub walk_ends : (before all : List D) (xs xs_left : List A) (ys ys_left : List B) → IsWalk before ys xs xs_left ys_left all → xs_left ≡ [] → AreTied join Tied before xs ys all
  walk_ends before all xs xs_left ys ys_left h e =
      let none : ys_left ≡ [] = none_left ys_left (ap (map f) (sym e) ∙ h.left) in
      subst (λ l. AreTied join Tied before xs l all) (sym (h.parts ∙ ap (λ l. h.done ++ l) none ∙ append-nil h.done)) h.joined
