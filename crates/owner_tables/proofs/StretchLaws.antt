-- Elements at equal distances that have the same owners.
use Rattle.std.proofs.Common.{◌≡◌, ℕ, ◌+◌, ◌*◌, ◌/◌, ◌%◌, ◌<◌, ◌≤◌, ◌⊎◌, inl, inr, ◌==◌, true, List, ◌∷◌, drop, get_or, length, sym, ◌∙◌, ap, subst, arith}
use Rattle.std.proofs.Math.Nat.{mul-le-mul_right}
use Rattle.std.proofs.lemmas.Bool.{cases_lt}
use Rattle.std.proofs.lemmas.List.{drop_more}
use Rattle.std.proofs.lemmas.Nat.{div-add-mod', div-mul-add, div_below, mod-mul-add, mod_below}
use Rattle.hpf_base.specs.ElementOrder.{product}
use Rattle.machine_steps.specs.Layout.{Layout, count_passing, owned_by, size_of}
use Rattle.machine_steps.proofs.Owners.{owned-below}
use Rattle.periodic_runs.specs.declared.runs.Place.{Place}
use Rattle.owner_tables.specs.declared.tables.Tables.TheInside.{Inside}
use Rattle.owner_tables.specs.Alike.{leader}
use Rattle.owner_tables.specs.Columns.{ColumnView, address_at, extents_along, part_in, parts_at, place_of}
use Rattle.owner_tables.specs.Stretches.{AreEven, IsStretch}
use Rattle.owner_tables.proofs.TableLaws.{AreLooked}

-- ---- places

-- one more
pub even-more : (places : List Place) (number step done apart : ℕ) → AreEven places number step done apart
    → (place_of places (number + (done + 1) * step)).part ≡ (place_of places number).part
    → (place_of places (number + (done + 1) * step)).rank ≡ (place_of places number).rank + (done + 1) * apart
    → AreEven places number step (done + 1) apart
even-more places number step done apart so part rank k few = by_case (cases_lt done k)
  where
    by_case : (done < k) ⊎ (k ≤ done)
        → ((place_of places (number + k * step)).part ≡ (place_of places number).part)
        × ((place_of places (number + k * step)).rank ≡ (place_of places number).rank + k * apart)
    by_case (inl last) =
        let here : k ≡ done + 1 = omega (arith, last, few) in (
          ap (λ n. (place_of places (number + n * step)).part) here ∙ part,
          ap (λ n. (place_of places (number + n * step)).rank) here ∙ rank ∙ ap (λ n. (place_of places number).rank + n * apart) (sym here),
        )
    by_case (inr before) = so k before

-- ---- elements

module _ (column : ColumnView) (columns : List ColumnView) (node at : ℕ) (some : 1 ≤ column.extent) (within : at < product (extents_along (column ∷ columns))) where
  pub rest-inside : at / column.extent < product (extents_along columns)
  rest-inside = div_below at column.extent (product (extents_along columns)) (omega (arith, some)) (omega (arith, within))

  -- a number by its place and what is left
  product-inside : (n r : ℕ) → n < product (extents_along columns) → r < column.extent → n * column.extent + r < column.extent * product (extents_along columns)
  product-inside n r less small =
      let whole : (n + 1) * column.extent ≤ product (extents_along columns) * column.extent = mul-le-mul_right column.extent (omega (arith, less)) in
      omega (arith, whole, small)

  -- where they differ in their places on the first dimension
  pub stretch-along : (step others apart : ℕ) → at % column.extent + others * step < column.extent
      → AreEven column.places (at % column.extent) step others apart
      → IsStretch (column ∷ columns) node at step others (apart * get_or column.strides node 0)
  stretch-along step others apart inside even = record {
    inside = λ k few.
        let all = product-inside (at / column.extent) (at % column.extent + k * step) rest-inside (place k few) in omega (arith, all, number k);
    parts = λ k few.
        ap (λ n. part_in column n + parts_at columns ((at + k * step) / column.extent)) (on k few)
        ∙ ap (λ n. part_in column (at % column.extent + k * step) + parts_at columns n) (left k few)
        ∙ ap (λ n. n + parts_at columns (at / column.extent)) (even k few).0;
    addresses = λ k few.
        ap (λ n. (place_of column.places n).rank * stride + address_at node columns ((at + k * step) / column.extent)) (on k few)
        ∙ ap (λ n. (place_of column.places (at % column.extent + k * step)).rank * stride + address_at node columns n) (left k few)
        ∙ ap (λ n. n * stride + address_at node columns (at / column.extent)) (even k few).1
        ∙ put_together (place_of column.places (at % column.extent)).rank k apart stride (address_at node columns (at / column.extent));
  }
    where
      stride : ℕ
      stride = get_or column.strides node 0

      number : (k : ℕ) → at + k * step ≡ at / column.extent * column.extent + (at % column.extent + k * step)
      number k = let whole = div-add-mod' at column.extent in omega (arith, whole)

      place : (k : ℕ) → k ≤ others → at % column.extent + k * step < column.extent
      place k few = let less : k * step ≤ others * step = mul-le-mul_right step few in omega (arith, less, inside)

      on : (k : ℕ) → k ≤ others → (at + k * step) % column.extent ≡ at % column.extent + k * step
      on k few = ap (λ n. n % column.extent) (number k) ∙ mod-mul-add (at / column.extent) column.extent (at % column.extent + k * step) (place k few)

      left : (k : ℕ) → k ≤ others → (at + k * step) / column.extent ≡ at / column.extent
      left k few = ap (λ n. n / column.extent) (number k) ∙ div-mul-add (at / column.extent) column.extent (at % column.extent + k * step) (place k few)

      put_together : (r k g s a : ℕ) → (r + k * g) * s + a ≡ r * s + a + k * (g * s)
      put_together r k g s a = omega arith

  -- where they have one place on it
  pub stretch-beyond : (step next others apart : ℕ) → step ≡ next * column.extent → IsStretch columns node (at / column.extent) next others apart
      → IsStretch (column ∷ columns) node at step others apart
  stretch-beyond step next others apart is line = record {
    inside = λ k few.
        let all = product-inside (at / column.extent + k * next) (at % column.extent) (line.inside k few) place in omega (arith, all, number k);
    parts = λ k few.
        ap (λ n. part_in column n + parts_at columns ((at + k * step) / column.extent)) (on k)
        ∙ ap (λ n. part_in column (at % column.extent) + n) (ap (parts_at columns) (left k) ∙ line.parts k few);
    addresses = λ k few.
        ap (λ n. (place_of column.places n).rank * get_or column.strides node 0 + address_at node columns ((at + k * step) / column.extent)) (on k)
        ∙ ap (λ n. (place_of column.places (at % column.extent)).rank * get_or column.strides node 0 + n) (ap (address_at node columns) (left k) ∙ line.addresses k few)
        ∙ put_together ((place_of column.places (at % column.extent)).rank * get_or column.strides node 0) (address_at node columns (at / column.extent)) (k * apart);
  }
    where
      place : at % column.extent < column.extent
      place = mod_below at column.extent (omega (arith, some))

      number : (k : ℕ) → at + k * step ≡ (at / column.extent + k * next) * column.extent + at % column.extent
      number k =
          let whole = div-add-mod' at column.extent in
          let steps : k * step ≡ k * (next * column.extent) = ap (λ s. k * s) is in
          omega (arith, whole, steps)

      on : (k : ℕ) → (at + k * step) % column.extent ≡ at % column.extent
      on k = ap (λ n. n % column.extent) (number k) ∙ mod-mul-add (at / column.extent + k * next) column.extent (at % column.extent) place

      left : (k : ℕ) → (at + k * step) / column.extent ≡ at / column.extent + k * next
      left k = ap (λ n. n / column.extent) (number k) ∙ div-mul-add (at / column.extent + k * next) column.extent (at % column.extent) place

      put_together : (r a n : ℕ) → r + (a + n) ≡ r + a + n
      put_together r a n = omega arith

-- ---- the dimensions from one on

module _ (columns : List ColumnView) (i : ℕ) (column : ColumnView) (node number : ℕ) (below : i < length columns) (is : column ≡ get_or columns i column)
    (some : 1 ≤ column.extent) (within : number < product (extents_along (drop i columns))) where
  cut : drop i columns ≡ column ∷ drop (i + 1) columns
  cut = drop_more columns i column below ∙ ap (λ c. c ∷ drop (i + 1) columns) (sym is)

  inside : number < product (extents_along (column ∷ drop (i + 1) columns))
  inside = subst (λ cs. number < product (extents_along cs)) cut within

  pub left-inside : (left extent : ℕ) → extent ≡ column.extent → left ≡ number / extent → left < product (extents_along (drop (i + 1) columns))
  left-inside left extent wide same =
      let here : left ≡ number / column.extent = same ∙ ap (λ e. number / e) wide in
      let all = rest-inside column (drop (i + 1) columns) node number some inside in omega (arith, here, all)

  pub found-along : (place extent step others apart : ℕ) → extent ≡ column.extent → place ≡ number % extent → place + others * step < column.extent
      → (gap : ℕ) × (AreEven column.places place step others gap) × (apart ≡ gap * get_or column.strides node 0)
      → IsStretch (drop i columns) node number step others apart
  found-along place extent step others apart wide same few found =
      let here : place ≡ number % column.extent = same ∙ ap (λ e. number % e) wide in
      let stretch : IsStretch (column ∷ drop (i + 1) columns) node number step others (found.0 * get_or column.strides node 0) =
      stretch-along column (drop (i + 1) columns) node number some inside step others found.0 (omega (arith, here, few))
      (subst (λ p. AreEven column.places p step others found.0) here found.1) in
      subst (λ cs. IsStretch cs node number step others apart) (sym cut)
      (subst (λ a. IsStretch (column ∷ drop (i + 1) columns) node number step others a) (sym found.2) stretch)

  pub found-beyond : (left extent step next extent' others apart : ℕ) → extent ≡ column.extent → left ≡ number / extent → extent' ≡ column.extent
      → step ≡ next * extent' → IsStretch (drop (i + 1) columns) node left next others apart → IsStretch (drop i columns) node number step others apart
  found-beyond left extent step next extent' others apart wide same wide' steps line =
      let here : left ≡ number / column.extent = same ∙ ap (λ e. number / e) wide in
      subst (λ cs. IsStretch cs node number step others apart) (sym cut)
      (stretch-beyond column (drop (i + 1) columns) node number some inside step next others apart (steps ∙ ap (λ e. next * e) wide')
      (subst (λ n. IsStretch (drop (i + 1) columns) node n next others apart) here line))

-- ---- what a node owns

-- an element with the least owner of one that the node owns, and whose places add so much more to a local address
pub stretch-held : (t : Inside) (cs : List ColumnView) (layout : Layout) (nodes : ℕ) → AreLooked t cs layout nodes → (node at other apart first : ℕ) → node < nodes
    → owned_by layout node at ≡ true → count_passing (owned_by layout node) 0 at ≡ first → other < size_of layout
    → parts_at cs other ≡ parts_at cs at → address_at node cs other ≡ address_at node cs at + apart
    → (owned_by layout node other ≡ true) × (count_passing (owned_by layout node) 0 other ≡ first + apart)
stretch-held t cs layout nodes l node at other apart first within owned is inside parts address = (held, counted)
  where
    below : at < size_of layout
    below = owned-below layout node at owned

    held : owned_by layout node other ≡ true
    held =
        sym (l.owns node other within inside)
        ∙ ap (λ n. n == leader layout.mapping nodes node)
        (sym (l.least other inside) ∙ ap (λ n. t.numbers.base + n) parts ∙ l.least at below)
        ∙ l.owns node at within below ∙ owned

    counted : count_passing (owned_by layout node) 0 other ≡ first + apart
    counted =
        sym (l.address node other within inside held) ∙ address ∙ ap (λ n. n + apart) (l.address node at within below owned ∙ is)
