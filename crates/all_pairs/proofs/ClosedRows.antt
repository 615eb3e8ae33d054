-- The closed queues of all pairs.
use Rattle.std.proofs.Common.{◌≡◌, ℕ, zero, suc, ◌+◌, ◌*◌, ◌<◌, List, [], ◌∷◌, ◌++◌, length, map, replicate, sym, refl, ap, ◌∙◌, subst, arith, length-append}
use Rattle.std.specs.Prelude.{Some, slice_get}
use Rattle.std.specs.Option.{option_map}
use Rattle.std.proofs.lemmas.List.{length-map}
use Rattle.std.proofs.lemmas.Option.{slice_get_within, none-some, same_Some}
use Rattle.pair_mailbox.specs.Ends.{Outgoing, Incoming, Exchanged}
use Rattle.all_pairs.specs.Rows.{out_queue, in_queue, out_queues, in_queues, at, joined, ArePairs, AreClosedPairs}
use Rattle.all_pairs.specs.RowSteps.{row_joined, joined_by, transposed, AreClosedRows}
use Rattle.all_pairs.proofs.Tables.{AreWide, get_front, get_after, one_table, row_at, at_map, wide_of_map}
use Rattle.all_pairs.proofs.Transposition.{transposed_at, columns_count}

row_count : (os : List Outgoing) (is : List Incoming) → length os ≡ length is → length (row_joined os is) ≡ length os
row_count [] is e = refl
row_count (o ∷ os) [] e = absurd (omega (arith, e))
row_count (o ∷ os) (i ∷ is) e = ap suc (row_count os is (omega (arith, e)))

row_place : (os : List Outgoing) (is : List Incoming) (q : ℕ) (o : Outgoing) (i : Incoming) → slice_get os q ≡ Some o → slice_get is q ≡ Some i
    → slice_get (row_joined os is) q ≡ Some (joined o i)
row_place [] is q o i eo ei = absurd (none-some o eo)
row_place (x ∷ os) [] q o i eo ei = absurd (none-some i ei)
row_place (x ∷ os) (y ∷ is) zero o i eo ei =
    let a : x ≡ o = same_Some x o eo in
    let b : y ≡ i = same_Some y i ei in
    λ t. Some (joined (a t) (b t))
row_place (x ∷ os) (y ∷ is) (suc q) o i eo ei = row_place os is q o i eo ei

rows_count : (n : ℕ) (outs : List (List Outgoing)) (rows : List (List Incoming)) → length outs ≡ length rows → AreWide n outs → AreWide n rows
    → length (joined_by row_joined outs rows) ≡ length outs * n
rows_count n [] rows e wo wi = omega arith
rows_count n (o ∷ outs) [] e wo wi = absurd (omega (arith, e))
rows_count n (o ∷ outs) (i ∷ rows) e wo wi =
    let first : length (row_joined o i) ≡ n = row_count o i (wo 0 o refl ∙ sym (wi 0 i refl)) ∙ wo 0 o refl in
    let rest : length (joined_by row_joined outs rows) ≡ length outs * n =
    rows_count n outs rows (omega (arith, e)) (λ a row at. wo (suc a) row at) (λ a row at. wi (suc a) row at)
    in
    let both : length (row_joined o i ++ joined_by row_joined outs rows) ≡ length (row_joined o i) + length (joined_by row_joined outs rows) =
    length-append (row_joined o i) (joined_by row_joined outs rows)
    in
    omega (arith, first, rest, both)

rows_place : (n : ℕ) (outs : List (List Outgoing)) (rows : List (List Incoming)) (p q : ℕ) (os : List Outgoing) (is : List Incoming) → AreWide n outs → AreWide n rows
    → slice_get outs p ≡ Some os → slice_get rows p ≡ Some is → q < n → slice_get (joined_by row_joined outs rows) (p * n + q) ≡ slice_get (row_joined os is) q
rows_place n [] rows p q os is wo wi eo ei lt = absurd (none-some os eo)
rows_place n (o ∷ outs) [] p q os is wo wi eo ei lt = absurd (none-some is ei)
rows_place n (o ∷ outs) (i ∷ rows) zero q os is wo wi eo ei lt =
    let a : o ≡ os = same_Some o os eo in
    let b : i ≡ is = same_Some i is ei in
    let count : length (row_joined o i) ≡ n = row_count o i (wo 0 o refl ∙ sym (wi 0 i refl)) ∙ wo 0 o refl in
    let here : 0 * n + q ≡ q = omega arith in
    ap (slice_get (row_joined o i ++ joined_by row_joined outs rows)) here
    ∙ get_front (row_joined o i) (joined_by row_joined outs rows) q (omega (arith, count, lt))
    ∙ (λ t. slice_get (row_joined (a t) (b t)) q)
rows_place n (o ∷ outs) (i ∷ rows) (suc p) q os is wo wi eo ei lt =
    let count : length (row_joined o i) ≡ n = row_count o i (wo 0 o refl ∙ sym (wi 0 i refl)) ∙ wo 0 o refl in
    let there : suc p * n + q ≡ length (row_joined o i) + (p * n + q) = omega (arith, count) in
    ap (slice_get (row_joined o i ++ joined_by row_joined outs rows)) there
    ∙ get_after (row_joined o i) (joined_by row_joined outs rows) (p * n + q)
    ∙ rows_place n outs rows p q os is (λ a row at. wo (suc a) row at) (λ a row at. wi (suc a) row at) eo ei lt

module _ (outs : List (List Outgoing)) (ins : List (List Incoming)) (pairs : ArePairs (length outs) (out_queues outs) (in_queues ins)) where
  pub ins_many : length ins ≡ length outs
  ins_many = sym (length-map ins (map in_queue)) ∙ pairs.ins_square.many

  pub ins_wide : AreWide (length ins) ins
  ins_wide a row at = wide_of_map in_queue (length outs) ins pairs.ins_square.wide a row at ∙ sym ins_many

  -- the ends of targets transposed have the queues of the ends of sources
  pub one_table_of_queues : (rows : List (List Incoming)) → rows ≡ transposed (replicate (length ins) []) ins → out_queues outs ≡ in_queues rows
  one_table_of_queues rows e =
      let same : (p q : ℕ) → at ins q p ≡ at rows p q = λ p q. sym (transposed_at (length ins) ins q p ins_wide) ∙ ap (λ l. at l p q) (sym e) in
      let count : length rows ≡ length outs = ap length e ∙ columns_count (length ins) ins ∙ ins_many in
      one_table (out_queues outs) (in_queues rows) (length-map outs (map out_queue) ∙ sym count ∙ sym (length-map rows (map in_queue)))
      (λ p q. pairs.one_queue p q ∙ at_map in_queue ins q p ∙ ap (option_map in_queue) (same p q) ∙ sym (at_map in_queue rows p q))

  pub pairs_closed : (rows : List (List Incoming)) (closed : List Exchanged) → rows ≡ transposed (replicate (length ins) []) ins → AreClosedRows [] outs rows closed
      → AreClosedPairs outs ins closed
  pairs_closed rows closed e h =
      let same : (p q : ℕ) → at ins q p ≡ at rows p q = λ p q. sym (transposed_at (length ins) ins q p ins_wide) ∙ ap (λ l. at l p q) (sym e) in
      let count : length rows ≡ length outs = ap length e ∙ columns_count (length ins) ins ∙ ins_many in
      let outs_wide : AreWide (length outs) outs = wide_of_map out_queue (length outs) outs pairs.outs_square.wide in
      let queues_wide : AreWide (length outs) (in_queues rows) = subst (λ l. AreWide (length outs) l) (one_table_of_queues rows e) pairs.outs_square.wide in
      let rows_wide : AreWide (length outs) rows = wide_of_map in_queue (length outs) rows queues_wide in
      record {
        many = ap length h.appended ∙ rows_count (length outs) outs rows (sym count) outs_wide rows_wide;
        ends = λ p q o i eo ei.
            let out = row_at outs p q o eo in
            let inn = row_at rows p q i (sym (same p q) ∙ ei) in
            let near : q < length out.0 = slice_get_within out.0 q o out.2 in
            let width : length out.0 ≡ length outs = outs_wide p out.0 out.1 in (
              ap (λ l. slice_get l (p * length outs + q)) h.appended ∙ rows_place (length outs) outs rows p q out.0 inn.0 outs_wide rows_wide out.1 inn.1 (omega (arith, near, width))
                  ∙ row_place out.0 inn.0 q o i out.2 inn.2,
              h.tied p out.0 inn.0 out.1 inn.1 q o i out.2 inn.2,
            );
      }
