-- Rows of ends of queues that have just been opened.
use Rattle.std.proofs.Common.{◌≡◌, ℕ, ◌+◌, List, [], ◌∷◌, ◌++◌, length, map, replicate, sym, ap, ◌∙◌, subst, ⊎_elim, length-append}
use Rattle.std.specs.Prelude.{Some, slice_get}
use Rattle.std.specs.Option.{option_map}
use Rattle.std.proofs.lemmas.List.{length-map, map-append}
use Rattle.pair_mailbox.specs.Ends.{Outgoing, Incoming}
use Rattle.all_pairs.specs.Routes.{route}
use Rattle.all_pairs.specs.Rows.{out_queue, in_queue, out_queues, in_queues, at, IsSquare, AreOpenPairs}
use Rattle.all_pairs.specs.RowSteps.{IsOpenRow, transposed}
use Rattle.all_pairs.proofs.Tables.{AreWide, get_more, at_more, wide_more, at_map, wide_map}
use Rattle.all_pairs.proofs.Transposition.{transposed_at, columns_wide, columns_count}

pub row_more : (from n : ℕ) (outs outs' : List Outgoing) (ins ins' : List Incoming) (o : Outgoing) (i : Incoming) → IsOpenRow from n outs ins
    → outs' ≡ outs ++ o ∷ [] → ins' ≡ ins ++ i ∷ [] → o.queue ≡ i.queue → o.route ≡ route from n → o.sent ≡ [] → i.route ≡ route from n → i.taken ≡ []
    → IsOpenRow from (n + 1) outs' ins'
row_more from n outs outs' ins ins' o i h eo ei queue ro so ri ti =
    subst (λ (y : List Outgoing × List Incoming). IsOpenRow from (n + 1) y.0 y.1) (λ t. (sym eo t, sym ei t)) (record {
      many = length-append outs (o ∷ []) ∙ ap (λ k. k + 1) h.many;
      one_queue = map-append out_queue outs (o ∷ []) ∙ ap (λ l. l ++ o.queue ∷ []) h.one_queue ∙ ap (λ q. map in_queue ins ++ q ∷ []) queue
          ∙ sym (map-append in_queue ins (i ∷ []));
      outs_fresh = λ q u e. ⊎_elim (λ w. h.outs_fresh q u w)
          (λ (w : (q ≡ length outs) × (o ≡ u)). subst (λ (y : ℕ × Outgoing). (y.1.route ≡ route from y.0) × (y.1.sent ≡ [])) (λ t. (sym (w.0 ∙ h.many) t, w.1 t)) (ro, so))
          (get_more outs o u q e);
      ins_fresh = λ q u e. ⊎_elim (λ w. h.ins_fresh q u w)
          (λ (w : (q ≡ length ins) × (i ≡ u)). let count : length ins ≡ n = sym (length-map ins in_queue) ∙ ap length (sym h.one_queue) ∙ length-map outs out_queue ∙ h.many in
          subst (λ (y : ℕ × Incoming). (y.1.route ≡ route from y.0) × (y.1.taken ≡ [])) (λ t. (sym (w.0 ∙ count) t, w.1 t)) (ri, ti)) (get_more ins i u q e);
    })

-- the rows of the first nodes, both kinds by the source
pub record AreOpenRows (count made : ℕ) (outs : List (List Outgoing)) (ins : List (List Incoming)) : Type 0 where
  pub outs_many : length outs ≡ made
  pub ins_many : length ins ≡ made
  pub outs_wide : AreWide count outs
  pub ins_wide : AreWide count ins
  pub one_queue : out_queues outs ≡ in_queues ins
  pub outs_fresh : (p q : ℕ) (o : Outgoing) → at outs p q ≡ Some o → (o.route ≡ route p q) × (o.sent ≡ [])
  pub ins_fresh : (p q : ℕ) (i : Incoming) → at ins p q ≡ Some i → (i.route ≡ route p q) × (i.taken ≡ [])

pub rows_more : (count made : ℕ) (outs outs' : List (List Outgoing)) (ins ins' : List (List Incoming)) (o : List Outgoing) (i : List Incoming) → AreOpenRows count made outs ins
    → IsOpenRow made count o i → outs' ≡ outs ++ o ∷ [] → ins' ≡ ins ++ i ∷ [] → AreOpenRows count (made + 1) outs' ins'
rows_more count made outs outs' ins ins' o i h r eo ei =
    let wide : length i ≡ count = sym (length-map i in_queue) ∙ ap length (sym r.one_queue) ∙ length-map o out_queue ∙ r.many in
    subst (λ (y : List (List Outgoing) × List (List Incoming)). AreOpenRows count (made + 1) y.0 y.1) (λ t. (sym eo t, sym ei t)) (record {
      outs_many = length-append outs (o ∷ []) ∙ ap (λ k. k + 1) h.outs_many;
      ins_many = length-append ins (i ∷ []) ∙ ap (λ k. k + 1) h.ins_many;
      outs_wide = wide_more count outs o h.outs_wide r.many;
      ins_wide = wide_more count ins i h.ins_wide wide;
      one_queue = map-append (map out_queue) outs (o ∷ []) ∙ ap (λ l. l ++ map out_queue o ∷ []) h.one_queue ∙ ap (λ q. in_queues ins ++ q ∷ []) r.one_queue
          ∙ sym (map-append (map in_queue) ins (i ∷ []));
      outs_fresh = λ p q u e. ⊎_elim (λ w. h.outs_fresh p q u w)
          (λ (w : (p ≡ length outs) × (slice_get o q ≡ Some u)). subst (λ k. (u.route ≡ route k q) × (u.sent ≡ [])) (sym (w.0 ∙ h.outs_many)) (r.outs_fresh q u w.1))
          (at_more outs o p q u e);
      ins_fresh = λ p q u e. ⊎_elim (λ w. h.ins_fresh p q u w)
          (λ (w : (p ≡ length ins) × (slice_get i q ≡ Some u)). subst (λ k. (u.route ≡ route k q) × (u.taken ≡ [])) (sym (w.0 ∙ h.ins_many)) (r.ins_fresh q u w.1))
          (at_more ins i p q u e);
    })

rows_wide : (count made : ℕ) (outs : List (List Outgoing)) (ins : List (List Incoming)) → AreOpenRows count made outs ins → made ≡ count → AreWide (length ins) ins
rows_wide count made outs ins h e a row at = h.ins_wide a row at ∙ sym (h.ins_many ∙ e)

-- the rows of all nodes, those of the targets transposed
pub pairs_open : (count made : ℕ) (outs : List (List Outgoing)) (rows ins : List (List Incoming)) → AreOpenRows count made outs rows → made ≡ count
    → ins ≡ transposed (replicate (length rows) []) rows → AreOpenPairs count outs ins
pairs_open count made outs rows ins h m e =
    let wide : AreWide (length rows) rows = rows_wide count made outs rows h m in
    let many : length rows ≡ count = h.ins_many ∙ m in
    let same : (p q : ℕ) → at ins q p ≡ at rows p q = λ p q. ap (λ l. at l q p) e ∙ transposed_at (length rows) rows p q wide in
    let outs_square : IsSquare count outs = record { many = h.outs_many ∙ m; wide = h.outs_wide } in
    let ins_square : IsSquare count ins = record {
      many = ap length e ∙ columns_count (length rows) rows ∙ many;
      wide = subst (λ (y : ℕ × List (List Incoming)). AreWide y.0 y.1) (λ t. (many t, sym e t)) (columns_wide (length rows) rows wide);
    } in
    record {
      outs_square = outs_square;
      ins_square = ins_square;
      pairs = record {
        outs_square = record { many = length-map outs (map out_queue) ∙ outs_square.many; wide = wide_map out_queue count outs outs_square.wide };
        ins_square = record { many = length-map ins (map in_queue) ∙ ins_square.many; wide = wide_map in_queue count ins ins_square.wide };
        one_queue = λ p q. ap (λ l. at l p q) h.one_queue ∙ at_map in_queue rows p q ∙ ap (option_map in_queue) (sym (same p q)) ∙ sym (at_map in_queue ins q p);
      };
      outs_fresh = h.outs_fresh;
      ins_fresh = λ q p i at. h.ins_fresh p q i (sym (same p q) ∙ at);
    }
