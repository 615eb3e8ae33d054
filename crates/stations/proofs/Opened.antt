-- Stations that are opened one after the other over the ends of all pairs.
use Rattle.std.proofs.Common.{◌≡◌, ℕ, ◌+◌, List, [], ◌∷◌, ◌++◌, length, map, sym, ap, ◌∙◌, subst, ⊎_elim, length-append, append_assoc, append-nil, arith}
use Rattle.std.specs.Prelude.{Some, slice_get}
use Rattle.std.proofs.lemmas.List.{length-map, map-append, nil_from_length}
use Rattle.atomic_table.specs.Seated.{TableId}
use Rattle.pair_mailbox.specs.Ends.{Outgoing, Incoming}
use Rattle.all_pairs.specs.Rows.{out_queue, in_queue, out_queues, in_queues, at_of, ArePairs, AreOpenPairs}
use Rattle.stations.specs.Stations.{StationState, Fixed, fixed, AreUnusedOuts, AreUnusedIns}
use Rattle.stations.specs.Joined.{AreJoined}
use Rattle.stations.proofs.Lists.{map_twice, got_seam, got_more, got_of_map}

-- the stations ss of the nodes `from`, and the rows of ends that are left for the nodes after them
pub record AreOpened {N : Type 0} (count : ℕ) (from : List N) (outs_left : List (List Outgoing)) (ins_left : List (List Incoming)) (ss : List (StationState N)) : Type 0 where
  pub outs : List (List Outgoing)
  pub ins : List (List Incoming)
  pub pairs : AreOpenPairs count outs ins
  pub outs_are : outs ≡ map (λ s. s.outs) ss ++ outs_left
  pub ins_are : ins ≡ map (λ s. s.ins) ss ++ ins_left
  pub openings : from ≡ map (λ s. s.opening) ss
  pub numbered : (p : ℕ) (s : StationState N) → slice_get ss p ≡ Some s → s.id ≡ p

module _ {N : Type 0} {count : ℕ} {from : List N} {ol : List (List Outgoing)} {il : List (List Incoming)} {ss : List (StationState N)} (h : AreOpened count from ol il ss) where
  abbrev outs_of : List (StationState N) → List (List Outgoing)
  outs_of = map (λ s. s.outs)

  abbrev ins_of : List (StationState N) → List (List Incoming)
  ins_of = map (λ s. s.ins)

  as_many : length from ≡ length ss
  as_many = ap length h.openings ∙ length-map ss (λ s. s.opening)

  outs_count : length from + length ol ≡ count
  outs_count = ap (λ k. k + length ol) (as_many ∙ sym (length-map ss (λ s. s.outs))) ∙ sym (length-append (outs_of ss) ol) ∙ ap length (sym h.outs_are) ∙ h.pairs.outs_square.many

  ins_count : length from + length il ≡ count
  ins_count = ap (λ k. k + length il) (as_many ∙ sym (length-map ss (λ s. s.ins))) ∙ sym (length-append (ins_of ss) il) ∙ ap length (sym h.ins_are) ∙ h.pairs.ins_square.many

  -- the rows of the next node
  module _ {o : List Outgoing} {ol' : List (List Outgoing)} {i : List Incoming} {il' : List (List Incoming)} (eo : ol ≡ o ∷ ol') (ei : il ≡ i ∷ il') where
    next_out : slice_get h.outs (length from) ≡ Some o
    next_out = ap (λ l. slice_get l (length from)) (h.outs_are ∙ ap (λ l. outs_of ss ++ l) eo)
        ∙ ap (λ k. slice_get (outs_of ss ++ o ∷ ol') k) (as_many ∙ sym (length-map ss (λ s. s.outs))) ∙ got_seam (outs_of ss) o ol'

    next_in : slice_get h.ins (length from) ≡ Some i
    next_in = ap (λ l. slice_get l (length from)) (h.ins_are ∙ ap (λ l. ins_of ss ++ l) ei)
        ∙ ap (λ k. slice_get (ins_of ss ++ i ∷ il') k) (as_many ∙ sym (length-map ss (λ s. s.ins))) ∙ got_seam (ins_of ss) i il'

    pub out_wide : length o ≡ count
    out_wide = h.pairs.outs_square.wide (length from) o next_out

    pub in_wide : length i ≡ count
    in_wide = h.pairs.ins_square.wide (length from) i next_in

    pub out_unused : AreUnusedOuts (length from) o
    out_unused q e at = h.pairs.outs_fresh (length from) q e (ap (λ r. at_of r q) next_out ∙ at)

    pub in_unused : AreUnusedIns (length from) i
    in_unused p e at = h.pairs.ins_fresh (length from) p e (ap (λ r. at_of r p) next_in ∙ at)

    pub opened_more : (n : N) (s : StationState N) (ss' : List (StationState N)) → s.id ≡ length from → s.opening ≡ n → s.outs ≡ o → s.ins ≡ i → ss' ≡ ss ++ s ∷ []
        → AreOpened count (from ++ n ∷ []) ol' il' ss'
    opened_more n s ss' id opening outs ins e = subst (AreOpened count (from ++ n ∷ []) ol' il') (sym e) (record {
      outs = h.outs;
      ins = h.ins;
      pairs = h.pairs;
      outs_are = h.outs_are ∙ ap (λ l. outs_of ss ++ l) (eo ∙ ap (λ r. r ∷ ol') (sym outs)) ∙ sym (append_assoc (outs_of ss) (s.outs ∷ []) ol')
          ∙ ap (λ l. l ++ ol') (sym (map-append (λ (u : StationState N). u.outs) ss (s ∷ [])));
      ins_are = h.ins_are ∙ ap (λ l. ins_of ss ++ l) (ei ∙ ap (λ r. r ∷ il') (sym ins)) ∙ sym (append_assoc (ins_of ss) (s.ins ∷ []) il')
          ∙ ap (λ l. l ++ il') (sym (map-append (λ (u : StationState N). u.ins) ss (s ∷ [])));
      openings = ap (λ l. l ++ n ∷ []) h.openings ∙ ap (λ m. map (λ (u : StationState N). u.opening) ss ++ m ∷ []) (sym opening)
          ∙ sym (map-append (λ (u : StationState N). u.opening) ss (s ∷ []));
      numbered = λ p t at. ⊎_elim (λ w. h.numbered p t w)
          (λ (w : (p ≡ length ss) × (s ≡ t)). ap (λ (u : StationState N). u.id) (sym w.1) ∙ id ∙ as_many ∙ sym w.0)
          (got_more ss s t p at);
    })

  -- where no row is left the stations are joined
  joined : length from ≡ count → AreJoined from (map fixed ss)
  joined many =
      let outs_many : length from + length ol ≡ count = outs_count in
      let ins_many : length from + length il ≡ count = ins_count in
      let no_outs : ol ≡ [] = nil_from_length ol (omega (arith, outs_many, many)) in
      let no_ins : il ≡ [] = nil_from_length il (omega (arith, ins_many, many)) in
      let outs : h.outs ≡ outs_of ss = h.outs_are ∙ ap (λ l. outs_of ss ++ l) no_outs ∙ append-nil (outs_of ss) in
      let ins : h.ins ≡ ins_of ss = h.ins_are ∙ ap (λ l. ins_of ss ++ l) no_ins ∙ append-nil (ins_of ss) in
      let wide : count ≡ length (map fixed ss) = sym many ∙ as_many ∙ sym (length-map ss fixed) in
      let out_rows : out_queues h.outs ≡ map (λ (f : Fixed N). f.outs) (map fixed ss) =
      ap out_queues outs ∙ map_twice (λ (s : StationState N). s.outs) (map out_queue) ss ∙ sym (map_twice fixed (λ (f : Fixed N). f.outs) ss) in
      let in_rows : in_queues h.ins ≡ map (λ (f : Fixed N). f.ins) (map fixed ss) =
      ap in_queues ins ∙ map_twice (λ (s : StationState N). s.ins) (map in_queue) ss ∙ sym (map_twice fixed (λ (f : Fixed N). f.ins) ss) in
      record {
        openings = h.openings ∙ sym (map_twice fixed (λ (f : Fixed N). f.opening) ss);
        numbered = λ p f at. let w = got_of_map fixed ss p f at in ap (λ (g : Fixed N). g.id) (sym w.2) ∙ h.numbered p w.0 w.1;
        pairs = subst (λ (y : ℕ × List (List TableId) × List (List TableId)). ArePairs y.0 y.1 y.2) (λ t. (wide t, out_rows t, in_rows t)) h.pairs.pairs;
      }

  pub joined_all : (all rest : List N) → all ≡ from ++ rest → length rest ≡ 0 → length all ≡ count → AreJoined all (map fixed ss)
  joined_all all rest e none many =
      let same : all ≡ from = e ∙ ap (λ l. from ++ l) (nil_from_length rest none) ∙ append-nil from in
      subst (λ l. AreJoined l (map fixed ss)) (sym same) (joined (ap length (sym same) ∙ many))
