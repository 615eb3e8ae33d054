-- How nodes number their letters, whatever they take.
use Rattle.std.proofs.Common.{◌≡◌, ℕ, zero, suc, ◌+◌, ◌*◌, ◌%◌, ◌^◌, ◌<◌, ◌≤◌, ◌==◌, Bool, true, false, if◌then◌else◌, ℤ, List, [], ◌∷◌, map, length, get_or, set, get_or-set_other, get_or-set_same, Option, Some, None, Result, Ok, Err, nat_lt, refl, sym, ◌∙◌, ap, subst, arith, ⊎_elim, eq-eqb}
use Rattle.std.specs.List.{range_with_len, filter, slice_get}
use Rattle.std.proofs.lemmas.Bool.{eqb-true, cases_eq, ne_eqb}
use Rattle.std.proofs.lemmas.List.{get_or-replicate, length-set, length-replicate}
use Rattle.std.proofs.Math.Nat.{mod-add-mod}
use Rattle.hpf_base.specs.declared.node.NodeId.{NodeId}
use Rattle.node_law.specs.declared.act.Act.TheVariants.{Send, Take}
use Rattle.node_law.specs.NodeSteps.{NodeSteps, IsMoveOf, Move, Worked, Sent, Taken, AreMovesOf, after_all, node_after, sent, taken}
use Rattle.node_law.specs.Phases.{next_number}
use Rattle.storage.specs.Storage.{Spot, row_of}
use Rattle.machine_steps.specs.Agrees.{first_own, standing}
use Rattle.machine_steps.specs.Instr.{Status, Running, Finished, Faulted, Tuples, Fold, Rounds, Remapping, Item, Text, Elements, Instr, Local as LocalInstr, Fetch, Store, Par, Verdict, Reduce, MakeCopy, FoldCopy, LastCopy, Scan, Remap, Print}
use Rattle.machine_steps.specs.Layout.{sizes}
use Rattle.machine_steps.specs.Machine.{Machine, instr_at, on, stay, earlier, lies_so, remapped}
use Rattle.machine_steps.specs.Message.{Part, par_part, reduce_part, gather_part, fetch_part, message, remap_message}
use Rattle.machine_steps.specs.Tree.{levels_of, scan_sends, tree_sends}
use Rattle.letters.specs.declared.letter.Letter.{Letter}
use Rattle.letters.specs.Parcel.{Parcel}
use Rattle.machine_steps.specs.Node.{FaultValues, Node, parcel, Stage, Ready, Passing, Passed, settled, act_of, letter_of as letter_by, after_send_by, after_take_by, opened, opened_on, no_values, kept_values, values_kept, option_values, values_option, positioned_values, values_positioned, join_options, later, verdict_done, reduce_ended, fold_ended, last_ended, own_fold, own_last, tree_absorbed, part_sends, part_opened, remap_sends, local_read, pieces_by, held_or_received, ready, tree_next, fetch_begun, fetch_done, reduce_begun, reduce_done, print_begun, print_done, remap_next, begun_by, done_by, worked_by, node_steps, join_all, scan_ended, scan_next, scan_begun, scan_absorbed}

-- all targets are nodes of so many
abbrev pub AreTargets : ℕ → List Parcel → Type 0
AreTargets count [] = Unit {0}
AreTargets count (m ∷ outbox) = (m.to < count) × AreTargets count outbox

abbrev pub AreSources : ℕ → List ℕ → Type 0
AreSources count [] = Unit {0}
AreSources count (p ∷ inbox) = (p < count) × AreSources count inbox

abbrev pub IsWithin : ℕ → Stage → Type 0
IsWithin count Ready = Unit {0}
IsWithin count (Passing outbox inbox) = AreTargets count outbox × AreSources count inbox
IsWithin count Passed = Unit {0}

-- the numbers of the next letters go by how many letters were sent to each node and taken from each
pub record Counts (count number : ℕ) (told heard : ℕ → ℕ) (own many : ℕ) (next_to next_from : List ℕ) : Type 0 where
  pub id : own ≡ number
  pub nodes : many ≡ count
  pub as_many_to : length next_to ≡ count
  pub as_many_from : length next_from ≡ count
  pub to : (q : ℕ) → q < count → get_or next_to q 0 ≡ (told q + 1) % 2 ^ 64
  pub from : (p : ℕ) → p < count → get_or next_from p 0 ≡ (heard p + 1) % 2 ^ 64

targets-listed : (count : ℕ) (P : ℕ → Bool) (body : ℕ → List ℤ) (len lo : ℕ) → lo + len ≤ count → AreTargets count (map (parcel body) (filter P (range_with_len lo len)))
targets-listed count P body zero lo le = tt
targets-listed count P body (suc len) lo le = by_case (P lo) (targets-listed count P body len (lo + 1) (omega arith))
  where
    by_case : (b : Bool) → AreTargets count (map (parcel body) (filter P (range_with_len (lo + 1) len)))
        → AreTargets count (map (parcel body) (if b then lo ∷ filter P (range_with_len (lo + 1) len) else filter P (range_with_len (lo + 1) len)))
    by_case true rest = (omega arith, rest)
    by_case false rest = rest

sources-listed : (count : ℕ) (P : ℕ → Bool) (len lo : ℕ) → lo + len ≤ count → AreSources count (filter P (range_with_len lo len))
sources-listed count P zero lo le = tt
sources-listed count P (suc len) lo le = by_case (P lo) (sources-listed count P len (lo + 1) (omega arith))
  where
    by_case : (b : Bool) → AreSources count (filter P (range_with_len (lo + 1) len))
        → AreSources count (if b then lo ∷ filter P (range_with_len (lo + 1) len) else filter P (range_with_len (lo + 1) len))
    by_case true rest = (omega arith, rest)
    by_case false rest = rest

module _ {C F : Type 0} (count id : ℕ) (told heard : ℕ → ℕ) where
  abbrev pub Numbers : Node C F → Type 0
  Numbers a = Counts count id told heard a.id a.nodes a.next_to a.next_from

  -- a node that sent and took so many letters has their numbers, and passes them to and from nodes alone
  abbrev pub IsNumbered : Node C F → Type 0
  IsNumbered a = Numbers a × IsWithin count a.stage

  settled-numbered : (outbox : List Parcel) (inbox : List ℕ) (a : Node C F) → Numbers a → AreTargets count outbox → AreSources count inbox → IsNumbered (settled a outbox inbox)
  settled-numbered (m ∷ outbox) inbox a h targets sources = (h, (targets, sources))
  settled-numbered [] (p ∷ inbox) a h targets sources = (h, (tt, sources))
  settled-numbered [] [] a h targets sources = (h, tt)

  opened-numbered : (n : ℕ) → n ≡ count → (sends : ℕ → ℕ → Bool) (body : ℕ → List ℤ) (a : Node C F) → Numbers a → IsNumbered (opened_on n sends body a)
  opened-numbered n e sends body a h =
      settled-numbered (map (parcel body) (filter (sends a.id) (range_with_len 0 n))) (filter (λ p. sends p a.id) (range_with_len 0 n)) a h
      (targets-listed count (sends a.id) body n 0 (omega (arith, e))) (sources-listed count (λ p. sends p a.id) n 0 (omega (arith, e)))

  part-numbered : (n : ℕ) → n ≡ count → (part : Part) (a : Node C F) → Numbers a → IsNumbered (part_opened n part a)
  part-numbered n e part a h =
      opened-numbered n e (part_sends n a.layouts part) (λ q. map (local_read a.layouts a.id a.pieces) (message n a.layouts part a.id q))
      (record a { received = no_values n }) h

  tree-numbered : (n : ℕ) → n ≡ count → (finish : Node C F → Node C F) → ((b : Node C F) → Numbers b → IsNumbered (finish b)) → (a : Node C F) → Numbers a → IsNumbered (tree_next n finish a)
  tree-numbered n e finish f a h = by_case (nat_lt a.round (2 * levels_of n))
    where
      by_case : (b : Bool) → IsNumbered (if b then opened n (tree_sends (levels_of n) a.round) (λ q. a.folded) a else finish a)
      by_case true = opened-numbered n e (tree_sends (levels_of n) a.round) (λ q. a.folded) (record a { received = no_values n }) h
      by_case false = f a h

  module _ (faults : FaultValues F) (n : ℕ) (e : n ≡ count) where
    fetch-begun : (r : Result Spot F) (a : Node C F) → IsNumbered a → IsNumbered (fetch_begun n r a)
    fetch-begun (Ok spot) a h = part-numbered n e (fetch_part spot) a h.0
    fetch-begun (Err fault) a h = h

    fetch-done : (r : Result Spot F) (slot : ℕ) (a : Node C F) → IsNumbered a → IsNumbered (fetch_done n r slot a)
    fetch-done (Ok spot) slot a h = (h.0, tt)
    fetch-done (Err fault) slot a h = h

    reduce-begun : (k : ℕ) (tuples : Tuples F) (f : Fold) (slot : ℕ) (a : Node C F) → IsNumbered a → IsNumbered (reduce_begun faults n k tuples f slot a)
    reduce-begun zero tuples f slot a h = part-numbered n e (reduce_part n a.layouts tuples a.control.slots) a h.0
    reduce-begun (suc zero) tuples f slot a h = tree-numbered n e (verdict_done n faults stay 2) (λ b g. (g, tt)) (record a { round = 0; folded = kept_values faults a.kept }) h.0
    reduce-begun (suc (suc k)) tuples f slot a h = tree-numbered n e (reduce_ended n f slot) (λ b g. (g, tt)) (record a { round = 0; folded = option_values a.joined }) h.0

    reduce-done : (k : ℕ) (tuples : Tuples F) (f : Fold) (slot : ℕ) (a : Node C F) → IsNumbered a → IsNumbered (reduce_done faults n k tuples f slot a)
    reduce-done zero tuples f slot a h = (h.0, tt)
    reduce-done (suc zero) tuples f slot a h =
        tree-numbered n e (verdict_done n faults stay 2) (λ b g. (g, tt)) (tree_absorbed n earlier (kept_values faults) (values_kept faults) a) h.0
    reduce-done (suc (suc k)) tuples f slot a h =
        tree-numbered n e (reduce_ended n f slot) (λ b g. (g, tt)) (tree_absorbed n (join_options f.join) option_values values_option a) h.0

    remap-numbered : (new : List Remapping) (rounds : Rounds) (a : Node C F) → Numbers a → IsNumbered (remap_next n new rounds a)
    remap-numbered new rounds a h = by_case (nat_lt a.round (rounds.many a.layouts))
      where
        opens : Node C F
        opens = opened_on n (remap_sends n new rounds a.layouts a.round) (λ q. map (local_read a.layouts a.id a.pieces) (remap_message n a.layouts (remapped new a.layouts) a.id q)) a

        ends : Node C F
        ends = ready n (record a {
          control = on a.control;
          substep = 0;
          layouts = remapped new a.layouts;
          pieces = pieces_by (remapped new a.layouts) a.id (held_or_received n a.layouts
              (λ p. remap_message n a.layouts (remapped new a.layouts) p a.id) a.id a.pieces a.received) 0 (sizes a.layouts);
        })

        by_case : (b : Bool) → IsNumbered (if b then opens else ends)
        by_case true = opened-numbered n e (remap_sends n new rounds a.layouts a.round)
            (λ q. map (local_read a.layouts a.id a.pieces) (remap_message n a.layouts (remapped new a.layouts) a.id q)) a h
        by_case false = (h, tt)

    print-begun : (o : Option Item) (line : List ℕ → List ℕ) (a : Node C F) → IsNumbered a → IsNumbered (print_begun n o line a)
    print-begun None line a h = h
    print-begun (Some (Text bytes)) line a h = h
    print-begun (Some (Elements tuples element bytes)) line a h = part-numbered n e (gather_part tuples element a.control.slots) a h.0

    print-done : (o : Option Item) (a : Node C F) → IsNumbered a → IsNumbered (print_done n o a)
    print-done None a h = h
    print-done (Some (Text bytes)) a h = h
    print-done (Some (Elements tuples element bytes)) a h = (h.0, tt)

    scan-numbered : (copy : ℕ) (f : Fold) (a : Node C F) → Numbers a → IsNumbered (scan_next n copy f a)
    scan-numbered copy f a h = by_case (nat_lt a.round (levels_of n))
      where
        by_case : (b : Bool) → IsNumbered (if b then opened n (scan_sends a.round) (λ q. a.folded) a else scan_ended n copy f a)
        by_case true = opened-numbered n e (scan_sends a.round) (λ q. a.folded) (record a { received = no_values n }) h
        by_case false = (h, tt)

    scan-begun : (b : Bool) (copy : ℕ) (f : Fold) (a : Node C F) → IsNumbered a → IsNumbered (scan_begun n b copy f a)
    scan-begun true copy f a h = scan-numbered copy f (record a { round = 0; folded = option_values (join_all f.join (row_of a.pieces copy)); joined = None }) h.0
    scan-begun false copy f a h = h

    begun : (i : Instr F) (a : Node C F) → IsNumbered a → IsNumbered (begun_by faults n i a)
    begun (LocalInstr f) a h = h
    begun (Fetch element slot) a h = fetch-begun (element a.control.slots) a h
    begun (Store element value) a h = h
    begun (Par tuples left) a h = part-numbered n e (par_part a.layouts tuples left a.control.slots) a h.0
    begun Verdict a h = tree-numbered n e (verdict_done n faults on 0) (λ b g. (g, tt)) (record a { round = 0; folded = kept_values faults a.kept }) h.0
    begun (Reduce tuples f slot) a h = reduce-begun a.substep tuples f slot a h
    begun (MakeCopy copy layout start) a h = h
    begun (FoldCopy copy f slot) a h = tree-numbered n e (fold_ended n f slot) (λ b g. (g, tt)) (record a { round = 0; folded = option_values (own_fold n copy f a) }) h.0
    begun (LastCopy copy set alike slot) a h =
        tree-numbered n e (last_ended n slot) (λ b g. (g, tt)) (record a { round = 0; folded = positioned_values (own_last n copy set alike a) }) h.0
    begun (Scan copy in_blocks f) a h = scan-begun (lies_so in_blocks (slice_get a.layouts copy)) copy f a h
    begun (Remap new rounds) a h = remap-numbered new rounds (record a { received = no_values n; round = 0 }) h.0
    begun (Print items line) a h = print-begun (slice_get items a.substep) line a h

    finished : (i : Instr F) (a : Node C F) → IsNumbered a → IsNumbered (done_by faults n i a)
    finished (LocalInstr f) a h = h
    finished (Fetch element slot) a h = fetch-done (element a.control.slots) slot a h
    finished (Store element value) a h = h
    finished (Par tuples left) a h = (h.0, tt)
    finished Verdict a h = tree-numbered n e (verdict_done n faults on 0) (λ b g. (g, tt)) (tree_absorbed n earlier (kept_values faults) (values_kept faults) a) h.0
    finished (Reduce tuples f slot) a h = reduce-done a.substep tuples f slot a h
    finished (MakeCopy copy layout start) a h = h
    finished (FoldCopy copy f slot) a h = tree-numbered n e (fold_ended n f slot) (λ b g. (g, tt)) (tree_absorbed n (join_options f.join) option_values values_option a) h.0
    finished (LastCopy copy set alike slot) a h = tree-numbered n e (last_ended n slot) (λ b g. (g, tt)) (tree_absorbed n later positioned_values values_positioned a) h.0
    finished (Scan copy in_blocks f) a h = scan-numbered copy f (scan_absorbed n f a) h.0
    finished (Remap new rounds) a h = remap-numbered new rounds (record a { round = suc a.round }) h.0
    finished (Print items line) a h = print-done (slice_get items a.substep) a h

  worked : (faults : FaultValues F) (meaning : C → Instr F) (s : Stage) (a : Node C F) → IsNumbered a → IsNumbered (worked_by faults meaning s a)
  worked faults meaning Ready a h = begun faults a.nodes h.0.nodes (instr_at meaning a.code a.control.at) a h
  worked faults meaning (Passing outbox inbox) a h = h
  worked faults meaning Passed a h = finished faults a.nodes h.0.nodes (instr_at meaning a.code a.control.at) a h

-- ---- moves

-- the numbers by which a list goes on, where one of them is the next one
numbers-on : (count : ℕ) (told : ℕ → ℕ) (next : List ℕ) (q : ℕ) (m : Letter) → length next ≡ count → q < count
    → ((s : ℕ) → s < count → get_or next s 0 ≡ (told s + 1) % 2 ^ 64)
    → (s : ℕ) → s < count → get_or (set next q (next_number (get_or next q 0))) s 0 ≡ (told s + length (if q == s then m ∷ [] else []) + 1) % 2 ^ 64
numbers-on count told next q m e lt h s ls = ⊎_elim
    (λ (same : q ≡ s). subst (λ t. get_or (set next q (next_number (get_or next q 0))) t 0 ≡ (told t + length (if q == t then m ∷ [] else []) + 1) % 2 ^ 64) same
    (get_or-set_same next q (next_number (get_or next q 0)) 0 (omega (arith, e)) ∙ ap next_number (h q lt) ∙ mod-add-mod (told q + 1) (2 ^ 64) 1
    ∙ ap (λ b. (told q + length (if b then m ∷ [] else []) + 1) % 2 ^ 64) (sym (eq-eqb q q refl))))
    (λ (ne : q ≡ s → ⊥).
    get_or-set_other next q s (next_number (get_or next q 0)) 0 (λ x. ne (sym x)) ∙ h s ls
    ∙ ap (λ k. (k + 1) % 2 ^ 64) (let none : told s ≡ told s + 0 = omega arith in none)
    ∙ ap (λ b. (told s + length (if b then m ∷ [] else []) + 1) % 2 ^ 64) (sym (ne_eqb q s ne)))
    (cases_eq q s)

numbers-stay : (count : ℕ) (told : ℕ → ℕ) (next : List ℕ) → ((s : ℕ) → s < count → get_or next s 0 ≡ (told s + 1) % 2 ^ 64) → (s : ℕ) → s < count
    → get_or next s 0 ≡ (told s + 0 + 1) % 2 ^ 64
numbers-stay count told next h s ls = h s ls ∙ ap (λ k. (k + 1) % 2 ^ 64) (let none : told s ≡ told s + 0 = omega arith in none)

sent-split : (q : ℕ) (x : Move Letter) (xs : List (Move Letter)) → length (sent q (x ∷ xs)) ≡ length (sent q (x ∷ [])) + length (sent q xs)
sent-split q Worked xs = omega arith
sent-split q (Sent t m) xs = by_case (t == q)
  where
    by_case : (b : Bool) → length (if b then m ∷ sent q xs else sent q xs) ≡ length (if b then m ∷ [] else []) + length (sent q xs)
    by_case true = omega arith
    by_case false = omega arith
sent-split q (Taken t m) xs = omega arith

taken-split : (p : ℕ) (x : Move Letter) (xs : List (Move Letter)) → length (taken p (x ∷ xs)) ≡ length (taken p (x ∷ [])) + length (taken p xs)
taken-split p Worked xs = omega arith
taken-split p (Sent t m) xs = omega arith
taken-split p (Taken t m) xs = by_case (t == p)
  where
    by_case : (b : Bool) → length (if b then m ∷ taken p xs else taken p xs) ≡ length (if b then m ∷ [] else []) + length (taken p xs)
    by_case true = omega arith
    by_case false = omega arith

same-counts : (count id : ℕ) (told heard told' heard' : ℕ → ℕ) (own nodes : ℕ) (next_to next_from : List ℕ) → ((q : ℕ) → told q ≡ told' q) → ((p : ℕ) → heard p ≡ heard' p)
    → Counts count id told heard own nodes next_to next_from → Counts count id told' heard' own nodes next_to next_from
same-counts count id told heard told' heard' own nodes next_to next_from one two h = record {
  id = h.id;
  nodes = h.nodes;
  as_many_to = h.as_many_to;
  as_many_from = h.as_many_from;
  to = λ q lt. h.to q lt ∙ ap (λ k. (k + 1) % 2 ^ 64) (one q);
  from = λ p lt. h.from p lt ∙ ap (λ k. (k + 1) % 2 ^ 64) (two p);
}

-- letters with numbers one after another, from the one after so many
abbrev pub AreNumberedFrom : ℕ → List Letter → Type 0
AreNumberedFrom k [] = Unit {0}
AreNumberedFrom k (l ∷ letters) = (l.number ≡ (k + 1) % 2 ^ 64) × AreNumberedFrom (k + 1) letters

one-sent : (b : Bool) (m : Letter) (letters : List Letter) (k : ℕ) → (b ≡ true → m.number ≡ (k + 1) % 2 ^ 64) → AreNumberedFrom (k + length (if b then m ∷ [] else [])) letters
    → AreNumberedFrom k (if b then m ∷ letters else letters)
one-sent true m letters k e h = (e refl, h)
one-sent false m letters k e h = let none : k + 0 ≡ k = omega arith in subst (λ j. AreNumberedFrom j letters) none h

pub same-node : (p q : ℕ) → ◌≡◌ {A = NodeId} (record { 0 = p }) (record { 0 = q }) → p ≡ q
same-node p q e = ap (λ k. k.0) e

module _ {C F : Type 0} (faults : FaultValues F) (meaning : C → Instr F) (count id : ℕ) where
  sent-numbered : (told heard : ℕ → ℕ) (st : Status F) (s : Stage) (q : ℕ) (m : Letter) (a : Node C F) → act_of st s ≡ Send (record { 0 = q })
      → Numbers count id told heard a → IsWithin count s
      → IsNumbered count id (λ t. told t + length (if q == t then m ∷ [] else [])) (λ p. heard p + 0) (after_send_by s a)
  sent-numbered told heard Running (Passing (x ∷ outbox) inbox) q m a e h w =
      let same : x.to ≡ q = same-node x.to q cc in
      subst (λ u. IsNumbered count id (λ t. told t + length (if u == t then m ∷ [] else [])) (λ p. heard p + 0) (after_send_by (Passing (x ∷ outbox) inbox) a)) same
      (settled-numbered count id (λ t. told t + length (if x.to == t then m ∷ [] else [])) (λ p. heard p + 0) outbox inbox
      (record a { next_to = set a.next_to x.to (next_number (get_or a.next_to x.to 0)) })
      (record {
        id = h.id;
        nodes = h.nodes;
        as_many_to = length-set a.next_to x.to (next_number (get_or a.next_to x.to 0)) ∙ h.as_many_to;
        as_many_from = h.as_many_from;
        to = numbers-on count told a.next_to x.to m h.as_many_to w.0.0 h.to;
        from = numbers-stay count heard a.next_from h.from;
      }) w.0.1 w.1)
  sent-numbered told heard Running Ready q m a e h w = cc
  sent-numbered told heard Running (Passing [] []) q m a e h w = cc
  sent-numbered told heard Running (Passing [] (p ∷ inbox)) q m a e h w = cc
  sent-numbered told heard Running Passed q m a e h w = cc
  sent-numbered told heard Finished s q m a e h w = cc
  sent-numbered told heard (Faulted f) s q m a e h w = cc

  taken-numbered : (told heard : ℕ → ℕ) (st : Status F) (s : Stage) (p : ℕ) (m : Letter) (a : Node C F) → act_of st s ≡ Take (record { 0 = p })
      → Numbers count id told heard a → IsWithin count s
      → IsNumbered count id (λ q. told q + 0) (λ t. heard t + length (if p == t then m ∷ [] else [])) (after_take_by s m a)
  taken-numbered told heard Running (Passing [] (x ∷ inbox)) p m a e h w =
      let same : x ≡ p = same-node x p cc in
      subst (λ u. IsNumbered count id (λ q. told q + 0) (λ t. heard t + length (if u == t then m ∷ [] else [])) (after_take_by (Passing [] (x ∷ inbox)) m a)) same
      (settled-numbered count id (λ q. told q + 0) (λ t. heard t + length (if x == t then m ∷ [] else [])) [] inbox
      (record a { next_from = set a.next_from x (next_number (get_or a.next_from x 0)); received = set a.received x m.body })
      (record {
        id = h.id;
        nodes = h.nodes;
        as_many_to = h.as_many_to;
        as_many_from = length-set a.next_from x (next_number (get_or a.next_from x 0)) ∙ h.as_many_from;
        to = numbers-stay count told a.next_to h.to;
        from = numbers-on count heard a.next_from x m h.as_many_from w.1.0 h.from;
      }) tt w.1.1)
  taken-numbered told heard Running Ready p m a e h w = cc
  taken-numbered told heard Running (Passing [] []) p m a e h w = cc
  taken-numbered told heard Running (Passing (x ∷ outbox) inbox) p m a e h w = cc
  taken-numbered told heard Running Passed p m a e h w = cc
  taken-numbered told heard Finished s p m a e h w = cc
  taken-numbered told heard (Faulted f) s p m a e h w = cc

  abbrev pub steps : NodeSteps (Node C F) Letter
  steps = node_steps faults meaning

  moved : (told heard : ℕ → ℕ) (x : Move Letter) (a : Node C F) → IsNumbered count id told heard a → IsMoveOf steps a x
      → IsNumbered count id (λ q. told q + length (sent q (x ∷ []))) (λ p. heard p + length (taken p (x ∷ []))) (node_after steps a x)
  moved told heard Worked a h is =
      worked count id (λ q. told q + 0) (λ p. heard p + 0) faults meaning a.stage a
      (same-counts count id told heard (λ q. told q + 0) (λ p. heard p + 0) a.id a.nodes a.next_to a.next_from (λ q. omega arith) (λ p. omega arith) h.0, h.1)
  moved told heard (Sent q m) a h is = sent-numbered told heard a.control.status a.stage q m a is.0 h.0 h.1
  moved told heard (Taken p m) a h is = taken-numbered told heard a.control.status a.stage p m a is h.0 h.1

  all-moved : (xs : List (Move Letter)) (told heard : ℕ → ℕ) (a : Node C F) → IsNumbered count id told heard a → AreMovesOf steps a xs
      → IsNumbered count id (λ q. told q + length (sent q xs)) (λ p. heard p + length (taken p xs)) (after_all steps a xs)
  all-moved [] told heard a h are =
      (same-counts count id told heard (λ q. told q + 0) (λ p. heard p + 0) a.id a.nodes a.next_to a.next_from (λ q. omega arith) (λ p. omega arith) h.0, h.1)
  all-moved (x ∷ xs) told heard a h are =
      let told' : ℕ → ℕ = λ q. told q + length (sent q (x ∷ [])) in
      let heard' : ℕ → ℕ = λ p. heard p + length (taken p (x ∷ [])) in
      let b : Node C F = after_all steps a (x ∷ xs) in
      let rest : IsNumbered count id (λ q. told' q + length (sent q xs)) (λ p. heard' p + length (taken p xs)) b =
      all-moved xs told' heard' (node_after steps a x) (moved told heard x a h are.0) are.1 in (
        same-counts count id (λ q. told' q + length (sent q xs)) (λ p. heard' p + length (taken p xs)) (λ q. told q + length (sent q (x ∷ xs)))
            (λ p. heard p + length (taken p (x ∷ xs))) b.id b.nodes b.next_to b.next_from (λ q. let e = sent-split q x xs in omega (arith, e))
            (λ p. let e = taken-split p x xs in omega (arith, e)) rest.0,
        rest.1,
      )

  pub moved-from : (xs : List (Move Letter)) (a : Node C F) → IsNumbered count id (λ q. 0) (λ p. 0) a → AreMovesOf steps a xs
      → IsNumbered count id (λ q. length (sent q xs)) (λ p. length (taken p xs)) (after_all steps a xs)
  moved-from xs a h are =
      let b : Node C F = after_all steps a xs in
      let g = all-moved xs (λ q. 0) (λ p. 0) a h are in (
        same-counts count id (λ q. 0 + length (sent q xs)) (λ p. 0 + length (taken p xs)) (λ q. length (sent q xs)) (λ p. length (taken p xs)) b.id b.nodes b.next_to b.next_from
            (λ q. omega arith) (λ p. omega arith) g.0,
        g.1,
      )

  sends-number : (told heard : ℕ → ℕ) (st : Status F) (s : Stage) (q : ℕ) (a : Node C F) → act_of st s ≡ Send (record { 0 = q }) → Numbers count id told heard a
      → IsWithin count s → (q < count) × ((letter_by s a).number ≡ (told q + 1) % 2 ^ 64)
  sends-number told heard Running (Passing (x ∷ outbox) inbox) q a e h w =
      let same : x.to ≡ q = same-node x.to q cc in
      subst (λ u. (u < count) × ((letter_by (Passing (x ∷ outbox) inbox) a).number ≡ (told u + 1) % 2 ^ 64)) same (w.0.0, h.to x.to w.0.0)
  sends-number told heard Running Ready q a e h w = cc
  sends-number told heard Running (Passing [] []) q a e h w = cc
  sends-number told heard Running (Passing [] (p ∷ inbox)) q a e h w = cc
  sends-number told heard Running Passed q a e h w = cc
  sends-number told heard Finished s q a e h w = cc
  sends-number told heard (Faulted f) s q a e h w = cc

  -- the letters that a node sends to another have its numbers, one after another, from those that it sent before on
  numbered-sent : (q : ℕ) (xs : List (Move Letter)) (told heard : ℕ → ℕ) (a : Node C F) → IsNumbered count id told heard a → AreMovesOf steps a xs
      → AreNumberedFrom (told q) (sent q xs)
  numbered-sent q [] told heard a h are = tt
  numbered-sent q (Worked ∷ xs) told heard a h are =
      let none : told q + 0 ≡ told q = omega arith in
      subst (λ k. AreNumberedFrom k (sent q xs)) none
      (numbered-sent q xs (λ t. told t + 0) (λ t. heard t + 0) (node_after steps a Worked) (moved told heard Worked a h are.0) are.1)
  numbered-sent q (Sent t m ∷ xs) told heard a h are =
      let g = sends-number told heard a.control.status a.stage t a are.0.0 h.0 h.1 in
      one-sent (t == q) m (sent q xs) (told q)
      (λ e. ap (λ (l : Letter). l.number) are.0.1 ∙ g.1 ∙ ap (λ u. (told u + 1) % 2 ^ 64) (eqb-true t q e))
      (numbered-sent q xs (λ s. told s + length (sent s (Sent t m ∷ []))) (λ s. heard s + 0) (node_after steps a (Sent t m)) (moved told heard (Sent t m) a h are.0) are.1)
  numbered-sent q (Taken t m ∷ xs) told heard a h are =
      let none : told q + 0 ≡ told q = omega arith in
      subst (λ k. AreNumberedFrom k (sent q xs)) none
      (numbered-sent q xs (λ s. told s + 0) (λ s. heard s + length (taken s (Taken t m ∷ []))) (node_after steps a (Taken t m)) (moved told heard (Taken t m) a h are.0) are.1)

  -- and to a number that no node has it sends none
  sent-past : (q : ℕ) → count ≤ q → (xs : List (Move Letter)) (told heard : ℕ → ℕ) (a : Node C F) → IsNumbered count id told heard a → AreMovesOf steps a xs → sent q xs ≡ []
  sent-past q past [] told heard a h are = refl
  sent-past q past (Worked ∷ xs) told heard a h are =
      sent-past q past xs (λ t. told t + 0) (λ t. heard t + 0) (node_after steps a Worked) (moved told heard Worked a h are.0) are.1
  sent-past q past (Sent t m ∷ xs) told heard a h are =
      let g = sends-number told heard a.control.status a.stage t a are.0.0 h.0 h.1 in
      let lt = g.0 in
      rw (ne_eqb t q (λ e. absurd (omega (arith, lt))))
      (sent-past q past xs (λ s. told s + length (sent s (Sent t m ∷ []))) (λ s. heard s + 0) (node_after steps a (Sent t m)) (moved told heard (Sent t m) a h are.0) are.1)
  sent-past q past (Taken t m ∷ xs) told heard a h are =
      sent-past q past xs (λ s. told s + 0) (λ s. heard s + length (taken s (Taken t m ∷ []))) (node_after steps a (Taken t m)) (moved told heard (Taken t m) a h are.0) are.1

-- a node at the beginning of a run sent and took nothing
pub opening-numbered : {C F : Type 0} (count : ℕ) (m : Machine C F) (p : ℕ) → IsNumbered {C = C} {F = F} count p (λ q. 0) (λ q. 0) (standing count m 1 (first_own count) p)
opening-numbered count m p = (
  record {
    id = refl;
    nodes = refl;
    as_many_to = length-replicate count 1;
    as_many_from = length-replicate count 1;
    to = λ q lt. get_or-replicate count q 1 0 lt;
    from = λ q lt. get_or-replicate count q 1 0 lt;
  },
  tt,
)

pub opening-letters : {C F : Type 0} (faults : FaultValues F) (meaning : C → Instr F) (count : ℕ) (m : Machine C F) (p q : ℕ) (xs : List (Move Letter))
    → AreMovesOf (node_steps faults meaning) (standing count m 1 (first_own count) p) xs → AreNumberedFrom 0 (sent q xs)
opening-letters faults meaning count m p q xs are =
    numbered-sent faults meaning count p q xs (λ q. 0) (λ q. 0) (standing count m 1 (first_own count) p) (opening-numbered count m p) are

pub opening-past : {C F : Type 0} (faults : FaultValues F) (meaning : C → Instr F) (count : ℕ) (m : Machine C F) (p q : ℕ) → count ≤ q → (xs : List (Move Letter))
    → AreMovesOf (node_steps faults meaning) (standing count m 1 (first_own count) p) xs → sent q xs ≡ []
opening-past faults meaning count m p q past xs are =
    sent-past faults meaning count p q past xs (λ q. 0) (λ q. 0) (standing count m 1 (first_own count) p) (opening-numbered count m p) are
