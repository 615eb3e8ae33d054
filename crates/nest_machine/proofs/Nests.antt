-- The machine over the code of a nest ends as the parted order of its acts does.
use Rattle.std.proofs.Common.{◌≡◌, ℕ, suc, ◌+◌, ◌<◌, ◌≤◌, ◌⊎◌, inl, inr, List, [], ◌∷◌, ◌++◌, length, ℤ, pos, Bool, true, false, Option, Some, None, refl, sym, ap, ◌∙◌, subst, arith, slice_get, slice_index_or, append-nil, if◌then◌else◌}
use Rattle.std.specs.List.{Contains, fold}
use Rattle.std.proofs.lemmas.List.{length-append}
use Rattle.op_tables.specs.Joins.{join, unit}
use Rattle.storage.specs.Storage.{Storage, row_of, read}
use Rattle.storage.specs.Effect.{Effect}
use Rattle.storage.specs.Parted.{parted, kept, NoneKept, IsLeastKept}
use Rattle.nest_order.specs.Nest.{Interpretation, nest_effects, nest_act}
use Rattle.nest_syntax.specs.NestKinds.{Kind}
use Rattle.nest_order.specs.Copies.{scalar_at, with_copies}
use Rattle.nest_order.specs.Scalars.{PartedAgrees}
use Rattle.machine_steps.specs.Layout.{Layout, size_of}
use Rattle.machine_steps.specs.Instr.{Running, Instr, Verdict}
use Rattle.machine_steps.specs.Machine.{Machine, Kept, on, verdict_control, last_passing, lie_alike, is_one}
use Rattle.machine_steps.specs.Parted.{act_by, AreRising}
use Rattle.nest_machine.specs.Counting.{Counting, IsCounting}
use Rattle.nest_machine.specs.Body.{Body, count_body, body_slots, TakeSteps}
use Rattle.nest_machine.specs.BodyCode.{Texts, body_code}
use Rattle.nest_machine.specs.Slots.{SameSlots, slots_after}
use Rattle.nest_machine.specs.Trace.{Traced, Data, all_traced, acts, trace}
use Rattle.nest_machine.specs.Stands.{stands, HasAt}
use Rattle.nest_machine.specs.ItemsAt.{items_at}
use Rattle.nest_syntax.specs.Finals.{Final, Folds, Lasts}
use Rattle.nest_machine.specs.Finals.{final_slot, finals_code, finals_slots, AreApart, EndsFaulted}
use Rattle.nest_machine.specs.Entries.{Entry, NotMade, nest_entries, entries_code, all_made, nest_code}
use Rattle.nest_machine.specs.Placed.{IsPlace, PlacedMean, PlacedTexts}
use Rattle.nest_machine.specs.PlacedEntry.{IsPlacedMemory}
use Rattle.nest_machine.specs.PlacedEnds.{OffRow, IsPlacedFinal, PlacedAfter}
use Rattle.nest_machine.proofs.Slots.{same-after, same-refl}
use Rattle.nest_machine.proofs.Runs.{Reaches, reaches-on, has-front, has-back, one, first-quiet}
use Rattle.nest_machine.proofs.Bodies.{body-runs}
use Rattle.nest_machine.proofs.KeptFaults.{faults, no_left, kept_acts, none-kept, least-kept}
use Rattle.nest_machine.proofs.PlacedActs.{act_number, DoAll, FollowActs, follow-all, rise-all}
use Rattle.nest_machine.proofs.AfterActs.{After, all-after}
use Rattle.nest_machine.proofs.PlacedBodies.{do-body}
use Rattle.nest_machine.proofs.Paired.{PairedMarks, paired-body}
use Rattle.nest_machine.proofs.PlacedMarks.{said-all}
use Rattle.nest_machine.proofs.Finals.{or_entry, last-is, value_of, finals-run, finals-here, finals-other, finals-length, finals-many}
use Rattle.nest_machine.proofs.Unmade.{traced-length, unmade-stays, untouched-stays, unmade-body, untouched-body}
use Rattle.nest_machine.proofs.MadeCopies.{made-length, made-kept, made-other, entries-run}
use Rattle.nest_machine.proofs.PlacedCopies.{entered-placed, unset-marks}

module _ {I A C F P Q : Type 0} (meaning : I → Instr F) (code : List I) (is_quiet : ℕ → Bool) (joined : ℤ) (line printed : List ℕ) (texts : Texts A C F) (counting : Counting F) (right : IsCounting counting)
    (size : List ℤ → ℕ) (layout : List Layout → List ℤ → Layout) (stored row : ℕ) (interpretation : Interpretation P Q F)
    (action_at : A → List ℤ → ℕ → P) (condition_at : C → List ℤ → ℕ → Q) (body : Body A C) (b pc n : ℕ) (s : List ℤ) (d : Data F)
    (place : ℕ → ℕ) (is_row is_index : ℕ → Bool) (alike : Layout → Layout → Bool) (finals : List Final) (kinds : ℕ → Kind) (start : Storage) where
  abbrev copies : Storage
  copies = with_copies kinds n start

  abbrev act : ℕ → ℕ → Storage → Effect F
  act = nest_act interpretation row (λ i. items_at counting action_at condition_at i body b s)

  abbrev done : List (Traced F)
  done = trace texts counting size stored body None 0 b s

  abbrev many : ℕ
  many = length (acts done)

  abbrev number : ℕ → ℕ
  number = act_number d.parts done

  -- the machine's data with the copies, and after the body
  abbrev es : List Entry
  es = nest_entries finals stored (count_body body)

  abbrev d1 : Data F
  d1 = all_made layout es s d

  abbrev d2 : Data F
  d2 = all_traced layout done d1

  abbrev s1 : List ℤ
  s1 = slots_after counting body b s

  -- the code, by its parts
  abbrev entries : List (Instr F)
  entries = entries_code layout es

  abbrev pc1 : ℕ
  pc1 = pc + length entries

  abbrev c : List (Instr F)
  c = body_code texts counting size layout stored body None 0 b pc1

  abbrev verdict_at : ℕ
  verdict_at = pc1 + length c

  abbrev end : ℕ
  end = pc + length (nest_code texts counting size layout stored alike finals body b pc)

  abbrev At : ℕ → List ℤ → Data F → Machine I F
  At = stands meaning code joined line printed

  abbrev AfterNest : Storage → Type 0
  AfterNest = PlacedAfter meaning code is_quiet joined line printed pc end texts stored row (count_body body) b place is_row is_index kinds start finals s1 s d2.rows d

  end-is : verdict_at + 1 + length finals ≡ end
  end-is =
      let l1 : length (entries ++ (c ++ Verdict ∷ finals_code alike finals)) ≡ length entries + length (c ++ Verdict ∷ finals_code alike finals) =
      length-append entries (c ++ Verdict ∷ finals_code alike finals) in
      let l2 : length (c ++ Verdict ∷ finals_code alike finals) ≡ length c + suc (length (finals_code {F = F} alike finals)) = length-append c (Verdict ∷ finals_code alike finals) in
      let l3 : length (finals_code {F = F} alike finals) ≡ length finals = finals-many F alike finals in
      omega (arith, l1, l2, l3)

  module _ (has : HasAt meaning code is_quiet pc (nest_code texts counting size layout stored alike finals body b pc)) (room : b + body_slots body ≤ length s)
      (takes : TakeSteps counting is_index body) (hidden : (x : ℕ) → b ≤ x → is_index x ≡ false)
      (mean : PlacedMean texts interpretation action_at condition_at place is_row is_index b s)
      (fit : PlacedTexts texts size layout stored row (count_body body) place is_row is_index copies n b s) (one_place : IsPlace place is_row)
      (memory : IsPlacedMemory layout s place is_row kinds n start es d) (empty : d.kept ≡ None)
      (apart : AreApart finals) (few : (f : Final) → Contains finals f → final_slot f < b) (alike_refl : (l : Layout) → alike l l ≡ true)
      (none_law : (k : ℕ) → kept_acts act copies n number k ≡ None → NoneKept (act_by (faults act copies n number) (no_left act copies n number)) copies n k)
      (least_law : (k : ℕ) (l : Kept F) → AreRising (faults act copies n number) (no_left act copies n number) number k → kept_acts act copies n number k ≡ Some l
      → (j : ℕ) × IsLeastKept (act_by (faults act copies n number) (no_left act copies n number)) copies n k l.tuple j l.fault × (number j ≡ l.part)) where
    -- ---- the code up to the Verdict

    does : DoAll place is_row layout copies n act 0 done
    does = (do-body texts counting size layout stored row (count_body body) interpretation action_at condition_at place is_row is_index copies n b s mean fit
        (nest_effects interpretation row (λ i. items_at counting action_at condition_at i body b s)) body takes None 0 b s 0 (λ i. []) tt
        (omega arith) (omega arith) (same-refl is_index b s)
        (λ i. sym (append-nil (nest_effects interpretation row (λ i. items_at counting action_at condition_at i body b s) i)))).0

    follow : FollowActs place is_row layout copies n act number 0 d.parts done
    follow = follow-all place is_row layout copies n act d.parts done does

    sized : size_of (layout d.layouts s) ≡ n
    sized = fit.laid d.layouts s (same-refl is_index b s)

    opening : After place is_row one_place layout copies n act number 0 d.parts d1
    opening = record {
      rows = entered-placed layout s place is_row kinds n start es d memory sized;
      kept = (made-kept layout s es d).0 ∙ empty;
      parts = (made-kept layout s es d).1;
    }

    passed : (p : ℕ) × After place is_row one_place layout copies n act number many p d2
    passed =
        let e : 0 + many ≡ many = omega arith in
        let r = all-after place is_row one_place layout copies n act number done 0 d.parts d1 opening follow in
        (r.0, subst (λ x. After place is_row one_place layout copies n act number x r.0 d2) e r.1)

    same1 : SameSlots is_index b s s1
    same1 = same-after counting is_index body takes b s

    ending-has : HasAt meaning code is_quiet pc1 (c ++ Verdict ∷ finals_code alike finals)
    ending-has = has-back meaning code is_quiet pc entries (c ++ Verdict ∷ finals_code alike finals) has

    verdict-has : HasAt meaning code is_quiet verdict_at (Verdict ∷ finals_code alike finals)
    verdict-has = has-back meaning code is_quiet pc1 c (Verdict ∷ finals_code alike finals) ending-has

    runs : Reaches meaning is_quiet (At pc s d) (At verdict_at s1 d2)
    runs = reaches-on meaning is_quiet (At pc s d) (At pc1 s d1) (At verdict_at s1 d2)
        (entries-run meaning code is_quiet joined line printed layout s es pc d (has-front meaning code is_quiet pc entries (c ++ Verdict ∷ finals_code alike finals) has))
        (body-runs meaning code is_quiet joined line printed texts counting right is_index b hidden size layout stored body None 0 b pc1 s d1
        (has-front meaning code is_quiet pc1 c (Verdict ∷ finals_code alike finals) ending-has) room takes (omega arith))

    -- ---- with a fault

    faulted : (l : Kept F) → d2.kept ≡ Some l → (i : ℕ) × (j : ℕ) × (f : F) × IsLeastKept act copies n many i j f × EndsFaulted meaning code is_quiet joined line printed pc s d f
    faulted l e =
        let k = least-kept act copies n number least_law many (rise-all place is_row layout copies n act d.parts done does) l (sym passed.1.kept ∙ e) in
        let m1 = At verdict_at s1 d2 in
        let m2 : Machine I F = record m1 { control = verdict_control (Some l) on (record { at = verdict_at; slots = s1; status = Running }); kept = None; parts = 0 } in
        let r = reaches-on meaning is_quiet (At pc s d) m1 m2 runs (
          1,
          one meaning code joined line printed verdict_at s1 d2 Verdict verdict-has.0.0
              ∙ ap (λ o. record m1 { control = verdict_control o on (record { at = verdict_at; slots = s1; status = Running }); kept = None; parts = 0 }) e,
          first-quiet meaning is_quiet m1 verdict-has.0.1,
        ) in
        (l.tuple, k.0, l.fault, k.1, record { count = r.0; last = m2; reach = r.1; quiet = r.2; status = refl; bytes = refl; kept = refl })

    -- ---- without one

    module _ (nothing : d2.kept ≡ None) where
      no_fault : NoneKept act copies n many
      no_fault = none-kept act copies n number none_law many (sym passed.1.kept ∙ nothing)

      abbrev last : Storage
      last = parted act copies n many

      abbrev d3 : Data F
      d3 = record { rows = d2.rows; layouts = d2.layouts; kept = None; parts = 0 }

      abbrev s2 : List ℤ
      s2 = finals_slots alike d2.layouts d2.rows finals s1

      reaches : Reaches meaning is_quiet (At pc s d) (At end s2 d3)
      reaches =
          let m1 = At verdict_at s1 d2 in
          let m2 = At (verdict_at + 1) s1 d3 in
          let r = finals-run meaning code is_quiet joined line printed alike finals (verdict_at + 1) s1 d3 verdict-has.1 in
          reaches-on meaning is_quiet (At pc s d) m1 (At end s2 d3) runs
          (reaches-on meaning is_quiet m1 m2 (At end s2 d3) (
            1,
            one meaning code joined line printed verdict_at s1 d2 Verdict verdict-has.0.0
                ∙ ap (λ o. record m1 { control = verdict_control o on (record { at = verdict_at; slots = s1; status = Running }); kept = None; parts = 0 }) nothing,
            first-quiet meaning is_quiet m1 verdict-has.0.1,
          )
          (r.0, r.1 ∙ ap (λ p. At p s2 d3) end-is, r.2))

      -- rows that the body doesn't make
      stays : (x : ℕ) → ((k : ℕ) → k < count_body body → stored + k ≡ x → ⊥)
          → (length (row_of d2.rows x) ≡ length (row_of d1.rows x)) × (slice_get d2.layouts x ≡ slice_get d1.layouts x)
      stays x off = unmade-stays layout x done d1 (unmade-body texts counting size stored (count_body body) x off body None 0 b s (omega arith))

      stays-before : (x : ℕ) → x < stored → NotMade x es
          → (length (row_of d2.rows x) ≡ length (row_of d.rows x)) × (slice_get d2.layouts x ≡ slice_get d.layouts x)
      stays-before x lt off =
          let h = stays x (λ k lk e. absurd (omega (arith, e, lt))) in
          let g = made-other layout s es d x off in (h.0 ∙ ap length g.0, h.1 ∙ g.1)

      untouched-before : (x : ℕ) → x < stored → NotMade x es → ((a : A) (s : List ℤ) (i : ℕ) → OffRow x (texts.left a s i)) → ((a : A) → texts.mark a ≡ Some x → ⊥)
          → row_of d2.rows x ≡ row_of d.rows x
      untouched-before x lt off elsewhere no_mark =
          untouched-stays layout x done d1 (untouched-body texts counting size stored (count_body body) x (λ k lk e. absurd (omega (arith, e, lt))) body None 0 b s (omega arith) elsewhere no_mark)
          ∙ (made-other layout s es d x off).0

      many-rows : (length d2.rows ≡ length d.rows) × (length d2.layouts ≡ length d.layouts)
      many-rows =
          let h = traced-length layout done d1 in
          let g = made-length layout s es d in (h.0 ∙ g.0, h.1 ∙ g.1)

      abbrev IsOfNest : Final → ℕ → Type 0
      IsOfNest = IsPlacedFinal texts stored row (count_body body) b place is_row is_index kinds start s

      -- the value of a scalar is the one in a storage that agrees with the parted order
      value-is : (m : Storage) → PartedAgrees kinds row (kept act copies n) many n start m last
          → (f : Final) (r : ℕ) → Contains finals f → IsOfNest f r → value_of alike d2.layouts d2.rows f s1 ≡ read m (scalar_at r)
      value-is m agrees (Folds op mr x) r inside (of, kind) =
          (λ k. join op ((sym (same1.1 x of.slot_below of.no_index) ∙ of.value) k) (fold (join op) (unit op) ((ap (row_of d2.rows) of.lies ∙ passed.1.rows r of.own) k)))
          ∙ sym (agrees.reduced r op of.below kind)
      value-is m agrees (Lasts mr q x) r inside (of, kind, marks) =
          let unset = unset-marks layout s place is_row kinds n start finals stored (count_body body) d memory sized alike alike_refl mr q x inside in
          let paired : PairedMarks mr q done = paired-body texts counting size stored (count_body body) mr q marks.paired body None 0 b s tt (omega arith) in
          let said = said-all place is_row one_place layout copies n act number many r q of.own marks.off no_fault done 0 d.parts d1 opening follow (subst (λ z. PairedMarks z q done) of.lies paired)
          (let e : 0 + length (acts done) ≡ length (acts done) = omega arith in e) (unset.long, unset.unset) in
          let of_copies = stays mr (λ k lk. (marks.paired.apart k lk).0) in
          let of_marks = stays q (λ k lk. (marks.paired.apart k lk).1) in
          let lie : lie_alike alike (slice_get d2.layouts mr) (slice_get d2.layouts q) ≡ true = (λ k. lie_alike alike (of_copies.1 k) (of_marks.1 k)) ∙ unset.lie in
          let long : length (row_of d2.rows mr) ≡ n = of_copies.0 ∙ unset.many in
          let row_is : row_of d2.rows mr ≡ row_of last r = ap (row_of d2.rows) of.lies ∙ passed.1.rows r of.own in
          (λ k. or_entry ((sym (same1.1 x of.slot_below of.no_index) ∙ of.value) k)
          (if lie k then last_passing (λ at. is_one (read d2.rows (record { row = q; at = at }))) (λ at. read d2.rows (record { row = mr; at = at })) (long k) else None))
          ∙ last-is (kept act copies n) r many (read start (scalar_at r)) last (λ at. is_one (read d2.rows (record { row = q; at = at })))
          (λ at. read d2.rows (record { row = mr; at = at })) n said.1 (λ i. ap (λ xs. slice_index_or xs i (pos 0)) row_is)
          ∙ sym (agrees.scalars r of.below kind)

      finished : (m : Storage) → PartedAgrees kinds row (kept act copies n) many n start m last → AfterNest m
      finished m agrees = record {
        count' = reaches.0;
        quiet = reaches.2;
        slots = s2;
        data' = d3;
        reach = reaches.1;
        rows_are = refl;
        kept = refl;
        parts = refl;
        size = finals-length alike d2.layouts d2.rows finals s1 ∙ sym same1.0;
        long = many-rows.0;
        laid = many-rows.1;
        extents = λ x lt off. (stays-before x lt off).0;
        lie = λ x lt off. (stays-before x lt off).1;
        untouched = untouched-before;
        shared = λ spot lt is shared. ap (λ xs. slice_index_or xs spot.at (pos 0)) (passed.1.rows spot.row is) ∙ sym (agrees.shared spot lt shared);
        scalars = λ f r inside is.
            finals-here alike d2.layouts d2.rows finals s1 apart (λ g cg. let z = few g cg in let l = same1.0 in omega (arith, z, l, room)) f inside
            ∙ value-is m agrees f r inside is;
        others = λ x lt off e. finals-other alike d2.layouts d2.rows finals x s1 off ∙ sym (same1.1 x lt e);
        indices = λ x off. finals-other alike d2.layouts d2.rows finals x s1 off;
      }

    abbrev Ends : Type 0
    Ends = (NoneKept act copies n many × ((m : Storage) → PartedAgrees kinds row (kept act copies n) many n start m (parted act copies n many) → AfterNest m))
        ⊎ ((i : ℕ) × (j : ℕ) × (f : F) × IsLeastKept act copies n many i j f × EndsFaulted meaning code is_quiet joined line printed pc s d f)

    pub nest-runs : Ends
    nest-runs = by_kept d2.kept refl
      where
        by_kept : (o : Option (Kept F)) → d2.kept ≡ o → Ends
        by_kept None e = inl (no_fault e, finished e)
        by_kept (Some l) e = inr (faulted l e)
