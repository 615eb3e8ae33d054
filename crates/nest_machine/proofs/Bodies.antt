-- The machine over the code of a body does what its trace says.
use Rattle.std.proofs.Common.{true, ◌≡◌, ℕ, suc, ◌+◌, ◌≤◌, List, [], ◌∷◌, ◌++◌, length, ℤ, Bool, false, Option, Some, None, refl, sym, ap, ◌∙◌, arith}
use Rattle.std.proofs.lemmas.List.{length-append}
use Rattle.storage.specs.Storage.{Spot}
use Rattle.nest_order.specs.Turns.{joined_up_to}
use Rattle.machine_steps.specs.Layout.{Layout}
use Rattle.machine_steps.specs.Instr.{Tuples, Instr, Par, MakeCopy}
use Rattle.machine_steps.specs.Machine.{Machine, instr_at}
use Rattle.nest_machine.specs.Counting.{Counting, trips_at, IsCounting}
use Rattle.nest_machine.specs.Body.{Body, NoText, AndText, AndIf, AndLoop, Arms, NoArm, AndArm, count_body, count_arms, body_slots, arms_slots, TakeSteps, ArmsTakeSteps}
use Rattle.nest_machine.specs.BodyCode.{Texts, copy_spot, text_tuples, mark_tuples, test_tuples, mark_code, text_code, loop_tail, loop_code, zero_start, body_code, arms_code}
use Rattle.nest_machine.specs.Slots.{headed, trip_slots, first_trip, left_slots, slots_after, slots_after_arms}
use Rattle.nest_machine.specs.Trace.{Traced, Does, Makes, Data, does, traced, all_traced, mark_trace, trace, trace_arms}
use Rattle.nest_machine.specs.Stands.{stands, HasAt}
use Rattle.nest_machine.proofs.Slots.{same-headed, same-left, same-after, same-after-arms}
use Rattle.nest_machine.proofs.Runs.{Reaches, reaches-on, reaches-to, has-front, has-back, has-at, one, first-quiet, none-quiet}
use Rattle.nest_machine.proofs.Loops.{traced-append, loop-length, loop-reaches}

module _ {I A C F : Type 0} (meaning : I → Instr F) (code : List I) (is_quiet : ℕ → Bool) (joined : ℤ) (line printed : List ℕ) (texts : Texts A C F) (counting : Counting F) (right : IsCounting counting)
    (is_index : ℕ → Bool) (base : ℕ) (hidden : (k : ℕ) → base ≤ k → is_index k ≡ false) (size : List ℤ → ℕ) (layout : List Layout → List ℤ → Layout) (stored : ℕ) where
  abbrev At : ℕ → List ℤ → Data F → Machine I F
  At = stands meaning code joined line printed

  abbrev Code : Body A C → Option ℕ → (k b pc : ℕ) → List (Instr F)
  Code = body_code texts counting size layout stored

  abbrev ArmsCode : Arms A C → Option ℕ → List ℕ → (k b pc : ℕ) → List (Instr F)
  ArmsCode = arms_code texts counting size layout stored

  abbrev After : Body A C → ℕ → List ℤ → List ℤ
  After = slots_after counting

  abbrev AfterArms : Arms A C → ℕ → List ℤ → List ℤ
  AfterArms = slots_after_arms counting

  abbrev Trace : Body A C → Option ℕ → (k b : ℕ) → List ℤ → List (Traced F)
  Trace = trace texts counting size stored

  abbrev TraceArms : Arms A C → Option ℕ → List ℕ → (k b : ℕ) → List ℤ → List (Traced F)
  TraceArms = trace_arms texts counting size stored

  -- one parallel statement
  par-reaches : (pc : ℕ) (s : List ℤ) (d : Data F) (tuples : Tuples F) (left : List ℤ → ℕ → Option Spot) → (instr_at meaning code pc ≡ Par tuples left) × (is_quiet pc ≡ true)
      → Reaches meaning is_quiet (At pc s d) (At (pc + 1) s (does tuples left s d))
  par-reaches pc s d tuples left h = (1, one meaning code joined line printed pc s d (Par tuples left) h.0, first-quiet meaning is_quiet (At pc s d) h.1)

  mark-reaches : (pc : ℕ) (s : List ℤ) (d : Data F) (guard : Option ℕ) (m : Option ℕ) → HasAt meaning code is_quiet pc (mark_code texts size stored guard m)
      → Reaches meaning is_quiet (At pc s d) (At (pc + length (mark_code texts size stored guard m)) s
      (all_traced layout (mark_trace texts size stored guard m s) d))
  mark-reaches pc s d guard None h = let e : pc ≡ pc + 0 = omega arith in (0, ap (λ p. At p s d) e, none-quiet meaning is_quiet (At pc s d))
  mark-reaches pc s d guard (Some r) h = par-reaches pc s d (mark_tuples texts size stored guard) (copy_spot r) h.0

  text-reaches : (pc : ℕ) (s : List ℤ) (d : Data F) (guard : Option ℕ) (a : A) → HasAt meaning code is_quiet pc (text_code texts size stored guard a)
      → Reaches meaning is_quiet (At pc s d) (At (pc + length (text_code texts size stored guard a)) s
      (all_traced layout (Does (text_tuples texts size stored guard a) (texts.left a) s ∷ mark_trace texts size stored guard (texts.mark a) s) d))
  text-reaches pc s d guard a h =
      let d1 : Data F = does (text_tuples texts size stored guard a) (texts.left a) s d in
      let n : ℕ = length (mark_code texts size stored guard (texts.mark a)) in
      let e : pc + 1 + n ≡ pc + suc n = omega arith in
      let last : Data F = all_traced layout (mark_trace texts size stored guard (texts.mark a) s) d1 in
      reaches-to meaning is_quiet (At pc s d) (At (pc + 1 + n) s last) (At (pc + suc n) s last) (ap (λ p. At p s last) e)
      (reaches-on meaning is_quiet (At pc s d) (At (pc + 1) s d1) (At (pc + 1 + n) s last)
      (par-reaches pc s d (text_tuples texts size stored guard a) (texts.left a) h.0)
      (mark-reaches (pc + 1) s d1 guard (texts.mark a) h.1))

  -- one piece of code after another
  code-then : (pc : ℕ) (c1 c2 : List (Instr F)) (s s1 s2 : List ℤ) (d : Data F) (t1 t2 : List (Traced F))
      → Reaches meaning is_quiet (At pc s d) (At (pc + length c1) s1 (all_traced layout t1 d))
      → ((d1 : Data F) → Reaches meaning is_quiet (At (pc + length c1) s1 d1) (At (pc + length c1 + length c2) s2 (all_traced layout t2 d1)))
      → Reaches meaning is_quiet (At pc s d) (At (pc + length (c1 ++ c2)) s2 (all_traced layout (t1 ++ t2) d))
  code-then pc c1 c2 s s1 s2 d t1 t2 r q =
      let e : pc + length c1 + length c2 ≡ pc + length (c1 ++ c2) = let l : length (c1 ++ c2) ≡ length c1 + length c2 = length-append c1 c2 in omega (arith, l) in
      let d1 : Data F = all_traced layout t1 d in
      let m2 = At (pc + length c1 + length c2) s2 (all_traced layout t2 d1) in
      reaches-to meaning is_quiet (At pc s d) m2 (At (pc + length (c1 ++ c2)) s2 (all_traced layout (t1 ++ t2) d))
      ((λ i. At (e i) s2 (sym (traced-append layout t1 t2 d) i)))
      (reaches-on meaning is_quiet (At pc s d) (At (pc + length c1) s1 d1) m2 r (q d1))

  mutual
    pub body-runs : (body : Body A C) (guard : Option ℕ) (k b pc : ℕ) (s : List ℤ) (d : Data F) → HasAt meaning code is_quiet pc (Code body guard k b pc)
        → b + body_slots body ≤ length s → TakeSteps counting is_index body → base ≤ b
        → Reaches meaning is_quiet (At pc s d) (At (pc + length (Code body guard k b pc)) (After body b s) (all_traced layout (Trace body guard k b s) d))
    body-runs NoText guard k b pc s d has room steps above = let e : pc ≡ pc + 0 = omega arith in (0, ap (λ p. At p s d) e, none-quiet meaning is_quiet (At pc s d))
    body-runs (AndText a rest) guard k b pc s d has room steps above =
        let c1 : List (Instr F) = text_code texts size stored guard a in
        let p1 : ℕ = pc + length c1 in
        code-then pc c1 (Code rest guard k b p1) s s (After rest b s) d
        (Does (text_tuples texts size stored guard a) (texts.left a) s ∷ mark_trace texts size stored guard (texts.mark a) s) (Trace rest guard k b s)
        (text-reaches pc s d guard a (has-front meaning code is_quiet pc c1 (Code rest guard k b p1) has))
        (λ d1. body-runs rest guard k b p1 s d1 (has-back meaning code is_quiet pc c1 (Code rest guard k b p1) has) room steps above)
    body-runs (AndIf arms rest) guard k b pc s d has room steps above =
        let c1 : List (Instr F) = ArmsCode arms guard [] k b pc in
        let p1 : ℕ = pc + length c1 in
        let k1 : ℕ = k + count_arms arms in
        let s1 : List ℤ = AfterArms arms b s in
        let long : length s ≡ length s1 = (same-after-arms counting is_index arms steps.0 b s).0 in
        code-then pc c1 (Code rest guard k1 b p1) s s1 (After rest b s1) d (TraceArms arms guard [] k b s) (Trace rest guard k1 b s1)
        (arms-run arms guard [] k b pc s d (has-front meaning code is_quiet pc c1 (Code rest guard k1 b p1) has) (omega (arith, room)) steps.0 above)
        (λ d1. body-runs rest guard k1 b p1 s1 d1 (has-back meaning code is_quiet pc c1 (Code rest guard k1 b p1) has) (omega (arith, room, long)) steps.1 above)
    body-runs (AndLoop bounds inner rest) guard k b pc s d has room steps above =
        let bcode : List (Instr F) = Code inner guard k (b + 4) (pc + 5) in
        let c1 : List (Instr F) = loop_code counting bounds b pc bcode in
        let p1 : ℕ = pc + length c1 in
        let k1 : ℕ = k + count_body inner in
        let h : List ℤ = headed bounds b s in
        let n : ℕ = trips_at counting b h in
        let s1 : List ℤ = left_slots counting (After inner (b + 4)) bounds.index b h n in
        let same = same-left counting is_index (After inner (b + 4)) bounds.index b steps.0.1 (λ z. same-after counting is_index inner steps.1 (b + 4) z) h n in
        let long : length s ≡ length s1 = (same-headed counting is_index bounds b s steps.0.1).0 ∙ same.0 in
        let t1 : List (Traced F) = joined_up_to n (λ x. Trace inner guard k (b + 4) (trip_slots counting (After inner (b + 4)) bounds.index b
        (first_trip counting b h n) x)) in
        let hc : HasAt meaning code is_quiet pc c1 = has-front meaning code is_quiet pc c1 (Code rest guard k1 b p1) has in
        let le : length c1 ≡ 5 + length bcode + 5 = loop-length counting bounds b pc bcode in
        let ep : pc + 5 + length bcode + 5 ≡ pc + length c1 = omega (arith, le) in
        let e4 : pc + 1 + 1 + 1 + 1 + 1 ≡ pc + 5 = omega arith in
        let inside : HasAt meaning code is_quiet (pc + 5) bcode = has-front meaning code is_quiet (pc + 5) bcode (loop_tail counting bounds b (pc + 5) (pc + 5 + length bcode + 5)) (has-at meaning code is_quiet (pc + 1 + 1 + 1 + 1 + 1) (pc + 5) (bcode ++ loop_tail counting bounds b (pc + 5) (pc + 5 + length bcode + 5)) e4 hc.1.1.1.1.1) in
        code-then pc c1 (Code rest guard k1 b p1) s s1 (After rest b s1) d t1 (Trace rest guard k1 b s1)
        (reaches-to meaning is_quiet (At pc s d) (At (pc + 5 + length bcode + 5) s1 (all_traced layout t1 d)) (At p1 s1 (all_traced layout t1 d)) (ap (λ p. At p s1 (all_traced layout t1 d)) ep)
        (loop-reaches meaning code is_quiet joined line printed counting right is_index base hidden layout bounds b pc (length s) steps.0.1 above bcode (After inner (b + 4)) (Trace inner guard k (b + 4)) (λ z. same-after counting is_index inner steps.1 (b + 4) z)
        (λ z d1 l. body-runs inner guard k (b + 4) (pc + 5) z d1 inside (omega (arith, room, l)) steps.1 (omega (arith, above))) hc (omega (arith, room)) s d refl steps.0.0))
        (λ d1. body-runs rest guard k1 b p1 s1 d1 (has-back meaning code is_quiet pc c1 (Code rest guard k1 b p1) has) (omega (arith, room, long)) steps.2 above)

    pub arms-run : (arms : Arms A C) (guard : Option ℕ) (earlier : List ℕ) (k b pc : ℕ) (s : List ℤ) (d : Data F) → HasAt meaning code is_quiet pc (ArmsCode arms guard earlier k b pc)
        → b + arms_slots arms ≤ length s → ArmsTakeSteps counting is_index arms → base ≤ b
        → Reaches meaning is_quiet (At pc s d) (At (pc + length (ArmsCode arms guard earlier k b pc)) (AfterArms arms b s) (all_traced layout (TraceArms arms guard earlier k b s) d))
    arms-run NoArm guard earlier k b pc s d has room steps above = let e : pc ≡ pc + 0 = omega arith in (0, ap (λ p. At p s d) e, none-quiet meaning is_quiet (At pc s d))
    arms-run (AndArm test body others) guard earlier k b pc s d has room steps above =
        let c1 : List (Instr F) = Code body (Some k) (k + 1) b (pc + 2) in
        let p1 : ℕ = pc + 2 + length c1 in
        let k1 : ℕ = k + 1 + count_body body in
        let s1 : List ℤ = After body b s in
        let c2 : List (Instr F) = ArmsCode others guard (k ∷ earlier) k1 b p1 in
        let long : length s ≡ length s1 = (same-after counting is_index body steps.0 b s).0 in
        let e2 : pc + 1 + 1 ≡ pc + 2 = omega arith in
        let hc : HasAt meaning code is_quiet (pc + 2) (c1 ++ c2) = has-at meaning code is_quiet (pc + 1 + 1) (pc + 2) (c1 ++ c2) e2 has.1.1 in
        let tuples : Tuples F = test_tuples texts size stored guard earlier test in
        let made : Data F = traced layout (Makes (stored + k) s) d in
        let tested : Data F = traced layout (Does tuples (copy_spot (stored + k)) s) made in
        let t1 : List (Traced F) = Trace body (Some k) (k + 1) b s in
        let t2 : List (Traced F) = TraceArms others guard (k ∷ earlier) k1 b s1 in
        let m0 = At pc s d in
        let m1 = At (pc + 1) s made in
        let m2 = At (pc + 2) s tested in
        let m3 = At (pc + 2 + length (c1 ++ c2)) (AfterArms others b s1) (all_traced layout (t1 ++ t2) tested) in
        let ep : pc + 2 + length (c1 ++ c2) ≡ pc + suc (suc (length (c1 ++ c2))) = omega arith in
        reaches-to meaning is_quiet m0 m3 (At (pc + suc (suc (length (c1 ++ c2)))) (AfterArms others b s1) (all_traced layout (t1 ++ t2) tested))
        (ap (λ p. At p (AfterArms others b s1) (all_traced layout (t1 ++ t2) tested)) ep)
        (reaches-on meaning is_quiet m0 m1 m3 (1, one meaning code joined line printed pc s d (MakeCopy (stored + k) layout zero_start) has.0.0, first-quiet meaning is_quiet m0 has.0.1)
        (reaches-on meaning is_quiet m1 m2 m3
        (reaches-to meaning is_quiet m1 (At (pc + 1 + 1) s tested) m2 (ap (λ p. At p s tested) e2) (par-reaches (pc + 1) s made tuples (copy_spot (stored + k)) has.1.0))
        (code-then (pc + 2) c1 c2 s s1 (AfterArms others b s1) tested t1 t2
        (body-runs body (Some k) (k + 1) b (pc + 2) s tested (has-front meaning code is_quiet (pc + 2) c1 c2 hc) (omega (arith, room)) steps.0 above)
        (λ d1. arms-run others guard (k ∷ earlier) k1 b p1 s1 d1 (has-back meaning code is_quiet (pc + 2) c1 c2 hc) (omega (arith, room, long)) steps.1 above))))
