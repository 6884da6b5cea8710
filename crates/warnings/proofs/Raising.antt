-- Where the hold keeps a timer under its ceiling, a higher ceiling of the timer changes no hold interval.
use Rattle.std.proofs.Common.{◌≡◌, ℕ, suc, ◌+◌, ◌-◌, ◌*◌, ◌<◌, ◌≤◌, min, ◌⊎◌, List, [], ◌∷◌, length, get_or, set, sym, refl, ap, subst, inl, inr, arith}
use Rattle.std.specs.List.{AllByRecursion}
use Rattle.std.proofs.lemmas.Bool.{cases_eq}
use Rattle.std.proofs.lemmas.List.{get_or-set_same, get_or-set_other, length-set}
use Rattle.theory.specs.Records.{Record, count, timer_no}
use Rattle.runs.specs.Plans.{Plan, stage_of}
use Rattle.runs.specs.Runs.{Run, after, ceiling_wait, cuts, opening, room, top, upto}
use Rattle.runs.proofs.Allowed.{within_cuts, within_inside}
use Rattle.runs.proofs.Permits.{ceiling_wait_is, held_top, room_cons, room_nil, room_under, top_held, within_hold}
use Rattle.runs.proofs.Reach.{Allows}
use Rattle.warnings.specs.Promised.{AHigherCeilingLetsNoRunStayLonger, HoldKeepsUnder, HoldsThrough, StaysAsLongUnderAHigherCeiling, TheHoldEndsBeforeTheCeiling, with_ceiling}
use Rattle.warnings.proofs.Counted.{times_larger}

-- the wait d takes no timer, from timer i on, past these ceilings
abbrev pub UnderFrom : ℕ → Record → ℕ → List ℕ → Type 0
UnderFrom i r d ms =
    (j : ℕ) → j < length ms → d ≤ 2 * r.classes * get_or ms j 0 - count r (timer_no r (i + j))

-- the wait d takes no timer past these ceilings
abbrev pub UnderEach : Record → ℕ → List ℕ → Type 0
UnderEach r d ms =
    (j : ℕ) → j < length ms → d ≤ 2 * r.classes * get_or ms j 0 - count r (timer_no r j)

room_from : (r : Record) (d best i : ℕ) (ms : List ℕ) → d ≤ best → UnderFrom i r d ms → d ≤ room r best i ms
room_from r d best i [] l h = omega (arith, room_nil r best i)
room_from r d best i (m ∷ ms) l h =
    omega (arith, room_cons r best i m ms, room_from r d best' (suc i) ms here rest)
  where
    best' : ℕ
    best' = min best (2 * r.classes * m - count r (timer_no r i))

    here : d ≤ best'
    here =
        let e : i + 0 ≡ i = omega arith in
        omega (arith, h 0 (omega arith), ap (λ z. count r (timer_no r z)) e)

    rest : UnderFrom (suc i) r d ms
    rest j k =
        let e : suc i + j ≡ i + suc j = omega arith in
        omega (arith, h (suc j) (omega arith), ap (λ z. count r (timer_no r z)) e)

-- a wait is by the ceilings exactly if it takes no timer past its ceiling
under_from_wait : (plan : Plan) (r : Record) (d : ℕ) → d ≤ ceiling_wait plan r → UnderEach r d plan.ceilings
under_from_wait plan r d l j k =
    let e : 0 + j ≡ j = omega arith in
    omega (arith, ceiling_wait_is plan r, room_under r (2 * r.classes * get_or plan.ceilings 0 0) 0 plan.ceilings j k, ap (λ z. count r (timer_no r z)) e)

wait_from_under : (plan : Plan) (r : Record) (d : ℕ) → 0 < length plan.ceilings → UnderEach r d plan.ceilings → d ≤ ceiling_wait plan r
wait_from_under plan r d k h =
    omega (arith, ceiling_wait_is plan r, room_from r d (2 * r.classes * get_or plan.ceilings 0 0) 0 plan.ceilings (omega (arith, h 0 k)) from_first)
  where
    from_first : UnderFrom 0 r d plan.ceilings
    from_first j l =
        let e : 0 + j ≡ j = omega arith in omega (arith, h j l, ap (λ z. count r (timer_no r z)) e)

-- what the other ceilings allow, they allow whatever the ceiling of timer x is
under_lowered : (r : Record) (d x m : ℕ) (ms : List ℕ) → x < length ms → d ≤ 2 * r.classes * get_or ms x 0 - count r (timer_no r x) → UnderEach r d (set ms x m) → UnderEach r d ms
under_lowered r d x m ms k l h j n = go (cases_eq j x)
  where
    go : (j ≡ x) ⊎ (j ≡ x → ⊥) → d ≤ 2 * r.classes * get_or ms j 0 - count r (timer_no r j)
    go (inl e) = subst (λ y. d ≤ 2 * r.classes * get_or ms y 0 - count r (timer_no r y)) (sym e) l
    go (inr e) =
        subst (λ c. d ≤ 2 * r.classes * c - count r (timer_no r j)) (get_or-set_other ms x j m 0 e) (h j (omega (arith, length-set ms x m)))

under_raised : (r : Record) (d x m : ℕ) (ms : List ℕ) → x < length ms → get_or ms x 0 ≤ m → UnderEach r d ms → UnderEach r d (set ms x m)
under_raised r d x m ms k l h j n = go (cases_eq j x)
  where
    here : d ≤ 2 * r.classes * m - count r (timer_no r x)
    here = omega (arith, h x k, times_larger (2 * r.classes) (get_or ms x 0) m (2 * r.classes * get_or ms x 0) l (omega arith))

    go : (j ≡ x) ⊎ (j ≡ x → ⊥) → d ≤ 2 * r.classes * get_or (set ms x m) j 0 - count r (timer_no r j)
    go (inl e) =
        subst (λ y. d ≤ 2 * r.classes * get_or (set ms x m) y 0 - count r (timer_no r y)) (sym e) (subst (λ c. d ≤ 2 * r.classes * c - count r (timer_no r x)) (sym (get_or-set_same ms x m 0 k)) here)
    go (inr e) =
        subst (λ c. d ≤ 2 * r.classes * c - count r (timer_no r j)) (sym (get_or-set_other ms x j m 0 e)) (h j (omega (arith, length-set ms x m)))

-- plans with the same hold in stage i: if the ceilings of the second allow what the hold interval of the first allows, its hold interval is as long or longer
longer : (p q : Plan) (i : ℕ) (r : Record) → (stage_of p i).hold ≡ (stage_of q i).hold → (top p i r ≤ ceiling_wait p r → 0 < top p i r → top p i r ≤ ceiling_wait q r) → top p i r ≤ top q i r
longer p q i r e f = go (cases_eq (top p i r) 0)
  where
    allowed : (d : ℕ) → d ≤ top p i r → 0 < top p i r → AllByRecursion (Allows r d) (stage_of q i).hold
    allowed d l z =
        subst (AllByRecursion (Allows r d)) e ((within_hold p i r d).0 (top_held p i r d z l)).1

    go : (top p i r ≡ 0) ⊎ (top p i r ≡ 0 → ⊥) → top p i r ≤ top q i r
    go (inl z) = omega (arith, z)
    go (inr n) =
        let z : 0 < top p i r = omega (arith, n) in
        let c = ((within_hold p i r (top p i r)).0 (top_held p i r (top p i r) z (omega arith))).0 in
        held_top q i r (top p i r) ((within_hold q i r 0).1 (omega arith, allowed 0 (omega arith) z)) ((within_hold q i r (top p i r)).1 (f c z, allowed (top p i r) (omega arith) z))

-- the hold allows every wait of a hold interval that is longer than 0
holds_through : (plan : Plan) (i : ℕ) (r : Record) → 0 < top plan i r → HoldsThrough plan i r (top plan i r)
holds_through plan i r z e l =
    let hold = (stage_of plan i).hold in
    within_inside e (cuts r hold (upto (top plan i r))) ((within_cuts r hold e (upto (top plan i r))).1 ((omega arith, omega (arith, l)), ((within_hold plan i r e).0 (top_held plan i r e z l)).1))

stays_as_long : (plan : Plan) (i x : ℕ) (run : Run) → x < length plan.ceilings → HoldKeepsUnder plan i x run → StaysAsLongUnderAHigherCeiling plan i x run
stays_as_long plan i x run k under m l = omega (arith, no_longer, no_shorter)
  where
    r : Record
    r = run.region

    raised : Plan
    raised = with_ceiling plan x m

    no_longer : top raised i r ≤ top plan i r
    no_longer =
        longer raised plan i r refl (λ c z. wait_from_under plan r (top raised i r) (omega (arith, k)) (under_lowered r (top raised i r) x m plan.ceilings k (omega (arith, under (top raised i r) (holds_through raised i r z))) (under_from_wait raised r (top raised i r) c)))

    no_shorter : top plan i r ≤ top raised i r
    no_shorter =
        longer plan raised i r refl (λ c z. wait_from_under raised r (top plan i r) (omega (arith, k, length-set plan.ceilings x m)) (under_raised r (top plan i r) x m plan.ceilings k l (under_from_wait plan r (top plan i r) c)))

pub no_run_stays_longer : (plan : Plan) (i x : ℕ) → x < length plan.ceilings → TheHoldEndsBeforeTheCeiling plan i x → AHigherCeilingLetsNoRunStayLonger plan i x
no_run_stays_longer plan i x k ends draws calls fit going at =
    stays_as_long plan i x (after plan (opening plan draws) calls) k (ends draws calls fit going at)
