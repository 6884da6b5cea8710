-- The hold interval is the waits of the permitted moments.
use Rattle.std.proofs.Common.{◌≡◌, ℕ, zero, suc, ◌+◌, ◌-◌, ◌*◌, ◌<◌, ◌≤◌, min, true, false, cond, ◌⊎◌, ◌↔◌, List, [], ◌∷◌, length, get_or, drop, sym, refl, ap, ◌∙◌, subst, inl, inr, arith}
use Rattle.std.specs.List.{AllByRecursion}
use Rattle.std.proofs.lemmas.List.{at_drop_more, at_drop_all}
use Rattle.std.proofs.lemmas.Bool.{cases_Bool, cond-true, cond-false}
use Rattle.theory.specs.Settings.{reach}
use Rattle.theory.specs.Records.{Record, record_of, record_in, count, timer_no, wait}
use Rattle.theory.specs.Regions.{Comparison, NamesBelow}
use Rattle.theory.proofs.Counts.{wait_injective}
use Rattle.theory.proofs.Moments.{reach_in_order, every_wait_in_half_ticks, moments_are_waits}
use Rattle.theory.proofs.Validity.{length_of}
use Rattle.runs.specs.Plans.{Plan, Sound, stage_of}
use Rattle.runs.specs.Ticks.{Holds, limits, Permitted}
use Rattle.runs.specs.Runs.{inside, upto, cuts, room, ceiling_wait, hold_span, top}
use Rattle.runs.specs.Telling.{AtWait, AllowedWaitsAreTrueMoments, TheHoldIntervalIsPermittedTime}
use Rattle.runs.proofs.Reach.{Allows, reach_now}
use Rattle.runs.proofs.Allowed.{Within, inside_within, within_inside, within_cuts, holds_allows}
use Rattle.runs.proofs.Plans.{limits_nil, limits_cons, limits_named, hold_is_named, named_like}

-- what `room`, `ceiling-wait`, `hold-span` and `top` open to
pub room_nil : (r : Record) (best i : ℕ) → room r best i [] ≡ best
unfolding room
room_nil r best i = refl

pub room_cons : (r : Record) (best i m : ℕ) (ms : List ℕ) → room r best i (m ∷ ms) ≡ room r (min best (2 * r.classes * m - count r (timer_no r i))) (suc i) ms
unfolding room
room_cons r best i m ms = refl

pub room_more : (r : Record) (best i m : ℕ) (ms : List ℕ) → i < length ms → room r best i (drop i ms) ≡ room r (min best (2 * r.classes * get_or ms i m - count r (timer_no r i))) (suc i) (drop (i + 1) ms)
room_more r best i m ms h =
    at_drop_more (room r best i) ms i m h ∙ room_cons r best i (get_or ms i m) (drop (i + 1) ms)

pub room_all : (r : Record) (best i : ℕ) (ms : List ℕ) → length ms ≤ i → room r best i (drop i ms) ≡ best
room_all r best i ms h = at_drop_all (room r best i) ms i h ∙ room_nil r best i

pub ceiling_wait_is : (plan : Plan) (r : Record) → ceiling_wait plan r ≡ room r (2 * r.classes * get_or plan.ceilings 0 0) 0 plan.ceilings
unfolding ceiling_wait
ceiling_wait_is plan r = refl

pub hold_span_is : (plan : Plan) (i : ℕ) (r : Record) → hold_span plan i r ≡ cuts r (stage_of plan i).hold (upto (ceiling_wait plan r))
unfolding hold_span
hold_span_is plan i r = refl

pub top_is : (plan : Plan) (i : ℕ) (r : Record) → top plan i r ≡ cond (inside 0 (hold_span plan i r)) ((hold_span plan i r).until - 1) 0
unfolding top
top_is plan i r = refl

-- no room is more than the start, nor than any timer's
pub room_best : (r : Record) (best i : ℕ) (ms : List ℕ) → room r best i ms ≤ best
room_best r best i [] = omega (arith, room_nil r best i)
room_best r best i (m ∷ ms) =
    omega (arith, room_cons r best i m ms, room_best r (min best (2 * r.classes * m - count r (timer_no r i))) (suc i) ms)

pub room_under : (r : Record) (best i : ℕ) (ms : List ℕ) (j : ℕ) → j < length ms → room r best i ms ≤ 2 * r.classes * get_or ms j 0 - count r (timer_no r (i + j))
room_under r best i [] j h = absurd (omega arith)
room_under r best i (m ∷ ms) zero h =
    omega (arith, room_cons r best i m ms, room_best r (min best (2 * r.classes * m - count r (timer_no r i))) (suc i) ms, ap (λ z. count r (timer_no r z)) e)
  where
    e : i + 0 ≡ i
    e = omega arith
room_under r best i (m ∷ ms) (suc j) h =
    omega (arith, room_cons r best i m ms, room_under r (min best (2 * r.classes * m - count r (timer_no r i))) (suc i) ms j (omega arith), ap (λ z. count r (timer_no r z)) e)
  where
    e : suc i + j ≡ i + suc j
    e = omega arith

-- a wait above 0 within the room, and every shorter one, passes no ceiling
pub room_allows : (r : Record) (best i : ℕ) (ms : List ℕ) (d e : ℕ) → 0 < d → e ≤ d → d ≤ room r best i ms → AllByRecursion (Allows r e) (limits i ms)
room_allows r best i [] d e z l h = subst (AllByRecursion (Allows r e)) (sym (limits_nil i)) tt
room_allows r best i (m ∷ ms) d e z l h =
    subst (AllByRecursion (Allows r e)) (sym (limits_cons i m ms)) (omega (arith, room_cons r best i m ms, room_best r best' (suc i) ms), room_allows r best' (suc i) ms d e z l (omega (arith, room_cons r best i m ms)))
  where
    best' : ℕ
    best' = min best (2 * r.classes * m - count r (timer_no r i))

-- a wait that passes no ceiling is within the room
pub allows_room : (r : Record) (best i : ℕ) (ms : List ℕ) (d : ℕ) → d ≤ best → AllByRecursion (Allows r d) (limits i ms) → d ≤ room r best i ms
allows_room r best i [] d l h = omega (arith, room_nil r best i)
allows_room r best i (m ∷ ms) d l h =
    let a = subst (AllByRecursion (Allows r d)) (limits_cons i m ms) h in
    let b : d ≤ min best (2 * r.classes * m - count r (timer_no r i)) = omega (arith, a.0) in
    omega (arith, room_cons r best i m ms, allows_room r (min best (2 * r.classes * m - count r (timer_no r i))) (suc i) ms d b a.1)

pub allows_ceiling_wait : (plan : Plan) (r : Record) (d : ℕ) → 1 ≤ length plan.ceilings → AllByRecursion (Allows r d) (limits 0 plan.ceilings) → d ≤ ceiling_wait plan r
allows_ceiling_wait plan r d n h =
    omega (arith, ceiling_wait_is plan r, allows_room r (2 * r.classes * get_or plan.ceilings 0 0) 0 plan.ceilings d (first plan.ceilings n h) h)
  where
    first : (ms : List ℕ) → 1 ≤ length ms → AllByRecursion (Allows r d) (limits 0 ms) → d ≤ 2 * r.classes * get_or ms 0 0
    first [] l a = absurd (omega arith)
    first (m ∷ ms) l a = let b = subst (AllByRecursion (Allows r d)) (limits_cons 0 m ms) a in omega (arith, b.0)

-- either the hold allows 0, or the hold interval is 0 alone
pub top_cases : (plan : Plan) (i : ℕ) (r : Record) → (Within 0 (hold_span plan i r) × (top plan i r ≡ (hold_span plan i r).until - 1)) ⊎ ((inside 0 (hold_span plan i r) ≡ false) × (top plan i r ≡ 0))
top_cases plan i r = go (cases_Bool (inside 0 (hold_span plan i r)))
  where
    go : (inside 0 (hold_span plan i r) ≡ true) ⊎ (inside 0 (hold_span plan i r) ≡ false) → (Within 0 (hold_span plan i r) × (top plan i r ≡ (hold_span plan i r).until - 1)) ⊎ ((inside 0 (hold_span plan i r) ≡ false) × (top plan i r ≡ 0))
    go (inl e) =
        inl (inside_within 0 (hold_span plan i r) e, top_is plan i r ∙ cond-true (inside 0 (hold_span plan i r)) ((hold_span plan i r).until - 1) 0 e)
    go (inr e) =
        inr (e, top_is plan i r ∙ cond-false (inside 0 (hold_span plan i r)) ((hold_span plan i r).until - 1) 0 e)

pub within_hold : (plan : Plan) (i : ℕ) (r : Record) (d : ℕ) → Within d (hold_span plan i r) ↔ ((d ≤ ceiling_wait plan r) × AllByRecursion (Allows r d) (stage_of plan i).hold)
within_hold plan i r d =
    let e = hold_span_is plan i r in
    let f = within_cuts r (stage_of plan i).hold d (upto (ceiling_wait plan r)) in
    (λ h. let a = f.0 (subst (Within d) e h) in (omega (arith, a.0), a.1), λ h. subst (Within d) (sym e) (f.1 ((omega arith, omega arith), h.1)))

-- the hold interval passes no ceiling
pub top_under : (plan : Plan) (i : ℕ) (r : Record) → top plan i r ≤ ceiling_wait plan r
top_under plan i r = go (top_cases plan i r)
  where
    go : (Within 0 (hold_span plan i r) × (top plan i r ≡ (hold_span plan i r).until - 1)) ⊎ ((inside 0 (hold_span plan i r) ≡ false) × (top plan i r ≡ 0)) → top plan i r ≤ ceiling_wait plan r
    go (inl h) =
        let w : Within (top plan i r) (hold_span plan i r) = omega (arith, h.0, h.1) in
        ((within_hold plan i r (top plan i r)).0 w).0
    go (inr h) = omega (arith, h.1)

-- where the hold interval is longer than 0, the hold allows each of its waits
pub top_held : (plan : Plan) (i : ℕ) (r : Record) (d : ℕ) → 0 < top plan i r → d ≤ top plan i r → Within d (hold_span plan i r)
top_held plan i r d z l = go (top_cases plan i r)
  where
    go : (Within 0 (hold_span plan i r) × (top plan i r ≡ (hold_span plan i r).until - 1)) ⊎ ((inside 0 (hold_span plan i r) ≡ false) × (top plan i r ≡ 0)) → Within d (hold_span plan i r)
    go (inl h) = omega (arith, h.0, h.1)
    go (inr h) = absurd (omega (arith, h.1))

-- what the hold allows from 0 on is in the hold interval
pub held_top : (plan : Plan) (i : ℕ) (r : Record) (d : ℕ) → Within 0 (hold_span plan i r) → Within d (hold_span plan i r) → d ≤ top plan i r
held_top plan i r d z h = go (top_cases plan i r)
  where
    go : (Within 0 (hold_span plan i r) × (top plan i r ≡ (hold_span plan i r).until - 1)) ⊎ ((inside 0 (hold_span plan i r) ≡ false) × (top plan i r ≡ 0)) → d ≤ top plan i r
    go (inl k) = omega (arith, k.1)
    go (inr k) = absurd (let y : ◌≡◌ {A = ℕ} 0 1 = cc (within_inside 0 (hold_span plan i r) z, k.0) in omega arith)

-- a wait of the hold interval keeps every count under its ceiling, if it was under it before
pub top_counts : (plan : Plan) (i : ℕ) (r : Record) (d j : ℕ) → j < length plan.ceilings → d ≤ top plan i r → count r (timer_no r j) ≤ 2 * r.classes * get_or plan.ceilings j 0 → count r (timer_no r j) + d ≤ 2 * r.classes * get_or plan.ceilings j 0
top_counts plan i r d j h l b =
    omega (arith, top_under plan i r, ceiling_wait_is plan r, room_under r (2 * r.classes * get_or plan.ceilings 0 0) 0 plan.ceilings j h, ap (λ z. count r (timer_no r z)) e)
  where
    e : 0 + j ≡ j
    e = omega arith

-- a permitted moment lies in the hold interval
pub permitted_reach : (plan : Plan) (i D : ℕ) (v : List ℕ) (p q : ℕ) → Sound plan → 1 ≤ D → length v ≡ length plan.ceilings → 1 ≤ q → Permitted plan i D v p q → reach D v p q ≤ top plan i (record_of D v)
permitted_reach plan i D v p q s d n k (inl e) = omega (arith, ap (λ z. reach D v z q) e, reach_now D v q)
permitted_reach plan i D v p q s d n k (inr h) =
    held_top plan i r (reach D v p q) (subst (λ z. Within z (hold_span plan i r)) (reach_now D v 1) (held 0 1 (omega arith) (omega arith))) (held p q k (omega arith))
  where
    r : Record
    r = record_of D v

    held : (p' q' : ℕ) → 1 ≤ q' → p' * q ≤ p * q' → Within (reach D v p' q') (hold_span plan i r)
    held p' q' k' l =
        let a = h p' q' k' l in
        (within_hold plan i r (reach D v p' q')).1 (allows_ceiling_wait plan r (reach D v p' q') s.some_timer ((holds_allows D v p' q' d k' (limits 0 plan.ceilings) (named_like plan v (limits 0 plan.ceilings) n (limits_named (length plan.ceilings) 0 plan.ceilings (omega arith)))).0 a.1), (holds_allows D v p' q' d k' (stage_of plan i).hold (named_like plan v (stage_of plan i).hold n (hold_is_named plan s i))).0 a.0)

-- a moment in the hold interval is permitted, if it is now or at a wait above 0
pub reach_permitted : (plan : Plan) (i D : ℕ) (v : List ℕ) (p q : ℕ) → Sound plan → 1 ≤ D → length v ≡ length plan.ceilings → 1 ≤ q → (p ≡ 0) ⊎ (0 < reach D v p q) → reach D v p q ≤ top plan i (record_of D v) → Permitted plan i D v p q
reach_permitted plan i D v p q s d n k (inl e) l = inl e
reach_permitted plan i D v p q s d n k (inr z) l = inr held
  where
    r : Record
    r = record_of D v

    held : (p' q' : ℕ) → 1 ≤ q' → p' * q ≤ p * q' → Holds D v p' q' (stage_of plan i).hold × Holds D v p' q' (limits 0 plan.ceilings)
    held p' q' k' m =
        let o = reach_in_order D v d p' q' p q k' k m in
        let w = top_held plan i r (reach D v p' q') (omega arith) (omega arith) in
        ((holds_allows D v p' q' d k' (stage_of plan i).hold (named_like plan v (stage_of plan i).hold n (hold_is_named plan s i))).1 ((within_hold plan i r (reach D v p' q')).0 w).1, (holds_allows D v p' q' d k' (limits 0 plan.ceilings) (named_like plan v (limits 0 plan.ceilings) n (limits_named (length plan.ceilings) 0 plan.ceilings (omega arith)))).1 (room_allows r (2 * r.classes * get_or plan.ceilings 0 0) 0 plan.ceilings (reach D v p q) (reach D v p' q') z o (omega (arith, top_under plan i r, ceiling_wait_is plan r))))

-- every wait of the hold interval has a permitted moment
pub moment_for : (plan : Plan) (i D : ℕ) (v : List ℕ) → Sound plan → 1 ≤ D → length v ≡ length plan.ceilings → (d : ℕ) → d ≤ top plan i (record_of D v) → (p : ℕ) × (q : ℕ) × AtWait D v d p q × Permitted plan i D v p q
moment_for plan i D v s h n zero l = (0, 1, record { a_moment = omega arith; its_wait = reach_now D v 1 }, inl refl)
moment_for plan i D v s h n (suc d) l =
    let w = every_wait_in_half_ticks D v h (omega (arith, s.some_timer)) (suc d) in
    (w.0, 2, record { a_moment = omega arith; its_wait = w.1 }, reach_permitted plan i D v w.0 2 s h n (omega arith) (inr (omega (arith, w.1))) (omega (arith, w.1)))

pub the_hold_interval_is_permitted_time : TheHoldIntervalIsPermittedTime
the_hold_interval_is_permitted_time plan i D v s h n d =
    (moment_for plan i D v s h n d, λ w. omega (arith, permitted_reach plan i D v w.0 w.1 s h n w.2.a_moment w.3, w.2.its_wait))

pub allowed_waits_are_true_moments : AllowedWaitsAreTrueMoments
allowed_waits_are_true_moments = record { exactly = exactly; moments = moments; by_record = by_record }
  where
    moments : (D : ℕ) (v : List ℕ) → 1 ≤ D → 1 ≤ length v → (d : ℕ) → (p : ℕ) × (q : ℕ) × AtWait D v d p q
    moments D v h n d =
        let w = every_wait_in_half_ticks D v h n d in (w.0, 2, record { a_moment = omega arith; its_wait = w.1 })

    exactly : (D : ℕ) (v : List ℕ) (cs : List Comparison) → 1 ≤ D → 1 ≤ length v → AllByRecursion (NamesBelow (length v)) cs → (d : ℕ) → (inside d (cuts (record_of D v) cs (upto d)) ≡ true) ↔ ((p q : ℕ) → AtWait D v d p q → Holds D v p q cs)
    exactly D v cs h n m d = (to, from)
      where
        to : inside d (cuts (record_of D v) cs (upto d)) ≡ true → (p q : ℕ) → AtWait D v d p q → Holds D v p q cs
        to e p q a =
            (holds_allows D v p q h a.a_moment cs m).1 (subst (λ z. AllByRecursion (Allows (record_of D v) z) cs) (sym a.its_wait) ((within_cuts (record_of D v) cs d (upto d)).0 (inside_within d (cuts (record_of D v) cs (upto d)) e)).1)

        from : ((p q : ℕ) → AtWait D v d p q → Holds D v p q cs) → inside d (cuts (record_of D v) cs (upto d)) ≡ true
        from f =
            let w = moments D v h n d in
            within_inside d (cuts (record_of D v) cs (upto d)) ((within_cuts (record_of D v) cs d (upto d)).1 ((omega arith, omega arith), subst (λ z. AllByRecursion (Allows (record_of D v) z) cs) w.2.its_wait ((holds_allows D v w.0 w.1 h w.2.a_moment cs m).0 (f w.0 w.1 w.2))))

    by_record : (D : ℕ) (v : List ℕ) → 1 ≤ D → 1 ≤ length v → (d p q : ℕ) → 1 ≤ q → AtWait D v d p q ↔ (record_in D v p q ≡ wait d (record_of D v))
    by_record D v h n d p q k =
        (λ a. moments_are_waits D v h p q k ∙ ap (λ z. wait z (record_of D v)) a.its_wait, λ e. record { a_moment = k; its_wait = wait_injective (record_of D v) (reach D v p q) d (omega (arith, length_of D v)) (sym (moments_are_waits D v h p q k) ∙ e) })

-- the hold interval is no longer than any timer's ceiling
pub top_bounded : (plan : Plan) (i : ℕ) (r : Record) (j : ℕ) → j < length plan.ceilings → top plan i r ≤ 2 * r.classes * get_or plan.ceilings j 0
top_bounded plan i r j h =
    omega (arith, top_under plan i r, ceiling_wait_is plan r, room_under r (2 * r.classes * get_or plan.ceilings 0 0) 0 plan.ceilings j h)
