-- The offers are the possible changes.
use Rattle.std.proofs.Common.{◌≡◌, ℕ, zero, suc, ◌+◌, ◌-◌, ◌<◌, ◌≤◌, true, false, cond, ◌⊎◌, ◌↔◌, List, [], ◌∷◌, length, get_or, sym, refl, ap, ◌∙◌, subst, inl, inr, arith}
use Rattle.std.specs.List.{AllByRecursion}
use Rattle.std.proofs.ByRecursion.{All-get_or, All-weaker}
use Rattle.std.proofs.lemmas.Bool.{cases_Bool, cond-true, cond-false}
use Rattle.theory.specs.Settings.{reach}
use Rattle.theory.specs.Records.{Record, record_of}
use Rattle.runs.specs.Plans.{Plan, Change, blank_change, Sound, stage_of, OfStage, change_of}
use Rattle.runs.specs.Ticks.{Possible}
use Rattle.runs.specs.Runs.{any_in, upto, top, guard_span, offer_of, blank_offer, offers_from, offers_at}
use Rattle.runs.specs.Telling.{Offered, GuardTrueAt, FirstAndLast, OffersAreThePossibleChanges}
use Rattle.runs.specs.declared.Offer.{Offer}
use Rattle.runs.proofs.Reach.{Allows}
use Rattle.runs.proofs.Allowed.{Within, any_within, within_any, within_cuts, holds_allows}
use Rattle.runs.proofs.Permits.{permitted_reach, moment_for}
use Rattle.runs.proofs.Plans.{guard_is_named, named_like}

pub offers_from_nil : (r : Record) (last c : ℕ) → offers_from r last c [] ≡ []
unfolding offers_from
offers_from_nil r last c = refl

pub offers_from_cons : (r : Record) (last c : ℕ) (x : Change) (xs : List Change) → offers_from r last c (x ∷ xs) ≡ cond (any_in (guard_span r last x.guard)) (offer_of c (guard_span r last x.guard) ∷ offers_from r last (suc c) xs) (offers_from r last (suc c) xs)
unfolding offers_from
offers_from_cons r last c x xs = refl

-- where a change's guard allows a wait it is offered, and else passed over
pub offers_from_some : (r : Record) (last c : ℕ) (x : Change) (xs : List Change) → any_in (guard_span r last x.guard) ≡ true → offers_from r last c (x ∷ xs) ≡ offer_of c (guard_span r last x.guard) ∷ offers_from r last (suc c) xs
offers_from_some r last c x xs e =
    offers_from_cons r last c x xs ∙ cond-true (any_in (guard_span r last x.guard)) (offer_of c (guard_span r last x.guard) ∷ offers_from r last (suc c) xs) (offers_from r last (suc c) xs) e

pub offers_from_none : (r : Record) (last c : ℕ) (x : Change) (xs : List Change) → any_in (guard_span r last x.guard) ≡ false → offers_from r last c (x ∷ xs) ≡ offers_from r last (suc c) xs
offers_from_none r last c x xs e =
    offers_from_cons r last c x xs ∙ cond-false (any_in (guard_span r last x.guard)) (offer_of c (guard_span r last x.guard) ∷ offers_from r last (suc c) xs) (offers_from r last (suc c) xs) e

-- an offer comes from the change at the place j of a list whose first stands at c
pub record ComesFrom (r : Record) (last c : ℕ) (xs : List Change) (o : Offer) : Type 0 where
  pub place : ℕ
  pub in_list : place < length xs
  pub its_change : o.change ≡ c + place
  pub its_lowest : o.lowest ≡ (guard_span r last (get_or xs place blank_change).guard).from
  pub its_highest : o.highest ≡ (guard_span r last (get_or xs place blank_change).guard).until - 1
  pub its_waits : any_in (guard_span r last (get_or xs place blank_change).guard) ≡ true

comes_later : (r : Record) (last c : ℕ) (x : Change) (xs : List Change) (o : Offer) → ComesFrom r last (suc c) xs o → ComesFrom r last c (x ∷ xs) o
comes_later r last c x xs o h =
    record { place = suc h.place; in_list = omega (arith, h.in_list); its_change = omega (arith, h.its_change); its_lowest = h.its_lowest; its_highest = h.its_highest; its_waits = h.its_waits }

-- every offer comes from a change of the list
pub offers_come : (r : Record) (last c : ℕ) (xs : List Change) → AllByRecursion (ComesFrom r last c xs) (offers_from r last c xs)
offers_come r last c [] = subst (AllByRecursion (ComesFrom r last c [])) (sym (offers_from_nil r last c)) tt
offers_come r last c (x ∷ xs) =
    go (cases_Bool (any_in (guard_span r last x.guard))) (All-weaker (ComesFrom r last (suc c) xs) (ComesFrom r last c (x ∷ xs)) (comes_later r last c x xs) (offers_from r last (suc c) xs) (offers_come r last (suc c) xs))
  where
    go : (any_in (guard_span r last x.guard) ≡ true) ⊎ (any_in (guard_span r last x.guard) ≡ false) → AllByRecursion (ComesFrom r last c (x ∷ xs)) (offers_from r last (suc c) xs) → AllByRecursion (ComesFrom r last c (x ∷ xs)) (offers_from r last c (x ∷ xs))
    go (inl e) rest =
        subst (AllByRecursion (ComesFrom r last c (x ∷ xs))) (sym (offers_from_some r last c x xs e)) (record { place = 0; in_list = omega arith; its_change = omega arith; its_lowest = refl; its_highest = refl; its_waits = e }, rest)
    go (inr e) rest = subst (AllByRecursion (ComesFrom r last c (x ∷ xs))) (sym (offers_from_none r last c x xs e)) rest

-- every change whose guard allows a wait is offered
pub change_is_offered : (r : Record) (last c : ℕ) (xs : List Change) (j : ℕ) → j < length xs → any_in (guard_span r last (get_or xs j blank_change).guard) ≡ true → Offered (offers_from r last c xs) (c + j)
change_is_offered r last c [] j h e = absurd (omega arith)
change_is_offered r last c (x ∷ xs) zero h e =
    subst (λ os. Offered os (c + 0)) (sym (offers_from_some r last c x xs e)) (0, omega arith, omega arith)
change_is_offered r last c (x ∷ xs) (suc j) h e =
    go (cases_Bool (any_in (guard_span r last x.guard))) (change_is_offered r last (suc c) xs j (omega arith) e)
  where
    go : (any_in (guard_span r last x.guard) ≡ true) ⊎ (any_in (guard_span r last x.guard) ≡ false) → Offered (offers_from r last (suc c) xs) (suc c + j) → Offered (offers_from r last c (x ∷ xs)) (c + suc j)
    go (inl f) w =
        subst (λ os. Offered os (c + suc j)) (sym (offers_from_some r last c x xs f)) (suc w.0, omega (arith, w.1), omega (arith, w.2))
    go (inr f) w =
        subst (λ os. Offered os (c + suc j)) (sym (offers_from_none r last c x xs f)) (w.0, w.1, omega (arith, w.2))

-- an offer of stage i, as its change and its span of waits
pub record OfferOfStage (plan : Plan) (i : ℕ) (r : Record) (o : Offer) : Type 0 where
  pub of_stage : OfStage plan i o.change
  pub its_lowest : o.lowest ≡ (guard_span r (top plan i r) (change_of plan i o.change).guard).from
  pub its_highest : o.highest ≡ (guard_span r (top plan i r) (change_of plan i o.change).guard).until - 1
  pub its_waits : any_in (guard_span r (top plan i r) (change_of plan i o.change).guard) ≡ true

pub offers_of_stage : (plan : Plan) (i : ℕ) (r : Record) → AllByRecursion (OfferOfStage plan i r) (offers_at plan i r)
offers_of_stage plan i r =
    All-weaker (ComesFrom r (top plan i r) (stage_of plan i).first (stage_of plan i).changes) (OfferOfStage plan i r) here (offers_at plan i r) (offers_come r (top plan i r) (stage_of plan i).first (stage_of plan i).changes)
  where
    here : (o : Offer) → ComesFrom r (top plan i r) (stage_of plan i).first (stage_of plan i).changes o → OfferOfStage plan i r o
    here o h =
        record { of_stage = (omega (arith, h.its_change), omega (arith, h.its_change, h.in_list)); its_lowest = h.its_lowest ∙ ap (λ x. (guard_span r (top plan i r) x.guard).from) e; its_highest = h.its_highest ∙ ap (λ x. (guard_span r (top plan i r) x.guard).until - 1) e; its_waits = ap (λ x. any_in (guard_span r (top plan i r) x.guard)) (sym e) ∙ h.its_waits }
      where
        n : h.place ≡ o.change - (stage_of plan i).first
        n = omega (arith, h.its_change)

        e : get_or (stage_of plan i).changes h.place blank_change ≡ change_of plan i o.change
        e = ap (λ z. get_or (stage_of plan i).changes z blank_change) n

-- the first and the last wait of an offer are in order, and in the hold interval
pub offer_in_order : (plan : Plan) (i : ℕ) (r : Record) (o : Offer) → OfferOfStage plan i r o → (o.lowest ≤ o.highest) × (o.highest ≤ top plan i r)
offer_in_order plan i r o h =
    let x = guard_span r (top plan i r) (change_of plan i o.change).guard in
    let a = any_within x h.its_waits in
    let b : Within (x.until - 1) x = omega (arith, a) in
    let c = (within_cuts r (change_of plan i o.change).guard (x.until - 1) (upto (top plan i r))).0 b in
    (omega (arith, a, h.its_lowest, h.its_highest), omega (arith, c.0, h.its_highest))

pub offers_in_order : (plan : Plan) (i : ℕ) (r : Record) → AllByRecursion (λ o. o.lowest ≤ o.highest) (offers_at plan i r)
offers_in_order plan i r =
    All-weaker (OfferOfStage plan i r) (λ o. o.lowest ≤ o.highest) (λ o h. (offer_in_order plan i r o h).0) (offers_at plan i r) (offers_of_stage plan i r)

-- a wait between the ends of an offer is one that the guard allows
pub offer_within : (plan : Plan) (i : ℕ) (r : Record) (o : Offer) (d : ℕ) → OfferOfStage plan i r o → ((o.lowest ≤ d) × (d ≤ o.highest)) ↔ Within d (guard_span r (top plan i r) (change_of plan i o.change).guard)
offer_within plan i r o d h =
    let x = guard_span r (top plan i r) (change_of plan i o.change).guard in
    let a = any_within x h.its_waits in
    (λ k. (omega (arith, k.0, h.its_lowest), omega (arith, a, k.1, h.its_highest)), λ k. (omega (arith, k.0, h.its_lowest), omega (arith, k.1, h.its_highest)))

-- a change is offered exactly if it is of the stage and its guard allows a wait of the hold interval
pub offered_is : (plan : Plan) (i : ℕ) (r : Record) (c : ℕ) → Offered (offers_at plan i r) c ↔ (OfStage plan i c × (any_in (guard_span r (top plan i r) (change_of plan i c).guard) ≡ true))
offered_is plan i r c = (to, from)
  where
    to : Offered (offers_at plan i r) c → OfStage plan i c × (any_in (guard_span r (top plan i r) (change_of plan i c).guard) ≡ true)
    to w =
        let h = All-get_or (OfferOfStage plan i r) (offers_at plan i r) w.0 blank_offer w.1 (offers_of_stage plan i r) in
        (subst (OfStage plan i) w.2 h.of_stage, subst (λ z. any_in (guard_span r (top plan i r) (change_of plan i z).guard) ≡ true) w.2 h.its_waits)

    from : OfStage plan i c × (any_in (guard_span r (top plan i r) (change_of plan i c).guard) ≡ true) → Offered (offers_at plan i r) c
    from h =
        let e : (stage_of plan i).first + (c - (stage_of plan i).first) ≡ c = omega (arith, h.0) in
        subst (Offered (offers_at plan i r)) e (change_is_offered r (top plan i r) (stage_of plan i).first (stage_of plan i).changes (c - (stage_of plan i).first) (omega (arith, h.0)) h.1)

-- a wait that the guard allows in the hold interval is that of a permitted moment that makes the guard true
pub within_guard : (plan : Plan) (i D : ℕ) (v : List ℕ) → Sound plan → 1 ≤ D → length v ≡ length plan.ceilings → (c d : ℕ) → Within d (guard_span (record_of D v) (top plan i (record_of D v)) (change_of plan i c).guard) ↔ GuardTrueAt plan i D v c d
within_guard plan i D v s h n c d = (to, from)
  where
    r : Record
    r = record_of D v

    to : Within d (guard_span r (top plan i r) (change_of plan i c).guard) → GuardTrueAt plan i D v c d
    to k =
        let a = (within_cuts r (change_of plan i c).guard d (upto (top plan i r))).0 k in
        let w = moment_for plan i D v s h n d (omega (arith, a.0)) in
        (w.0, w.1, w.2, w.3, (holds_allows D v w.0 w.1 h w.2.a_moment (change_of plan i c).guard (named_like plan v (change_of plan i c).guard n (guard_is_named plan s i c))).1 (subst (λ z. AllByRecursion (Allows r z) (change_of plan i c).guard) (sym w.2.its_wait) a.1))

    from : GuardTrueAt plan i D v c d → Within d (guard_span r (top plan i r) (change_of plan i c).guard)
    from w =
        let l = permitted_reach plan i D v w.0 w.1 s h n w.2.a_moment w.3 in
        (within_cuts r (change_of plan i c).guard d (upto (top plan i r))).1 ((omega arith, omega (arith, l, w.2.its_wait)), subst (λ z. AllByRecursion (Allows r z) (change_of plan i c).guard) w.2.its_wait ((holds_allows D v w.0 w.1 h w.2.a_moment (change_of plan i c).guard (named_like plan v (change_of plan i c).guard n (guard_is_named plan s i c))).0 w.4))

pub offered_is_possible : (plan : Plan) (i D : ℕ) (v : List ℕ) → Sound plan → 1 ≤ D → length v ≡ length plan.ceilings → (c : ℕ) → Offered (offers_at plan i (record_of D v)) c ↔ Possible plan i D v c
offered_is_possible plan i D v s h n c = (to, from)
  where
    r : Record
    r = record_of D v

    to : Offered (offers_at plan i r) c → Possible plan i D v c
    to o =
        let a = (offered_is plan i r c).0 o in
        let w = (within_guard plan i D v s h n c (guard_span r (top plan i r) (change_of plan i c).guard).from).0 (any_within (guard_span r (top plan i r) (change_of plan i c).guard) a.1) in
        (a.0, (w.0, w.1, w.2.a_moment, w.3, w.4))

    from : Possible plan i D v c → Offered (offers_at plan i r) c
    from p =
        let w = p.1 in
        (offered_is plan i r c).1 (p.0, within_any (reach D v w.0 w.1) (guard_span r (top plan i r) (change_of plan i c).guard) ((within_guard plan i D v s h n c (reach D v w.0 w.1)).1 (w.0, w.1, record { a_moment = w.2; its_wait = refl }, w.3, w.4)))

-- the waits of each offer are those of the permitted moments that make its guard true
pub offer_waits : (plan : Plan) (i D : ℕ) (v : List ℕ) → Sound plan → 1 ≤ D → length v ≡ length plan.ceilings → (o : Offer) → OfferOfStage plan i (record_of D v) o → (d : ℕ) → ((o.lowest ≤ d) × (d ≤ o.highest)) ↔ GuardTrueAt plan i D v o.change d
offer_waits plan i D v s h n o k d =
    let a = offer_within plan i (record_of D v) o d k in
    let b = within_guard plan i D v s h n o.change d in
    (λ z. b.0 (a.0 z), λ z. a.1 (b.1 z))

offer_ends : (plan : Plan) (i D : ℕ) (v : List ℕ) → Sound plan → 1 ≤ D → length v ≡ length plan.ceilings → (o : Offer) → OfferOfStage plan i (record_of D v) o → FirstAndLast (GuardTrueAt plan i D v o.change) o.lowest o.highest
offer_ends plan i D v s h n o k =
    let l = offer_in_order plan i (record_of D v) o k in
    record { at_first = (offer_waits plan i D v s h n o k o.lowest).0 (omega arith, l.0); at_last = (offer_waits plan i D v s h n o k o.highest).0 (l.0, omega arith); none_before = λ d g. ((offer_waits plan i D v s h n o k d).1 g).0; none_after = λ d g. ((offer_waits plan i D v s h n o k d).1 g).1 }

pub offers_are_the_possible_changes : OffersAreThePossibleChanges
offers_are_the_possible_changes =
    record {
      offered = offered_is_possible;
      waits = λ plan i D v s h n. All-weaker (OfferOfStage plan i (record_of D v)) (λ o. (d : ℕ) → ((o.lowest ≤ d) × (d ≤ o.highest)) ↔ GuardTrueAt plan i D v o.change d) (offer_waits plan i D v s h n) (offers_at plan i (record_of D v)) (offers_of_stage plan i (record_of D v));
      ends = λ plan i D v s h n. All-weaker (OfferOfStage plan i (record_of D v)) (λ o. FirstAndLast (GuardTrueAt plan i D v o.change) o.lowest o.highest) (offer_ends plan i D v s h n) (offers_at plan i (record_of D v)) (offers_of_stage plan i (record_of D v));
    }

pub offers_within_hold : (plan : Plan) (i : ℕ) (r : Record) → AllByRecursion (λ o. o.highest ≤ top plan i r) (offers_at plan i r)
offers_within_hold plan i r =
    All-weaker (OfferOfStage plan i r) (λ o. o.highest ≤ top plan i r) (λ o h. (offer_in_order plan i r o h).1) (offers_at plan i r) (offers_of_stage plan i r)
