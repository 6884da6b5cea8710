-- What a hold leaves of what a timer can show.
use Rattle.std.proofs.Common.{◌≡◌, ℕ, zero, suc, ◌+◌, ◌*◌, ◌<◌, ◌≤◌, max, Bool, true, false, cond, eqb, ◌⊎◌, List, [], ◌∷◌, length, get_or, fold, Option, Some, None, sym, refl, subst, inl, inr, arith}
use Rattle.std.specs.List.{AllByRecursion}
use Rattle.std.proofs.lemmas.Bool.{cases_eq, eq-eqb, ne_eqb, leb-true, or_cases}
use Rattle.theory.specs.Records.{Record, count, timer_no}
use Rattle.theory.specs.Regions.{AtLeast, Above, AtMost, Below, Comparison, timer_against, lead_against}
use Rattle.runs.specs.Plans.{Plan, stage_of}
use Rattle.runs.specs.Runs.{top}
use Rattle.runs.proofs.Reach.{Allows}
use Rattle.runs.proofs.Permits.{top_counts, top_held, within_hold}
use Rattle.warnings.specs.Arrivals.{most_on_leaving}
use Rattle.warnings.specs.Limits.{allowed_by, bound_by, ended_by, ends_in_time, limits_in_time, narrowed, narrowed_by, upper_limit}
use Rattle.warnings.specs.declared.bounds.Bounds.{Bounds}
use Rattle.warnings.specs.declared.limit.Limit.{Limit}
use Rattle.warnings.proofs.Counted.{times_larger, times_min, times_sum}

-- a limit is kept at the wait d: its timer shows no more then
abbrev pub LimitKept : Record → ℕ → Limit → Type 0
LimitKept r d l = count r (timer_no r l.timer) + d ≤ 2 * r.classes * l.seconds

kept_along : (r : Record) (d : ℕ) (a l : Limit) → Some a ≡ Some l → LimitKept r d a → LimitKept r d l
kept_along r d a l e h = let f : a ≡ l = cc in subst (LimitKept r d) f h

-- a wait that a comparison allows keeps its limit
pub limit_kept : (r : Record) (d : ℕ) (c : Comparison) (l : Limit) → upper_limit c ≡ Some l → Allows r d c → LimitKept r d l
limit_kept r d (timer_against y AtLeast m) l e h = cc
limit_kept r d (timer_against y Above m) l e h = cc
limit_kept r d (timer_against y AtMost m) l e h = kept_along r d (record { timer = y; seconds = m }) l e h
limit_kept r d (timer_against y Below m) l e h =
    kept_along r d (record { timer = y; seconds = m }) l e (omega arith)
limit_kept r d (lead_against y z ~ m) l e h = cc

-- the seconds of a limit bound what timer x shows while it is kept
pub bound_kept : (r : Record) (d x b : ℕ) (l : Limit) → LimitKept r d l → count r (timer_no r x) ≤ 2 * r.classes * b → count r (timer_no r x) + d ≤ 2 * r.classes * bound_by x b l
bound_kept r d x b l h k = go (cases_eq l.timer x)
  where
    go : (l.timer ≡ x) ⊎ (l.timer ≡ x → ⊥) → count r (timer_no r x) + d ≤ 2 * r.classes * bound_by x b l
    go (inl e) =
        subst (λ t. count r (timer_no r x) + d ≤ 2 * r.classes * cond t l.seconds (b + l.seconds)) (sym (eq-eqb l.timer x e)) (subst (λ y. count r (timer_no r y) + d ≤ 2 * r.classes * l.seconds) e h)
    go (inr e) =
        subst (λ t. count r (timer_no r x) + d ≤ 2 * r.classes * cond t l.seconds (b + l.seconds)) (sym (ne_eqb l.timer x e)) (times_sum (2 * r.classes) b l.seconds (count r (timer_no r x)) d k (omega arith))

bound_allowed : (x b : ℕ) (l : Limit) → (bound_by x b l ≤ allowed_by x b l) × (b ≤ allowed_by x b l)
bound_allowed x b l = go (eqb l.timer x)
  where
    go : (t : Bool) → (cond t l.seconds (b + l.seconds) ≤ cond t (max b l.seconds) (b + l.seconds)) × (b ≤ cond t (max b l.seconds) (b + l.seconds))
    go true = (omega arith, omega arith)
    go false = (omega arith, omega arith)

-- either there is no wait, or each comparison allows it
abbrev pub AllowedOrNone : Record → ℕ → List Comparison → Type 0
AllowedOrNone r d cs = (d ≡ 0) ⊎ AllByRecursion (Allows r d) cs

-- one comparison leaves room for what timer x shows
narrowed_room : (r : Record) (d x b most : ℕ) (c : Comparison) (o : Option Limit) → upper_limit c ≡ o → (d ≡ 0) ⊎ Allows r d c → count r (timer_no r x) ≤ 2 * r.classes * b → count r (timer_no r x) + d ≤ 2 * r.classes * most → count r (timer_no r x) + d ≤ 2 * r.classes * narrowed_by x b most o
narrowed_room r d x b most c None e h k l = l
narrowed_room r d x b most c (Some limit) e h k l =
    times_min (2 * r.classes) most (allowed_by x b limit) (count r (timer_no r x) + d) l (allowed h)
  where
    allowed : (d ≡ 0) ⊎ Allows r d c → count r (timer_no r x) + d ≤ 2 * r.classes * allowed_by x b limit
    allowed (inl z) =
        let u : count r (timer_no r x) + d ≤ 2 * r.classes * b = omega (arith, k, z) in
        times_larger (2 * r.classes) b (allowed_by x b limit) (count r (timer_no r x) + d) (bound_allowed x b limit).1 u
    allowed (inr a) =
        times_larger (2 * r.classes) (bound_by x b limit) (allowed_by x b limit) (count r (timer_no r x) + d) (bound_allowed x b limit).0 (bound_kept r d x b limit (limit_kept r d c limit e a) k)

-- and so does a hold
pub held_room : (r : Record) (d x b : ℕ) (cs : List Comparison) (most : ℕ) → AllowedOrNone r d cs → count r (timer_no r x) ≤ 2 * r.classes * b → count r (timer_no r x) + d ≤ 2 * r.classes * most → count r (timer_no r x) + d ≤ 2 * r.classes * fold (narrowed x b) most cs
held_room r d x b [] most h k l = l
held_room r d x b (c ∷ cs) most h k l =
    held_room r d x b cs (narrowed x b most c) (rest h) k (narrowed_room r d x b most c (upper_limit c) refl (first h) k l)
  where
    first : AllowedOrNone r d (c ∷ cs) → (d ≡ 0) ⊎ Allows r d c
    first (inl z) = inl z
    first (inr a) = inr a.0

    rest : AllowedOrNone r d (c ∷ cs) → AllowedOrNone r d cs
    rest (inl z) = inl z
    rest (inr a) = inr a.1

-- a wait of the hold interval is none, or the hold allows it
pub hold_allows : (plan : Plan) (i : ℕ) (r : Record) (d : ℕ) → d ≤ top plan i r → AllowedOrNone r d (stage_of plan i).hold
hold_allows plan i r zero l = inl refl
hold_allows plan i r (suc d) l =
    inr ((within_hold plan i r (suc d)).0 (top_held plan i r (suc d) (omega arith) l)).1

-- by the end of a wait of the hold interval a timer shows no more than the most on leaving
pub shown_on_leaving : (plan : Plan) (i : ℕ) (r : Record) (d x : ℕ) (b : Bounds) → x < length plan.ceilings → d ≤ top plan i r → count r (timer_no r x) ≤ 2 * r.classes * get_or b.most x 0 → count r (timer_no r x) ≤ 2 * r.classes * get_or plan.ceilings x 0 → count r (timer_no r x) + d ≤ 2 * r.classes * most_on_leaving plan i b x
shown_on_leaving plan i r d x b h l k u =
    held_room r d x (get_or b.most x 0) (stage_of plan i).hold (get_or plan.ceilings x 0) (hold_allows plan i r d l) k (top_counts plan i r d x h l u)

-- a limit in time
limited : (r : Record) (d x b ceiling : ℕ) (c : Comparison) (o : Option Limit) → upper_limit c ≡ o → limits_in_time x b ceiling o ≡ true → Allows r d c → count r (timer_no r x) ≤ 2 * r.classes * b → count r (timer_no r x) + d ≤ 2 * r.classes * ceiling
limited r d x b ceiling c None e t h k = cc
limited r d x b ceiling c (Some limit) e t h k =
    times_larger (2 * r.classes) (bound_by x b limit) ceiling (count r (timer_no r x) + d) (leb-true (bound_by x b limit) ceiling t) (bound_kept r d x b limit (limit_kept r d c limit e h) k)

-- where a hold ends in time, no wait that it allows takes timer x past its ceiling
pub ended_under : (r : Record) (d x b ceiling : ℕ) (cs : List Comparison) → ended_by x b ceiling cs ≡ true → AllByRecursion (Allows r d) cs → count r (timer_no r x) ≤ 2 * r.classes * b → count r (timer_no r x) + d ≤ 2 * r.classes * ceiling
ended_under r d x b ceiling [] t h k = cc
ended_under r d x b ceiling (c ∷ cs) t h k =
    go (or_cases (ends_in_time x b ceiling c) (ended_by x b ceiling cs) t) (λ e. ended_under r d x b ceiling cs e h.1 k)
  where
    go : (ends_in_time x b ceiling c ≡ true) ⊎ (ended_by x b ceiling cs ≡ true) → (ended_by x b ceiling cs ≡ true → count r (timer_no r x) + d ≤ 2 * r.classes * ceiling) → count r (timer_no r x) + d ≤ 2 * r.classes * ceiling
    go (inl e) rest = limited r d x b ceiling c (upper_limit c) refl e h.0 k
    go (inr e) rest = rest e
