-- The warnings of a plan, by a table of arrivals.
use Rattle.std.specs.Prelude.{ℕ, zero, suc, Bool, false, not, cond, ◌&&◌, ◌||◌, List, [], ◌∷◌, ◌++◌, length, Option, Some, None, nat_le, nat_lt, slice_index, ◌==◌}
use Rattle.std.specs.List.{list_all, list_any}
use Rattle.theory.specs.Regions.{Relation, AtLeast, Above, AtMost, Below, Comparison, timer_against, lead_against}
use Rattle.runs.specs.Plans.{Change, Plan, stage_of}
use Rattle.warnings.specs.Arrivals.{arrivals_in, most_shown}
use Rattle.warnings.specs.Limits.{ended_by}
use Rattle.warnings.specs.declared.bounds.Bounds.{Bounds}
use Rattle.warnings.specs.declared.Warning.{Warning}
use Rattle.warnings.specs.declared.Warning.TheVariants.{CeilingMayEndHold, NoWayOut}

-- whether the ceiling of timer x may end the hold interval of stage i before the hold does, if the timers show at most b on arrival
abbrev pub ceiling_may_end_hold : Plan → ℕ → Bounds → ℕ → Bool
ceiling_may_end_hold plan i b x =
    not (ended_by x (slice_index b.most x) (slice_index plan.ceilings x) (stage_of plan i).hold)

-- the warnings of the first n timers in stage i
abbrev pub ceilings_warned : Plan → ℕ → Bounds → ℕ → List Warning
ceilings_warned plan i b zero = []
ceilings_warned plan i b (suc n) =
    ceilings_warned plan i b n ++ cond (ceiling_may_end_hold plan i b n) (CeilingMayEndHold i n ∷ []) []

-- whether stage i is no goal and not to be avoided
abbrev pub is_unmarked : Plan → ℕ → Bool
is_unmarked plan i = not (stage_of plan i).goal && not (stage_of plan i).avoid

-- whether a number that is at most `most` never stands so to m
abbrev pub stays_below : Relation → ℕ → ℕ → Bool
stays_below AtLeast most m = nat_lt most m
stays_below Above most m = nat_le most m
stays_below AtMost most m = false
stays_below Below most m = false

-- whether a comparison is never true while its timer, or the timer whose lead it is, shows at most so many seconds
abbrev pub too_low : ℕ → Comparison → Bool
too_low most (timer_against x relation m) = stays_below relation most m
too_low most (lead_against x y relation m) = stays_below relation most m

-- the timer of a comparison, or the timer whose lead it is
abbrev pub first_timer : Comparison → ℕ
first_timer (timer_against x relation m) = x
first_timer (lead_against x y relation m) = x

-- whether a comparison is never true while each timer shows at most so many seconds
abbrev pub is_out_of_reach : (ℕ → ℕ) → Comparison → Bool
is_out_of_reach most c = too_low (most (first_timer c)) c

-- whether some comparison of a guard is never true
abbrev pub is_never_allowed : (ℕ → ℕ) → List Comparison → Bool
is_never_allowed most guard = list_any (is_out_of_reach most) guard

-- whether a number under `bound` never stands so to m
abbrev pub stays_under : Relation → ℕ → ℕ → Bool
stays_under AtLeast bound m = nat_le bound m
stays_under Above bound m = nat_le bound m
stays_under AtMost bound m = false
stays_under Below bound m = false

-- whether no number stands from below so to a and, at once, from above so to b
abbrev pub leaves_no_room : Relation → ℕ → Relation → ℕ → Bool
leaves_no_room lower a AtLeast b = false
leaves_no_room lower a Above b = false
leaves_no_room lower a AtMost b = stays_below lower b a
leaves_no_room lower a Below b = stays_under lower b a

-- whether a comparison from below and one from above are of the same timer and at no moment both true, as x >= 5 and x <= 3
abbrev pub never_both : Comparison → Comparison → Bool
never_both (timer_against x lower a) (timer_against y upper b) =
    (x == y) && leaves_no_room lower a upper b
never_both (timer_against x lower a) (lead_against y z upper b) = false
never_both (lead_against x w lower a) d = false

-- whether some of these comparisons is never true together with another, which is from below
abbrev pub is_ruled_out_by : List Comparison → Comparison → Bool
is_ruled_out_by others c = list_any (never_both c) others

-- whether two comparisons of a guard are never both true
abbrev pub contradicts_itself : List Comparison → Bool
contradicts_itself guard = list_any (is_ruled_out_by guard) guard

-- whether a comparison is not true on arrival, while each timer shows at most so many seconds, nor while the hold allows to wait
abbrev pub is_ruled_out_in : (ℕ → ℕ) → List Comparison → Comparison → Bool
is_ruled_out_in arrived hold c = is_out_of_reach arrived c && is_ruled_out_by hold c

-- whether some comparison of a guard is not
abbrev pub contradicts_hold : (ℕ → ℕ) → List Comparison → List Comparison → Bool
contradicts_hold arrived hold guard = list_any (is_ruled_out_in arrived hold) guard

-- the most seconds that timer x can show on arrival in a stage of which a table says this: no more than its ceiling, where no open run is found to arrive
abbrev pub most_before : Plan → Option Bounds → ℕ → ℕ
most_before plan None x = slice_index plan.ceilings x
most_before plan (Some b) x = slice_index b.most x

-- the most seconds that timer x can show on arrival in stage i, by a table
abbrev pub most_on_arrival : Plan → List (Option Bounds) → ℕ → ℕ → ℕ
most_on_arrival plan table i x = most_before plan (arrivals_in table i) x

-- whether the guard of a change is never true in stage i: it asks a timer for too much, or contradicts itself or the stage's hold
abbrev pub change_is_never_possible : Plan → List (Option Bounds) → ℕ → Change → Bool
change_is_never_possible plan table i c =
    is_never_allowed (most_shown plan table i) c.guard || (contradicts_itself c.guard || contradicts_hold (most_on_arrival plan table i) (stage_of plan i).hold c.guard)

-- whether stage i is no goal and not to be avoided, and each of its changes, if it has any, is never possible there
abbrev pub has_no_way_out : Plan → List (Option Bounds) → ℕ → Bool
has_no_way_out plan table i =
    is_unmarked plan i && list_all (change_is_never_possible plan table i) (stage_of plan i).changes

-- the warnings of the timers in a stage of which a table says this
abbrev pub arrival_warned : Plan → ℕ → Option Bounds → List Warning
arrival_warned plan i None = []
arrival_warned plan i (Some b) = ceilings_warned plan i b (length plan.ceilings)

-- the warnings of stage i: first those of its timers, then that it has no way out
abbrev pub stage_warned : Plan → List (Option Bounds) → ℕ → List Warning
stage_warned plan table i =
    arrival_warned plan i (arrivals_in table i) ++ cond (has_no_way_out plan table i) (NoWayOut i ∷ []) []

-- the warnings of the first n stages
abbrev pub stages_warned : Plan → List (Option Bounds) → ℕ → List Warning
stages_warned plan table zero = []
stages_warned plan table (suc n) = stages_warned plan table n ++ stage_warned plan table n

-- the warnings of a plan
abbrev pub warned : Plan → List (Option Bounds) → List Warning
warned plan table = stages_warned plan table (length plan.stages)
