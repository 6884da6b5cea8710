-- Where a ceiling is not warned of, the hold ends before it.
use Rattle.std.proofs.Common.{◌≡◌, ℕ, ◌<◌, false, List, length, get_or, Option, Some, sym, ap, ◌∙◌, arith}
use Rattle.std.proofs.lemmas.Bool.{not-false}
use Rattle.runs.specs.Plans.{Plan, Sound, stage_of}
use Rattle.runs.specs.Runs.{Run, upto}
use Rattle.runs.proofs.Allowed.{inside_within, within_cuts}
use Rattle.runs.specs.Runs.{cuts}
use Rattle.warnings.specs.Arrivals.{Closed, arrivals_in}
use Rattle.warnings.specs.Promised.{HoldKeepsUnder, TheHoldEndsBeforeTheCeiling}
use Rattle.warnings.specs.Warned.{ceiling_may_end_hold}
use Rattle.warnings.specs.Limits.{ended_by}
use Rattle.warnings.specs.declared.bounds.Bounds.{Bounds}
use Rattle.warnings.proofs.Arriving.{Arrived, every_run_kept}
use Rattle.warnings.proofs.Holding.{ended_under}

-- a table warns of no ceiling of timer x in stage i
abbrev pub NoCeilingWarned : Plan → List (Option Bounds) → ℕ → ℕ → Type 0
NoCeilingWarned plan table i x =
    (b : Bounds) → arrivals_in table i ≡ Some b → ceiling_may_end_hold plan i b x ≡ false

run_kept_under : (plan : Plan) (table : List (Option Bounds)) (i x : ℕ) (run : Run) → run.stage ≡ i → x < length plan.ceilings → NoCeilingWarned plan table i x → Arrived plan table run → HoldKeepsUnder plan i x run
run_kept_under plan table i x run at l none a d through =
    let hold = (stage_of plan i).hold in
    let here = inside_within d (cuts run.region hold (upto d)) (through d (omega arith)) in
    let ended = not-false (ended_by x (get_or a.bounds.most x 0) (get_or plan.ceilings x 0) hold) (none a.bounds (ap (arrivals_in table) (sym at) ∙ a.in_table)) in
    ended_under run.region d x (get_or a.bounds.most x 0) (get_or plan.ceilings x 0) hold ended ((within_cuts run.region hold d (upto d)).0 here).1 (a.within x l)

pub the_hold_ends : (plan : Plan) (table : List (Option Bounds)) (i x : ℕ) → Sound plan → Closed plan table → x < length plan.ceilings → NoCeilingWarned plan table i x → TheHoldEndsBeforeTheCeiling plan i x
the_hold_ends plan table i x s k l none draws calls fit going at =
    let kept = every_run_kept plan table draws calls s k fit in
    run_kept_under plan table i x _ at l none (kept.followable.arrived_if_open going)
