-- A run, read as its stage, its region, how it stands and the draws to come.
use Rattle.std.specs.Prelude.{◌≡◌, ℕ, ◌≤◌}
use Rattle.offers.specs.Known as known
use Rattle.region.specs.Viewed.{viewed}
use Rattle.rows.specs.declared.tables.ChangeRow.{ChangeRow}
use Rattle.rows.specs.Plans.{PlanRows}
use Rattle.runs.specs.Plans.{Plan, OfStage, change_of}
use Rattle.runs.specs.Runs as runs
use Rattle.runs.specs.Tables.{change_of_row, plan_in}
use Rattle.run.specs.declared.Run.{Run}

-- where a run is, when this is what its source says of the draws to come
abbrev pub view_of : {D : Type 0} → (D → runs.Draws) → Run D → runs.Run
view_of coming r =
    record {
      stage = r.at.stage;
      region = viewed r.at.region;
      standing = r.standing;
      coming = coming r.source.now;
    }

-- the plan of a run
abbrev pub plan_for : {D : Type 0} → Run D → Plan
plan_for r = known.plan_of r.plan

-- the change in this row may be taken after the wait d: the take is made, the change is one of the stage, and the wait is in the hold interval
pub record Allowed (p : PlanRows) (run : runs.Run) (c d : ℕ) (row : ChangeRow) : Type 0 where
  pub made : runs.take_call (plan_in p) run c d ≡ runs.making (plan_in p) run c d
  pub of_stage : OfStage (plan_in p) run.stage c
  pub its_row : change_of_row p row ≡ change_of (plan_in p) run.stage c
  pub in_hold : d ≤ runs.top (plan_in p) run.stage run.region

-- a run has the plan that it had, is lent the same source, and the source has the book that it had
pub record KeepsPlanAndSource {D : Type 0} (book_of : D → ℕ → runs.Draws) (before then : Run D) : Type 0 where
  pub plan : then.plan ≡ before.plan
  pub book : book_of then.source.now ≡ book_of before.source.now
  pub lent : then.source.ghost_name ≡ before.source.ghost_name

-- the plan and the source are as they were
pub record Kept {D : Type 0} (before then : Run D) : Type 0 where
  pub plan : then.plan ≡ before.plan
  pub source : then.source ≡ before.source
