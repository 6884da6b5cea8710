use Rattle.std.proofs.Common.{◌≡◌, Some, Ok, Err, Result, MatchResult, IsErrAnd, sym, ap, ◌∙◌, subst}
use Rattle.rows.specs.declared.section.Counts.{Counts}
use Rattle.rows.specs.declared.section.SectionName.TheVariants.{Timers, Comparisons, Stages, Changes, Outcomes, Goal}
use Rattle.rows.specs.Files.{Read, change_at, comparison_at, file_fault, goal_at, outcome_at, stage_at, timer_at}
use Rattle.rows.specs.Plans.{PlanRows, change_bytes, comparison_bytes, counts_of, goal_bytes, outcome_bytes, stage_bytes, timer_bytes}
use Rattle.rows.proofs.Faults.{exit_told}
use Rattle.rows.proofs.Files.{fault_is_no_plan, one_plan_a_file}
use Rattle.reader.specs.Gathered.{gathered, rows_held}
use Rattle.reader.specs.Parts.{bytes_in}
use Rattle.reader.specs.declared.parts.Parts.{Parts}
use Rattle.rows.specs.declared.fault.Fault.{Fault}
use Rattle.rows.specs.declared.refusal.Refusal.{Refusal}
use Rattle.reader.specs.Split.{Passed}
use Rattle.reader.proofs.Reading.{Filled, Sections, begins_at, filled_read, split_counted, table_fits}
use Rattle.reader.proofs.read.read.Goals as goal
use Rattle.reader.proofs.read.read.Goals.{In_ok-parts}

-- a refusal that was told without its place stands for the fault that was found, and what passed is passed on
passed_on : (r : Result Parts Fault) (m : Result Parts Refusal) (p : Parts) (P : Parts → Type 0) (Q : Fault → Type 0) (R : Fault → Refusal → Type 0) → MatchResult r P Q → MatchResult r (λ x. m ≡ Ok x) (λ f. IsErrAnd m (R f)) → m ≡ Ok p → P p
passed_on (Ok x) m p P Q R h told e = let same : x ≡ p = cc in subst P same h
passed_on (Err f) m p P Q R h told e = absurd (subst (λ (z : Result Parts Refusal). IsErrAnd z (R f)) e told)

failed_on : (r : Result Parts Fault) (m : Result Parts Refusal) (e : Refusal) (P : Parts → Type 0) (Q : Fault → Type 0) (R : Fault → Refusal → Type 0) → MatchResult r P Q → MatchResult r (λ x. m ≡ Ok x) (λ f. IsErrAnd m (R f)) → m ≡ Err e → (f : Fault) × Q f
failed_on (Ok x) m e P Q R h told g = absurd (cc)
failed_on (Err f) m e P Q R h told g = (f, h)

pub returns-in_err-parts-clause-the_file_of_every_sound_plan_that_fits_is_read_back :
    goal.returns-in_err-parts-clause-the_file_of_every_sound_plan_that_fits_is_read_back
returns-in_err-parts-clause-the_file_of_every_sound_plan_that_fits_is_read_back c =
    let before : PlanRows = gathered c.args.tables in
    let found = failed_on c.sound_parts.result c.map_err.result c.in_err-parts.field-0.0 _ _ _ c.sound_parts.ensures c.map_err.ensures.cases c.in_err-parts.was in
    let same = c.counts.ensures ∙ ap counts_of c.view.ensures in
    let fault : file_fault (counts_of before) c.args.bytes.now ≡ Some found.0 = ap (λ n. file_fault n c.args.bytes.now) (sym same) ∙ found.1 in
    rw (exit_told c.from_residual.result c.from_residual.ensures.1)
    (fault_is_no_plan (counts_of before) c.args.bytes.now found.0 fault)

passed : (c : In_ok-parts) → Passed (counts_of (gathered c.args.tables)) c.args.bytes.now c.in_ok-parts.parts
passed c =
    let same = c.counts.ensures ∙ ap counts_of c.view.ensures in
    subst (λ (n : Counts). Passed n c.args.bytes.now c.in_ok-parts.parts) same
    (passed_on c.sound_parts.result c.map_err.result c.in_ok-parts.parts _ _ _ c.sound_parts.ensures c.map_err.ensures.cases c.in_ok-parts.was)

-- the sections are held against the room of the handed tables
sections : (c : In_ok-parts) → Sections (counts_of (gathered c.args.tables)) c.args.bytes.now c.in_ok-parts.parts
sections c = split_counted (counts_of (gathered c.args.tables)) c.args.bytes.now c.in_ok-parts.parts (passed c).split

pub fill-requires : goal.fill-requires
fill-requires c = table_fits Timers timer_at _ _ _ _ (sections (goal.at.fill-requires c).In_ok-parts).timers c.bytes.ensures

pub fill-requires-2 : goal.fill-requires-2
fill-requires-2 c = table_fits Comparisons comparison_at _ _ _ _ (sections (goal.at.fill-requires-2 c).In_ok-parts).comparisons c.bytes-2.ensures

pub fill-requires-3 : goal.fill-requires-3
fill-requires-3 c = table_fits Stages stage_at _ _ _ _ (sections (goal.at.fill-requires-3 c).In_ok-parts).stages c.bytes-3.ensures

pub fill-requires-4 : goal.fill-requires-4
fill-requires-4 c = table_fits Changes change_at _ _ _ _ (sections (goal.at.fill-requires-4 c).In_ok-parts).changes c.bytes-4.ensures

pub fill-requires-5 : goal.fill-requires-5
fill-requires-5 c = table_fits Outcomes outcome_at _ _ _ _ (sections (goal.at.fill-requires-5 c).In_ok-parts).outcomes c.bytes-5.ensures

pub fill-requires-6 : goal.fill-requires-6
fill-requires-6 c = table_fits Goal goal_at _ _ _ _ (sections (goal.at.fill-requires-6 c).In_ok-parts).goals c.bytes-6.ensures

pub returns : goal.returns
returns c =
    let parts = c.in_ok-parts.parts in
    let before : PlanRows = gathered c.args.tables in
    let later : PlanRows = rows_held c.fill.new.table c.fill-2.new.table c.fill-3.new.table c.fill-4.new.table c.fill-5.new.table c.fill-6.new.table in
    let filled : Filled parts before later =
    record {
      timers = begins_at timer_at timer_bytes 2 c.bytes.result.now (bytes_in parts.timers) before.timers later.timers c.bytes.ensures c.fill.ensures;
      comparisons = begins_at comparison_at comparison_bytes 6 c.bytes-2.result.now (bytes_in parts.comparisons) before.comparisons later.comparisons c.bytes-2.ensures c.fill-2.ensures;
      stages = begins_at stage_at stage_bytes 10 c.bytes-3.result.now (bytes_in parts.stages) before.stages later.stages c.bytes-3.ensures c.fill-3.ensures;
      changes = begins_at change_at change_bytes 8 c.bytes-4.result.now (bytes_in parts.changes) before.changes later.changes c.bytes-4.ensures c.fill-4.ensures;
      outcomes = begins_at outcome_at outcome_bytes 6 c.bytes-5.result.now (bytes_in parts.outcomes) before.outcomes later.outcomes c.bytes-5.ensures c.fill-5.ensures;
      goals = begins_at goal_at goal_bytes 4 c.bytes-6.result.now (bytes_in parts.goals) before.goals later.goals c.bytes-6.ensures c.fill-6.ensures;
    } in
    let was : Read c.args.bytes.now before later c.counts-counts.result =
    filled_read c.args.bytes.now parts before later c.counts-counts.result (passed (goal.at.returns c).In_ok-parts) filled
    (λ i. record { timers = c.fill.auto.table i; comparisons = c.fill-2.auto.table i; stages = c.fill-3.auto.table i; changes = c.fill-4.auto.table i; outcomes = c.fill-5.auto.table i; goals = c.fill-6.auto.table i })
    c.counts-counts.ensures in
    record {
      answer = was;
      the_file_of_every_sound_plan_that_fits_is_read_back = λ p sound fits e. one_plan_a_file _ p (sym was.file ∙ e);
    }
