use Rattle.std.proofs.Common.{◌≡◌, ℕ, ◌+◌, ◌<◌, List, length, get_or, set, drop, map, refl, sym, ap, ◌∙◌, arith}
use Rattle.std.proofs.lemmas.List.{get_or_default, take_at}
use Rattle.std.proofs.lemmas.List.Edits.{map_over_more}
use Rattle.theory.specs.Records.{Record, count, timer_no}
use Rattle.region.specs.declared.value.TimerValue.{TimerValue}
use Rattle.region.specs.Reads.{values_in}
use Rattle.region.specs.Viewed.{viewed}
use Rattle.region.specs.Views.{blank, timer_in}
use Rattle.region.specs.Waiting.{row_at}
use Rattle.region.proofs.Shown.{lengths, value_shown}
use Rattle.region.proofs.Waited.{later_row, rows_later, still_there}
use Rattle.region.proofs.Region.rows_after.Goals as goal
use Rattle.region.proofs.Region.rows_after.Goals.{In-loop-row}

within : (c : In-loop-row) → c.loop-row.row-index < length (values_in c.args.self.now)
within c = omega (arith, lengths)

pub row_at-requires : goal.row_at-requires
row_at-requires c =
    let r = c.args.self.now in
    let v : Record = viewed r in
    let i : ℕ = c.loop-row.row-index in
    let here = within (goal.at.row_at-requires c).In-loop-row in
    let row : get_or c.loop-row.row-items i blank ≡ get_or (values_in r) i blank = still_there (later_row v c.args.steps) (values_in r) c.loop-row.row-items i here c.loop-row.invariant in
    let same : c.count_of.result ≡ count v (timer_no v i) =
    c.count_of.ensures.counts ∙ ap (λ x. count v (timer_in x)) row ∙ ap (count v) (sym (value_shown (values_in r) v i refl here)) in
    omega (arith, c.requires i (omega (arith, lengths)))

pub loop-row-preserved : goal.loop-row-preserved
loop-row-preserved c =
    let r = c.args.self.now in
    let v : Record = viewed r in
    let i : ℕ = c.loop-row.row-index in
    let ys : List TimerValue = c.loop-row.row-items in
    let x : TimerValue = get_or ys i blank in
    let sum : c.from.result + c.from-in-loop-row.result ≡ count v (timer_in x) + c.args.steps = omega arith in
    let row : c.row_at.result ≡ later_row v c.args.steps x = c.row_at.ensures ∙ ap (row_at r.classes) sum in
    ap (set ys i) row
    ∙ map_over_more (later_row v c.args.steps) (values_in r) ys i x (within (goal.at.loop-row-preserved c).In-loop-row) c.loop-row.invariant (get_or_default ys i blank x (omega (arith, lengths)))

pub returns : goal.returns
returns c =
    let r = c.args.self.now in
    let full : length c.loop-row.row-items ≡ r.number = omega (arith, lengths) in
    ap (map timer_in) (take_at c.loop-row.row-items (drop c.timers.result r.rows) r.number full)
    ∙ rows_later r c.loop-row.row-index c.args.steps c.loop-row.row-items (omega (arith, lengths)) c.loop-row.invariant
