-- The changes of a stage, by the rows of its table.
use Rattle.std.proofs.Common.{◌≡◌, ℕ, ◌-◌, ◌<◌, ◌≤◌, true, false, ◌⊎◌, List, map, length, get_or, take, drop, sym, ap, ◌∙◌, inl, inr, arith}
use Rattle.std.proofs.lemmas.List.{get_or-map, length-map}
use Rattle.std.proofs.lemmas.Bool.{cases_Bool}
use Rattle.rows.specs.declared.tables.ChangeRow.{ChangeRow}
use Rattle.rows.specs.declared.tables.StageRow.{StageRow}
use Rattle.rows.specs.Plans.{PlanRows}
use Rattle.rows.specs.Verdicts.{no_change}
use Rattle.runs.specs.Plans.{blank_change, stage_of, change_of}
use Rattle.runs.specs.Runs.{is_of_stage}
use Rattle.runs.specs.Tables.{change_of_row, stage_of_row, plan_in}
use Rattle.runs.proofs.Taking.{is_of_stage_so, of_stage_is}

-- the change at a place among the stage's own rows
pub own_change : (p : PlanRows) (i c : ℕ) (row : StageRow) (own : List ChangeRow) → stage_of_row p row ≡ stage_of (plan_in p) i → own ≡ take row.changes (drop row.first_change p.changes) → row.first_change ≤ c → c - row.first_change < length own → (is_of_stage (plan_in p) i c ≡ true) × (change_of_row p (get_or own (c - row.first_change) no_change) ≡ change_of (plan_in p) i c)
own_change p i c row own e o l h = (is_of_stage_so (plan_in p) i c (omega (arith, f), omega (arith, f, n)), sym here)
  where
    f : row.first_change ≡ (stage_of (plan_in p) i).first
    f = ap (λ s. s.first) e

    cs : map (change_of_row p) own ≡ (stage_of (plan_in p) i).changes
    cs = ap (map (change_of_row p)) o ∙ ap (λ s. s.changes) e

    n : length (stage_of (plan_in p) i).changes ≡ length own
    n = sym (ap length cs) ∙ length-map own (change_of_row p)

    here : change_of (plan_in p) i c ≡ change_of_row p (get_or own (c - row.first_change) no_change)
    here =
        sym (ap (λ k. get_or (stage_of (plan_in p) i).changes (c - k) blank_change) f) ∙ (sym (ap (λ xs. get_or xs (c - row.first_change) blank_change) cs) ∙ get_or-map (change_of_row p) own (c - row.first_change) no_change blank_change h)

-- a place before the stage's own rows, or past them, has none of its changes
pub no_own_change : (p : PlanRows) (i c : ℕ) (row : StageRow) (own : List ChangeRow) → stage_of_row p row ≡ stage_of (plan_in p) i → own ≡ take row.changes (drop row.first_change p.changes) → length own ≤ c - row.first_change → row.first_change ≤ c → is_of_stage (plan_in p) i c ≡ false
no_own_change p i c row own e o l k = go (cases_Bool (is_of_stage (plan_in p) i c))
  where
    f : row.first_change ≡ (stage_of (plan_in p) i).first
    f = ap (λ s. s.first) e

    n : length (stage_of (plan_in p) i).changes ≡ length own
    n = sym (ap length (ap (map (change_of_row p)) o ∙ ap (λ s. s.changes) e)) ∙ length-map own (change_of_row p)

    go : (is_of_stage (plan_in p) i c ≡ true) ⊎ (is_of_stage (plan_in p) i c ≡ false) → is_of_stage (plan_in p) i c ≡ false
    go (inl t) = let h = of_stage_is (plan_in p) i c t in absurd (omega (arith, h.1, f, n))
    go (inr t) = t
