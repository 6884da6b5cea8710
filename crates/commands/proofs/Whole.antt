-- Tables that hold a plan and no other row run as that plan.
use Rattle.std.proofs.Common.{◌≡◌, Bool, true, false, not, is_some, length, refl, sym, ap, ◌∙◌, subst, arith}
use Rattle.std.proofs.lemmas.Bool.{cond-false}
use Rattle.std.proofs.lemmas.List.{take_all}
use Rattle.offers.specs.Checked.{blank_rows, checked}
use Rattle.plan.specs.declared.handed.Handed.{Handed}
use Rattle.plan.specs.Handed.{counted_in, fault_in, held_by}
use Rattle.rows.specs.declared.section.Counts.{Counts}
use Rattle.rows.specs.Plans.{PlanRows, counts_of, front}
use Rattle.rows.specs.Sound.{Fits, Sound}
use Rattle.rows.specs.Verdicts.{faultless}
use Rattle.rows.proofs.Soundness.{sound_from_faultless, verdict_decides}

-- all rows of a plan are its first rows
front_whole : (p : PlanRows) → front (counts_of p) p ≡ p
front_whole p =
    let a = take_all (length p.timers) p.timers (omega arith) in
    let b = take_all (length p.comparisons) p.comparisons (omega arith) in
    let c = take_all (length p.stages) p.stages (omega arith) in
    let d = take_all (length p.changes) p.changes (omega arith) in
    let e = take_all (length p.outcomes) p.outcomes (omega arith) in
    let f = take_all (length p.goals) p.goals (omega arith) in
    λ i. record {
      timers = a i;
      comparisons = b i;
      stages = c i;
      changes = d i;
      outcomes = e i;
      goals = f i;
    }

not_true : (b : Bool) → not b ≡ true → b ≡ false
not_true true e = cc
not_true false e = refl

-- handed as they are, with as many rows as there are, rows that break no rule are those that run
pub checked_whole : (h : Handed) → h.counts ≡ counts_of (held_by h.tables) →
    faultless (held_by h.tables) ≡ true → checked h ≡ held_by h.tables
checked_whole h e k =
    let held : PlanRows = held_by h.tables in
    let rows : counted_in h ≡ held = ap (λ (c : Counts). front c held) e ∙ front_whole held in
    let every : Fits (counts_of held) (counts_of held) = λ s. omega arith in
    let fits = subst (λ (c : Counts). Fits c (counts_of held)) (sym e) every in
    let sound = subst Sound (sym rows) (sound_from_faultless held k) in
    let none = not_true (is_some (fault_in h)) ((verdict_decides h.counts held).1 (fits, sound)) in
    cond-false (is_some (fault_in h)) blank_rows (counted_in h) none ∙ rows
