-- What is known of a checked plan's rows, and tests over mapped rows.
use Rattle.std.proofs.Common.{◌≡◌, ◌≤◌, Bool, true, ◌||◌, List, [], ◌∷◌, map, length, refl, ap, arith}
use Rattle.std.specs.List.{list_any}
use Rattle.rows.specs.declared.section.SectionName.TheVariants.{Timers, Stages}
use Rattle.rows.specs.Plans.{PlanRows}
use Rattle.rows.specs.Verdicts.{faultless}
use Rattle.rows.proofs.Soundness.{sound_from_faultless}

pub few_timers : (p : PlanRows) → faultless p ≡ true → length p.timers ≤ 16
few_timers p s = (sound_from_faultless p s).bounded Timers

pub few_stages : (p : PlanRows) → faultless p ≡ true → length p.stages ≤ 65535
few_stages p s = omega (arith, (sound_from_faultless p s).bounded Stages)

-- a test of some mapped element
pub list_any-map : {X Y : Type 0} (p : X → Bool) (h : Y → X) (ys : List Y) → list_any p (map h ys) ≡ list_any (λ y. p (h y)) ys
list_any-map p h [] = refl
list_any-map p h (y ∷ ys) = ap (λ b. p (h y) || b) (list_any-map p h ys)
