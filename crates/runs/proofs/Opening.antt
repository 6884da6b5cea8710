-- Timers at zero have the record at zero, and a run opens as a tick run begins.
use Rattle.std.proofs.Common.{◌≡◌, ℕ, ◌%◌, ◌≤◌, length, replicate, sym, refl, ap, ◌∙◌, ap₂}
use native.Mathlib.Nat.{zero-mod}
use lib.ListN.{length-replicate}
use Rattle.theory.specs.Records.{record_of}
use Rattle.theory.proofs.Zeros.{all_replicate, record_of_zeros}
use Rattle.theory.proofs.Multiples.{Multiples}
use Rattle.runs.specs.Plans.{Plan, Sound}
use Rattle.runs.specs.Ticks.{Ticking, Begins}
use Rattle.runs.specs.Runs.{Run, Draws, judged, all_zero, opening}
use Rattle.runs.proofs.Goals.{judged_so, judged_alike}

pub zeros_are_multiples : (g n : ℕ) → Multiples g (replicate n 0)
zeros_are_multiples g n = all_replicate (λ c. c % g ≡ 0) n 0 (zero-mod g)

-- two runs are one if all of their parts are
pub same_run : (a b : Run) → a.stage ≡ b.stage → a.region ≡ b.region → a.standing ≡ b.standing → a.coming ≡ b.coming → a ≡ b
same_run a b p q s c = λ i. record { stage = p i; region = q i; standing = s i; coming = c i }

-- the run that agrees with a tick run
abbrev pub run_of : ℕ → Ticking → Draws → Run
run_of D now coming =
    record { stage = now.stage; region = record_of D now.ticks; standing = now.standing; coming = coming }

-- a tick run has as many timers as the plan
abbrev pub Sized : Plan → Ticking → Type 0
Sized plan now = length now.ticks ≡ length plan.ceilings

pub begins_sized : (plan : Plan) (D : ℕ) (now : Ticking) → Begins plan D now → Sized plan now
begins_sized plan D now b = ap length b.all_zero ∙ length-replicate (length plan.ceilings) 0

-- a run opens where a tick run begins
pub opens_as_it_begins : (plan : Plan) (D : ℕ) (now : Ticking) (draws : Draws) → Sound plan → 1 ≤ D → Begins plan D now → opening plan draws ≡ run_of D now draws
opens_as_it_begins plan D now draws s d b =
    same_run (opening plan draws) (run_of D now draws) (sym b.first_stage) region (ap₂ (judged plan) (sym b.first_stage) region ∙ judged_alike plan now.stage D now.ticks now.standing s d (begins_sized plan D now b) b.judged) refl
  where
    region : all_zero (length plan.ceilings) ≡ record_of D now.ticks
    region =
        sym (ap (record_of D) b.all_zero ∙ record_of_zeros D (length plan.ceilings) d s.some_timer)

-- where the tick run of a plan begins
abbrev pub beginning : Plan → ℕ → Ticking
beginning plan D =
    record { stage = 0; ticks = replicate (length plan.ceilings) 0; standing = judged plan 0 (record_of D (replicate (length plan.ceilings) 0)) }

pub beginning_begins : (plan : Plan) (D : ℕ) → Sound plan → 1 ≤ D → Begins plan D (beginning plan D)
beginning_begins plan D s d =
    record { first_stage = refl; all_zero = refl; judged = judged_so plan 0 D (replicate (length plan.ceilings) 0) s d (length-replicate (length plan.ceilings) 0) }
