-- Two runs that differ at most in the proofs that they carry.
use Rattle.std.proofs.Common.{◌≡◌, ◌<◌, length}
use mathlib.Core.Logic.{∥∥₁_prop}
use native.Mathlib.Bridge.{le_prop}
use Rattle.offers.specs.Known.{plan_of}
use Rattle.region.specs.Viewed.{viewed}
use Rattle.runs.specs.Runs.{InBounds}
use Rattle.run.specs.declared.Run.{Run}

-- a run whose source is as it was is as it was
pub same_source : {D : Type 0} (run : Run D) (now : D) (b : ∥ InBounds (plan_of run.plan) (viewed run.at.region) ∥₁) (s : run.at.stage < length (plan_of run.plan).stages) → now ≡ run.source.now → record { plan = run.plan; source = record run.source { now = now }; at = run.at; standing = run.standing; in_bounds = b; a_stage = s } ≡ run
same_source run now b s e i =
    record { plan = run.plan; source = record run.source { now = e i }; at = run.at; standing = run.standing; in_bounds = ∥∥₁_prop b run.in_bounds i; a_stage = le_prop s run.a_stage i }
