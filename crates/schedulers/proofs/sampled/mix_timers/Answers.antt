use Rattle.std.specs.Prelude.{◌≡◌, ℕ, fold}
use Rattle.std.proofs.Common.{rules, ap, sym, ◌∙◌}
use Rattle.std.proofs.lemmas.List.Folds.{flat_map-map}
use Rattle.region.specs.Views.{timer_in}
use Rattle.schedulers.specs.Hashes.{mixed, timer_bytes}
use Rattle.schedulers.proofs.Timers.{fold-flat_map}
use Rattle.schedulers.proofs.sampled.mix_timers.Goals as goal

pub returns : goal.returns
returns c =
    let each : c.fold.result ≡ fold (λ (h : ℕ) t. fold mixed h (timer_bytes (timer_in t))) c.args.h c.args.timers.now = search rules in
    each
    ∙ fold-flat_map mixed (λ t. timer_bytes (timer_in t)) c.args.h c.args.timers.now
    ∙ ap (fold mixed c.args.h) (sym (flat_map-map timer_bytes timer_in c.args.timers.now))
