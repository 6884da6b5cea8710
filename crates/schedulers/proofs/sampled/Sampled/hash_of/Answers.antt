use Rattle.std.proofs.Common.{◌≡◌, ℕ, cond, fold, ap, ◌∙◌, rules}
use Rattle.std.specs.List.{flat_map}
use Rattle.schedulers.specs.Hashes.{mixed, timer_bytes}
use Rattle.schedulers.proofs.Bytes.{four_bytes_are, two_bytes_are}
use Rattle.schedulers.proofs.sampled.Sampled.hash_of.Goals as goal

pub returns : goal.returns
returns c =
    let id = c.args.self.now.identifier in
    let stage = c.args.at.now.stage in
    let named = c.mix_bytes-h.ensures ∙ ap (fold mixed 2166136261) (c.to_be_bytes.ensures ∙ four_bytes_are id (search rules)) in
    let placed = c.mix_bytes-h-2.ensures ∙ (λ i. fold mixed (named i) ((c.to_be_bytes-2.ensures ∙ two_bytes_are stage (search rules)) i)) in
    let bit : c.from.result ≡ cond {A = ℕ} c.args.at.now.region.whole 1 0 = search (rules, c.from.ensures, c.is_whole.ensures) in
    let whole = c.mix.ensures ∙ (λ i. mixed (placed i) (bit i)) in
    let classed = c.mix-h.ensures ∙ (λ i. mixed (whole i) (c.classes.ensures i)) in
    c.mix_timers.ensures ∙ (λ i. fold mixed (classed i) (flat_map timer_bytes (c.values.ensures.timers i)))
