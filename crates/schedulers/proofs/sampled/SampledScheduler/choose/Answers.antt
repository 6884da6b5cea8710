use Rattle.std.proofs.Common.{◌≡◌, [], length, sym, ap, ◌∙◌}
use Rattle.std.proofs.lemmas.List.{nil_from_length}
use Rattle.std.proofs.lemmas.Bool.{eqb-true}
use Rattle.region.specs.Viewed.{viewed}
use Rattle.schedulers.specs.Meanings.{sampled_by}
use Rattle.schedulers.specs.Samples.{sampled_none}
use Rattle.schedulers.proofs.sampled.SampledScheduler.choose.Goals as goal

pub returns-then-is_empty : goal.returns-then-is_empty
returns-then-is_empty c =
    let id = c.args.self.now.identifier in
    let none : c.args.offers.now ≡ [] = nil_from_length c.args.offers.now (eqb-true (length c.args.offers.now) 0 (sym c.is_empty.ensures ∙ c.if-is_empty.true)) in
    sym (ap (sampled_by id c.args.at.now.stage (viewed c.args.at.now.region)) none ∙ sampled_none id c.args.at.now.stage (viewed c.args.at.now.region))
