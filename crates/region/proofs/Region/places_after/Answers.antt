use Rattle.std.proofs.Common.{◌+◌, ap, ◌∙◌, arith}
use Rattle.theory.specs.Records.{live}
use Rattle.theory.proofs.Totals.{total_same}
use Rattle.region.specs.Resetting.{marks}
use Rattle.region.specs.Viewed.{viewed}
use Rattle.region.proofs.Placed.{live_bit}
use Rattle.region.proofs.Region.places_after.Goals as goal

pub places-requires : goal.places-requires
places-requires c =
    let r = c.args.self.now in
    λ j h. omega (arith, c.live_classes.ensures j h, live_bit (marks r.number c.args.timers) (viewed r) j)

pub returns : goal.returns
returns c =
    let r = c.args.self.now in
    λ j h. c.places.ensures j h ∙ ap (λ n. 1 + n) (total_same _ (live (marks r.number c.args.timers) (viewed r)) j (λ x l. c.live_classes.ensures x (omega arith)))
