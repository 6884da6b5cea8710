use Rattle.offers.proofs.Offering.{blank_after}
use Rattle.offers.proofs.list.OfferList.push.Goals as goal

pub invariant_of-self-clause-blank : goal.invariant_of-self-clause-blank
invariant_of-self-clause-blank c = blank_after c.args.self.now.items c.args.self.now.len c.args.offer c.args.self.now.blank
