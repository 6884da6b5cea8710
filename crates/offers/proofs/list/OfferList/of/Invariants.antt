use Rattle.std.proofs.Common.{◌≡◌, take}
use Rattle.offers.specs.Lists.{listed}
use Rattle.offers.proofs.list.OfferList.of.Given as goal

abbrev pub invariant-loop-offer : goal.invariant-loop-offer
invariant-loop-offer l = listed l.list ≡ take l.offer-index l.offers
