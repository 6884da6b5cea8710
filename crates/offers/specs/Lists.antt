-- Lists of offers.
use Rattle.std.specs.Prelude.{List, take}
use Rattle.runs.specs.declared.Offer.{Offer}
use Rattle.offers.specs.declared.list.OfferList.{OfferList}

-- the offers of a list
abbrev pub listed : OfferList → List Offer
listed o = take o.len o.items
