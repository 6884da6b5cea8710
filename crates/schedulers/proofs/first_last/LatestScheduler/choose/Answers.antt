use Rattle.std.proofs.Common.{refl, rules}
use Rattle.schedulers.specs.Meanings.{comes_after}
use Rattle.schedulers.proofs.Chosen.{chosen}
use Rattle.schedulers.proofs.first_last.LatestScheduler.choose.Goals as goal

pub returns : goal.returns
returns c = chosen comes_after (λ o. o.highest) c.args.offers.now c.foremost.result c.map_or.result refl c.foremost.ensures (search rules)
