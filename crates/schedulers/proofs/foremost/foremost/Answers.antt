use Rattle.std.proofs.Common.{◌≡◌, ℕ, length, subst, arith}
use Rattle.std.specs.List.{IsFirstBest}
use Rattle.schedulers.specs.Foremosts.{best_is_foremost}
use Rattle.schedulers.proofs.foremost.foremost.Goals as goal

pub returns : goal.returns
returns g c =
    let xs = c.args.entries.now in
    let beats = g.R.Ranking.ahead c.args.ranking.now in
    let order = g.met.R.Ranking.ranks c.args.ranking.now in
    let all : c.loop-i.i ≡ length xs = omega arith in
    let best : IsFirstBest beats xs (length xs) c.loop-i.place = subst (λ (n : ℕ). IsFirstBest beats xs n c.loop-i.place) all c.loop-i.invariant.1 in
    (best, best_is_foremost beats order xs c.loop-i.place best)
