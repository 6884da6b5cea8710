use Rattle.std.specs.List.{IsFirstBest}
use Rattle.std.proofs.Common.{◌<◌, length}
use Rattle.schedulers.proofs.foremost.foremost.Given as goal

abbrev pub invariant-loop-i : goal.invariant-loop-i
invariant-loop-i g l = (l.place < length l.entries) × IsFirstBest (g.R.Ranking.ahead l.ranking) l.entries l.i l.place
