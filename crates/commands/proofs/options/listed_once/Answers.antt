use Rattle.std.proofs.Common.{ℕ, List, Option, subst}
use Rattle.std.specs.Option.{MatchOption}
use Rattle.std.specs.Global.{Global}
use Rattle.std.specs.Prelude.{Vec}
use Rattle.describe.specs.Identifiers.{AllDiffer, Lists}
use Rattle.commands.proofs.options.listed_once.Goals as goal

pub returns-in-None : goal.returns-in-None
returns-in-None c = (
  subst (λ (o : Option (Vec ℕ Global)). MatchOption o ((ids : List ℕ) → Lists c.args.word.now ids → ⊥) (λ v. Lists c.args.word.now v.items)) c.in-Some.is c.in_ok-identifiers.ensures,
  subst AllDiffer c.deref.ensures.value c.in-None.ensures,
)
