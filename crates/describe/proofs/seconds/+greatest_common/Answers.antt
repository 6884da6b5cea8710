use Rattle.std.proofs.lemmas.Nat.Gcd.{IsGcd-from_mod}
use Rattle.describe.proofs.seconds.+greatest_common.Goals as goal

pub returns : goal.returns
returns t c = IsGcd-from_mod c.args.a c.args.b c.greatest_common.result c.greatest_common.ensures
