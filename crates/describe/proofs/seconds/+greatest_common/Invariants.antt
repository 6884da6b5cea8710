use Rattle.describe.proofs.seconds.+greatest_common.Given as goal

abbrev pub decreases-greatest_common : goal.decreases-greatest_common
decreases-greatest_common l = l.b
