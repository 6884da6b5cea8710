use Rattle.std.proofs.Common.{◌^◌, ◌≤◌, arith, pow_mono}
use Rattle.std.proofs.lemmas.Bool.Decides.{nat_tests}
use Rattle.rows.proofs.tables.names_past.Goals as goal

-- with sixteen places or more every bit stands before the place
pub returns-else-n-lt16 : goal.returns-else-n-lt16
returns-else-n-lt16 c =
    let all : 2 ^ 16 ≤ 2 ^ c.args.n = pow_mono c.if-n-lt16.false in grind (arith, nat_tests)
