use Rattle.std.proofs.Common.{◌≡◌, ◌/◌, ◌^◌, ◌≤◌, arith, pow_mono}
use native.Mathlib.Nat.{div-eq_of_lt}
use Rattle.std.proofs.lemmas.Bool.Decides.{nat_tests}
use Rattle.rows.proofs.tables.names.Goals as goal

-- no number of sixteen bits has a bit past them
pub returns-else-place-lt16 : goal.returns-else-place-lt16
returns-else-place-lt16 c =
    let all : 2 ^ 16 ≤ 2 ^ c.args.place = pow_mono c.if-place-lt16.false in
    let none : c.args.bits / 2 ^ c.args.place ≡ 0 = div-eq_of_lt (omega arith) in
    grind (arith, nat_tests)
