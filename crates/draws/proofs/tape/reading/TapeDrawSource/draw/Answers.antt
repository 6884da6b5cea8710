use Rattle.std.proofs.Common.{ℕ, suc, ◌^◌, ◌<◌, List, subst}
use Rattle.std.specs.Prelude.{slice_index}
use Rattle.draws.proofs.tape.reading.TapeDrawSource.draw.Goals as goal

-- the numbers that are left are the rest of those that were
pub invariant_of-self-clause-left_fit : goal.invariant_of-self-clause-left_fit
invariant_of-self-clause-left_fit c k =
    let parts = rw c.in_ok-first.ensures.ok_part at c.split_first.ensures.cases in
    subst (λ (xs : List ℕ). slice_index xs (suc k) < 2 ^ 32) parts.0 (c.args.self.now.left_fit (suc k))
