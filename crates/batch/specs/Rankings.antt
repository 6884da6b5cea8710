-- Which of two rows reached more or less often.
use Rattle.std.specs.Prelude.{Bool, nat_lt}
use Rattle.std.specs.Cmp.{IsStrictWeakOrder}
use Rattle.std.proofs.lemmas.List.MinMax.{IsStrictWeakOrder-by_number, IsStrictWeakOrder-flip}
use Rattle.batch.specs.declared.BatchRow.{BatchRow}

-- the first row reached more often than the second
abbrev pub reached_more : BatchRow → BatchRow → Bool
reached_more a b = nat_lt b.reached a.reached

-- the first row reached less often than the second
abbrev pub reached_less : BatchRow → BatchRow → Bool
reached_less a b = nat_lt a.reached b.reached

-- rows are ranked by how often they reached, either way
pub less_ranks : IsStrictWeakOrder reached_less
less_ranks = IsStrictWeakOrder-by_number (λ (row : BatchRow). row.reached)

pub more_ranks : IsStrictWeakOrder reached_more
more_ranks = IsStrictWeakOrder-flip reached_less less_ranks
