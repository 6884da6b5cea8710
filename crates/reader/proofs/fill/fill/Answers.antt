use Rattle.std.proofs.Common.{◌≡◌, ◌*◌, ◌/◌, [], ◌++◌, length, take, drop, ap, ◌∙◌, arith}
use Rattle.std.proofs.lemmas.List.{append-nil, drop_all, length-take}
use Rattle.rows.specs.Files.{rows_in}
use Rattle.rows.proofs.Files.{length_rows_in}
use Rattle.rows.proofs.Fills.{filled_all, filled_more}
use Rattle.reader.proofs.fill.fill.Goals as goal

pub loop-i-preserved : goal.loop-i-preserved
loop-i-preserved g c =
    filled_more _ _ _ _ _ _ _ _ c.loop-i.invariant (omega arith) (omega (arith, length-take c.count.result c.args.table.now)) (c.nth_row.ensures.value c.nth_row.result) c.nth_row.ensures.whole

pub returns : goal.returns
returns g c =
    let size = g.R.Row.SIZE in
    let part = c.args.part.now in
    let table = c.args.table.now in
    let n = c.count.result in
    let rows = rows_in g.R.Row.parsed size part in
    let i : c.loop-i.i ≡ n = omega (arith, length-take n table) in
    let count : n ≡ length part / size = c.count.ensures ∙ length_rows_in g.R.Row.parsed size part in
    let none : drop c.loop-i.i (take n table) ≡ [] = drop_all c.loop-i.i (take n table) (omega (arith, length-take n table)) in
    let done = filled_all _ _ _ _ _ _ c.loop-i.i c.loop-i.invariant (omega arith) (omega (arith, ap (λ k. size * k) (i ∙ count))) in
    let items : c.loop-i.row-items ≡ rows = done.0 ∙ ap (λ z. rows ++ z) none ∙ append-nil rows in
    record { filled = ap (λ z. z ++ drop n table) items ∙ ap (λ k. rows ++ drop k table) c.count.ensures; bytes = done.1 }
