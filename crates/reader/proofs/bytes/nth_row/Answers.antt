use Rattle.std.proofs.Common.{◌≡◌, ◌+◌, ◌*◌, ◌≤◌, length, take, drop, sym, ap, ◌∙◌, arith}
use Rattle.rows.proofs.Files.{row_ends, row_read}
use Rattle.reader.proofs.bytes.nth_row.Given as given
use Rattle.reader.proofs.bytes.nth_row.Goals as goal
use Rattle.reader.proofs.bytes.nth_row.Goals.{After-SIZE}

-- the record ends within the part
ends : (g : given.Over) (c : After-SIZE g) → c.args.i * c.SIZE.result + g.R.Row.SIZE ≤ length c.args.part.now
ends g c =
    let within = row_ends g.R.Row.parsed g.R.Row.SIZE c.args.part.now c.args.i c.requires in
    omega (arith, ap (λ n. c.args.i * n) c.SIZE.ensures)

pub overflow_mul-i : goal.overflow_mul-i
overflow_mul-i g c = omega (arith, ends g (goal.at.overflow_mul-i g c).After-SIZE)

pub at-requires : goal.at-requires
at-requires g c = ends g (goal.at.at-requires g c).After-SIZE

pub returns : goal.returns
returns g c =
    let size = g.R.Row.SIZE in
    let b = c.args.part.now in
    let same : c.args.i * c.SIZE.result ≡ c.args.i * size = ap (λ n. c.args.i * n) c.SIZE.ensures in
    let value : c.at.result ≡ g.R.Row.parsed b (c.args.i * c.SIZE.result) = c.at.ensures.value in
    let whole : g.R.Row.written c.at.result ≡ take size (drop (c.args.i * c.SIZE.result) b) = c.at.ensures.whole in
    record {
      value = λ d. value ∙ ap (g.R.Row.parsed b) same ∙ sym (row_read g.R.Row.parsed size b c.args.i d c.requires);
      whole = whole ∙ ap (λ k. take size (drop k b)) same;
    }
