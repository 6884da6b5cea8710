use Rattle.std.proofs.Common.{◌≡◌, ◌+◌, ◌*◌, get_or, sym, ap, ◌∙◌, arith}
use Rattle.rows.specs.Files.{word_at}
use Rattle.rows.specs.Plans.{word as two}
use Rattle.rows.proofs.Files.{take_two, word_of_bytes}
use Rattle.reader.proofs.bytes.word.Goals as goal

pub returns : goal.returns
returns c =
    let b = c.args.bytes.now in
    let i = c.args.i in
    let spelled : c.from_be_bytes.result ≡ get_or b i 0 * 256 + get_or b (i + 1) 0 = c.from_be_bytes.ensures in
    let value : c.from_be_bytes.result ≡ word_at b i = omega arith in
    record { value = value; whole = ap two value ∙ word_of_bytes (get_or b i 0) (get_or b (i + 1) 0) (omega (arith, c.type_inv.bytes (i + 1))) ∙ sym (take_two b i c.requires) }
