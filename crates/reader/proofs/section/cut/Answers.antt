use Rattle.std.proofs.Common.{◌≡◌, ◌+◌, ◌*◌, ◌≤◌, length, take, drop, Some, None, sym, ap, ◌∙◌}
use Rattle.std.proofs.lemmas.List.{take_rest}
use Rattle.std.specs.Result.{result_err}
use Rattle.rows.specs.Files.{part_fault, word_at}
use Rattle.rows.specs.Plans.{word}
use Rattle.rows.specs.Sections.{size_of}
use Rattle.rows.proofs.Faults.{exit_told}
use Rattle.rows.proofs.Files.{after_in, part_checked, part_in_is, part_long, part_sized, part_whole}
use Rattle.reader.proofs.section.cut.Goals as goal

pub returns-in_err-placed : goal.returns-in_err-placed
returns-in_err-placed c =
    rw (exit_told c.from_residual.result c.from_residual.ensures.1)
    (part_checked c.args.name c.args.rooms.now c.args.bytes.now c.of.result (result_err c.check_part.result) (Some c.in_err-placed.field-0.0) c.of.ensures c.check_part.ensures c.in_err-placed.ensures)

pub returns : goal.returns
returns c =
    let s = c.args.name in
    let b = c.args.bytes.now in
    let size : c.size.result * c.from.result ≡ size_of s * word_at b 0 = ap (λ n. n * c.from.result) c.size.ensures ∙ ap (λ n. size_of s * n) (c.from.ensures ∙ c.word.ensures.value) in
    let passes : part_fault s c.args.rooms.now b ≡ None =
    part_checked s c.args.rooms.now b c.of.result (result_err c.check_part.result) None c.of.ensures c.check_part.ensures c.in_ok-placed.ensures in
    let long : 2 + size_of s * word_at b 0 ≤ length b = part_long s c.args.rooms.now b passes in
    record {
      passes = passes;
      named = c.new.ensures.named;
      part = c.new.ensures.holds ∙ c.split_at.ensures.front ∙ ap (take (c.size.result * c.from.result)) (take_rest b 2) ∙ ap (λ n. take n (drop 2 b)) size ∙ part_in_is s b;
      left = c.split_at.ensures.back ∙ ap (drop (c.size.result * c.from.result)) (take_rest b 2) ∙ ap (λ n. drop n (drop 2 b)) size ∙ after_in s b;
      sized = part_sized s b long;
      whole = part_whole s b (ap word (sym c.word.ensures.value) ∙ c.word.ensures.whole);
    }
