use Rattle.std.proofs.Common.{rules, tests}
use Rattle.std.proofs.lemmas.Iterator.{YieldsList-from_chars}
use Rattle.std.proofs.lemmas.Iterator.Search.{all_from_yields_List}
use Rattle.describe.specs.Kinds.{is_text_char}
use Rattle.describe.proofs.PlainText.{no_text, text_by_characters}
use Rattle.describe.proofs.kinds.is_text.Goals as goal

pub returns-in-Ok : goal.returns-in-Ok
returns-in-Ok c =
    let read = c.in-Ok.ensures.cases in
    text_by_characters c.args.bytes.now c.all.result read.1 (all_from_yields_List is_text_char _ _ c.all.result c.all.ensures.ran (YieldsList-from_chars c.args.bytes.now read.1 cc) (λ x b q k. search (rules, tests)))

pub returns-in-Err : goal.returns-in-Err
returns-in-Err c = no_text c.args.bytes.now c.in-Err.ensures.cases.0
