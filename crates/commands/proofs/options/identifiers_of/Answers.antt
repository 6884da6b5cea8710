use Rattle.std.proofs.Common.{refl, sym, ◌∙◌}
use Rattle.std.proofs.lemmas.Iterator.{YieldsList-from_range, items_from_drains}
use Rattle.std.proofs.lemmas.List.{map-id}
use Rattle.commands.proofs.options.identifiers_of.Goals as goal

pub returns-in_ok-collect-in-None : goal.returns-in_ok-collect-in-None
returns-in_ok-collect-in-None c =
    let ran = c.in_ok-collect-in-None.ensures.ran in
    let ten = ran.2.0 ∙ sym (map-id ran.0) ∙ items_from_drains ran.0 ran.1 (YieldsList-from_range 0 10 10 refl refl) in
    let none = sym c.get_str.ensures in
    rw (sym c.get_str.ensures, c.in-None.is) ten
