use Rattle.std.proofs.Common.{ℕ, None, lit<, rules}
use Rattle.std.proofs.lemmas.Str.Pattern.{strip_prefix_char}
use Rattle.commands.specs.Walks.{NamesTimer}
use Rattle.commands.proofs.walk.timer_number.Goals as goal

pub returns-in_err-strip_prefix : goal.returns-in_err-strip_prefix
returns-in_err-strip_prefix c =
    let none : (timer : ℕ) → NamesTimer c.args.word.now timer → ⊥ = λ timer names. strip_prefix_char 120 c.args.word.now None c.in_err-strip_prefix.ensures.cases (lit< tt) names.digits names.word_is in
    search (rules, none)
