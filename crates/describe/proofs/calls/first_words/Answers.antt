use Rattle.std.proofs.Common.{◌≡◌, ℕ, not, ◌==◌, length, rules, lit<, tests, ap, ◌∙◌}
use Rattle.std.specs.Iterator.Adapters.{filter_source, filter_steps}
use Rattle.std.specs.Str.Iter.{split_has_more, split_pattern, split_steps, split_text}
use Rattle.std.specs.Str.Pattern.{FindsChar}
use Rattle.std.proofs.lemmas.Iterator.Consumers.{YieldsList-from_filter}
use Rattle.std.proofs.lemmas.Iterator.Splits.{YieldsList-from_str_split}
use Rattle.std.specs.List.{slice_get}
use Rattle.std.specs.Option.{option_copied}
use Rattle.describe.specs.Words.{words_of}
use Rattle.describe.proofs.FirstWords.{filter_stays, filter_stops, of_four}
use Rattle.describe.proofs.calls.first_words.Goals as goal
use Rattle.describe.proofs.calls.first_words.Goals.{After-next-4}

-- a space is found as it is, and stays what is looked for
abbrev pub Keeps : ℕ → ℕ → Type 0
Keeps a b = b ≡ a

-- the four calls give the first four words
given : (c : After-next-4) → (option_copied c.next.result ≡ slice_get (words_of c.args.line.now) 0) × (option_copied c.next-2.result ≡ slice_get (words_of c.args.line.now) 1) × (option_copied c.next-3.result ≡ slice_get (words_of c.args.line.now) 2) × (option_copied c.next-4.result ≡ slice_get (words_of c.args.line.now) 3)
given c =
    of_four (filter_steps (split_steps FindsChar Keeps) _) (λ x. x.now) _ (filter_stops FindsChar Keeps _) (filter_stays FindsChar Keeps _) c.filter-words.result _ _ _ _ c.next.result c.next-2.result c.next-3.result c.next-4.result (words_of c.args.line.now) c.next.ensures.steps c.next-2.ensures.steps c.next-3.ensures.steps c.next-4.ensures.steps (YieldsList-from_filter {s = c.filter-words.result} _ (λ word. not (length word == 0)) (YieldsList-from_str_split {s = filter_source c.filter-words.result} 32 c.args.line.now (lit< tt) (ap split_text c.filter-words.ensures.source ∙ c.split.ensures.text) (ap split_has_more c.filter-words.ensures.source ∙ c.split.ensures.has_more) (ap split_pattern c.filter-words.ensures.source ∙ c.split.ensures.pattern)) c.filter-words.ensures.closure (λ x b q k. search (rules, tests)))

pub returns-clause-first : goal.returns-clause-first
returns-clause-first c = (given c).0

pub returns-clause-second : goal.returns-clause-second
returns-clause-second c = (given c).1

pub returns-clause-third : goal.returns-clause-third
returns-clause-third c = (given c).2

pub returns-clause-fourth : goal.returns-clause-fourth
returns-clause-fourth c = (given c).3
