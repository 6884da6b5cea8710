use Rattle.std.proofs.Common.{◌≡◌, ℕ, List, [], ◌∷◌, ◌++◌, map, lit<, ap, subst, ◌∙◌, rules}
use Rattle.std.proofs.lemmas.Iterator.{YieldsList}
use Rattle.std.proofs.lemmas.Iterator.Splits.{YieldsList-from_str_split}
use Rattle.std.proofs.lemmas.List.{map-append}
use Rattle.std.proofs.lemmas.List.Sums.{fold-append}
use Rattle.std.specs.Borrow.{Bor}
use Rattle.std.specs.Str.Iter.{split_has_more, split_pattern, split_steps, split_text}
use Rattle.std.specs.Str.Pattern.{FindsChar}
use Rattle.describe.specs.Identifiers.{parts_of}
use Rattle.describe.proofs.Parts.{all_seen, one_more}
use Rattle.commands.proofs.Each.{EachFor-append, EachFor-at}
use Rattle.commands.specs.Walks.{NamesTimer, NamesTimers, with_timer}
use Rattle.commands.specs.Words.{EachFor}
use Rattle.commands.specs.declared.walk.Timers.{Timers}
use Rattle.commands.specs.declared.walk.Timers.TheVariants.{Bits}
use Rattle.commands.proofs.walk.timers_named.Goals as goal
use Rattle.commands.proofs.walk.timers_named.Goals.{After-next}

-- a comma stays what is looked for
abbrev pub Keeps : ℕ → ℕ → Type 0
Keeps a b = b ≡ a

-- the loop goes over the parts between commas
road : (c : After-next) → YieldsList (split_steps FindsChar Keeps) (λ x. x.now) c.into_iter-word-iterator.result (parts_of c.args.words.now)
road c =
    let from = c.into_iter-word-iterator.ensures.into_iter_gives in
    YieldsList-from_str_split {s = c.into_iter-word-iterator.result} 44 c.args.words.now (lit< tt) (ap split_text from ∙ c.split-word-items.ensures.text) (ap split_has_more from ∙ c.split-word-items.ensures.has_more) (ap split_pattern from ∙ c.split-word-items.ensures.pattern)

pub returns : goal.returns
returns c =
    let all = all_seen (split_steps FindsChar Keeps) (λ x. x.now) c.loop-word.yielded c.into_iter-word-iterator.result c.loop-word.word-iterator c.next.new.self (parts_of c.args.words.now) (road (goal.at.returns c).After-next) c.loop-word.yielded_by c.in-None.ensures.steps in
    let named = c.loop-word.invariant in
    record { numbers = named.0; each = rw all named.1; together = named.2 }

pub returns-in_err-timer_number : goal.returns-in_err-timer_number
returns-in_err-timer_number c =
    let at = one_more (split_steps FindsChar Keeps) (λ x. x.now) c.loop-word.yielded c.into_iter-word-iterator.result c.loop-word.word-iterator c.next.new.self c.in-Some.word (parts_of c.args.words.now) (road (goal.at.returns-in_err-timer_number c).After-next) c.loop-word.yielded_by c.in-Some.ensures.steps in
    let none : (t : Timers) → NamesTimers c.args.words.now t → ⊥ = λ t names.
    let one = EachFor-at NamesTimer (map (λ (x : Bor (List ℕ)). x.now) c.loop-word.yielded) at.0 c.in-Some.word.now names.numbers (subst (λ (z : List (List ℕ)). EachFor NamesTimer z names.numbers) at.1 names.each) in
    c.in_err-timer_number.ensures one.0 one.1
    in
    search (rules, none)

pub loop-word-preserved : goal.loop-word-preserved
loop-word-preserved c =
    let named = c.loop-word.invariant in
    let one = c.in_ok-timer_number.ensures in
    let more = EachFor-append NamesTimer (map (λ (x : Bor (List ℕ)). x.now) c.loop-word.yielded) named.0 c.in-Some.word.now c.in_ok-timer_number.field-0 named.1 one in (
      named.0 ++ c.in_ok-timer_number.field-0 ∷ [],
      rw (map-append (λ (x : Bor (List ℕ)). x.now) c.loop-word.yielded (c.in-Some.word ∷ [])) more,
      rw (fold-append with_timer (Bits 0) named.0 (c.in_ok-timer_number.field-0 ∷ [])) (c.and-timers.ensures ∙ ap (λ t. with_timer t c.in_ok-timer_number.field-0) named.2),
    )
