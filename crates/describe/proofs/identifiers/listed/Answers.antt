use Rattle.std.proofs.Common.{◌≡◌, ℕ, ◌≤◌, List, length, map, lit<, ap, subst, ◌∷◌, ◌∙◌, ◌+◌, arith, length-append, rules}
use Rattle.std.proofs.lemmas.Iterator.{YieldsList}
use Rattle.std.proofs.lemmas.List.{length-map}
use Rattle.std.proofs.lemmas.Iterator.Splits.{YieldsList-from_str_split}
use Rattle.std.specs.Str.Iter.{split_has_more, split_pattern, split_steps, split_text}
use Rattle.std.specs.Str.Pattern.{FindsChar}
use Rattle.describe.specs.Identifiers.{parts_of}
use Rattle.describe.specs.Numbers.{Decimal}
use Rattle.std.specs.Borrow.{Bor}
use Rattle.std.specs.List.{All}
use Rattle.std.specs.Str.Parse.{digits_value}
use Rattle.describe.proofs.Parts.{all_seen, in_the_middle, one_more}
use Rattle.describe.proofs.identifiers.listed.Goals as goal
use Rattle.describe.proofs.identifiers.listed.Goals.{After-next, in_default-via-in-Some-number+else-len-lt-MOST_IDENTIFIERS, in_default-via-in_default}

-- a comma stays what is looked for
abbrev pub Keeps : ℕ → ℕ → Type 0
Keeps a b = b ≡ a

-- the loop goes over the parts between commas
road : (c : After-next) → YieldsList (split_steps FindsChar Keeps) (λ x. x.now) c.into_iter-part-iterator.result (parts_of c.args.word.now)
road c =
    let from = c.into_iter-part-iterator.ensures.into_iter_gives in
    YieldsList-from_str_split {s = c.into_iter-part-iterator.result} 44 c.args.word.now (lit< tt) (ap split_text from ∙ c.split-part-items.ensures.text) (ap split_has_more from ∙ c.split-part-items.ensures.has_more) (ap split_pattern from ∙ c.split-part-items.ensures.pattern)

pub returns : goal.returns
returns c =
    let all = all_seen (split_steps FindsChar Keeps) (λ x. x.now) c.loop-part.yielded c.into_iter-part-iterator.result c.loop-part.part-iterator c.next.new.self (parts_of c.args.word.now) (road (goal.at.returns c).After-next) c.loop-part.yielded_by c.in-None.ensures.steps in
    rw all c.loop-part.invariant

pub returns-in_default : goal.returns-in_default
returns-in_default c = λ ids few written.
    let at = one_more (split_steps FindsChar Keeps) (λ x. x.now) c.loop-part.yielded c.into_iter-part-iterator.result c.loop-part.part-iterator c.next.new.self c.in-Some.part (parts_of c.args.word.now) (road (goal.at.returns-in_default c).After-next) c.loop-part.yielded_by c.in-Some.ensures.steps in
    let seen = map (λ (x : Bor (List ℕ)). x.now) c.loop-part.yielded in
    elim c.in_default.branch [
      | in_default-via-in-Some-number+else-len-lt-MOST_IDENTIFIERS w ↦
          let so_far : 1000 ≤ length c.loop-part.identifiers.items = search (rules, w.if-len-lt-MOST_IDENTIFIERS.false, w.len.ensures) in
          let as_many : length c.loop-part.identifiers.items ≡ length seen = ap length c.loop-part.invariant.0.1 ∙ length-map seen (digits_value 10) in
          let all : length ids ≡ length (parts_of c.args.word.now) = ap length written.1 ∙ length-map (parts_of c.args.word.now) (digits_value 10) in
          let whole : length (parts_of c.args.word.now) ≡ length seen + length (c.in-Some.part.now ∷ at.0) = ap length at.1 ∙ length-append seen (c.in-Some.part.now ∷ at.0) in
          omega (arith, few, so_far, as_many, all, whole)
      | in_default-via-in_default w ↦
          w.in_default.ensures (in_the_middle Decimal seen at.0 c.in-Some.part.now (subst (λ (z : List (List ℕ)). All Decimal z) at.1 written.0))
    ]
