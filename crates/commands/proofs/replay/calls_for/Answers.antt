use Rattle.std.proofs.Common.{ℕ, List, [], ◌∷◌, ◌++◌, map, ap, ◌∙◌, rules}
use Rattle.std.proofs.lemmas.Iterator.Splits.{YieldsList-from_lines}
use Rattle.std.proofs.lemmas.List.{map-append}
use Rattle.std.specs.Borrow.{Bor}
use Rattle.std.specs.Str.Iter.{lines_rest, lines_steps}
use Rattle.std.specs.Str.Lines.{lines}
use Rattle.describe.specs.Calls.{Asks}
use Rattle.describe.proofs.Parts.{all_seen}
use Rattle.commands.proofs.Each.{EachFor-append}
use Rattle.commands.specs.Words.{EachFor}
use Rattle.commands.proofs.replay.calls_for.Goals as goal

pub loop-line-preserved : goal.loop-line-preserved
loop-line-preserved c =
    let asks : Asks c.in-Some.line.now c.in_ok-asked.asked = search rules in
    let more = EachFor-append Asks (map (λ (x : Bor (List ℕ)). x.now) c.loop-line.yielded) c.loop-line.calls.items c.in-Some.line.now c.in_ok-asked.asked c.loop-line.invariant.0 asks in
    let all : EachFor Asks (map (λ (x : Bor (List ℕ)). x.now) (c.loop-line.yielded ++ c.in-Some.line ∷ [])) c.push.new.self.items =
    rw (map-append (λ (x : Bor (List ℕ)). x.now) c.loop-line.yielded (c.in-Some.line ∷ []), c.in_ok-push.ensures.items) more in
    (all, search rules)

pub returns-clause-asked : goal.returns-clause-asked
returns-clause-asked c =
    let road = YieldsList-from_lines {s = c.into_iter-line-iterator.result} c.args.text.now (ap lines_rest c.into_iter-line-iterator.ensures.into_iter_gives ∙ c.lines-line-items.ensures.rest) in
    let all = all_seen lines_steps (λ x. x.now) c.loop-line.yielded c.into_iter-line-iterator.result c.loop-line.line-iterator c.next.new.self (lines c.args.text.now) road c.loop-line.yielded_by c.in-None.ensures.steps in
    rw all c.loop-line.invariant.0
