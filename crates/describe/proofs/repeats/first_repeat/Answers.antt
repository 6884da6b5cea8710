use Rattle.std.proofs.Common.{◌≡◌, ◌⊎◌, ◌≤◌, ℕ, List, Option, length, subst, sym, ◌∙◌, Bor, None, Some, refl}
use Rattle.std.proofs.lemmas.Option.{slice_get_past, slice_get_read}
use Rattle.std.specs.List.{slice_get}
use Rattle.std.specs.Option.{MatchOption, option_copied}
use Rattle.std.specs.Slice.{IsItemAt}
use Rattle.describe.specs.Identifiers.{AllDiffer, IsFirstRepeat}
use Rattle.describe.specs.Repeats.{IsAgain}
use Rattle.describe.proofs.InOrder.{first_repeat_at}
use Rattle.describe.proofs.repeats.first_repeat.Goals as goal

copied_at : (xs : List ℕ) (i : ℕ) (r : Option (Bor ℕ)) → IsItemAt xs i r → option_copied r ≡ slice_get xs i
copied_at xs i None h = sym (slice_get_past xs i h.3)
copied_at xs i (Some one) h = sym (slice_get_read xs (length xs) i one.now refl h.3.0 h.1)

pub returns-in-Ok : goal.returns-in-Ok
returns-in-Ok c =
    let least = c.earliest_again.result in
    let found = first_repeat_at c.args.identifiers.now c.in-Ok.sorted.items c.in-Ok.ensures.all c.in-Ok.ensures.sorted least
    (subst (λ (xs : List (ℕ × ℕ)). IsAgain xs least ⊎ (least ≡ length xs)) c.deref.ensures.value c.earliest_again.ensures.again)
    (subst (λ (xs : List (ℕ × ℕ)). (place : ℕ) → IsAgain xs place → least ≤ place) c.deref.ensures.value c.earliest_again.ensures.none_earlier) in
    let same : c.copied.result ≡ slice_get c.args.identifiers.now least = c.copied.ensures ∙ copied_at c.args.identifiers.now least c.get.result c.get.ensures.lookup in
    subst (λ (o : Option ℕ). MatchOption o (AllDiffer c.args.identifiers.now) (IsFirstRepeat c.args.identifiers.now)) (sym same) found
