-- What is chosen where the foremost offer was looked for.
use Rattle.std.specs.Prelude.{◌≡◌, ℕ, Bool, List, [], ◌∷◌, length, Option, Some, None, MatchOption}
use Rattle.std.proofs.Common.{ap, ◌∙◌, sym, arith}
use Rattle.std.specs.List.{IsFirstBest}
use Rattle.runs.specs.declared.Offer.{Offer}
use Rattle.runs.specs.Runs.{blank_offer}
use Rattle.schedulers.specs.Foremost.{foremost_of}
use Rattle.schedulers.specs.Foremosts.{foremost_nil}
use Rattle.schedulers.specs.Meanings.{offer_at}

-- its place and one of its waits, or the first place and no wait
pub chosen : (ahead : Offer → Offer → Bool) (wait : Offer → ℕ) (os : List Offer) (found : Option ℕ) (r : ℕ × ℕ) → wait blank_offer ≡ 0 → MatchOption found (length os ≡ 0) (λ i. IsFirstBest ahead os (length os) i × (i ≡ foremost_of ahead os)) → MatchOption found (r ≡ (0, 0)) (λ i. r ≡ (i, wait (offer_at os i))) → r ≡ (foremost_of ahead os, wait (offer_at os (foremost_of ahead os)))
chosen ahead wait [] None r blank k m =
    m ∙ sym (ap (λ n. (n, wait (offer_at [] n))) (foremost_nil ahead) ∙ ap (λ w. (0, w)) blank)
chosen ahead wait (o ∷ os) None r blank k m = absurd (omega arith)
chosen ahead wait os (Some i) r blank k m = m ∙ ap (λ n. (n, wait (offer_at os n))) k.1
