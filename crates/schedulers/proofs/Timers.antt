-- Timers are mixed in one after another.
use Rattle.std.specs.Prelude.{◌≡◌, List, [], ◌∷◌, fold, ℕ, ◌+◌, ◌<◌, ◌≤◌, length, get_or, take, Some, None, slice_index_or}
use Rattle.std.proofs.Common.{refl, ◌∙◌, sym, ap, arith}
use Rattle.std.proofs.lemmas.List.Sums.{fold-append}
use Rattle.std.specs.List.{flat_map}
use Rattle.std.proofs.lemmas.Bool.Decides.{nat_tests}
use Rattle.std.proofs.lemmas.List.{flat_map_more, get_or-map, get_or-take, length-map, length-take, take_more}
use Rattle.region.specs.declared.Region.{Region}
use Rattle.region.specs.declared.value.TimerValue.{TimerValue}
use Rattle.region.specs.Reads.{row_no}
use Rattle.region.specs.Viewed.{viewed}
use Rattle.region.specs.Views.{blank, timer_in}
use Rattle.theory.specs.Records.{Timer, fresh}
use Rattle.schedulers.specs.Hashes.{mixed, timer_bytes}

-- folding list after list is folding the lists joined
pub fold-flat_map : {A B C : Type 0} (f : B → A → B) (bytes : C → List A) (b : B) (xs : List C) → fold (λ h x. fold f h (bytes x)) b xs ≡ fold f b (flat_map bytes xs)
fold-flat_map f bytes b [] = refl
fold-flat_map f bytes b (x ∷ xs) =
    fold-flat_map f bytes (fold f b (bytes x)) xs ∙ sym (fold-append f b (bytes x) (flat_map bytes xs))

-- one timer more
pub timers_more : (h : ℕ) (ts : List Timer) (i : ℕ) (d : Timer) → i < length ts → fold mixed h (flat_map timer_bytes (take (i + 1) ts)) ≡ fold mixed (fold mixed h (flat_map timer_bytes (take i ts))) (timer_bytes (slice_index_or ts i d))
timers_more h ts i d there =
    ap (λ z. fold mixed h (flat_map timer_bytes z)) (take_more ts i d there)
    ∙ ap (fold mixed h) (sym (flat_map_more timer_bytes [] (take i ts) (slice_index_or ts i d)))
    ∙ fold-append mixed h (flat_map timer_bytes (take i ts)) (timer_bytes (slice_index_or ts i d))

-- a row that a region gives is that of its record
pub row_is_timer : (r : Region) (i : ℕ) (t : TimerValue) → Some t ≡ row_no r i → i < length (viewed r).timers → slice_index_or (viewed r).timers i fresh ≡ timer_in t
row_is_timer r i t given there =
    let few : length (take r.number r.rows) ≤ r.number = simp length-take (omega arith) in
    let within : i < r.number = omega (arith, length-map (take r.number r.rows) timer_in) in
    let same : t ≡ get_or r.rows i blank = grind (arith, nat_tests) in
    get_or-map timer_in (take r.number r.rows) i blank fresh (omega (arith, length-map (take r.number r.rows) timer_in))
    ∙ ap timer_in (get_or-take r.number r.rows i blank within ∙ sym same)

-- and it gives one for each timer of the record
pub row_is_there : (r : Region) (i : ℕ) → None ≡ row_no r i → i < length (viewed r).timers → ⊥
row_is_there r i none there =
    let few : length (take r.number r.rows) ≤ r.number = simp length-take (omega arith) in
    let within : i < r.number = omega (arith, length-map (take r.number r.rows) timer_in) in
    grind (arith, nat_tests)
