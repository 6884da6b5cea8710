use Rattle.std.proofs.Common.{◌≡◌, ℕ, ◌+◌, List, get_or, sym, refl, ap, ◌∙◌, arith}
use Rattle.std.proofs.lemmas.List.{get_or-replicate, length-set}
use Rattle.theory.specs.Settings.{total}
use Rattle.theory.proofs.Totals.{total_zero}
use Rattle.region.proofs.Placed.{place_next, places_more}
use Rattle.region.proofs.reset.places.Goals as goal

pub loop-rank-init : goal.loop-rank-init
loop-rank-init c =
    let xs : List ℕ = c.args.live.now in
    record {
      room = refl;
      places = λ k h. let none : k ≡ 0 = omega arith in
          get_or-replicate {A = ℕ} 17 k 1 0 (omega arith) ∙ ap (λ n. 1 + n) (sym (ap (total (λ x. get_or xs x 0)) none ∙ total_zero (λ x. get_or xs x 0)));
      small = omega arith;
    }

pub loop-rank-preserved : goal.loop-rank-preserved
loop-rank-preserved c =
    let xs : List ℕ = c.args.live.now in
    let places : List ℕ = c.loop-rank.places in
    let j : ℕ = c.loop-rank.rank in
    let was = c.loop-rank.invariant in
    record {
      room = length-set places (j + 1) (get_or places j 0 + get_or xs j 0) ∙ was.room;
      places = places_more xs places j was.room c.loop-rank-test.true was.places;
      small = omega (arith, place_next xs places j was.room c.loop-rank-test.true, c.requires j c.loop-rank-test.true, was.small);
    }
