-- Whether two records say the same of the same timers, as a test; it answers whether they are one.
use Rattle.std.specs.Prelude.{◌≡◌, Bool, ◌&&◌, ◌==◌, Decides}
use mathlib.Core.Path.{ap}
use mathlib.Core.Bool.{beq}
use Rattle.std.specs.Cmp.{IsEquivalence, IsPartialEquivalence, booleans_Decides, unsigned_Decides, decided, first_so, second_so, on_equiv, partial_equiv_from_equiv}
use Rattle.std.specs.Cmp.Derive.{both_true}
use Rattle.std.specs.Cmp.Lexicographic.{pointwise, pointwise_decides}
use Rattle.theory.specs.Records.{Timer, Record}
use Rattle.region.specs.declared.Region.{Region}
use Rattle.region.specs.Viewed.{viewed}

-- whether two timers stand at the same second and have the same rank
abbrev pub same_timer : Timer → Timer → Bool
same_timer a b = (a.seconds == b.seconds) && (a.rank == b.rank)

-- whether two records agree in whether a timer is whole, in their classes, and timer by timer
abbrev pub same_record : Record → Record → Bool
same_record a b = beq a.whole b.whole && ((a.classes == b.classes) && pointwise same_timer a.timers b.timers)

-- so it answers whether two timers are one
pub timers_decide : (a b : Timer) → Decides (same_timer a b) (a ≡ b)
timers_decide a b = (
  λ e.
      let s = (unsigned_Decides a.seconds b.seconds).0 (first_so (a.seconds == b.seconds) (a.rank == b.rank) e) in
      let r = (unsigned_Decides a.rank b.rank).0 (second_so (a.seconds == b.seconds) (a.rank == b.rank) e) in
      λ i. record { seconds = s i; rank = r i },
  λ e.
      both_true ((unsigned_Decides a.seconds b.seconds).1 (ap (λ (t : Timer). t.seconds) e)) ((unsigned_Decides a.rank b.rank).1 (ap (λ (t : Timer). t.rank) e)),
)

-- and whether two records are one
pub records_decide : (a b : Record) → Decides (same_record a b) (a ≡ b)
records_decide a b = (
  λ e.
      let w = (booleans_Decides a.whole b.whole).0 (first_so x yz e) in
      let c = (unsigned_Decides a.classes b.classes).0 (first_so y z (second_so x yz e)) in
      let t = timers.0 (second_so y z (second_so x yz e)) in
      λ i. record { whole = w i; classes = c i; timers = t i },
  λ e.
      both_true ((booleans_Decides a.whole b.whole).1 (ap (λ (r : Record). r.whole) e)) (both_true ((unsigned_Decides a.classes b.classes).1 (ap (λ (r : Record). r.classes) e)) (timers.1 (ap (λ (r : Record). r.timers) e))),
)
  where
    x : Bool
    x = beq a.whole b.whole

    y : Bool
    y = a.classes == b.classes

    z : Bool
    z = pointwise same_timer a.timers b.timers

    yz : Bool
    yz = y && z

    timers : Decides z (a.timers ≡ b.timers)
    timers = pointwise_decides timers_decide a.timers b.timers

-- so it is an equality of regions, by what they show, and one in which each is equal to itself
pub same_record_is_an_equivalence : IsEquivalence (λ (a b : Region). same_record (viewed a) (viewed b))
same_record_is_an_equivalence = on_equiv viewed (decided same_record records_decide)

pub same_record_is_an_equality : IsPartialEquivalence (λ (a b : Region). same_record (viewed a) (viewed b))
same_record_is_an_equality = partial_equiv_from_equiv same_record_is_an_equivalence
