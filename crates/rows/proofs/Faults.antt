-- The first fault, found record by record and section by section.
use Rattle.std.proofs.Common.{◌≡◌, ℕ, suc, ◌+◌, ◌-◌, ◌<◌, ◌≤◌, List, [], ◌∷◌, get_or, drop, None, Err, Ok, Option, Result, IsErrAnd, sym, refl, ap, ◌∙◌, arith, Some}
use Rattle.std.proofs.lemmas.List.{at_drop_more, at_drop_all}
use Rattle.rows.specs.declared.fault.Fault.{Fault}
use Rattle.rows.specs.declared.fault.Where.TheVariants.{Record, Section}
use Rattle.rows.specs.declared.refusal.Refusal.{Refusal}
use Rattle.rows.specs.declared.section.Counts.{Counts}
use Rattle.rows.specs.declared.section.SectionName.{SectionName}
use Rattle.rows.specs.declared.section.SectionName.TheVariants.{Timers}
use Rattle.rows.specs.Plans.{PlanRows}
use Rattle.rows.specs.Sections.{count_of, section_names}
use Rattle.rows.specs.Verdicts.{count_fault, first_broken, fault_at, fault_from, first_in, or_else, record_fault, record_rules, room_rules}

pub fault_from_none : (p : PlanRows) (s : SectionName) (i : ℕ) → fault_from p s i 0 ≡ None
unfolding fault_from
fault_from_none p s i = refl

pub fault_from_suc : (p : PlanRows) (s : SectionName) (i n : ℕ) → fault_from p s i (suc n) ≡ or_else (record_fault p s i) (fault_from p s (i + 1) n)
unfolding fault_from
fault_from_suc p s i n = refl

-- n records are left from the record i on
pub fault_from_more : (p : PlanRows) (s : SectionName) (i n : ℕ) → i < n → fault_from p s i (n - i) ≡ or_else (record_fault p s i) (fault_from p s (i + 1) (n - (i + 1)))
fault_from_more p s i n h =
    let e : n - i ≡ suc (n - (i + 1)) = omega arith in ap (fault_from p s i) e ∙ fault_from_suc p s i (n - (i + 1))

-- what the look at one record finds, and then the look at those after it, is what the look from that record on finds
pub record_step : (p : PlanRows) (s : SectionName) (i n : ℕ) (checked : Option Refusal) (o : Option Fault) → i < n → checked ≡ first_broken (record_rules p s i) → o ≡ fault_at (Record s i) checked → or_else o (fault_from p s (i + 1) (n - (i + 1))) ≡ fault_from p s i (n - i)
unfolding record_fault
record_step p s i n checked o h e f =
    ap (λ z. or_else z (fault_from p s (i + 1) (n - (i + 1)))) (f ∙ ap (fault_at (Record s i)) e) ∙ sym (fault_from_more p s i n h)

-- past the last record nothing is found
pub no_record : (p : PlanRows) (s : SectionName) (i n : ℕ) → n ≤ i → None ≡ fault_from p s i (n - i)
no_record p s i n h =
    let end : n - i ≡ 0 = omega arith in sym (ap (fault_from p s i) end ∙ fault_from_none p s i)

pub first_in_none : (look : SectionName → Option Fault) → first_in look [] ≡ None
unfolding first_in
first_in_none look = refl

pub first_in_cons : (look : SectionName → Option Fault) (s : SectionName) (more : List SectionName) → first_in look (s ∷ more) ≡ or_else (look s) (first_in look more)
unfolding first_in
first_in_cons look s more = refl

-- what the look at one section finds, and then the look at those after it, is what the look from that section on finds
pub section_step : (look : SectionName → Option Fault) (i : ℕ) (o : Option Fault) → i < 6 → o ≡ look (get_or section_names i Timers) → or_else o (first_in look (drop (i + 1) section_names)) ≡ first_in look (drop i section_names)
section_step look i o h e =
    ap (λ z. or_else z (first_in look (drop (i + 1) section_names))) e
    ∙ sym (at_drop_more (first_in look) section_names i Timers h ∙ first_in_cons look (get_or section_names i Timers) (drop (i + 1) section_names))

-- likewise of the counts of the sections
pub count_step : (rooms n : Counts) (i room count : ℕ) (checked : Option Refusal) (o : Option Fault) → i < 6 → room ≡ count_of rooms (get_or section_names i Timers) → count ≡ count_of n (get_or section_names i Timers) → checked ≡ first_broken (room_rules (get_or section_names i Timers) room count) → o ≡ fault_at (Section (get_or section_names i Timers)) checked → or_else o (first_in (count_fault rooms n) (drop (i + 1) section_names)) ≡ first_in (count_fault rooms n) (drop i section_names)
count_step rooms n i room count checked o h r k e f =
    let s = get_or section_names i Timers in
    section_step (count_fault rooms n) i o h
    (f ∙ ap (fault_at (Section s)) (e ∙ ap (λ m. first_broken (room_rules s m count)) r ∙ ap (λ m. first_broken (room_rules s (count_of rooms s) m)) k))

-- past the last section nothing is found
pub no_section : (look : SectionName → Option Fault) (i : ℕ) → 6 ≤ i → None ≡ first_in look (drop i section_names)
no_section look i h = sym (at_drop_all (first_in look) section_names i h ∙ first_in_none look)

-- the exit of a `?` returns the fault that was found
pub exit_told : {T E : Type 0} {x : E} (r : Result T E) → IsErrAnd r (λ y. y ≡ x) → r ≡ Err x
exit_told (Ok _) h = absurd h
exit_told (Err y) h = ap (λ z. Err z) h

pub record_passes : (p : PlanRows) (s : SectionName) (i : ℕ) → None ≡ first_broken (record_rules p s i) → record_fault p s i ≡ None
unfolding record_fault
record_passes p s i e = ap (fault_at (Record s i)) (sym e)

pub record_breaks : (p : PlanRows) (s : SectionName) (i : ℕ) (e : Refusal) → Some e ≡ first_broken (record_rules p s i) → record_fault p s i ≡ Some (record { refusal = e; at = Record s i })
unfolding record_fault
record_breaks p s i e h = ap (fault_at (Record s i)) (sym h)
