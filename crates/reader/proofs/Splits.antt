-- Sections that were cut one after the other make up the file.
use Rattle.std.proofs.Common.{◌≡◌, ℕ, List, [], length, ap, ◌∙◌, subst}
use Rattle.std.proofs.lemmas.List.{nil_from_length}
use Rattle.rows.specs.declared.section.Counts.{Counts}
use Rattle.rows.specs.declared.section.SectionName.{SectionName}
use Rattle.rows.specs.declared.section.SectionName.TheVariants.{Timers, Comparisons, Stages, Changes, Outcomes, Goal}
use Rattle.rows.specs.Files.{after, from1, from2, from3, from4, from5}
use Rattle.reader.specs.declared.parts.Parts.{Parts}
use Rattle.reader.specs.declared.section.Section.{Section}
use Rattle.reader.specs.Parts.{Cut}
use Rattle.reader.specs.Split.{Split}

-- the same cut, told of equal bytes
at_bytes : (s : SectionName) (rooms : Counts) (b d : List ℕ) (x : Section) (rest : List ℕ) → b ≡ d → Cut s rooms b x rest → Cut s rooms d x (after s d)
at_bytes s rooms b d x rest e cut =
    subst (λ (z : List ℕ). Cut s rooms z x (after s z)) e (subst (λ (z : List ℕ). Cut s rooms b x z) cut.left cut)

pub split_from_cuts : (rooms : Counts) (b : List ℕ) (p : Parts) (r1 r2 r3 r4 r5 r6 : List ℕ) → Cut Timers rooms b p.timers r1 → Cut Comparisons rooms r1 p.comparisons r2 → Cut Stages rooms r2 p.stages r3 → Cut Changes rooms r3 p.changes r4 → Cut Outcomes rooms r4 p.outcomes r5 → Cut Goal rooms r5 p.goals r6 → length r6 ≡ 0 → Split rooms b p
split_from_cuts rooms b p r1 r2 r3 r4 r5 r6 c0 c1 c2 c3 c4 c5 ended =
    let e1 : r1 ≡ from1 b = c0.left in
    let e2 : r2 ≡ from2 b = c1.left ∙ ap (after Comparisons) e1 in
    let e3 : r3 ≡ from3 b = c2.left ∙ ap (after Stages) e2 in
    let e4 : r4 ≡ from4 b = c3.left ∙ ap (after Changes) e3 in
    let e5 : r5 ≡ from5 b = c4.left ∙ ap (after Outcomes) e4 in
    record {
      timers = subst (λ (z : List ℕ). Cut Timers rooms b p.timers z) e1 c0;
      comparisons = at_bytes Comparisons rooms r1 (from1 b) p.comparisons r2 e1 c1;
      stages = at_bytes Stages rooms r2 (from2 b) p.stages r3 e2 c2;
      changes = at_bytes Changes rooms r3 (from3 b) p.changes r4 e3 c3;
      outcomes = at_bytes Outcomes rooms r4 (from4 b) p.outcomes r5 e4 c4;
      goals = subst (λ (z : List ℕ). Cut Goal rooms z p.goals []) e5 (subst (λ (z : List ℕ). Cut Goal rooms r5 p.goals z) (nil_from_length r6 ended) c5);
    }
