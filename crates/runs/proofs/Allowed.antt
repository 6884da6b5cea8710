-- The waits that comparisons allow, as spans.
use Rattle.std.proofs.Common.{◌≡◌, ℕ, ◌+◌, ◌*◌, ◌<◌, ◌≤◌, Bool, true, false, cond, ltb, leb, ◌⊎◌, ◌↔◌, List, [], ◌∷◌, length, get_or, drop, sym, refl, ◌∙◌, subst, inl, inr, arith}
use Rattle.std.specs.List.{AllByRecursion}
use Rattle.std.proofs.lemmas.List.{at_drop_more, at_drop_all}
use Rattle.std.proofs.lemmas.Bool.{cases_Bool, and_parts, and_from, leb-true, ltb-true, le-leb, lt-ltb, ltb-false}
use Rattle.theory.specs.Settings.{reach}
use Rattle.theory.specs.Records.{Record, record_of, count, timer_no}
use Rattle.theory.specs.Regions.{Relation, AtLeast, Above, AtMost, Below, Says, Comparison, timer_against, lead_against, NamesBelow}
use Rattle.runs.specs.Ticks.{Holds}
use Rattle.runs.specs.Runs.{Span, inside, any_in, before, bounded, says, cut, cuts}
use Rattle.runs.proofs.Reach.{Allows, true_is_allowed}

-- the wait d lies in the span
abbrev pub Within : ℕ → Span → Type 0
Within d x = (x.from ≤ d) × (d < x.until)

pub inside_within : (d : ℕ) (x : Span) → inside d x ≡ true → Within d x
inside_within d x e =
    let h = and_parts (leb x.from d) (ltb d x.until) e in
    (leb-true x.from d h.0, ltb-true d x.until h.1)

pub within_inside : (d : ℕ) (x : Span) → Within d x → inside d x ≡ true
within_inside d x h =
    and_from (leb x.from d) (ltb d x.until) (le-leb x.from d h.0) (lt-ltb d x.until h.1)

pub any_within : (x : Span) → any_in x ≡ true → Within x.from x
any_within x e = (omega arith, ltb-true x.from x.until e)

pub within_any : (d : ℕ) (x : Span) → Within d x → any_in x ≡ true
within_any d x h = lt-ltb x.from x.until (omega arith)

-- what `cut` and `cuts` open to
pub cut_timer : (r : Record) (i : ℕ) (~ : Relation) (m : ℕ) (x : Span) → cut r (timer_against i ~ m) x ≡ bounded ~ (count r (timer_no r i)) (2 * r.classes * m) x
unfolding cut
cut_timer r i ~ m x = refl

pub cut_lead : (r : Record) (i j : ℕ) (~ : Relation) (m : ℕ) (x : Span) → cut r (lead_against i j ~ m) x ≡ cond (says ~ (count r (timer_no r i)) (count r (timer_no r j) + 2 * r.classes * m)) x (before 0 x)
unfolding cut
cut_lead r i j ~ m x = refl

pub cuts_nil : (r : Record) (x : Span) → cuts r [] x ≡ x
unfolding cuts
cuts_nil r x = refl

pub cuts_cons : (r : Record) (c : Comparison) (cs : List Comparison) (x : Span) → cuts r (c ∷ cs) x ≡ cuts r cs (cut r c x)
unfolding cuts
cuts_cons r c cs x = refl

-- a loop's step and end: cutting by one comparison more
pub cuts_more : (r : Record) (cs : List Comparison) (i : ℕ) (c : Comparison) (x : Span) → i < length cs → cuts r (drop i cs) x ≡ cuts r (drop (i + 1) cs) (cut r (get_or cs i c) x)
cuts_more r cs i c x h =
    at_drop_more (λ l. cuts r l x) cs i c h ∙ cuts_cons r (get_or cs i c) (drop (i + 1) cs) x

pub cuts_all : (r : Record) (cs : List Comparison) (i : ℕ) (x : Span) → length cs ≤ i → cuts r (drop i cs) x ≡ x
cuts_all r cs i x h = at_drop_all (λ l. cuts r l x) cs i h ∙ cuts_nil r x

-- a relation's test tells what the relation says
pub says_true : (~ : Relation) (a b : ℕ) → says ~ a b ≡ true → Says ~ a b
says_true AtLeast a b e = leb-true b a e
says_true Above a b e = ltb-true b a e
says_true AtMost a b e = leb-true a b e
says_true Below a b e = ltb-true a b e

pub true_says : (~ : Relation) (a b : ℕ) → Says ~ a b → says ~ a b ≡ true
true_says AtLeast a b h = le-leb b a h
true_says Above a b h = lt-ltb b a h
true_says AtMost a b h = le-leb a b h
true_says Below a b h = lt-ltb a b h

pub within_bounded : (~ : Relation) (u b d : ℕ) (x : Span) → Within d (bounded ~ u b x) ↔ (Within d x × Says ~ (u + d) b)
within_bounded AtLeast u b d x = omega arith
within_bounded Above u b d x = omega arith
within_bounded AtMost u b d x = omega arith
within_bounded Below u b d x = omega arith

-- a wait is left by a cut exactly if it was there and the comparison allows it
pub within_cut : (r : Record) (c : Comparison) (d : ℕ) (x : Span) → Within d (cut r c x) ↔ (Within d x × Allows r d c)
within_cut r (timer_against i ~ m) d x =
    subst (λ y. Within d y ↔ (Within d x × Allows r d (timer_against i ~ m))) (sym (cut_timer r i ~ m x)) (within_bounded ~ (count r (timer_no r i)) (2 * r.classes * m) d x)
within_cut r (lead_against i j ~ m) d x =
    subst (λ y. Within d y ↔ (Within d x × Allows r d (lead_against i j ~ m))) (sym (cut_lead r i j ~ m x)) (go (cases_Bool (says ~ (count r (timer_no r i)) (count r (timer_no r j) + 2 * r.classes * m))))
  where
    u : ℕ
    u = count r (timer_no r i)

    b : ℕ
    b = count r (timer_no r j) + 2 * r.classes * m

    go : (says ~ u b ≡ true) ⊎ (says ~ u b ≡ false) → Within d (cond (says ~ u b) x (before 0 x)) ↔ (Within d x × Says ~ u b)
    go (inl e) =
        subst (λ t. Within d (cond t x (before 0 x)) ↔ (Within d x × Says ~ u b)) (sym e) (λ h. (h, says_true ~ u b e), λ h. h.0)
    go (inr e) =
        subst (λ t. Within d (cond t x (before 0 x)) ↔ (Within d x × Says ~ u b)) (sym e) (λ h. absurd (omega arith), λ h. absurd (both (e, true_says ~ u b h.1)))
      where
        both : (says ~ u b ≡ false) × (says ~ u b ≡ true) → ⊥
        both t = let z : ◌≡◌ {A = Bool} true false = sym t.1 ∙ t.0 in let y : ◌≡◌ {A = ℕ} 0 1 = cc in omega arith

-- a wait is left by all cuts exactly if it was there and every comparison allows it
pub within_cuts : (r : Record) (cs : List Comparison) (d : ℕ) (x : Span) → Within d (cuts r cs x) ↔ (Within d x × AllByRecursion (Allows r d) cs)
within_cuts r [] d x =
    subst (λ y. Within d y ↔ (Within d x × Unit {0})) (sym (cuts_nil r x)) (λ h. (h, tt), λ h. h.0)
within_cuts r (c ∷ cs) d x =
    subst (λ y. Within d y ↔ (Within d x × AllByRecursion (Allows r d) (c ∷ cs))) (sym (cuts_cons r c cs x)) (go (within_cuts r cs d (cut r c x)) (within_cut r c d x))
  where
    go : Within d (cuts r cs (cut r c x)) ↔ (Within d (cut r c x) × AllByRecursion (Allows r d) cs) → Within d (cut r c x) ↔ (Within d x × Allows r d c) → Within d (cuts r cs (cut r c x)) ↔ (Within d x × (Allows r d c × AllByRecursion (Allows r d) cs))
    go f g =
        (λ h. let a = f.0 h in let b = g.0 a.0 in (b.0, (b.1, a.1)), λ h. f.1 (g.1 (h.0, h.1.0), h.1.1))

-- comparisons that are true at a moment allow its wait, and the other way round
pub holds_allows : (D : ℕ) (v : List ℕ) (p q : ℕ) → 1 ≤ D → 1 ≤ q → (cs : List Comparison) → AllByRecursion (NamesBelow (length v)) cs → Holds D v p q cs ↔ AllByRecursion (Allows (record_of D v) (reach D v p q)) cs
holds_allows D v p q d k [] n = (λ _. tt, λ _. tt)
holds_allows D v p q d k (c ∷ cs) n =
    let here = true_is_allowed D v p q d k c n.0 in
    let rest = holds_allows D v p q d k cs n.1 in
    (λ h. (here.0 h.0, rest.0 h.1), λ h. (here.1 h.0, rest.1 h.1))

-- a cut takes waits away from a span, and adds none
pub cut_narrows : (r : Record) (c : Comparison) (x : Span) → (x.from ≤ (cut r c x).from) × ((cut r c x).until ≤ x.until)
cut_narrows r (timer_against i ~ m) x =
    subst (λ y. (x.from ≤ y.from) × (y.until ≤ x.until)) (sym (cut_timer r i ~ m x)) (bound ~)
  where
    bound : (~ : Relation) → (x.from ≤ (bounded ~ (count r (timer_no r i)) (2 * r.classes * m) x).from) × ((bounded ~ (count r (timer_no r i)) (2 * r.classes * m) x).until ≤ x.until)
    bound AtLeast = omega arith
    bound Above = omega arith
    bound AtMost = omega arith
    bound Below = omega arith
cut_narrows r (lead_against i j ~ m) x =
    subst (λ y. (x.from ≤ y.from) × (y.until ≤ x.until)) (sym (cut_lead r i j ~ m x)) (either (says ~ (count r (timer_no r i)) (count r (timer_no r j) + 2 * r.classes * m)))
  where
    either : (b : Bool) → (x.from ≤ (cond b x (before 0 x)).from) × ((cond b x (before 0 x)).until ≤ x.until)
    either true = omega arith
    either false = omega arith

pub cuts_narrow : (r : Record) (cs : List Comparison) (x : Span) → (x.from ≤ (cuts r cs x).from) × ((cuts r cs x).until ≤ x.until)
cuts_narrow r [] x =
    subst (λ y. (x.from ≤ y.from) × (y.until ≤ x.until)) (sym (cuts_nil r x)) (omega arith)
cuts_narrow r (c ∷ cs) x =
    let a = cut_narrows r c x in
    let b = cuts_narrow r cs (cut r c x) in
    subst (λ y. (x.from ≤ y.from) × (y.until ≤ x.until)) (sym (cuts_cons r c cs x)) (omega (arith, a.0, b.0), omega (arith, a.1, b.1))

pub none_within : (d : ℕ) (x : Span) → any_in x ≡ false → Within d x → ⊥
none_within d x e h = omega (arith, ltb-false x.from x.until e)
