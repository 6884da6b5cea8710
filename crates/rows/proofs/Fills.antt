-- A loop that writes rows into the front of a table, one after the other.
use Rattle.std.proofs.Common.{◌≡◌, ℕ, suc, ◌+◌, ◌*◌, ◌<◌, List, [], ◌∷◌, ◌++◌, length, get_or, take, drop, set, sym, ap, ◌∙◌, suc-mul, mul_comm, arith, take-add, refl, zero-mul}
use Rattle.std.proofs.lemmas.List.{drop-drop, drop-set-lt, flat_map_more, take_all, take-append-drop, take_more, take_more_set}
use Rattle.std.specs.List.{flat_map}

-- the first i rows are written, the others stand as they did, and the written rows are the bytes so far
pub record Filled {R : Type 0} (written : R → List ℕ) (size : ℕ) (part : List ℕ) (rows before table : List R) (i : ℕ) : Type 0 where
  pub front : take i table ≡ take i rows
  pub rest : drop i table ≡ drop i before
  pub bytes : flat_map written (take i rows) ≡ take (i * size) part

pub filled_more : {R : Type 0} (written : R → List ℕ) (size : ℕ) (part : List ℕ) (rows before table : List R) (i : ℕ) (r : R) → Filled written size part rows before table i → i < length table → i < length rows → r ≡ get_or rows i r → written r ≡ take size (drop (i * size) part) → Filled written size part rows before (set table i r) (i + 1)
filled_more written size part rows before table i r done room there value whole =
    let more : take (i + 1) rows ≡ take i rows ++ r ∷ [] = take_more rows i r there ∙ ap (λ z. take i rows ++ z ∷ []) (sym value) in
    let next : drop (i + 1) table ≡ drop (i + 1) before = sym (drop-drop 1 i table) ∙ ap (drop 1) done.rest ∙ drop-drop 1 i before in
    let place : (i + 1) * size ≡ i * size + size = ap (λ k. k * size) (one_more i) ∙ suc-mul i size in
    record {
      front = take_more_set table i r room ∙ ap (λ z. z ++ r ∷ []) done.front ∙ sym more;
      rest = drop-set-lt (i + 1) table i r (omega arith) ∙ next;
      bytes =
          ap (flat_map written) more
          ∙ sym (flat_map_more written [] (take i rows) r)
          ∙ ap (λ z. z ++ written r) done.bytes
          ∙ ap (λ z. take (i * size) part ++ z) whole
          ∙ sym (take-add (i * size) size part)
          ∙ ap (λ k. take k part) (sym place);
    }
  where
    one_more : (i : ℕ) → i + 1 ≡ suc i
    one_more i = omega arith

pub filled_all : {R : Type 0} (written : R → List ℕ) (size : ℕ) (part : List ℕ) (rows before table : List R) (i : ℕ) → Filled written size part rows before table i → length rows ≡ i → length part ≡ size * i → (table ≡ rows ++ drop i before) × (flat_map written rows ≡ part)
filled_all written size part rows before table i done all long =
    let whole : take i rows ≡ rows = take_all i rows (omega arith) in
    let turned = mul_comm i size in (
      sym (take-append-drop i table) ∙ ap (λ z. z ++ drop i table) (done.front ∙ whole) ∙ ap (λ z. rows ++ z) done.rest,
      ap (flat_map written) (sym whole) ∙ done.bytes ∙ take_all (i * size) part (omega arith),
    )

pub filled_none : {R : Type 0} (written : R → List ℕ) (size : ℕ) (part : List ℕ) (rows table : List R) → Filled written size part rows table table 0
filled_none written size part rows table =
    record { front = refl; rest = refl; bytes = sym (ap (λ k. take k part) (zero-mul size)) }
