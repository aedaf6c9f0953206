-- What words read as, place by place.
use Rattle.std.proofs.Common.{◌≡◌, ℕ, ◌+◌, ◌<◌, Bool, List, [], ◌∷◌, ◌++◌, Some, map, length, sym, ap, ◌∙◌, arith, get_or, inl, inr}
use Rattle.std.specs.Prelude.{slice_get}
use Rattle.std.proofs.Math.Seq.{get_or-append_seam}
use Rattle.std.proofs.lemmas.Bool.{cases_lt}
use Rattle.std.proofs.lemmas.List.{map_push, length-map, get_or_append_left, get_or-map}
use Rattle.std.proofs.lemmas.Option.{slice_get_within, get_or_from_slice_get}

-- a word at a place
pub read_at : {B : Type 0} (f : B → Bool) (items : List (List B)) (j : ℕ) (w : List B) → slice_get items j ≡ Some w → get_or (map (map f) items) j [] ≡ map f w
read_at f items j w e = get_or-map (map f) items j w [] (slice_get_within items j w e) ∙ ap (map f) (get_or_from_slice_get items j w w e)

-- one element more
pub push_read : {B X : Type 0} (f f' : B → X) (d : X) (out out' : List B) (w : B) (i : ℕ) (F : ℕ → X) → length out ≡ i → map f' out ≡ map f out
    → ((k : ℕ) → k < i → get_or (map f out) k d ≡ F k) → f' w ≡ F i → out' ≡ out ++ w ∷ [] → (k : ℕ) → k < i + 1 → get_or (map f' out') k d ≡ F k
push_read f f' d out out' w i F long kept before now e k h =
    let whole : map f' out' ≡ map f out ++ f' w ∷ [] = ap (map f') e ∙ map_push f' out w ∙ ap (λ v. v ++ f' w ∷ []) kept in
    let long' : length (map f out) ≡ i = simp length-map long in
    ap (λ v. get_or v k d) whole
    ∙ elim (cases_lt k i) [
      | inl lt ↦ get_or_append_left (map f out) (f' w ∷ []) d k (omega arith) ∙ before k lt
      | inr le ↦
          let same : k ≡ length (map f out) = omega arith in
          ap (λ n. get_or (map f out ++ f' w ∷ []) n d) same ∙ get_or-append_seam (map f out) (f' w) [] d ∙ now ∙ ap F (sym (same ∙ long'))
    ]

-- one word more
pub push_at : {B : Type 0} (f f' : B → Bool) (out out' : List (List B)) (w : List B) (i : ℕ) (F : ℕ → List Bool) → length out ≡ i → map (map f') out ≡ map (map f) out
    → ((k : ℕ) → k < i → get_or (map (map f) out) k [] ≡ F k) → map f' w ≡ F i → out' ≡ out ++ w ∷ [] → (k : ℕ) → k < i + 1 → get_or (map (map f') out') k [] ≡ F k
push_at f f' out out' w i F long kept before now e k h = push_read (map f) (map f') [] out out' w i F long kept before now e k h
