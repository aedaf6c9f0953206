-- The bits of the places that a number may say, and items chosen by them.
use Rattle.std.proofs.Common.{◌≡◌, ℕ, ◌+◌, ◌<◌, ◌≤◌, ◌/◌, Bool, true, false, List, length, refl, sym, ap, ◌∙◌, arith, cond, eqb, get_or, subst, inl, inr}
use Rattle.std.specs.Prelude.{◌&&◌, ◌||◌, replicate}
use Rattle.std.proofs.lemmas.Bool.{cases_lt}
use Rattle.std.proofs.lemmas.Bool.Decides.{nat_tests}
use Rattle.std.proofs.lemmas.List.{ext_get_or, get_or-replicate}
use Rattle.bit_words.specs.Words.{bit_value}
use Rattle.bit_lists.proofs.Everywhere.{or_none}

-- a place's bit, of a digit that is read in a later state
pub lowest_as : (place count n : ℕ) {d d' h r : Bool} → d' ≡ d → (bit_value d' + (n + n) < count → h ≡ eqb (place / 2) n → r ≡ eqb place (bit_value d' + (n + n)))
    → bit_value d + (n + n) < count → h ≡ eqb (place / 2) n → r ≡ eqb place (bit_value d + (n + n))
lowest_as place count n {d} {d'} {h} {r} e = subst (λ (b : Bool). (bit_value b + (n + n) < count → h ≡ eqb (place / 2) n → r ≡ eqb place (bit_value b + (n + n)))) e

-- a word over zeros
pub overlaid_is : (t : Bool) (r w u : List Bool) (n : ℕ) → length r ≡ n → length w ≡ n → length u ≡ n → (t ≡ true → u ≡ replicate n false)
    → ((k : ℕ) → k < n → get_or r k false ≡ (get_or u k false || (t && get_or w k false))) → r ≡ cond t w u
overlaid_is true r w u n long wide alike zeros item =
    ext_get_or false r w (long ∙ sym wide) (λ k h.
    item k (omega arith) ∙ ap (λ (v : List Bool). get_or v k false || get_or w k false) (zeros refl) ∙ ap (λ b. b || get_or w k false) (get_or-replicate n k false false (omega arith)))
overlaid_is false r w u n long wide alike zeros item = ext_get_or false r u (long ∙ sym alike) (λ k h. item k (omega arith) ∙ or_none (get_or u k false))

-- one place more at which the wanted item may stand; behind it there are zeros
pub overlay_step : (F : ℕ → List Bool) (j n : ℕ) (t : Bool) (w item item' none : List Bool) → t ≡ eqb j n → w ≡ F j → (n < j → item ≡ F n) × (j ≤ n → item ≡ none)
    → ((t ≡ true → item ≡ none) → item' ≡ cond t w item) → (n < j + 1 → item' ≡ F n) × (j + 1 ≤ n → item' ≡ none)
overlay_step F j n t w item item' none e f before now =
    let here : (t ≡ true → item ≡ none) = λ h. before.1 (let test : eqb j n ≡ true = sym e ∙ h in grind (arith, nat_tests)) in
    let made : item' ≡ cond (eqb j n) (F j) item = now here ∙ ap (λ b. cond b w item) e ∙ ap (λ (v : List Bool). cond (eqb j n) v item) f in (
      λ h. elim (cases_lt n j) [
        | inl lt ↦ let other : eqb j n ≡ false = grind (arith, nat_tests) in made ∙ ap (λ b. cond b (F j) item) other ∙ before.0 lt
        | inr le ↦ let same : j ≡ n = omega arith in let test : eqb j n ≡ true = grind (arith, nat_tests) in made ∙ ap (λ b. cond b (F j) item) test ∙ ap F same
      ],
      λ h. let other : eqb j n ≡ false = grind (arith, nat_tests) in made ∙ ap (λ b. cond b (F j) item) other ∙ before.1 (omega arith),
    )
