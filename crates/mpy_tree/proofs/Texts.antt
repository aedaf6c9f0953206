-- A text that is looked for in another.
use Rattle.std.proofs.Common.{◌≡◌, ℕ, suc, ◌+◌, ◌<◌, ◌≤◌, false, ◌||◌, List, [], ◌∷◌, length, map, drop, refl, sym, ap, ◌∙◌, add-one, drop-cons}
use Rattle.std.proofs.lemmas.List.{drop_all}
use Rattle.mpy_tree.specs.declared.value.Value.TheVariants.{Text}
use Rattle.mpy_tree.specs.Operations.{is_front, is_part, character, characters}

-- a text that is not at an end yet has no front at the end of another
pub front_past : (cs ds : List ℕ) (i : ℕ) → i < length cs → length ds ≤ i → is_front (drop i cs) (drop i ds) ≡ false
front_past cs ds i h p =
    ap (λ es. is_front (drop i cs) es) (drop_all i ds p)
    ∙ ap (λ es. is_front es []) (drop-cons cs i 0 h)

-- where it does not begin a text, it stands in the rest if anywhere
pub part_more : (cs ds : List ℕ) (k : ℕ) → k < length ds → is_front cs (drop k ds) ≡ false → is_part cs (drop k ds) ≡ is_part cs (drop (k + 1) ds)
part_more cs ds k h absent =
    ap (is_part cs) (drop-cons ds k 0 h)
    ∙ ap (λ b. b || is_part cs (drop (suc k) ds)) (ap (is_front cs) (sym (drop-cons ds k 0 h)) ∙ absent)
    ∙ ap (λ n. is_part cs (drop n ds)) (sym (add-one k))

-- the texts of one character each, as values
pub characters_are : (cs : List ℕ) → map Text (map (λ c. c ∷ []) cs) ≡ characters cs
characters_are [] = refl
characters_are (c ∷ cs) = ap (λ vs. character c ∷ vs) (characters_are cs)
