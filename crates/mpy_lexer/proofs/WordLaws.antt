-- What holds of each of some words holds of one of them; a reserved word has the form of a name.
use Rattle.std.proofs.Common.{◌≡◌, ℕ, Bool, true, false, ◌||◌, List, [], ◌∷◌, refl, sym, subst}
use Rattle.std.specs.Prelude.{nat_eq}
use Rattle.std.specs.List.{list_all, list_any, AllByRecursion}
use Rattle.std.specs.Cmp.Lexicographic.{pointwise, same_text}
use Rattle.std.proofs.lemmas.Bool.{and_parts}
use Rattle.mpy_lexer.specs.Words.{is_reserved, reserved_words}
use Rattle.mpy_lexer.specs.TokenForms.{is_name, is_one_of}

pub other_one : (a b : Bool) → a ≡ false → a || b ≡ true → b ≡ true
other_one true b e h = absurd cc
other_one false b e h = h

among_case : (P : List ℕ → Type 0) (w word : List ℕ) (b : Bool) → (b ≡ true → word ≡ w) → P w → (b ≡ false → P word) → P word
among_case P w word true same here others = subst P (sym (same refl)) here
among_case P w word false same here others = others refl

among : (P : List ℕ → Type 0) (same : List ℕ → Bool) (ws : List (List ℕ)) (word : List ℕ) → ((w : List ℕ) → same w ≡ true → word ≡ w) → AllByRecursion P ws → list_any same ws ≡ true → P word
among P same [] word told all e = absurd cc
among P same (w ∷ ws) word told all e = among_case P w word (same w) (told w) all.0 (λ other. among P same ws word told all.1 (other_one (same w) (list_any same ws) other e))

pub one_of : (P : List ℕ → Type 0) (ws : List (List ℕ)) (word : List ℕ) → AllByRecursion P ws → is_one_of ws word ≡ true → P word
one_of P ws word all e = among P (λ w. pointwise nat_eq w word) ws word (λ w same. sym (same_text w word (sym same))) all e

pub each_passes : (test : List ℕ → Bool) (ws : List (List ℕ)) → list_all test ws ≡ true → AllByRecursion (λ w. test w ≡ true) ws
each_passes test [] e = tt
each_passes test (w ∷ ws) e = let parts = and_parts (test w) (list_all test ws) e in (parts.0, each_passes test ws parts.1)

pub reserved_is_name : (word : List ℕ) → is_reserved word ≡ true → is_name word ≡ true
unfolding is_reserved
reserved_is_name word e = among (λ w. is_name w ≡ true) (pointwise nat_eq word) reserved_words word (λ w same. same_text word w (sym same)) (each_passes is_name reserved_words refl) e
