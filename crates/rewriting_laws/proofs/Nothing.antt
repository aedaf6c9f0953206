-- Lists in which nothing is found.
use Rattle.std.proofs.Common.{◌≡◌, ℕ, Bool, true, false, ◌&&◌, ◌||◌, List, [], ◌++◌, refl}
use Rattle.std.proofs.Common.{sym, ◌∙◌}
use Rattle.std.specs.List.{list_any}
use Rattle.std.proofs.lemmas.Bool.{or_parts}
use Rattle.std.proofs.lemmas.List.Folds.{list_any-append}
use Rattle.mpy_tree.specs.Sharing.{on_line_if}

pub none_left : {A : Type 0} (f : A → Bool) (xs ys : List A) → list_any f (xs ++ ys) ≡ false
    → list_any f xs ≡ false
none_left f xs ys h =
    (or_parts (list_any f xs) (list_any f ys) (sym (list_any-append f xs ys) ∙ h)).0

pub none_right : {A : Type 0} (f : A → Bool) (xs ys : List A) → list_any f (xs ++ ys) ≡ false
    → list_any f ys ≡ false
none_right f xs ys h =
    (or_parts (list_any f xs) (list_any f ys) (sym (list_any-append f xs ys) ∙ h)).1

pub none_both : {A : Type 0} (f : A → Bool) (xs ys : List A) → list_any f xs ≡ false
    → list_any f ys ≡ false → list_any f (xs ++ ys) ≡ false
none_both f xs ys h k = list_any-append f xs ys ∙ (λ i. h i || k i)

pub nil_both : {A : Type 0} (xs ys : List A) → xs ≡ [] → ys ≡ [] → xs ++ ys ≡ []
nil_both xs ys h k = λ i. h i ++ k i

-- a test doesn't find the statement on a line
pub off : (b : Bool) (line : ℕ) → on_line_if b line ≡ [] → b ≡ false
off false line h = refl
off true line h = cc

pub on_none : (b : Bool) (line : ℕ) → b ≡ false → on_line_if b line ≡ []
on_none false line h = refl
on_none true line h = cc

-- one test passes only where another does
abbrev pub Implies : Bool → Bool → Type 0
Implies d b = b ≡ false → d ≡ false

pub and_less : (b d x y : Bool) → Implies d b → Implies y x → b && x ≡ false → d && y ≡ false
and_less false d x y f g h = (λ i. f refl i && y)
and_less true false x y f g h = refl
and_less true true x y f g h = g h
