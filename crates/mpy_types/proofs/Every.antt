-- Every member of a list.
use Rattle.std.proofs.Common.{List, [], ◌∷◌, ◌++◌}
use Rattle.std.specs.Prelude.{⊤}
use Rattle.std.specs.List.{All}
use Rattle.std.proofs.lemmas.List.Elements.{All-head, All-tail, All-nil, All-cons}

abbrev pub Every : {A : Type 0} → (A → Type 0) → List A → Type 0
Every P [] = ⊤
Every P (x ∷ xs) = P x × Every P xs

pub every_of : {A : Type 0} (P : A → Type 0) (xs : List A) → All P xs → Every P xs
every_of P [] h = tt
every_of P (x ∷ xs) h = (All-head P x xs h, every_of P xs (All-tail P x xs h))

pub all_of : {A : Type 0} (P : A → Type 0) (xs : List A) → Every P xs → All P xs
all_of P [] h = All-nil P
all_of P (x ∷ xs) h = All-cons P x xs h.0 (all_of P xs h.1)

pub every_both : {A : Type 0} (P : A → Type 0) (xs ys : List A) → Every P xs → Every P ys → Every P (xs ++ ys)
every_both P [] ys h k = k
every_both P (x ∷ xs) ys h k = (h.0, every_both P xs ys h.1 k)

pub every_front : {A : Type 0} (P : A → Type 0) (xs ys : List A) → Every P (xs ++ ys) → Every P xs
every_front P [] ys h = tt
every_front P (x ∷ xs) ys h = (h.0, every_front P xs ys h.1)

pub every_rest : {A : Type 0} (P : A → Type 0) (xs ys : List A) → Every P (xs ++ ys) → Every P ys
every_rest P [] ys h = h
every_rest P (x ∷ xs) ys h = every_rest P xs ys h.1
