-- Lists that are empty, and faults that aren't there.
use Rattle.std.proofs.Common.{◌≡◌, ℕ, Bool, true, false, List, [], ◌∷◌, ◌++◌, Option, Some, None}
use Rattle.std.proofs.Common.{refl, if◌then◌else◌}
use Rattle.std.specs.Prelude.{nat_lt}
use Rattle.mpy_tree.specs.declared.typing.TypeError.{TypeError}
use Rattle.mpy_tree.specs.Faults.{earlier, fault_on, or_fault}

pub nil_left : {A : Type 0} (xs ys : List A) → xs ++ ys ≡ [] → xs ≡ []
nil_left [] ys e = refl
nil_left (x ∷ xs) ys e = absurd cc

pub nil_right : {A : Type 0} (xs ys : List A) → xs ++ ys ≡ [] → ys ≡ []
nil_right [] ys e = e
nil_right (x ∷ xs) ys e = absurd cc

pub none_both : (a b : Option TypeError) → or_fault a b ≡ None → (a ≡ None) × (b ≡ None)
none_both None b e = (refl, e)
none_both (Some x) b e = absurd cc

pub not_on : (o : Option ℕ) → fault_on o ≡ None → o ≡ None
not_on None e = refl
not_on (Some line) e = absurd cc

pub either_fault : (b : Bool) (x y : TypeError) → (if b then Some x else Some y) ≡ None → ⊥
either_fault true x y e = cc
either_fault false x y e = cc

pub not_earlier : (o q : Option ℕ) → earlier o q ≡ None → o ≡ None
not_earlier None q e = refl
not_earlier (Some n) None e = absurd cc
not_earlier (Some n) (Some a) e = absurd (either_fault (nat_lt a n) _ _ e)
