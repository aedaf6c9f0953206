-- The members of the first picks as bits.
use Rattle.std.proofs.Common.{◌≡◌, ◌∙◌, ◌+◌, ◌≤◌, ℕ, zero, suc, Bool, List, [], ◌∷◌, ◌++◌, length}
use Rattle.std.proofs.Common.{map, Some, sym, ap, subst, slice_get, arith, inl, inr}
use Rattle.std.proofs.lemmas.Bool.{cases_lt}
use Rattle.std.proofs.lemmas.List.{length_push}
use Rattle.bit_words.specs.Logic.{OwnsAll}
use Rattle.bit_words.specs.Words.{nat_of}
use Rattle.choice_tree.specs.WeightedTrees.{size}
use Rattle.input_space.specs.Tasks.{IsSound, Task, tree_of}
use Rattle.sym_values.specs.Forms.{joined}
use Rattle.sym_values.specs.Owned.{owns_one_more}

-- a task's weighted tree isn't too large
pub few_nodes : (k : Task) → IsSound k → size (tree_of k) ≤ 1000000
few_nodes k sound = elim (cases_lt 1000000 (size (tree_of k))) [
  | inl more ↦ absurd (sound.small (inl (record { many = more })))
  | inr few ↦ omega arith
]

-- So many picks, whose bits belong to a state, read under all truth values as these members.
pub record AreFirstMembers {S B : Type 0} (owns : S → B → Type 0)
    (reads : S → List Bool → B → Bool) (s : S) (m : ℕ → ℕ) (n : ℕ) (ps : List (List B))
    : Type 0 where
  pub many : length ps ≡ n
  pub owned : OwnsAll owns s (joined ps)
  pub read : (vs : List Bool) (i : ℕ) (bits : List B) → slice_get ps i ≡ Some bits
      → nat_of (map (reads s vs) bits) ≡ m i

-- what stands in a list with one thing more at its end
pushed_at : {A : Type 0} (xs : List A) (x y : A) (i : ℕ) (P : ℕ → A → Type 0)
    → ((j : ℕ) (z : A) → slice_get xs j ≡ Some z → P j z) → P (length xs) x
    → slice_get (xs ++ x ∷ []) i ≡ Some y → P i y
pushed_at [] x y zero P h k e = let same : x ≡ y = cc in subst (P 0) same k
pushed_at [] x y (suc i) P h k e = absurd cc
pushed_at (w ∷ xs) x y zero P h k e = h 0 y e
pushed_at (w ∷ xs) x y (suc i) P h k e =
    pushed_at xs x y i (λ j z. P (suc j) z) (λ j z is. h (suc j) z is) k e

module _ {S B : Type 0} {owns : S → B → Type 0} {reads : S → List Bool → B → Bool} {s : S}
    (m : ℕ → ℕ) where
  -- and one pick more
  pub one_pick_more : (n : ℕ) (ps qs : List (List B)) (bits : List B)
      → AreFirstMembers owns reads s m n ps → OwnsAll owns s bits
      → ((vs : List Bool) → nat_of (map (reads s vs) bits) ≡ m n) → qs ≡ ps ++ bits ∷ []
      → AreFirstMembers owns reads s m (n + 1) qs
  one_pick_more n ps qs bits before owned is e = record {
    many = ap length e ∙ length_push ps bits ∙ ap (λ k. k + 1) before.many;
    owned = owns_one_more (λ w. w) ps qs bits before.owned owned e;
    read = λ vs i other at.
        let P = λ (j : ℕ) (w : List B). nat_of (map (reads s vs) w) ≡ m j in
        let last : P (length ps) bits = is vs ∙ ap m (sym before.many) in
        pushed_at ps bits other i P (before.read vs) last
        (ap (λ (l : List (List B)). slice_get l i) (sym e) ∙ at);
  }
