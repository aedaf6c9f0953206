-- Reading in steps: each gives something, or refuses, and each goes over its whole source before
-- the next. So the first refusal is that of the first step that refuses.
use Rattle.std.specs.Prelude.{◌≡◌, ◌⊎◌}
use Rattle.mpy_tree.specs.declared.refusal.Refusal.{Refusal}

-- what a step gives, and by which refusal it stops
pub record Step (A : Type 0) : Type 1 where
  pub gives : A → Type 0
  pub refuses : Refusal → Type 0

-- what the first step gives, and then what the second does
pub record Both {A B : Type 0} (P : A → Type 0) (Q : A → B → Type 0) (b : B) : Type 0 where
  pub first : A
  pub given : P first
  pub second : Q first b

-- one step, and then another, which may look at what the first gave
infixl 10 ◌>>=◌
abbrev pub ◌>>=◌ : {A B : Type 0} → Step A → (A → Step B) → Step B
s >>= f = record {
  gives = Both s.gives (λ a. (f a).gives);
  refuses = λ r. s.refuses r ⊎ Both s.gives (λ a. (f a).refuses) r;
}

-- gives this, and never refuses
abbrev pub done : {A : Type 0} → A → Step A
done a = record { gives = λ x. x ≡ a; refuses = λ r. ⊥ }

-- goes on unless something holds, which is refused so
abbrev pub refuse_if : Type 0 → Refusal → Step Unit
refuse_if P q = record { gives = λ x. P → ⊥; refuses = λ r. P × (r ≡ q) }

-- the step gives one thing at most, or refuses once at most, and never both
pub record IsOne {A : Type 0} (s : Step A) : Type 0 where
  pub gives : (a b : A) → s.gives a → s.gives b → a ≡ b
  pub refuses : (q r : Refusal) → s.refuses q → s.refuses r → q ≡ r
  pub not_both : (a : A) (r : Refusal) → s.gives a → s.refuses r → ⊥
