-- What a call of a logic leaves: the bits of the state before belong to the state after, and read
-- as before.
use Rattle.std.specs.Prelude.{◌≡◌, ℕ, Bool, List, refl, All}
use Rattle.std.proofs.Common.{◌∙◌}

-- also where a variable was added
pub record Keeps {S B : Type 0} (owns : S → B → Type 0) (reads : S → List Bool → B → Bool)
    (old new : S) : Type 0 where
  pub kept : (b : B) → owns old b → owns new b
  pub same : (b : B) → owns old b → (vs : List Bool) → reads new vs b ≡ reads old vs b

-- and no variable was added
pub record Extends {S B : Type 0} (owns : S → B → Type 0) (reads : S → List Bool → B → Bool)
    (count : S → ℕ) (old new : S) : Type 0 where
  pub kept : (b : B) → owns old b → owns new b
  pub same : (b : B) → owns old b → (vs : List Bool) → reads new vs b ≡ reads old vs b
  pub variables : count new ≡ count old

-- two calls in turn
pub extends_trans : {S B : Type 0} {owns : S → B → Type 0} {reads : S → List Bool → B → Bool}
    {count : S → ℕ} {s t u : S}
    → Extends owns reads count s t → Extends owns reads count t u → Extends owns reads count s u
extends_trans p q = record {
  kept = λ b h. q.kept b (p.kept b h);
  same = λ b h vs. q.same b (p.kept b h) vs ∙ p.same b h vs;
  variables = q.variables ∙ p.variables;
}

-- no call
pub extends_refl : {S B : Type 0} {owns : S → B → Type 0} {reads : S → List Bool → B → Bool}
    {count : S → ℕ} {s : S}
    → Extends owns reads count s s
extends_refl = record { kept = λ b h. h; same = λ b h vs. refl; variables = refl }

-- calls that may add variables, in turn
pub keeps_trans : {S B : Type 0} {owns : S → B → Type 0} {reads : S → List Bool → B → Bool}
    {s t u : S}
    → Keeps owns reads s t → Keeps owns reads t u → Keeps owns reads s u
keeps_trans p q = record {
  kept = λ b h. q.kept b (p.kept b h);
  same = λ b h vs. q.same b (p.kept b h) vs ∙ p.same b h vs;
}

-- a call that adds no variable
pub extends_keeps : {S B : Type 0} {owns : S → B → Type 0} {reads : S → List Bool → B → Bool}
    {count : S → ℕ} {s t : S}
    → Extends owns reads count s t → Keeps owns reads s t
extends_keeps p = record { kept = p.kept; same = p.same }

-- each bit of a list belongs to a state
pub record OwnsAll {S B : Type 0} (owns : S → B → Type 0) (s : S) (bits : List B) : Type 0 where
  pub each : All (owns s) bits
