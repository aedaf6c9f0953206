-- New variables, and then calls that add none.
use Rattle.std.proofs.Common.{ℕ, Bool, List, ◌∙◌}
use Rattle.bit_words.specs.Later.{AddsVariables}
use Rattle.bit_words.specs.Logic.{Extends}

module _ {S B : Type 0} {owns : S → B → Type 0} {reads : S → List Bool → B → Bool}
    {count : S → ℕ} where
  pub adds_then : {n : ℕ} {s t u : S} → AddsVariables owns reads count n s t
      → Extends owns reads count t u → AddsVariables owns reads count n s u
  adds_then p q = record {
    kept = λ b h. q.kept b (p.kept b h);
    same = λ b h vs. q.same b (p.kept b h) vs ∙ p.same b h vs;
    variables = q.variables ∙ p.variables;
  }
