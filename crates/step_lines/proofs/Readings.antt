-- What the readers of words give.
use Rattle.std.proofs.Common.{◌≡◌, ℕ, ◌≤◌, ◌<◌, Bool, true, false, List, ◌∷◌, ◌++◌, codes, Option, None, Some, refl, sym, ap, ◌∙◌, arith, if◌then◌else◌}
use Rattle.std.specs.Fmt.{decimal}
use Rattle.clause_base.specs.declared.lit.Lit.{Lit}
use Rattle.clause_base.specs.Readings.{IsReading}
use Rattle.step_lines.specs.Limits.{greatest_number}
use Rattle.step_lines.specs.Words.{SpellsLiteral, SpellsNumber, SpellsVariable}
use Rattle.step_lines.proofs.Apart.{cons_tail}
use Rattle.step_lines.proofs.Decimals.{number_one}
use Rattle.step_lines.proofs.WordKinds.{literal_limits, minus_first}

minus_sign : (vars : ℕ) (word digits : List ℕ) (p : Bool) (v : ℕ) → v ≤ greatest_number → word ≡ codes "-" ++ digits → word ≡ (if p then decimal v else 45 ∷ decimal v) → (digits ≡ decimal v) × (p ≡ false)
minus_sign vars word digits true v h e w = absurd (minus_first v digits h (sym w ∙ e))
minus_sign vars word digits false v h e w = (cons_tail 45 45 digits (decimal v) (sym e ∙ w), refl)

pub negative : (vars : ℕ) (word digits : List ℕ) (o : Option Lit) → word ≡ codes "-" ++ digits → IsReading (SpellsVariable vars digits false) o → IsReading (SpellsLiteral vars word) o
negative vars word digits None e h = λ l s.
    (let m = minus_sign vars word digits l.positive l.var (literal_limits vars l s.kept).number e s.written in
    h l (record { written = m.0; sign = m.1; kept = s.kept }))
negative vars word digits (Some l) e h = record {
  written = e ∙ ap (λ t. 45 ∷ t) h.written ∙ ap (λ p. if p then decimal l.var else 45 ∷ decimal l.var) (sym h.sign);
  kept = h.kept;
}

plain_sign : (word : List ℕ) (p : Bool) (v : ℕ) → ((r : List ℕ) → word ≡ codes "-" ++ r → ⊥) → word ≡ (if p then decimal v else 45 ∷ decimal v) → (word ≡ decimal v) × (p ≡ true)
plain_sign word true v none w = (w, refl)
plain_sign word false v none w = absurd (none (decimal v) w)

pub positive : (vars : ℕ) (word : List ℕ) (o : Option Lit) → ((r : List ℕ) → word ≡ codes "-" ++ r → ⊥) → IsReading (SpellsVariable vars word true) o → IsReading (SpellsLiteral vars word) o
positive vars word None none h = λ l s.
    (let m = plain_sign word l.positive l.var none s.written in
    h l (record { written = m.0; sign = m.1; kept = s.kept }))
positive vars word (Some l) none h = record {
  written = h.written ∙ ap (λ p. if p then decimal l.var else 45 ∷ decimal l.var) (sym h.sign);
  kept = h.kept;
}

pub variable_within : (vars : ℕ) (digits : List ℕ) (sign : Bool) (v : ℕ) (l : Lit) → SpellsNumber digits v → SpellsVariable vars digits sign l → (0 < v) × (v ≤ vars)
variable_within vars digits sign v l h s =
    let limits = literal_limits vars l s.kept in
    let same : v ≡ l.var = number_one digits v l.var h (record { written = s.written; kept = limits.number }) in
    (omega (arith, limits.some), omega (arith, limits.within))
