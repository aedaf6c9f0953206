-- What the readers of lists and values give.
use Rattle.std.proofs.Common.{◌≡◌, ℕ, Bool, List, ◌++◌, codes, Option, None, Some, ℤ, sym, ◌∙◌, subst}
use Rattle.std.proofs.lemmas.List.{append_cancel_left, append_cancel_right}
use Rattle.mpy_tree.specs.declared.value.Value.{Value}
use Rattle.mpy_tree.specs.declared.value.Value.TheVariants as value
use Rattle.mpy_tree.specs.Printing.{truth_text}
use Rattle.mpy_lexer.specs.TextLiterals.{literal_characters}
use Rattle.input_space.specs.Cases.{SpellsEach, SpellsNumber, SpellsNumbers, SpellsValue}
use Rattle.clause_base.specs.Readings.{IsReading}

-- a text that spells no text, no list, no truth value and no number spells no value
pub no_value : (text : List ℕ) → literal_characters text ≡ None → ((zs : List ℤ) → SpellsNumbers text zs → ⊥) → ((b : Bool) → text ≡ truth_text b → ⊥) → ((z : ℤ) → SpellsNumber text z → ⊥) → (v : Value) → SpellsValue text v → ⊥
no_value text t l b n (value.Int z) h = n z h
no_value text t l b n (value.Bool c) h = b c h
no_value text t l b n (value.List zs) h = l zs h
no_value text t l b n (value.Text cs) h = absurd (cc (t, h))

same_inner : (text inner : List ℕ) (zs : List ℤ) → text ≡ codes "[" ++ inner ++ codes "]" → SpellsNumbers text zs → SpellsEach SpellsNumber inner zs
same_inner text inner zs e h =
    let same : h.inner ≡ inner = append_cancel_left (codes "[") h.inner inner (append_cancel_right (codes "[" ++ h.inner) (codes "[" ++ inner) (codes "]") (sym h.bracketed ∙ e)) in
    subst (λ t. SpellsEach SpellsNumber t zs) same h.spelled

-- what stands between the brackets is what the list has
pub list_reading : (text inner : List ℕ) (o : Option (List ℤ)) → text ≡ codes "[" ++ inner ++ codes "]" → IsReading (SpellsEach SpellsNumber inner) o → IsReading (SpellsNumbers text) o
list_reading text inner None e h = λ zs s. h zs (same_inner text inner zs e s)
list_reading text inner (Some zs) e h = record { inner = inner; bracketed = e; spelled = h }

pub no_list : (text : List ℕ) → ((inner : List ℕ) → text ≡ codes "[" ++ inner ++ codes "]" → ⊥) → (zs : List ℤ) → SpellsNumbers text zs → ⊥
no_list text none zs h = none h.inner h.bracketed
