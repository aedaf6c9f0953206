-- How far the closing quote of a text is away, one byte further on.
use Rattle.std.proofs.Common.{◌≡◌, ℕ, suc, ◌+◌, ◌<◌, Bool, true, false, ◌==◌, List, ◌∷◌, length, drop, get_or, refl, ap, ◌∙◌, arith}
use Rattle.std.proofs.lemmas.List.{drop_more}
use Rattle.input_space.specs.Pieces.{closed_len}

module _ (quote : ℕ) (text : List ℕ) (i : ℕ) (h : i < length text) where
  here : (escaped : Bool) → closed_len quote escaped (drop i text) ≡ closed_len quote escaped (get_or text i 0 ∷ drop (i + 1) text)
  here escaped = ap (closed_len quote escaped) (drop_more text i 0 h)

  pub behind_backslash : (escaped next : Bool) (all : ℕ) → escaped ≡ true → next ≡ false → i + closed_len quote escaped (drop i text) ≡ all → (i + 1) + closed_len quote next (drop (i + 1) text) ≡ all
  behind_backslash escaped next all e f g = rw f (omega (arith, here true, rw e at g))

  pub behind_other : (escaped next : Bool) (all : ℕ) → escaped ≡ false → (get_or text i 0 ≡ quote → ⊥) → next ≡ (get_or text i 0 == 92) → i + closed_len quote escaped (drop i text) ≡ all → (i + 1) + closed_len quote next (drop (i + 1) text) ≡ all
  behind_other escaped next all e n f g =
      let not_quote : (get_or text i 0 == quote) ≡ false = grind (arith, n) in
      let more : closed_len quote false (get_or text i 0 ∷ drop (i + 1) text) ≡ suc (closed_len quote (get_or text i 0 == 92) (drop (i + 1) text)) = rw not_quote refl in
      rw f (omega (arith, here false ∙ more, rw e at g))
