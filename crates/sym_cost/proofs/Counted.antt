-- Bits that read as a counter.
use Rattle.std.proofs.Common.{◌≡◌, ◌∙◌, ℕ, ◌≤◌, min, Bool, List, length, map, ap, sym, subst, arith}
use Rattle.std.proofs.lemmas.List.{length-map}
use Rattle.bit_words.specs.Logic.{Extends, OwnsAll}
use Rattle.bit_words.proofs.Kept.{reads_kept}
use Rattle.sym_cost.specs.Notations.{Counts, counter}

module _ {S B : Type 0} {owns : S → B → Type 0} {reads : S → List Bool → B → Bool} {count : S
    → ℕ} where
  pub counts_kept : {s t : S} {w : List B} → Extends owns reads count s t → OwnsAll owns s w
      → (vs : List Bool) (bound n : ℕ) → Counts bound (map (reads s vs) w) n
      → Counts bound (map (reads t vs) w) n
  counts_kept p h vs bound n k =
      subst (λ (bits : List Bool). Counts bound bits n) (sym (reads_kept p h vs)) k

-- from as many bits as are enough
pub counts_whole : {B : Type 0} (rd : B → Bool) (w : List B) (bound n width : ℕ)
    → length w ≡ width → map rd w ≡ counter width n → min bound n ≤ width
    → Counts bound (map rd w) n
counts_whole rd w bound n width long bits enough =
    let same = length-map w rd ∙ long in
    (bits ∙ ap (λ j. counter j n) (sym same), omega (arith, same, enough))
