-- What later states of a logic leave of costs and picks.
use Rattle.std.proofs.Common.{◌∙◌, ℕ, Bool, List, map, Option, Some, None, sym, subst}
use Rattle.bit_words.specs.Logic.{Extends, OwnsAll, extends_keeps}
use Rattle.bit_words.specs.Later.{nat_later, owned_later, read_later}
use Rattle.sym_values.specs.Forms.{joined}
use Rattle.sym_values.specs.Owned.{owns_one}
use Rattle.sym_nodes.specs.Environments.{PicksRead}
use Rattle.sym_cost.specs.declared.notation.Notation.{Notation}
use Rattle.sym_cost.specs.Notations.{IsCostIn, Spells, Writes}

module _ {S B : Type 0} {owns : S → B → Type 0} {reads : S → List Bool → B → Bool} {count : S
    → ℕ} where
  pub picks_kept : {s t : S} (picks : List (List B)) (m : ℕ → ℕ) → Extends owns reads count s t
      → OwnsAll owns s (joined picks) → (vs : List Bool)
      → PicksRead (reads s vs) picks m → PicksRead (reads t vs) picks m
  picks_kept picks m p h vs k = record {
    member = λ i bits e. nat_later (extends_keeps p) (owns_one (λ w. w) picks i bits h e) vs
        ∙ k.member i bits e;
  }

  pub spelled_kept : {s t : S} (form : Notation) (w : List B) (n : ℕ)
      → Extends owns reads count s t → OwnsAll owns s w → (vs : List Bool)
      → Spells form (map (reads s vs) w) n → Spells form (map (reads t vs) w) n
  spelled_kept form w n p h vs k =
      subst (λ (bits : List Bool). Spells form bits n) (sym (read_later (extends_keeps p) h vs)) k

  pub written_kept : {s t : S} (form : Notation) (o : Option (List B)) (n : ℕ)
      → Extends owns reads count s t → IsCostIn owns s form o → (vs : List Bool)
      → Writes (reads s vs) form o n → Writes (reads t vs) form o n
  written_kept form None n p h vs k = k
  written_kept form (Some w) n p h vs k = spelled_kept form w n p h.owned vs k

  pub cost_kept : {s t : S} (form : Notation) (o : Option (List B))
      → Extends owns reads count s t → IsCostIn owns s form o → IsCostIn owns t form o
  cost_kept form None p h = tt
  cost_kept form (Some w) p h = record {
    owned = owned_later (extends_keeps p) h.owned;
    width = h.width;
  }
