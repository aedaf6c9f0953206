-- What later states of a logic leave of values: they belong to them, and read there as before.
use Rattle.std.specs.Prelude.{◌≡◌, Bool, List, [], ◌∷◌, map, refl}
use Rattle.std.proofs.Common.{ap}
use Rattle.std.specs.declared.result.Result.{Result}
use Rattle.mpy_tree.specs.declared.value.Value.{Value}
use Rattle.bit_words.specs.Logic.{Keeps, OwnsAll}
use Rattle.bit_words.specs.Later.{owned_later, read_later, owns_first, owns_second}
use Rattle.sym_values.specs.declared.value.SymValue.{SymValue}
use Rattle.sym_values.specs.declared.value.SymValue.TheVariants as sym
use Rattle.sym_values.specs.declared.value.SymOutcome.{SymOutcome}
use Rattle.sym_values.specs.Forms.{Form, joined, bits_of, values_bits}
use Rattle.sym_values.specs.Reading.{map_bits, OutcomeReads}
use Rattle.sym_values.specs.Results.{IsValueIn, IsOutcomeIn}
use Rattle.sym_values.specs.Owned.{owns_only}

module _ {S B : Type 0} {owns : S → B → Type 0} {reads : S → List Bool → B → Bool} where
  pub words_later : {s t : S} → Keeps owns reads s t → (ws : List (List B))
      → OwnsAll owns s (joined ws) → (vs : List Bool)
      → map (map (reads t vs)) ws ≡ map (map (reads s vs)) ws
  words_later p [] h vs = refl
  words_later {s} {t} p (w ∷ ws) h vs =
      let head : map (reads t vs) w ≡ map (reads s vs) w =
      read_later p (owns_first w (joined ws) h) vs in
      let tail : map (map (reads t vs)) ws ≡ map (map (reads s vs)) ws =
      words_later p ws (owns_second w (joined ws) h) vs in
      cc

  pub value_later : {s t : S} → Keeps owns reads s t → (x : SymValue B)
      → OwnsAll owns s (bits_of x) → (vs : List Bool)
      → map_bits (reads t vs) x ≡ map_bits (reads s vs) x
  value_later p (sym.Int w) h vs = ap sym.Int (read_later p h vs)
  value_later p (sym.Bool b) h vs = ap sym.Bool (p.same b (owns_only h) vs)
  value_later {s} {t} p (sym.List len items) h vs =
      let one : map (reads t vs) len ≡ map (reads s vs) len =
      read_later p (owns_first len (joined items) h) vs in
      let two : map (map (reads t vs)) items ≡ map (map (reads s vs)) items =
      words_later p items (owns_second len (joined items) h) vs in
      cc
  value_later {s} {t} p (sym.Text len items) h vs =
      let one : map (reads t vs) len ≡ map (reads s vs) len =
      read_later p (owns_first len (joined items) h) vs in
      let two : map (map (reads t vs)) items ≡ map (map (reads s vs)) items =
      words_later p items (owns_second len (joined items) h) vs in
      cc

  pub values_later : {s t : S} → Keeps owns reads s t → (xs : List (SymValue B))
      → OwnsAll owns s (values_bits xs) → (vs : List Bool)
      → map (map_bits (reads t vs)) xs ≡ map (map_bits (reads s vs)) xs
  values_later p [] h vs = refl
  values_later {s} {t} p (x ∷ xs) h vs =
      let head : map_bits (reads t vs) x ≡ map_bits (reads s vs) x =
      value_later p x (owns_first (bits_of x) (values_bits xs) h) vs in
      let tail : map (map_bits (reads t vs)) xs ≡ map (map_bits (reads s vs)) xs =
      values_later p xs (owns_second (bits_of x) (values_bits xs) h) vs in
      cc

  pub value_in_later : {s t : S} {f : Form} {x : SymValue B} → Keeps owns reads s t
      → IsValueIn owns s f x → IsValueIn owns t f x
  value_in_later p h = record { owned = owned_later p h.owned; form = h.form }

  pub outcome_in_later : {s t : S} {f : Form} {o : SymOutcome B} → Keeps owns reads s t
      → IsOutcomeIn owns s f o → IsOutcomeIn owns t f o
  outcome_in_later p h = record {
    owned = owned_later p h.owned;
    owned_fault = p.kept _ h.owned_fault;
    form = h.form;
  }

  pub outcome_later : {s t : S} {f : Form} (o : SymOutcome B) → Keeps owns reads s t
      → IsOutcomeIn owns s f o → (vs : List Bool) {E : Type 0} (r : Result Value E)
      → OutcomeReads (reads s vs) o r → OutcomeReads (reads t vs) o r
  outcome_later o p h vs r k =
      let fault = p.same _ h.owned_fault vs in
      let value = value_later p o.value h.owned vs in
      rw (fault, value) k
