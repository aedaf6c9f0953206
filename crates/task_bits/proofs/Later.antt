-- What later states of a logic leave of the arguments, the picks and the outcomes of a task's
-- programs: they belong to them, and read there as before.
use Rattle.std.proofs.Common.{◌≡◌, ◌∙◌, ℕ, Bool, List, [], ◌∷◌, map, refl}
use Rattle.std.specs.Prelude.{All}
use Rattle.std.proofs.lemmas.List.Elements.{All-cons, All-head, All-nil, All-tail}
use Rattle.mpy_tree.specs.declared.limits.Limits.{Limits}
use Rattle.bounds_reader.specs.declared.bounds.Bounds.{Bounds}
use Rattle.input_space.specs.Tasks.{Task}
use Rattle.bit_words.specs.Logic.{Keeps}
use Rattle.bit_words.specs.Later.{nat_later, owned_later}
use Rattle.sym_values.specs.declared.value.SymValue.{SymValue}
use Rattle.sym_values.specs.Later.{value_in_later, value_later}
use Rattle.sym_values.specs.Reading.{read, spelled}
use Rattle.sym_nodes.specs.Environments.{PicksRead}
use Rattle.sym_nodes.specs.Operands.{IsTypedIn}
use Rattle.sym_values.specs.Owned.{owns_one}
use Rattle.task_bits.specs.Tasks.{AreArgumentsOf, ArePicksOf}

module _ {S B : Type 0} {owns : S → B → Type 0} {reads : S → List Bool → B → Bool} where
  -- arguments
  pub typed_later : {s t : S} (l : Limits) → Keeps owns reads s t → (args : List (SymValue B))
      → All (IsTypedIn owns s l) args → All (IsTypedIn owns t l) args
  typed_later {s} {t} l p [] h = All-nil (IsTypedIn owns t l)
  typed_later {s} {t} l p (x ∷ args) h =
      All-cons (IsTypedIn owns t l) x args
      (value_in_later p (All-head (IsTypedIn owns s l) x args h))
      (typed_later l p args (All-tail (IsTypedIn owns s l) x args h))

  typed_read_later : {s t : S} (l : Limits) → Keeps owns reads s t → (args : List (SymValue B))
      → All (IsTypedIn owns s l) args → (vs : List Bool)
      → map (read (reads t vs)) args ≡ map (read (reads s vs)) args
  typed_read_later l p [] h vs = refl
  typed_read_later {s} {t} l p (x ∷ args) h vs =
      let first = value_later p x (All-head (IsTypedIn owns s l) x args h).owned vs in
      let rest = typed_read_later l p args (All-tail (IsTypedIn owns s l) x args h) vs in
      λ i. spelled (first i) ∷ rest i

  pub arguments_later : {s t : S} {b : Bounds} {args : List (SymValue B)} → Keeps owns reads s t
      → AreArgumentsOf owns s b args → AreArgumentsOf owns t b args
  arguments_later {s} {t} {b} {args} p h = record {
    formed = record { each = typed_later b.limits p args h.formed.each };
    typed = h.typed;
  }

  pub arguments_read_later : {s t : S} {b : Bounds} {args : List (SymValue B)}
      → Keeps owns reads s t → AreArgumentsOf owns s b args → (vs : List Bool)
      → map (read (reads t vs)) args ≡ map (read (reads s vs)) args
  arguments_read_later {s} {t} {b} {args} p h = typed_read_later b.limits p args h.formed.each

  -- picks
  pub picks_later : {s t : S} {k : Task} {ps : List (List B)} → Keeps owns reads s t
      → ArePicksOf owns s k ps → ArePicksOf owns t k ps
  picks_later p h = record { owned = owned_later p h.owned; many = h.many }

  pub picks_read_later : {s t : S} {k : Task} {ps : List (List B)} → Keeps owns reads s t
      → ArePicksOf owns s k ps → (vs : List Bool) (m : ℕ → ℕ)
      → PicksRead (reads s vs) ps m → PicksRead (reads t vs) ps m
  picks_read_later {s} {t} {k} {ps} p h vs m read = record {
    member = λ i bits e. nat_later p (owns_one (λ w. w) ps i bits h.owned e) vs ∙ read.member i bits e;
  }
