-- What later states of a logic leave of names, picks and outcomes: they belong to them, and read
-- there as before.
use Rattle.std.specs.Prelude.{◌≡◌, ℕ, zero, suc, Bool, List, [], ◌∷◌, Some, slice_get}
use Rattle.std.proofs.Common.{◌∙◌, subst}
use Rattle.std.proofs.lemmas.List.Elements.{All-head, All-tail}
use Rattle.std.specs.declared.result.Result.{Result}
use Rattle.mpy_tree.specs.declared.limits.Limits.{Limits}
use Rattle.mpy_tree.specs.declared.value.Value.{Value}
use Rattle.mpy_tree.specs.declared.outcome.Halted.{Halted}
use Rattle.mpy_tree.specs.Syntax.{Term}
use Rattle.mpy_tree.specs.Values.{Locals}
use Rattle.bit_words.specs.Logic.{Keeps, OwnsAll}
use Rattle.bit_words.specs.Later.{owned_later, nat_later}
use Rattle.choice_tree.specs.WeightedTrees.{Weighted}
use Rattle.sym_values.specs.declared.value.SymOutcome.{SymOutcome}
use Rattle.sym_values.specs.Forms.{bits_of}
use Rattle.sym_values.specs.Later.{outcome_in_later, outcome_later, value_later}
use Rattle.sym_values.specs.Owned.{owns_one}
use Rattle.sym_nodes.specs.declared.env.Env.{Env}
use Rattle.sym_nodes.specs.Environments.{IsEnvIn, PicksRead, StateReads}
use Rattle.sym_nodes.specs.Operands.{ArePartsIn, IsPartIn}
use Rattle.sym_nodes.specs.Plain.{AllReadAsPlain}

module _ {S B : Type 0} {owns : S → B → Type 0} where
  -- one of several bits
  mark_owned : {s : S} (bits : List B) (i : ℕ) (bit : B) → OwnsAll owns s bits
      → slice_get bits i ≡ Some bit → owns s bit
  mark_owned [] i bit h e = cc
  mark_owned {s} (b ∷ bits) zero bit h e =
      let same : b ≡ bit = cc in subst (owns s) same (All-head (owns s) b bits h.each)
  mark_owned {s} (b ∷ bits) (suc i) bit h e =
      mark_owned bits i bit (record { each = All-tail (owns s) b bits h.each }) e

module _ {S B : Type 0} {owns : S → B → Type 0} {reads : S → List Bool → B → Bool} where
  pub env_later : {s t : S} {env : Env B} → Keeps owns reads s t → IsEnvIn owns s env
      → IsEnvIn owns t env
  env_later p h = record {
    valued = h.valued;
    marked = h.marked;
    forms = h.forms;
    values = owned_later p h.values;
    marks = owned_later p h.marks;
    picks = owned_later p h.picks;
  }

  pub state_later : {s t : S} {env : Env B} → Keeps owns reads s t → IsEnvIn owns s env
      → (vs : List Bool) (locals : Locals) → StateReads (reads s vs) env locals
      → StateReads (reads t vs) env locals
  state_later {s} {t} {env} p h vs locals k = record {
    local = λ i name x bit n v b.
        let owned = owns_one bits_of env.values i x h.values v in
        let mark = mark_owned env.set i bit h.marks b in
        let value = value_later p x owned vs in
        let set = p.same bit mark vs in
        rw (set, value) (k.local i name x bit n v b);
  }

  pub picks_later : {s t : S} {env : Env B} → Keeps owns reads s t → IsEnvIn owns s env
      → (vs : List Bool) (m : ℕ → ℕ) → PicksRead (reads s vs) env.picks m
      → PicksRead (reads t vs) env.picks m
  picks_later {s} {t} {env} p h vs m k = record {
    member = λ i bits e.
        nat_later p (owns_one (λ w. w) env.picks i bits h.picks e) vs ∙ k.member i bits e;
  }

  pub parts_later : {s t : S} {l : Limits} {parts : List (SymOutcome B)} → Keeps owns reads s t
      → ArePartsIn owns s l parts → ArePartsIn owns t l parts
  parts_later p h = record { each = λ i d e. outcome_in_later p (h.each i d e) }

  -- outcomes that read as what plain expressions give
  pub plain_later : {s t : S} (l : Limits) → Keeps owns reads s t → (vs : List Bool)
      (value : Term → Result Value Halted) (m : ℕ → ℕ) (os : List (SymOutcome B))
      (ws : List Weighted) → ArePartsIn owns s l os → AllReadAsPlain (reads s vs) value m os ws
      → AllReadAsPlain (reads t vs) value m os ws
  plain_later l p vs value m [] [] h k = k
  plain_later l p vs value m [] (w ∷ ws) h k = k
  plain_later l p vs value m (o ∷ os) [] h k = k
  plain_later {s} {t} l p vs value m (o ∷ os) (w ∷ ws) h k = (
    λ u e. outcome_later o p (All-head (IsPartIn owns s l) o os h.each) vs (value u) (k.0 u e),
    plain_later l p vs value m os ws
        (record { each = All-tail (IsPartIn owns s l) o os h.each }) k.1,
  )
