-- What later states leave of calls that were made.
use Rattle.std.proofs.Common.{◌≡◌, ℕ, Bool, List, [], ◌∷◌, ◌++◌, map, sym as back, ap, ◌∙◌, Some, true, false, if◌then◌else◌, refl, subst}
use Rattle.std.proofs.lemmas.List.Elements.{All-push}
use Rattle.mpy_tree.specs.declared.typing.Ty.TheVariants as ty
use Rattle.bit_words.specs.Logic.{Extends, Keeps, OwnsAll, extends_keeps}
use Rattle.bit_words.specs.Later.{nat_later, owned_later}
use Rattle.sym_values.specs.declared.value.SymValue.{SymValue}
use Rattle.sym_values.specs.declared.value.SymValue.TheVariants as sym
use Rattle.sym_values.specs.declared.value.SymOutcome.{SymOutcome}
use Rattle.sym_values.specs.Forms.{form_for, joined, values_bits}
use Rattle.sym_values.specs.Later.{outcome_in_later, outcome_later, values_later}
use Rattle.sym_values.specs.Owned.{owns_one}
use Rattle.sym_values.specs.Reading.{OutcomeReads, map_bits, read, spelled}
use Rattle.sym_nodes.specs.Environments.{PicksRead}
use Rattle.sym_expr.specs.Signatures.{given_type, value_types}
use Rattle.sym_calls.specs.declared.call.Call.{Call}
use Rattle.sym_calls.specs.declared.call.MadeCall.{MadeCall}
use Rattle.sym_calls.specs.Remembered.{AreRight, Fixed, IsAnswer, IsSameCall}

-- readings of values whose bits read alike
pub read_alike : {B : Type 0} (f h : B → Bool) (xs ys : List (SymValue B))
    → map (map_bits f) xs ≡ map (map_bits h) ys → map (read f) xs ≡ map (read h) ys
read_alike f h [] [] e = refl
read_alike f h [] (y ∷ ys) e = absurd cc
read_alike f h (x ∷ xs) [] e = absurd cc
read_alike f h (x ∷ xs) (y ∷ ys) e =
    let one : map_bits f x ≡ map_bits h y = cc in
    let rest : map (map_bits f) xs ≡ map (map_bits h) ys = cc in
    let more = read_alike f h xs ys rest in
    λ i. spelled (one i) ∷ more i

-- their types
types_read : {B : Type 0} (f : B → Bool) (xs : List (SymValue B))
    → value_types (map (map_bits f) xs) ≡ value_types xs
types_read f [] = refl
types_read f (sym.Int w ∷ xs) = ap (λ os. Some ty.Int ∷ os) (types_read f xs)
types_read f (sym.Bool b ∷ xs) = ap (λ os. Some ty.Bool ∷ os) (types_read f xs)
types_read f (sym.List len items ∷ xs) = ap (λ os. Some ty.List ∷ os) (types_read f xs)
types_read f (sym.Text len items ∷ xs) = ap (λ os. Some ty.Text ∷ os) (types_read f xs)

types_alike : {B : Type 0} (f h : B → Bool) (xs ys : List (SymValue B))
    → map (map_bits f) xs ≡ map (map_bits h) ys → value_types xs ≡ value_types ys
types_alike f h xs ys e = back (types_read f xs) ∙ ap value_types e ∙ types_read h ys

module _ {S B : Type 0} {owns : S → B → Type 0} {reads : S → List Bool → B → Bool} where
  -- picks of an earlier state
  pub picks_before : {s t : S} {picks : List (List B)} → Keeps owns reads s t
      → OwnsAll owns s (joined picks) → (vs : List Bool) (m : ℕ → ℕ)
      → PicksRead (reads t vs) picks m → PicksRead (reads s vs) picks m
  picks_before {s} {t} {picks} p h vs m k = record {
    member = λ i bits e.
        back (nat_later p (owns_one (λ w. w) picks i bits h e) vs) ∙ k.member i bits e;
  }

  answer_later : {s t : S} (k : Fixed B) → Keeps owns reads s t → OwnsAll owns s (joined k.picks)
      → (c : Call B) (o : SymOutcome B) → OwnsAll owns s (values_bits c.args)
      → IsAnswer owns reads k s c o → IsAnswer owns reads k t c o
  answer_later {s} {t} k p picks c o args h = record {
    owned = outcome_in_later p h.owned;
    form = h.form;
    value = λ vs m calls values line called chosen given.
        let before = read_alike (reads s vs) (reads t vs) c.args c.args (back (values_later p c.args args vs)) ∙ given in
        outcome_later o p h.owned vs (calls c.name values line)
        (h.value vs m calls values line called (picks_before p picks vs m chosen) before);
  }

  pub right_later : {count : S → ℕ} {s t : S} {k : Fixed B} {made : List (MadeCall B)}
      → Extends owns reads count s t → AreRight owns reads k s made → AreRight owns reads k t made
  right_later {count} {s} {t} {k} {made} p h =
      let kept = extends_keeps p in
      record {
        picks = owned_later kept h.picks;
        args = λ i c at. owned_later kept (h.args i c at);
        answers = λ i c at. answer_later k kept h.picks _ _ (h.args i c at) (h.answers i c at);
      }

  -- one call more
  pub right_more : {s : S} {k : Fixed B} {made : List (MadeCall B)} (c : MadeCall B)
      → AreRight owns reads k s made → OwnsAll owns s (values_bits c.call.args)
      → IsAnswer owns reads k s c.call c.outcome → AreRight owns reads k s (made ++ c ∷ [])
  right_more {s} {k} {made} c h args answer = record {
    picks = h.picks;
    args = All-push (λ x. OwnsAll owns s (values_bits x.call.args)) made c h.args args;
    answers = All-push (λ x. IsAnswer owns reads k s x.call x.outcome) made c h.answers answer;
  }

  -- what one call gives, another gives that is the same
  pub answer_same : {s : S} {k : Fixed B} (c d : Call B) (o : SymOutcome B)
      → IsSameCall reads s c d → IsAnswer owns reads k s c o → IsAnswer owns reads k s d o
  answer_same {s} {k} c d o same h = record {
    owned = h.owned;
    form = λ t e.
        let types = types_alike (reads s []) (reads s []) c.args d.args (same.args []) in
        h.form t ((λ i. given_type k.signatures (same.name i) (types i)) ∙ e)
        ∙ ap (λ l. form_for l t) same.limits;
    value = λ vs m calls values line called chosen given.
        let rd = reads s vs in
        subst (λ f. OutcomeReads rd o (calls f values line)) same.name
        (h.value vs m calls values line (rw (same.level, same.limits) called) chosen
        (read_alike rd rd c.args d.args (same.args vs) ∙ given));
  }

  -- one call more, where there was memory for it
  pub right_if_more : {s : S} {k : Fixed B} {made more : List (MadeCall B)} (b : Bool)
      (c : MadeCall B) → more ≡ (if b then made ++ c ∷ [] else made) → AreRight owns reads k s made
      → OwnsAll owns s (values_bits c.call.args) → IsAnswer owns reads k s c.call c.outcome
      → AreRight owns reads k s more
  right_if_more {s} {k} true c e h args answer =
      subst (AreRight owns reads k s) (back e) (right_more c h args answer)
  right_if_more {s} {k} false c e h args answer = subst (AreRight owns reads k s) (back e) h
