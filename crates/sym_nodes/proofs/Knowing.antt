-- Parts whose values are known, and what an operation gives on these.
use Rattle.std.proofs.Common.{◌≡◌, ◌∙◌, ◌+◌, ◌<◌, ℕ, zero, suc, Bool, true, List, [], ◌∷◌}
use Rattle.std.proofs.Common.{◌++◌, length, get_or, map, take, refl, sym, ap, arith, subst}
use Rattle.std.proofs.Common.{Option, Some, None}
use Rattle.std.specs.Prelude.{IfSome}
use Rattle.std.proofs.lemmas.List.{length-map, map_push, take_more}
use Rattle.std.proofs.lemmas.List.Elements.{All-head, All-tail}
use Rattle.std.specs.declared.result.Result.{Result}
use Rattle.std.specs.declared.result.Result.TheVariants.{Ok, Err}
use Rattle.mpy_tree.specs.declared.limits.Limits.{Limits}
use Rattle.mpy_tree.specs.declared.value.Value.{Value}
use Rattle.mpy_tree.specs.declared.outcome.Halt.{Halt}
use Rattle.mpy_tree.specs.declared.outcome.Halted.{Halted}
use Rattle.mpy_tree.specs.Values.{on_line}
use Rattle.bit_words.specs.Logic.{OwnsAll}
use Rattle.bit_words.specs.Later.{owns_both, owns_first, owns_second}
use Rattle.sym_values.specs.declared.value.SymOutcome.{SymOutcome}
use Rattle.sym_values.specs.Forms.{bits_of, values_bits}
use Rattle.sym_values.specs.Reading.{OutcomeReads, Reading, read, sure}
use Rattle.sym_nodes.specs.Operands.{ArePartsIn, IsPartIn, PartsGive, ValuesRead, values_of}

-- the bits of the values of parts belong to a state
module _ {S B : Type 0} {owns : S → B → Type 0} {s : S} where
  pub values_owned : (l : Limits) (parts : List (SymOutcome B)) → ArePartsIn owns s l parts
      → OwnsAll owns s (values_bits (values_of parts))
  values_owned l [] h = record { each = λ k d e. absurd (omega arith) }
  values_owned l (o ∷ parts) h =
      let first = All-head (IsPartIn owns s l) o parts h.each in
      let rest = All-tail (IsPartIn owns s l) o parts h.each in
      owns_both first.owned (values_owned l parts (record { each = rest }))

  -- of one of them
  pub part_owned : (parts : List (SymOutcome B)) (i : ℕ) (o : SymOutcome B)
      → OwnsAll owns s (values_bits (values_of parts)) → i < length parts → o ≡ get_or parts i o
      → OwnsAll owns s (bits_of o.value)
  part_owned [] i o h k e = absurd (omega arith)
  part_owned (p ∷ parts) zero o h k e =
      subst (λ (q : SymOutcome B). OwnsAll owns s (bits_of q.value)) (sym e)
      (owns_first (bits_of p.value) (values_bits (values_of parts)) h)
  part_owned (p ∷ parts) (suc i) o h k e =
      part_owned parts i o (owns_second (bits_of p.value) (values_bits (values_of parts)) h)
      (omega arith) e

-- one part more is read
pub part_read : {B : Type 0} (rd : B → Bool) (parts : List (SymOutcome B)) (i : ℕ)
    (o : SymOutcome B) (vs ws : List Value) (w : Value) → i < length parts → o ≡ get_or parts i o
    → ValuesRead rd (take i parts) vs → read rd o.value ≡ sure w → ws ≡ vs ++ w ∷ []
    → ValuesRead rd (take (i + 1) parts) ws
part_read rd parts i o vs ws w h e k r p =
    let taken : take (i + 1) parts ≡ take i parts ++ o ∷ [] =
    take_more parts i o h ∙ ap (λ (q : SymOutcome _). take i parts ++ q ∷ []) (sym e) in
    ap (λ (os : List (SymOutcome _)). map (read rd) (values_of os)) taken
    ∙ ap (map (read rd)) (map_push (λ (q : SymOutcome _). q.value) (take i parts) o)
    ∙ map_push (read rd) (values_of (take i parts)) o.value
    ∙ ap (λ (x : List Reading). x ++ read rd o.value ∷ []) k
    ∙ ap (λ (x : Reading). map sure vs ++ x ∷ []) r
    ∙ sym (ap (map sure) p ∙ map_push sure vs w)

pub as_many : {B : Type 0} (rd : B → Bool) (parts : List (SymOutcome B)) (vs : List Value)
    → ValuesRead rd parts vs → length vs ≡ length parts
as_many rd parts vs h =
    sym (length-map vs sure) ∙ sym (ap length h) ∙ length-map (values_of parts) (read rd)
    ∙ length-map parts (λ o. o.value)

-- a list of values is read in one way
pub same_sure : (vs ws : List Value) → map sure vs ≡ map sure ws → vs ≡ ws
same_sure [] [] e = refl
same_sure [] (w ∷ ws) e = absurd cc
same_sure (v ∷ vs) [] e = absurd cc
same_sure (v ∷ vs) (w ∷ ws) e =
    let first : sure v ≡ sure w = cc in
    let rest : map sure vs ≡ map sure ws = cc in
    let same : v ≡ w = ap (λ (r : Reading). r.value) first in
    let others : vs ≡ ws = same_sure vs ws rest in
    cc

pub same_values : {B : Type 0} (rd : B → Bool) (parts : List (SymOutcome B)) (vs ws : List Value)
    → ValuesRead rd parts vs → ValuesRead rd parts ws → vs ≡ ws
same_values rd parts vs ws h k = same_sure vs ws (sym h ∙ k)

-- what is given on a line, where the line isn't told
pub value_given : {B : Type 0} (rd : B → Bool) (o : SymOutcome B) (line : ℕ)
    (r : Result Value Halt) (v : Value) → on_line line r ≡ Ok v
    → OutcomeReads {E = Halt} rd o (Ok v) → OutcomeReads rd o r
value_given rd o line (Ok u) v e h =
    let same : v ≡ u = cc in
    subst (λ (w : Value). OutcomeReads {E = Halt} rd o (Ok w)) same h
value_given rd o line (Err why) v e h = absurd cc

pub fault_given : {B : Type 0} (rd : B → Bool) (o : SymOutcome B) (line : ℕ)
    (r : Result Value Halt) (why : Halted) → on_line line r ≡ Err why → rd o.fault ≡ true
    → OutcomeReads rd o r
fault_given rd o line (Ok u) why e h = absurd cc
fault_given rd o line (Err halt) why e h = h

-- so what an operation gives on the values that are known it gives on all that the parts read as
module _ {S B : Type 0} (reads : S → List Bool → B → Bool) (s : S) (parts : List (SymOutcome B))
    (values : List Value) (line : ℕ) (op : List Value → Result Value Halt) where
  pub value_known : (v : Value) (o : Option (SymOutcome B))
      → ((vs : List Bool) → ValuesRead (reads s vs) parts values) → on_line line (op values) ≡ Ok v
      → IfSome o (λ o. (vs : List Bool) → OutcomeReads {E = Halt} (reads s vs) o (Ok v))
      → IfSome o (λ o. PartsGive reads s s parts o op)
  value_known v None known e h = tt
  value_known v (Some o) known e h = λ vs ws r.
      let same = same_values (reads s vs) parts ws values r (known vs) in
      let given = ap (λ (us : List Value). on_line line (op us)) same ∙ e in
      value_given (reads s vs) o line (op ws) v given (h vs)

  pub fault_known : (why : Halted) (o : SymOutcome B)
      → ((vs : List Bool) → ValuesRead (reads s vs) parts values)
      → on_line line (op values) ≡ Err why → ((vs : List Bool) → reads s vs o.fault ≡ true)
      → PartsGive reads s s parts o op
  fault_known why o known e h vs ws r =
      let same = same_values (reads s vs) parts ws values r (known vs) in
      let given = ap (λ (us : List Value). on_line line (op us)) same ∙ e in
      fault_given (reads s vs) o line (op ws) why given (h vs)
