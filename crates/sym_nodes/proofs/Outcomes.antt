-- Outcomes of nodes, over truth values alone.
use Rattle.std.proofs.Common.{◌≡◌, ℕ, Bool, true, false, List, [], ◌∷◌, map, not, refl, sym, ap, ◌∙◌, subst, ◌⊎◌, inl, inr}
use Rattle.std.specs.Prelude.{◌||◌, ◌&&◌, if◌then◌else◌}
use Rattle.std.specs.declared.result.Result.{Result}
use Rattle.std.specs.declared.result.Result.TheVariants.{Ok, Err}
use Rattle.mpy_tree.specs.declared.value.Value.{Value}
use Rattle.mpy_tree.specs.declared.value.Value.TheVariants as val
use Rattle.mpy_tree.specs.declared.outcome.Halt.{Halt}
use Rattle.mpy_tree.specs.declared.outcome.Halted.{Halted}
use Rattle.mpy_tree.specs.Expressions.{both, either}
use Rattle.mpy_tree.specs.Operations.{holds}
use Rattle.mpy_tree.specs.Values.{◌>>=◌, on_line}
use Rattle.sym_values.specs.declared.value.SymValue.{SymValue}
use Rattle.sym_values.specs.declared.value.SymOutcome.{SymOutcome}
use Rattle.sym_values.specs.Reading.{IsOutcome, OutcomeReads, Reading, read, spelled, sure}
use Rattle.sym_nodes.specs.Nodes.{all_of, and_result, cond_result, or_result, strict_result}
use Rattle.sym_nodes.specs.Operands.{PartsRead, ValuesRead, any_true, faults_of, values_of}

-- all parts have values, or one has a fault
pub record Valued {B : Type 0} (rd : B → Bool) (parts : List (SymOutcome B)) (rs : List (Result Value Halted)) : Type 0 where
  pub values : List Value
  pub all : all_of rs ≡ Ok values
  pub read : ValuesRead rd parts values
  pub fault : any_true (map rd (faults_of parts)) ≡ false

pub record Faulty {B : Type 0} (rd : B → Bool) (parts : List (SymOutcome B)) (rs : List (Result Value Halted)) : Type 0 where
  pub why : Halted
  pub none : all_of rs ≡ Err why
  pub fault : any_true (map rd (faults_of parts)) ≡ true

on_its_line : (line : ℕ) (fault : Bool) (reading : Reading) (r : Result Value Halt) → IsOutcome fault reading r → IsOutcome fault reading (on_line line r)
on_its_line line fault reading (Ok v) h = h
on_its_line line fault reading (Err e) h = h

module _ {B : Type 0} (rd : B → Bool) where
  more : (o : SymOutcome B) (v : Value) (os : List (SymOutcome B)) (rs : List (Result Value Halted))
      → OutcomeReads {E = Halted} rd o (Ok v) → Valued rd os rs ⊎ Faulty rd os rs → Valued rd (o ∷ os) (Ok v ∷ rs) ⊎ Faulty rd (o ∷ os) (Ok v ∷ rs)
  more o v os rs h (inl k) = inl (record {
    values = v ∷ k.values;
    all = ap (λ (r : Result (List Value) Halted). r >>= λ vs. Ok (v ∷ vs)) k.all;
    read = let first : read rd o.value ≡ sure v = h.1 in let rest : map (read rd) (values_of os) ≡ map sure k.values = k.read in cc;
    fault = ap (λ (b : Bool). b || any_true (map rd (faults_of os))) h.0 ∙ k.fault;
  })
  more o v os rs h (inr k) = inr (record {
    why = k.why;
    none = ap (λ (r : Result (List Value) Halted). r >>= λ vs. Ok (v ∷ vs)) k.none;
    fault = ap (λ (b : Bool). b || any_true (map rd (faults_of os))) h.0 ∙ k.fault;
  })

  settled : (os : List (SymOutcome B)) (rs : List (Result Value Halted)) → PartsRead rd os rs → Valued rd os rs ⊎ Faulty rd os rs
  settled [] [] h = inl (record { values = []; all = refl; read = refl; fault = refl })
  settled [] (r ∷ rs) h = absurd h
  settled (o ∷ os) [] h = absurd h
  settled (o ∷ os) (Ok v ∷ rs) h = more o v os rs h.0 (settled os rs h.1)
  settled (o ∷ os) (Err e ∷ rs) h = inr (record { why = e; none = refl; fault = ap (λ (b : Bool). b || any_true (map rd (faults_of os))) h.0 })

  done : (os : List (SymOutcome B)) (rs : List (Result Value Halted)) (own fault : Bool) (reading : Reading)
      (op : List Value → Result Value Halted) → Valued rd os rs ⊎ Faulty rd os rs
      → ((ws : List Value) → ValuesRead rd os ws → IsOutcome own reading (op ws))
      → fault ≡ (any_true (map rd (faults_of os)) || own) → IsOutcome fault reading (all_of rs >>= op)
  done os rs own fault reading op (inl k) h e =
      let same : fault ≡ own = e ∙ ap (λ (b : Bool). b || own) k.fault in
      subst (λ (r : Result (List Value) Halted). IsOutcome fault reading (r >>= op)) (sym k.all)
      (subst (λ (b : Bool). IsOutcome b reading (op k.values)) (sym same) (h k.values k.read))
  done os rs own fault reading op (inr k) h e =
      subst (λ (r : Result (List Value) Halted). IsOutcome fault reading (r >>= op)) (sym k.none)
      (e ∙ ap (λ (b : Bool). b || own) k.fault)

  -- the faults of the parts come before that of what is done with their values
  pub joined_is : (os : List (SymOutcome B)) (rs : List (Result Value Halted)) (own fault : Bool) (reading : Reading)
      (op : List Value → Result Value Halted) → PartsRead rd os rs
      → ((ws : List Value) → ValuesRead rd os ws → IsOutcome own reading (op ws))
      → fault ≡ (any_true (map rd (faults_of os)) || own) → IsOutcome fault reading (all_of rs >>= op)
  joined_is os rs own fault reading op h k e = done os rs own fault reading op (settled os rs h) k e

  pub strict_is : (os : List (SymOutcome B)) (rs : List (Result Value Halted)) (line : ℕ) (own fault : Bool) (reading : Reading)
      (op : List Value → Result Value Halt) → PartsRead rd os rs
      → ((ws : List Value) → ValuesRead rd os ws → IsOutcome own reading (op ws))
      → fault ≡ (any_true (map rd (faults_of os)) || own) → IsOutcome fault reading (strict_result line op rs)
  strict_is os rs line own fault reading op h k e =
      joined_is os rs own fault reading (λ ws. on_line line (op ws)) h
      (λ ws r. on_its_line line own reading (op ws) (k ws r)) e

  -- where a part has a fault nothing is done with the values
  none_done : (os : List (SymOutcome B)) (rs : List (Result Value Halted)) (fault : Bool) (reading : Reading)
      (op : List Value → Result Value Halted) → Valued rd os rs ⊎ Faulty rd os rs
      → any_true (map rd (faults_of os)) ≡ true → fault ≡ true → IsOutcome fault reading (all_of rs >>= op)
  none_done os rs fault reading op (inl k) h e = absurd (let none = k.fault in cc)
  none_done os rs fault reading op (inr k) h e =
      subst (λ (r : Result (List Value) Halted). IsOutcome fault reading (r >>= op)) (sym k.none) e

  pub faulty_is : (os : List (SymOutcome B)) (rs : List (Result Value Halted)) (fault : Bool) (reading : Reading)
      (op : List Value → Result Value Halted) → PartsRead rd os rs → any_true (map rd (faults_of os)) ≡ true
      → fault ≡ true → IsOutcome fault reading (all_of rs >>= op)
  faulty_is os rs fault reading op h k e = none_done os rs fault reading op (settled os rs h) k e

-- `and` and `or`: the right side counts only where the left side lets it
pub and_is : (line : ℕ) (a b fault v w value : Bool) (x y : Result Value Halted)
    → IsOutcome a (sure (val.Bool v)) x → IsOutcome b (sure (val.Bool w)) y → fault ≡ (a || (v && b)) → value ≡ (v && w)
    → IsOutcome fault (sure (val.Bool value)) (and_result line x y)
and_is line a b fault v w value (Err e) y h k p q = p ∙ ap (λ (i : Bool). i || (v && b)) h
and_is line a b fault true w value (Ok u) y h k p q =
    let same : val.Bool true ≡ u = ap (λ (i : Reading). i.value) h.1 in
    let faults : b ≡ fault = sym (p ∙ ap (λ (i : Bool). i || b) h.0) in
    subst (λ (i : Value). IsOutcome fault (sure (val.Bool value)) (both i y line)) same
    (subst (λ (i : Bool). IsOutcome i (sure (val.Bool value)) y) faults (subst (λ (i : Bool). IsOutcome b (sure (val.Bool i)) y) (sym q) k))
and_is line a b fault false w value (Ok u) y h k p q =
    let same : val.Bool false ≡ u = ap (λ (i : Reading). i.value) h.1 in
    subst (λ (i : Value). IsOutcome fault (sure (val.Bool value)) (both i y line)) same
    (p ∙ ap (λ (i : Bool). i || false) h.0, ap (λ (i : Bool). sure (val.Bool i)) q)

pub or_is : (line : ℕ) (a b fault v w value : Bool) (x y : Result Value Halted)
    → IsOutcome a (sure (val.Bool v)) x → IsOutcome b (sure (val.Bool w)) y → fault ≡ (a || (not v && b)) → value ≡ (v || w)
    → IsOutcome fault (sure (val.Bool value)) (or_result line x y)
or_is line a b fault v w value (Err e) y h k p q = p ∙ ap (λ (i : Bool). i || (not v && b)) h
or_is line a b fault false w value (Ok u) y h k p q =
    let same : val.Bool false ≡ u = ap (λ (i : Reading). i.value) h.1 in
    let faults : b ≡ fault = sym (p ∙ ap (λ (i : Bool). i || b) h.0) in
    subst (λ (i : Value). IsOutcome fault (sure (val.Bool value)) (either i y line)) same
    (subst (λ (i : Bool). IsOutcome i (sure (val.Bool value)) y) faults (subst (λ (i : Bool). IsOutcome b (sure (val.Bool i)) y) (sym q) k))
or_is line a b fault true w value (Ok u) y h k p q =
    let same : val.Bool true ≡ u = ap (λ (i : Reading). i.value) h.1 in
    subst (λ (i : Value). IsOutcome fault (sure (val.Bool value)) (either i y line)) same
    (p ∙ ap (λ (i : Bool). i || false) h.0, ap (λ (i : Bool). sure (val.Bool i)) q)

-- one of two outcomes
pub chosen_is : {E : Type 0} (t fault a b : Bool) (value first other : SymValue Bool) (x : Result Value E)
    → fault ≡ (if t then a else b) → value ≡ (if t then first else other)
    → (t ≡ true → IsOutcome a (spelled first) x) → (t ≡ false → IsOutcome b (spelled other) x) → IsOutcome fault (spelled value) x
chosen_is true fault a b value first other x p q h k =
    subst (λ (i : Bool). IsOutcome i (spelled value) x) (sym p) (subst (λ (i : SymValue Bool). IsOutcome a (spelled i) x) (sym q) (h refl))
chosen_is false fault a b value first other x p q h k =
    subst (λ (i : Bool). IsOutcome i (spelled value) x) (sym p) (subst (λ (i : SymValue Bool). IsOutcome b (spelled i) x) (sym q) (k refl))

-- the test comes before the arm that it chooses
pub cond_is : (a b fault : Bool) (test reading : Reading) (x y z : Result Value Halted)
    → IsOutcome a test x → ((v : Value) → test ≡ sure v → IsOutcome b reading (if holds v then y else z)) → fault ≡ (a || b)
    → IsOutcome fault reading (cond_result x y z)
cond_is a b fault test reading (Ok v) y z h k e =
    let same : fault ≡ b = e ∙ ap (λ (i : Bool). i || b) h.0 in
    subst (λ (i : Bool). IsOutcome i reading (if holds v then y else z)) (sym same) (k v h.1)
cond_is a b fault test reading (Err why) y z h k e = e ∙ ap (λ (i : Bool). i || b) h

pub read_on_line : {B : Type 0} (rd : B → Bool) (o : SymOutcome B) (line : ℕ) (r : Result Value Halt) → OutcomeReads rd o r → OutcomeReads rd o (on_line line r)
read_on_line rd o line r h = on_its_line line (rd o.fault) (read rd o.value) r h
