-- Lists of given numbers, and ranges.
use Rattle.std.proofs.Common.{◌≡◌, ℕ, ◌≤◌, Bool, true, false, not, List, [], ◌∷◌, length, map, take, refl, sym, ap, ◌∙◌, subst, arith, cond}
use Rattle.std.specs.Prelude.{ℤ, nat_le, nat_lt, ◌||◌}
use Rattle.std.proofs.lemmas.Bool.{leb-true}
use Rattle.std.proofs.lemmas.List.{length-map, take-map}
use Rattle.std.specs.declared.result.Result.{Result}
use Rattle.std.specs.declared.result.Result.TheVariants.{Ok, Err}
use Rattle.mpy_tree.specs.declared.limits.Limits.{Limits}
use Rattle.mpy_tree.specs.declared.value.Value.{Value}
use Rattle.mpy_tree.specs.declared.value.Value.TheVariants as val
use Rattle.mpy_tree.specs.declared.outcome.FaultKind.TheVariants as kind
use Rattle.mpy_tree.specs.declared.outcome.Halt.{Halt}
use Rattle.mpy_tree.specs.declared.outcome.Halt.TheVariants.{Fault}
use Rattle.mpy_tree.specs.Expressions.{list_of, wholes}
use Rattle.mpy_tree.specs.Operations.{is_zero, list_within, progression, range, range_count, text_within}
use Rattle.mpy_tree.specs.Values.{◌>>=◌}
use Rattle.bit_words.specs.Words.{int_of, nat_of}
use Rattle.bit_lists.specs.Lists.{AreWordsIn}
use Rattle.bit_lists.specs.Ranges.{RangeIs}
use Rattle.bit_lists.proofs.Held.{no_words}
use Rattle.bit_lists.proofs.Ranging.{passing}
use Rattle.sym_values.specs.declared.value.SymValue.TheVariants as sym_value
use Rattle.sym_values.specs.Reading.{IsOutcome, read, Reading, sure}
use Rattle.list_values.proofs.Meanings.{chosen, held_is, list_held, reads_like}

-- the words of a literal, or none of them
few_by : {B : Type 0} (b : Bool) (ws ns : List (List B)) (cap : ℕ) → ws ≡ cond b ns [] → (b ≡ true → length ns ≤ cap) → length ws ≤ cap
few_by true ws ns cap e h = subst (λ (n : ℕ). n ≤ cap) (sym (ap length e)) (h refl)
few_by false ws ns cap e h = subst (λ (n : ℕ). n ≤ cap) (sym (ap length e)) (omega arith)

pub few_words : {B : Type 0} (ws ns : List (List B)) (cap : ℕ) → ws ≡ cond (nat_le (length ns) cap) ns [] → length ws ≤ cap
few_words ws ns cap e = few_by (nat_le (length ns) cap) ws ns cap e (leb-true (length ns) cap)

module _ {S B : Type 0} {owns : S → B → Type 0} where
  owned_by : {s : S} {n : ℕ} (b : Bool) (ws ns : List (List B)) → ws ≡ cond b ns [] → AreWordsIn owns s n ns → AreWordsIn owns s n ws
  owned_by {s} {n} true ws ns e h = subst (AreWordsIn owns s n) (sym e) h
  owned_by {s} {n} false ws ns e h = subst (AreWordsIn owns s n) (sym e) no_words

  pub words_owned : {s : S} {n : ℕ} (ws ns : List (List B)) (cap : ℕ) → ws ≡ cond (nat_le (length ns) cap) ns [] → AreWordsIn owns s n ns → AreWordsIn owns s n ws
  words_owned ws ns cap e h = owned_by (nat_le (length ns) cap) ws ns e h

numbers_are : {B : Type 0} (f : B → Bool) (ns : List (List B)) → wholes (map (λ (w : List B). val.Int (int_of (map f w))) ns) ≡ Ok (map int_of (map (map f) ns))
numbers_are f [] = refl
numbers_are f (w ∷ ns) = ap (λ (r : Result (List ℤ) Halt). r >>= λ zs. Ok (int_of (map f w) ∷ zs)) (numbers_are f ns)

-- a literal is the list of its numbers, or Length
pub literal_is : {B : Type 0} (f : B → Bool) (l : Limits) (ns ws items : List (List B)) (len : List B) (fault : Bool) → ws ≡ cond (nat_le (length ns) l.cap) ns [] → nat_of (map f len) ≡ length ws
    → length items ≡ l.cap → take (length ws) items ≡ ws → fault ≡ nat_lt l.cap (length ns) → IsOutcome fault (read f (sym_value.List len items)) (list_of l (map (λ (w : List B). val.Int (int_of (map f w))) ns))
literal_is f l ns ws items len fault e size many front over =
    let long : length (map (map f) ns) ≡ length ns = length-map ns (map f) in
    let small = few_words ws ns l.cap e in
    let same : list_within l (map int_of (map (map f) ns)) ≡ list_of l (map (λ (w : List _). val.Int (int_of (map f w))) ns) = ap (λ (r : Result (List ℤ) Halt). r >>= list_within l) (sym (numbers_are f ns)) in
    subst (λ (r : Result Value Halt). IsOutcome fault (read f (sym_value.List len items)) r) (sym (list_held l (map (map f) ns)) ∙ same)
    (held_is l f (sym_value.List len items) (sym_value.List len items) len items fault (map (map f) ns) l.cap tt refl refl (omega arith)
    (record {
      passes = over ∙ passing (length ns) l.cap ∙ ap (λ (n : ℕ). not (nat_le n l.cap)) (sym long);
      reads_as = λ h.
          let all : ws ≡ ns = e ∙ ap (λ (b : Bool). cond b ns []) (ap (λ (n : ℕ). nat_le n l.cap) (sym long) ∙ h) in
          ap (λ (n : ℕ). take n (map (map f) items)) size ∙ take-map (map f) (length ws) items ∙ ap (map (map f)) (front ∙ all);
    }))

-- a range, or Step or Length
counted : (b fault : Bool) (r : Reading) (zs : List ℤ) (ws : List (List Bool)) → fault ≡ not b → (b ≡ true → map int_of ws ≡ zs) → r ≡ sure (val.List (map int_of ws)) → IsOutcome fault r (cond b (Ok (val.List zs)) (Err (Fault kind.Length)))
counted true fault r zs ws e h k = (e, k ∙ ap (λ (v : List ℤ). sure (val.List v)) (h refl))
counted false fault r zs ws e h k = e

range_by : (l : Limits) (a b c : ℤ) (zero over fault : Bool) (r : Reading) (ws : List (List Bool)) → is_zero c ≡ zero → fault ≡ (zero || over) → (zero ≡ false → RangeIs l.cap over ws a b c) → r ≡ sure (val.List (map int_of ws))
    → IsOutcome fault r (range l a b c)
range_by l a b c true over fault r ws z e h k = rw z e
range_by l a b c false over fault r ws z e h k =
    let counts = h refl in
    rw z (counted (nat_le (range_count a b c) l.cap) fault r (progression a c (range_count a b c)) ws (e ∙ counts.passes) counts.reads_as k)

pub range_gives : {B : Type 0} (f : B → Bool) (l : Limits) (a b c : ℤ) (still over fault : Bool) (len : List B) (items : List (List B)) → still ≡ is_zero c → fault ≡ (still || over) → nat_of (map f len) ≤ length items
    → (is_zero c ≡ false → RangeIs l.cap over (take (nat_of (map f len)) (map (map f) items)) a b c) → IsOutcome fault (read f (sym_value.List len items)) (range l a b c)
range_gives f l a b c still over fault len items e h fine is =
    range_by l a b c (is_zero c) over fault _ (take (nat_of (map f len)) (map (map f) items)) refl (h ∙ ap (λ (t : Bool). t || over) e) is (reads_like f (sym_value.List len items) len items tt fine)

-- a list whose bits read as before
pub list_reads : {B : Type 0} (f f' : B → Bool) (len : List B) (items : List (List B)) → map f' len ≡ map f len → map (map f') items ≡ map (map f) items → read f' (sym_value.List len items) ≡ read f (sym_value.List len items)
list_reads f f' len items e h = rw (e, h) refl

-- a text that is given, or Length
pub text_literal_is : (l : Limits) (cs : List ℕ) (fault : Bool) (r : Reading) → fault ≡ nat_lt l.cap (length cs) → (nat_le (length cs) l.cap ≡ true → r ≡ sure (val.Text cs)) → IsOutcome fault r (text_within l cs)
text_literal_is l cs fault r e h = chosen (nat_le (length cs) l.cap) fault r (val.Text cs) (Fault kind.Length) (e ∙ passing (length cs) l.cap) h
