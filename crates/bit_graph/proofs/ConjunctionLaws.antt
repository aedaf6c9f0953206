-- What two bits both are.
use Rattle.std.proofs.Common.{◌≡◌, Bool, true, false, not, ◌&&◌, Option, Some, None, ℕ, length, refl, sym, ap, ◌∙◌, subst}
use Rattle.bit_graph.specs.declared.gate.GraphBit.{GraphBit}
use Rattle.std.specs.Prelude.{IfNone, IfSome, Result, Ok, Err, OnOk, if◌then◌else◌}
use Rattle.bit_words.specs.Bits.{differ}
use Rattle.bit_graph.specs.declared.gate.Gate.{Gate}
use Rattle.bit_graph.specs.Gates.{Gates, IsBelow, Owns, source_of, is_positive_bit, opposite_bit, parts_of}
use Rattle.bit_graph.specs.Rules.{AreNever, IsShortened}

pub and_turned : (a b : Bool) → (a && b) ≡ (b && a)
and_turned true true = refl
and_turned true false = refl
and_turned false true = refl
and_turned false false = refl

-- where a bit excludes one part's opposite, the other part's opposite is left
pub left_over : (a l r b : Bool) → b ≡ not (l && r) → (a && not l) ≡ false → (a && not r) ≡ (a && b)
left_over false l r b e h = refl
left_over true true r b e h = sym e
left_over true false r b e h = cc

pub right_over : (a l r b : Bool) → b ≡ not (l && r) → (a && not r) ≡ false → (a && not l) ≡ (a && b)
right_over a l r b e h = left_over a r l b (e ∙ ap not (and_turned l r)) h

-- each of two bits replaced, by what the other one leaves of it
pub replaced : (a b right left : Bool) → (a && right) ≡ (a && b) → (right && left) ≡ (right && a) → (left && right) ≡ (a && b)
replaced a b right left e f = and_turned left right ∙ f ∙ and_turned right a ∙ e

pub owned_if : (g : Gates) (a b : GraphBit) (o : Option GraphBit) → IfSome o (λ r. (n m : ℕ) → IsBelow n m (source_of a) → IsBelow n m (source_of b) → IsBelow n m (source_of r))
    → Owns g a → Owns g b → IfSome o (λ r. Owns g r)
owned_if g a b None h p q = h
owned_if g a b (Some r) h p q = record { below = h g.variables (length g.gates) p.below q.below }

-- what holds at any rate holds where there is no bit
pub if_none : (o : Option GraphBit) (P : Type 0) → P → IfNone o P
if_none None P h = h
if_none (Some r) P h = tt

pub on_ok : {E : Type 0} (o : Result GraphBit E) (P Q : Type 0) → (P → Q) → OnOk o P → OnOk o Q
on_ok (Ok r) P Q f h = f h
on_ok (Err e) P Q f h = tt

-- an exclusive or by three conjunctions, and a choice
pub xor_is : (a b : Bool) → (not (a && b) && not (not a && not b)) ≡ differ a b
xor_is true true = refl
xor_is true false = refl
xor_is false true = refl
xor_is false false = refl

pub join_is : (c a b : Bool) → not (not (c && a) && not (not c && b)) ≡ (if c then a else b)
join_is true true b = refl
join_is true false b = refl
join_is false a true = refl
join_is false a false = refl

-- a negated bit has the negated exclusive or
pub differ_second : (a b : Bool) → not (differ a (not b)) ≡ differ a b
differ_second true true = refl
differ_second true false = refl
differ_second false true = refl
differ_second false false = refl

pub alike_is : (c a : Bool) → not (differ c a) ≡ (if c then a else not a)
alike_is true true = refl
alike_is true false = refl
alike_is false a = refl

-- an arm that is known where it is chosen
pub settled_first : (c a r b : Bool) → (c ≡ true → a ≡ r) → (if c then r else b) ≡ (if c then a else b)
settled_first true a r b h = sym (h refl)
settled_first false a r b h = refl

pub settled_second : (c a b r : Bool) → (not c ≡ true → b ≡ r) → (if not c then r else a) ≡ (if c then a else b)
settled_second true a b r h = refl
settled_second false a b r h = sym (h refl)

module _ (g : Gates) (a b l r : GraphBit) (x : Gate) (negative : is_positive_bit b ≡ false) (at : parts_of g b ≡ Some x) (left : l ≡ opposite_bit x.left) (right : r ≡ opposite_bit x.right) where
  same_parts : (y : Gate) → parts_of g b ≡ Some y → x ≡ y
  same_parts y e = cc

  pub shortened_right : AreNever g a l → IsShortened g a b r
  shortened_right n = record {
    positive = λ e. cc;
    no_gate = λ e. cc;
    right = λ y d e m. right ∙ ap (λ (z : Gate). opposite_bit z.right) (same_parts y e);
    left = λ y d e m o. absurd (m (subst (AreNever g a) (left ∙ ap (λ (z : Gate). opposite_bit z.left) (same_parts y e)) n));
    whole = λ y d e m o. absurd (m (subst (AreNever g a) (left ∙ ap (λ (z : Gate). opposite_bit z.left) (same_parts y e)) n));
  }

  pub shortened_left : (AreNever g a l → ⊥) → AreNever g a r → IsShortened g a b l
  shortened_left n k = record {
    positive = λ e. cc;
    no_gate = λ e. cc;
    right = λ y d e m. absurd (n (subst (AreNever g a) (sym (left ∙ ap (λ (z : Gate). opposite_bit z.left) (same_parts y e))) m));
    left = λ y d e m o. left ∙ ap (λ (z : Gate). opposite_bit z.left) (same_parts y e);
    whole = λ y d e m o. absurd (o (subst (AreNever g a) (right ∙ ap (λ (z : Gate). opposite_bit z.right) (same_parts y e)) k));
  }

  pub shortened_whole : (AreNever g a l → ⊥) → (AreNever g a r → ⊥) → IsShortened g a b b
  shortened_whole n k = record {
    positive = λ e. refl;
    no_gate = λ e. refl;
    right = λ y d e m. absurd (n (subst (AreNever g a) (sym (left ∙ ap (λ (z : Gate). opposite_bit z.left) (same_parts y e))) m));
    left = λ y d e m o. absurd (k (subst (AreNever g a) (sym (right ∙ ap (λ (z : Gate). opposite_bit z.right) (same_parts y e))) o));
    whole = λ y d e m o. refl;
  }
