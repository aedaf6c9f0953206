-- Tokens up to the first arrow.
use Rattle.std.proofs.Common.{◌≡◌, Bool, true, false, ◌||◌, ◌&&◌, List, [], ◌∷◌, ◌++◌, Option}
use Rattle.std.proofs.Common.{Some}
use Rattle.std.proofs.Common.{None, option_map, if◌then◌else◌, refl, sym, ap, subst, ◌∙◌}
use Rattle.std.proofs.Common.{append_assoc}
use Rattle.std.specs.List.{list_any}
use Rattle.mpy_lexer.specs.declared.token.Token.{Token}
use Rattle.eml_reader.specs.RuleLines.{is_arrow}
use Rattle.eml_reader.specs.RuleReading.{at_arrow, before_too}

-- what a test and a `map` gave
pub if_some : {A : Type 0} (b : Bool) (o : Option A) (a : A)
    → (if b then o else None) ≡ Some a → (b ≡ true) × (o ≡ Some a)
if_some true o a h = (refl, h)
if_some false o a h = cc

pub if_true : {A : Type 0} (b : Bool) (o p : Option A) → b ≡ true → (if b then o else p) ≡ o
if_true true o p h = refl
if_true false o p h = cc

pub if_false : {A : Type 0} (b : Bool) (o p : Option A) → b ≡ false → (if b then o else p) ≡ p
if_false true o p h = cc
if_false false o p h = refl

pub both_true : (a b : Bool) → (a && b) ≡ true → (a ≡ true) × (b ≡ true)
both_true true b h = (refl, h)
both_true false b h = cc

pub and_true : (a b : Bool) → a ≡ true → b ≡ true → (a && b) ≡ true
and_true true b h g = g
and_true false b h g = cc

pub mapped : {A B : Type 0} (f : A → B) (o : Option A) (b : B) → option_map f o ≡ Some b
    → (a : A) × (o ≡ Some a) × (f a ≡ b)
mapped f None b h = cc
mapped f (Some a) b h = (a, refl, cc)

-- tokens before those that an arrow parts
abbrev pub before_all : List Token → Option (List Token × List Token)
    → Option (List Token × List Token)
before_all xs None = None
before_all xs (Some p) = Some (xs ++ p.0, p.1)

pub before_none : (o : Option (List Token × List Token)) → before_all [] o ≡ o
before_none None = refl
before_none (Some p) = refl

pub before_more : (xs : List Token) (t : Token) (o : Option (List Token × List Token))
    → before_all xs (option_map (before_too t) o) ≡ before_all (xs ++ t ∷ []) o
before_more xs t None = refl
before_more xs t (Some p) = ap (λ ys. Some (ys, p.1)) (sym (append_assoc xs (t ∷ []) p.0))

pub record Parted (ts : List Token) (p : List Token × List Token) : Type 0 where
  pub arrow : Token
  pub whole : ts ≡ p.0 ++ arrow ∷ p.1
  pub an_arrow : is_arrow arrow ≡ true
  pub none_before : list_any is_arrow p.0 ≡ false

or_false : (a b : Bool) → a ≡ false → b ≡ false → (a || b) ≡ false
or_false true b h g = cc
or_false false b h g = g

parted_by : (t : Token) (ts : List Token) (p : List Token × List Token) (b : Bool)
    → is_arrow t ≡ b → ((q : List Token × List Token) → at_arrow ts ≡ Some q → Parted ts q)
    → (if b then Some ([], ts) else option_map (before_too t) (at_arrow ts)) ≡ Some p
    → Parted (t ∷ ts) p
parted_by t ts p true h later e =
    let q : List Token × List Token = ([], ts) in
    let same : q ≡ p = cc in
    subst (Parted (t ∷ ts)) same
    (record { arrow = t; whole = refl; an_arrow = h; none_before = refl })
parted_by t ts p false h later e =
    let m = mapped (before_too t) (at_arrow ts) p e in
    let r = later m.0 m.1 in
    subst (Parted (t ∷ ts)) m.2 (record {
      arrow = r.arrow;
      whole = ap (λ us. t ∷ us) r.whole;
      an_arrow = r.an_arrow;
      none_before = or_false (is_arrow t) (list_any is_arrow m.0.0) h r.none_before;
    })

pub parted : (ts : List Token) (p : List Token × List Token) → at_arrow ts ≡ Some p → Parted ts p
parted [] p h = cc
parted (t ∷ ts) p h = parted_by t ts p (is_arrow t) refl (parted ts) h

first_false : (a b : Bool) → (a || b) ≡ false → a ≡ false
first_false true b h = cc
first_false false b h = refl

second_false : (a b : Bool) → (a || b) ≡ false → b ≡ false
second_false true b h = cc
second_false false b h = h

pub arrow_read : (left : List Token) (arrow : Token) (right : List Token) → is_arrow arrow ≡ true
    → list_any is_arrow left ≡ false → at_arrow (left ++ arrow ∷ right) ≡ Some (left, right)
arrow_read [] arrow right h n =
    if_true (is_arrow arrow) (Some ([], right)) (option_map (before_too arrow) (at_arrow right)) h
arrow_read (t ∷ left) arrow right h n =
    let rest = left ++ arrow ∷ right in
    if_false (is_arrow t) (Some ([], rest)) (option_map (before_too t) (at_arrow rest))
    (first_false (is_arrow t) (list_any is_arrow left) n)
    ∙ ap (option_map (before_too t))
    (arrow_read left arrow right h (second_false (is_arrow t) (list_any is_arrow left) n))
