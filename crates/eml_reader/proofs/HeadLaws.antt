-- The head of a rule, read and spelled.
use Rattle.std.proofs.Common.{◌≡◌, ℕ, Bool, true, false, ◌&&◌, List, [], ◌∷◌, ◌++◌, Some}
use Rattle.std.proofs.Common.{None}
use Rattle.std.proofs.Common.{option_map, if◌then◌else◌, refl, ap, subst, ◌∙◌, codes}
use Rattle.mpy_tree.specs.Values.{same_bytes}
use Rattle.mpy_lexer.specs.declared.forms.Kind.{Kind}
use Rattle.mpy_lexer.specs.declared.forms.Kind.TheVariants as kind
use Rattle.mpy_lexer.specs.declared.token.Token.{Token}
use Rattle.mpy_lexer.specs.Pieces.{number_of}
use Rattle.eml_reader.specs.RuleLines.{is_mark, is_name, is_number, is_plain, is_sign, is_word}
use Rattle.eml_reader.specs.RuleLines.{SpellsHead, with_cost, without_cost}
use Rattle.eml_reader.specs.RuleReading.{cost_at, head_of, Headed, headed, number_at}
use Rattle.eml_reader.proofs.Arrows.{and_true, both_true, if_false, if_some, if_true, mapped}

-- the cost, up to its colon
data SpellsCost : List Token → ℕ → List Token → Type 0 where
  no_cost : (colon : Token) (rest : List Token) → is_mark (codes ":") colon ≡ true
      → SpellsCost (colon ∷ rest) 1 rest
  a_cost : (cost number colon : Token) (n : ℕ) (rest : List Token)
      → is_word (codes "cost") cost ≡ true
      → is_number number.kind ≡ true
      → number_of number.text ≡ Some n
      → is_mark (codes ":") colon ≡ true
      → SpellsCost (cost ∷ number ∷ colon ∷ rest) n rest

abbrev Spelled : List Token → ℕ × List Token → Type 0
Spelled ts c = SpellsCost ts c.0 c.1

by_number : (t : Token) (ts : List Token) (c : ℕ × List Token) → is_word (codes "cost") t ≡ true
    → number_at ts ≡ Some c → Spelled (t ∷ ts) c
by_number t [] c h e = cc
by_number t (n ∷ []) c h e = cc
by_number t (n ∷ d ∷ rest) c h e =
    let f =
    if_some (is_number n.kind && is_mark (codes ":") d)
    (option_map (λ k. (k, rest)) (number_of n.text)) c e in
    let g = both_true (is_number n.kind) (is_mark (codes ":") d) f.0 in
    let m = mapped (λ (k : ℕ). (k, rest)) (number_of n.text) c f.1 in
    subst (Spelled (t ∷ n ∷ d ∷ rest)) m.2 (a_cost t n d m.0 rest h g.0 m.1 g.1)

by_mark : (t : Token) (ts : List Token) (c : ℕ × List Token) (b : Bool)
    → is_mark (codes ":") t ≡ b
    → (if b then Some (1, ts) else if is_word (codes "cost") t then number_at ts else None) ≡ Some c
    → Spelled (t ∷ ts) c
by_mark t ts c true h e =
    let d : ℕ × List Token = (1, ts) in
    let same : d ≡ c = cc in
    subst (Spelled (t ∷ ts)) same (no_cost t ts h)
by_mark t ts c false h e =
    let f = if_some (is_word (codes "cost") t) (number_at ts) c e in
    by_number t ts c f.0 f.1

cost_spelled : (ts : List Token) (c : ℕ × List Token) → cost_at ts ≡ Some c → Spelled ts c
cost_spelled [] c e = cc
cost_spelled (t ∷ ts) c e = by_mark t ts c (is_mark (codes ":") t) refl e

plain_no_sign : (k : Kind) (a b : Bool) → (is_plain k && a) ≡ true → (is_sign k && b) ≡ false
plain_no_sign kind.Name a b h = refl
plain_no_sign kind.Reserved a b h = cc
plain_no_sign kind.Number a b h = cc
plain_no_sign kind.Text a b h = cc
plain_no_sign kind.Mark a b h = cc
plain_no_sign kind.Meta a b h = cc

cost_read : (ts : List Token) (n : ℕ) (rest : List Token) → SpellsCost ts n rest
    → cost_at ts ≡ Some (n, rest)
cost_read _ _ _ (no_cost colon rest h) =
    if_true (is_mark (codes ":") colon) (Some (1, rest))
    (if is_word (codes "cost") colon then number_at rest else None) h
cost_read _ _ _ (a_cost cost number colon n rest h k v m) =
    let ts = number ∷ colon ∷ rest in
    if_false (is_mark (codes ":") cost) (Some (1, ts))
    (if is_word (codes "cost") cost then number_at ts else None)
    (plain_no_sign cost.kind (same_bytes cost.text (codes "cost"))
    (same_bytes cost.text (codes ":")) h)
    ∙ if_true (is_word (codes "cost") cost) (number_at ts) None h
    ∙ if_true (is_number number.kind && is_mark (codes ":") colon)
    (option_map (λ j. (j, rest)) (number_of number.text)) None
    (and_true (is_number number.kind) (is_mark (codes ":") colon) k m)
    ∙ ap (option_map (λ j. (j, rest))) v

-- tokens that begin with a head
pub record Begins (ts : List Token) (h : Headed) : Type 0 where
  pub front : List Token
  pub whole : ts ≡ front ++ h.sides
  pub spells : SpellsHead front h.name h.cost

begins_with : (r x : Token) (ts : List Token) (n : ℕ) (rest : List Token)
    → is_word (codes "rule") r ≡ true → is_name x.kind ≡ true → SpellsCost ts n rest
    → Begins (r ∷ x ∷ ts) (record { name = x.text; cost = n; sides = rest })
begins_with r x _ _ _ hr hx (no_cost colon rest h) =
    record {
      front = r ∷ x ∷ colon ∷ [];
      whole = refl;
      spells = without_cost r x colon hr hx h;
    }
begins_with r x _ _ _ hr hx (a_cost cost number colon n rest h k v m) =
    record {
      front = r ∷ x ∷ cost ∷ number ∷ colon ∷ [];
      whole = refl;
      spells = with_cost r x cost number colon n hr hx h k v m;
    }

pub head_spelled : (ts : List Token) (h : Headed) → head_of ts ≡ Some h → Begins ts h
head_spelled [] h e = cc
head_spelled (r ∷ []) h e = cc
head_spelled (r ∷ x ∷ ts) h e =
    let f =
    if_some (is_word (codes "rule") r && is_name x.kind) (option_map (headed x.text) (cost_at ts)) h
    e in
    let g = both_true (is_word (codes "rule") r) (is_name x.kind) f.0 in
    let m = mapped (headed x.text) (cost_at ts) h f.1 in
    subst (Begins (r ∷ x ∷ ts)) m.2
    (begins_with r x ts m.0.0 m.0.1 g.0 g.1 (cost_spelled ts m.0 m.1))

pub head_read : (front : List Token) (name : List ℕ) (cost : ℕ) (rest : List Token)
    → SpellsHead front name cost
    → head_of (front ++ rest) ≡ Some (record { name = name; cost = cost; sides = rest })
head_read _ _ _ rest (with_cost rule name cost number colon n hr hx h k v m) =
    let ts = cost ∷ number ∷ colon ∷ rest in
    if_true (is_word (codes "rule") rule && is_name name.kind)
    (option_map (headed name.text) (cost_at ts)) None
    (and_true (is_word (codes "rule") rule) (is_name name.kind) hr hx)
    ∙ ap (option_map (headed name.text))
    (cost_read ts n rest (a_cost cost number colon n rest h k v m))
head_read _ _ _ rest (without_cost rule name colon hr hx h) =
    let ts = colon ∷ rest in
    if_true (is_word (codes "rule") rule && is_name name.kind)
    (option_map (headed name.text) (cost_at ts)) None
    (and_true (is_word (codes "rule") rule) (is_name name.kind) hr hx)
    ∙ ap (option_map (headed name.text)) (cost_read ts 1 rest (no_cost colon rest h))
