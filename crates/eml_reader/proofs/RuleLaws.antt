-- What a line is read as is what it spells.
use Rattle.std.proofs.Common.{◌≡◌, ℕ, true, ◌&&◌, List, [], ◌∷◌, ◌++◌, Option, Some}
use Rattle.std.proofs.Common.{None}
use Rattle.std.proofs.Common.{refl, sym, ap, subst, ◌∙◌, codes}
use Rattle.mpy_lexer.specs.declared.token.Token.{Token}
use Rattle.mpy_lexer.specs.declared.line.Line.{Line}
use Rattle.mpy_lexer.specs.TextLiterals.{literal_characters}
use Rattle.choice_tree.specs.declared.rules.Place.{Place}
use Rattle.choice_tree.specs.Templates.{Correction, Template}
use Rattle.eml_sides.specs.SideReading.{left_of, right_of}
use Rattle.eml_sides.proofs.SidesRead.{left_spelled, left_read, right_spelled, right_read}
use Rattle.eml_reader.specs.RuleLines.{is_text, is_word, SpellsHead, with_cost, without_cost}
use Rattle.eml_reader.specs.RuleLines.{SpellsMessage, SpellsRule}
use Rattle.eml_reader.specs.RuleReading.{at_arrow, head_of, Headed, message_in, message_of}
use Rattle.eml_reader.specs.RuleReading.{rule_from}
use Rattle.eml_reader.specs.RuleReading.{rule_of, rule_of_head, rule_of_sides}
use Rattle.eml_reader.proofs.Arrows.{and_true, arrow_read, both_true, if_some, if_true, parted}
use Rattle.eml_reader.proofs.HeadLaws.{head_read, head_spelled}

abbrev Side : Type 0
Side = Place × Template

abbrev rule_made : ℕ → Headed → Side → Side → Correction
rule_made line h a b =
    record {
      line = line;
      name = h.name;
      cost = h.cost;
      place = a.0;
      left = a.1;
      right_place = b.0;
      right = b.1;
      say = None;
    }

of_head : (line : ℕ) (o : Option Headed) (r : Correction) → rule_of_head line o ≡ Some r
    → (h : Headed) × (o ≡ Some h) × (rule_of_sides line h (at_arrow h.sides) ≡ Some r)
of_head line None r e = cc
of_head line (Some h) r e = (h, refl, e)

of_sides : (line : ℕ) (h : Headed) (o : Option (List Token × List Token)) (r : Correction)
    → rule_of_sides line h o ≡ Some r
    → (p : List Token × List Token) × (o ≡ Some p)
    × (rule_from line h (left_of p.0) (right_of p.1) ≡ Some r)
of_sides line h None r e = cc
of_sides line h (Some p) r e = (p, refl, e)

of_both : (line : ℕ) (h : Headed) (a b : Option Side) (r : Correction)
    → rule_from line h a b ≡ Some r
    → (x : Side) × (y : Side) × (a ≡ Some x) × (b ≡ Some y) × (rule_made line h x y ≡ r)
of_both line h None b r e = cc
of_both line h (Some x) None r e = cc
of_both line h (Some x) (Some y) r e = (x, y, refl, refl, cc)

pub rule_spelled : (l : Line) (r : Correction) → rule_of l ≡ Some r → SpellsRule l r
unfolding rule_of
rule_spelled l r e =
    let h = of_head l.line (head_of l.tokens) r e in
    let p = of_sides l.line h.0 (at_arrow h.0.sides) r h.2 in
    let s = of_both l.line h.0 (left_of p.0.0) (right_of p.0.1) r p.2 in
    let begins = head_spelled l.tokens h.0 h.1 in
    let parts = parted h.0.sides p.0 p.1 in
    subst (SpellsRule l) s.4 (record {
      head = begins.front;
      left = p.0.0;
      arrow = parts.arrow;
      right = p.0.1;
      whole = begins.whole ∙ ap (λ ts. begins.front ++ ts) parts.whole;
      spells_head = begins.spells;
      at_arrow = parts.an_arrow;
      first_arrow = parts.none_before;
      spells_left = left_spelled p.0.0 s.0.0 s.0.1 s.2;
      spells_right = right_spelled p.0.1 s.1.0 s.1.1 s.3;
      line = refl;
      no_message = refl;
    })

pub rule_read : (l : Line) (r : Correction) → SpellsRule l r → rule_of l ≡ Some r
unfolding rule_of
rule_read l r s =
    let sides = s.left ++ s.arrow ∷ s.right in
    let h : Headed = record { name = r.name; cost = r.cost; sides = sides } in
    ap (λ ts. rule_of_head l.line (head_of ts)) s.whole
    ∙ ap (rule_of_head l.line) (head_read s.head r.name r.cost sides s.spells_head)
    ∙ ap (rule_of_sides l.line h) (arrow_read s.left s.arrow s.right s.at_arrow s.first_arrow)
    ∙ ap (λ a. rule_from l.line h a (right_of s.right))
    (left_read s.left r.place r.left s.spells_left)
    ∙ ap (rule_from l.line h (Some (r.place, r.left)))
    (right_read s.right r.right_place r.right s.spells_right)
    ∙ (λ i. Some (record r { line = sym s.line i; say = sym s.no_message i }))

-- messages
in_two : (ts : List Token) (text : List ℕ) → message_in ts ≡ Some text
    → (s : Token) × (t : Token) × (ts ≡ s ∷ t ∷ [])
    × ((is_word (codes "say") s && is_text t.kind) ≡ true) × (literal_characters t.text ≡ Some text)
in_two [] text e = cc
in_two (s ∷ []) text e = cc
in_two (s ∷ t ∷ []) text e =
    let f =
    if_some (is_word (codes "say") s && is_text t.kind) (literal_characters t.text) text e in
    (s, t, refl, f.0, f.1)
in_two (s ∷ t ∷ u ∷ ts) text e = cc

pub message_spelled : (l : Line) (text : List ℕ) → message_of l ≡ Some text → SpellsMessage l text
unfolding message_of
message_spelled l text e =
    let m = in_two l.tokens text e in
    let both = both_true (is_word (codes "say") m.0) (is_text m.1.kind) m.3 in
    record {
      say = m.0;
      literal = m.1;
      whole = m.2;
      a_say = both.0;
      a_text = both.1;
      characters = m.4;
    }

pub message_read : (l : Line) (text : List ℕ) → SpellsMessage l text → message_of l ≡ Some text
unfolding message_of
message_read l text s =
    ap message_in s.whole
    ∙ if_true (is_word (codes "say") s.say && is_text s.literal.kind)
    (literal_characters s.literal.text) None
    (and_true (is_word (codes "say") s.say) (is_text s.literal.kind) s.a_say s.a_text)
    ∙ s.characters

-- a line that spells a rule spells no message
of_three : (head : List Token) (name : List ℕ) (cost : ℕ) (ts : List Token)
    → SpellsHead head name cost → message_in (head ++ ts) ≡ None
of_three _ _ _ ts (with_cost rule name cost number colon n hr hx h k v m) = refl
of_three _ _ _ ts (without_cost rule name colon hr hx h) = refl

pub no_message : (l : Line) (r : Correction) → SpellsRule l r → message_of l ≡ None
unfolding message_of
no_message l r s =
    ap message_in s.whole
    ∙ of_three s.head r.name r.cost (s.left ++ s.arrow ∷ s.right) s.spells_head
