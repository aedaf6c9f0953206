-- Lines before the header, and where there is none.
use Rattle.std.proofs.Common.{◌≡◌, ℕ, ◌+◌, ◌<◌, ◌≤◌, true, false, not, List, [], ◌∷◌, ◌++◌, codes, length, refl, sym, ap, ◌∙◌, subst, arith, append_assoc, length-append}
use Rattle.std.specs.List.{list_all}
use Rattle.std.proofs.lemmas.List.{append-nil}
use Rattle.clause_base.specs.declared.lit.Lit.{Lit}
use Rattle.step_lines.proofs.Apart.{all_append, all_right, both, clash, cons_head, two}
use Rattle.step_lines.proofs.WordKinds.{zero_text}
use Rattle.dimacs_text.specs.CnfFronts.{IsFront, IsHeadStop, IsHeading}
use Rattle.dimacs_text.specs.CnfTexts.{CanGoOn, IsGap, SpellsCnf, SpellsHeader, is_passed}
use Rattle.dimacs_text.specs.TextLines.{lines_of}
use Rattle.dimacs_text.proofs.Cuts.{cut_by, stops}
use Rattle.dimacs_text.proofs.Headers.{header_not_passed}

pub front_none : (text : List ℕ) → IsFront text text 1 []
front_none text = record { cut = refl; counted = refl; few = omega arith }

pub front_more : (text rest next line : List ℕ) (number : ℕ) (lines : List (List ℕ)) → IsFront text rest number lines → lines_of rest ≡ line ∷ lines_of next → length next < length rest → IsFront text next (number + 1) (lines ++ line ∷ [])
front_more text rest next line number lines f e shorter = record {
  cut = f.cut ∙ ap (λ t. lines ++ t) e ∙ sym (append_assoc lines (line ∷ []) (lines_of next));
  counted = let n = length-append lines (line ∷ []) in omega (arith, f.counted, n);
  few = omega (arith, f.few, shorter);
}

pub number_low : (text rest : List ℕ) (number : ℕ) (lines : List (List ℕ)) → IsFront text rest number lines → length text ≤ 1073741824 → number ≤ 1073741825
number_low text rest number lines f low = omega (arith, f.few, low)

-- lines that are passed over
pub record Passes (text rest : List ℕ) (number : ℕ) : Type 0 where
  pub lines : List (List ℕ)
  pub front : IsFront text rest number lines
  pub passed : list_all is_passed lines ≡ true

pub passes_none : (text : List ℕ) → Passes text text 1
passes_none text = record { lines = []; front = front_none text; passed = refl }

pub passes_more : (text rest next line : List ℕ) (number : ℕ) → Passes text rest number → lines_of rest ≡ line ∷ lines_of next → length next < length rest → is_passed line ≡ true → Passes text next (number + 1)
passes_more text rest next line number p e shorter h = record {
  lines = p.lines ++ line ∷ [];
  front = front_more text rest next line number p.lines p.front e shorter;
  passed = all_append is_passed p.lines (line ∷ []) p.passed (two (is_passed line) true h refl);
}

one_blank : IsGap (32 ∷ [])
one_blank = record { some = λ e. cc; blank = refl }

zero_header : SpellsHeader (codes "p cnf 0 0") 0 0
zero_header = record {
  first = 32 ∷ [];
  second = 32 ∷ [];
  third = 32 ∷ [];
  last = [];
  written = sym (ap (λ z. codes "p" ++ (32 ∷ [] ++ (codes "cnf" ++ (32 ∷ [] ++ (z ++ (32 ∷ [] ++ (z ++ []))))))) zero_text);
  first_gap = one_blank;
  second_gap = one_blank;
  third_gap = one_blank;
  last_spaces = refl;
  few_vars = omega arith;
  few_clauses = omega arith;
}

can_head : (lines : List (List ℕ)) → list_all is_passed lines ≡ true → CanGoOn lines
can_head lines h = record {
  more = codes "p cnf 0 0" ∷ [];
  apart = refl;
  vars = 0;
  clauses = [];
  spelled = record {
    before = lines;
    header = codes "p cnf 0 0";
    body = [];
    behind = [];
    written = refl;
    passed = h;
    headed = zero_header;
    inside = refl;
    outside = refl;
    words = refl;
    within = refl;
  };
}

no_header_line : (lines more : List (List ℕ)) (line : List ℕ) → list_all is_passed lines ≡ true → is_passed line ≡ false → ((v c : ℕ) → SpellsHeader line v c → ⊥) → (v : ℕ) (cs : List (List Lit)) → SpellsCnf (lines ++ line ∷ more) v cs → ⊥
no_header_line lines more line h g none v cs s =
    let c = cut_by is_passed lines s.before (line ∷ more) (s.header ∷ (s.body ++ s.behind)) h s.passed (ap not g) (ap not (header_not_passed s.header v (length cs) s.headed)) s.written in
    let same = cons_head line s.header more (s.body ++ s.behind) c.back in
    none v (length cs) (subst (λ l. SpellsHeader l v (length cs)) (sym same) s.headed)

no_header_there : (lines : List (List ℕ)) → list_all is_passed lines ≡ true → (v : ℕ) (cs : List (List Lit)) → SpellsCnf lines v cs → ⊥
no_header_there lines h v cs s =
    let tail = s.header ∷ (s.body ++ s.behind) in
    let all = all_right is_passed s.before tail (subst (λ t. list_all is_passed t ≡ true) s.written h) in
    clash (is_passed s.header) (ap not (header_not_passed s.header v (length cs) s.headed)) (both (is_passed s.header) (list_all is_passed (s.body ++ s.behind)) all).0

-- where a line is neither passed over nor the header
pub bad_line : (text rest next line : List ℕ) (number : ℕ) → Passes text rest number → lines_of rest ≡ line ∷ lines_of next → is_passed line ≡ false → ((v c : ℕ) → SpellsHeader line v c → ⊥) → IsHeadStop text number
bad_line text rest next line number p e g none = record {
  stops = record {
    front = p.lines;
    behind = line ∷ lines_of next;
    cut = whole;
    counted = p.front.counted;
    before = can_head p.lines p.passed;
    here = λ l others same on.
        (let is : l ≡ line = sym (cons_head line l (lines_of next) others same) in
        no_header_line p.lines on.more line p.passed g none on.vars on.clauses
        (subst (λ t. SpellsCnf t on.vars on.clauses) (append_assoc p.lines (l ∷ []) on.more ∙ ap (λ x. p.lines ++ x ∷ on.more) is) on.spelled));
  };
  none = λ v cs s. no_header_line p.lines (lines_of next) line p.passed g none v cs (subst (λ t. SpellsCnf t v cs) whole s);
}
  where
    whole : lines_of text ≡ p.lines ++ line ∷ lines_of next
    whole = p.front.cut ∙ ap (λ t. p.lines ++ t) e

pub no_more_lines : (text rest : List ℕ) (number : ℕ) → Passes text rest number → rest ≡ [] → IsHeadStop text number
no_more_lines text rest number p e = record {
  stops = record {
    front = p.lines;
    behind = [];
    cut = p.front.cut ∙ ap (λ t. p.lines ++ lines_of t) e;
    counted = p.front.counted;
    before = can_head p.lines p.passed;
    here = λ l others same on. absurd (cc);
  };
  none = λ v cs s. no_header_there p.lines p.passed v cs (subst (λ t. SpellsCnf t v cs) (p.front.cut ∙ ap (λ t. p.lines ++ lines_of t) e ∙ append-nil p.lines) s);
}

pub heading_is : (text rest next line : List ℕ) (number v c : ℕ) → Passes text rest number → lines_of rest ≡ line ∷ lines_of next → length next < length rest → SpellsHeader line v c → IsHeading text next (number + 1) v c
heading_is text rest next line number v c p e shorter h = record {
  before = p.lines;
  header = line;
  front = front_more text rest next line number p.lines p.front e shorter;
  passed = p.passed;
  headed = h;
}
