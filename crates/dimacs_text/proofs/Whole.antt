-- What was read of a text, where the reading stops, and what stands at its end.
use Rattle.std.proofs.Common.{◌≡◌, ℕ, zero, suc, ◌+◌, ◌-◌, ◌<◌, ◌≤◌, true, not, List, [], ◌∷◌, ◌++◌, length, Result, Err, refl, sym, ap, ◌∙◌, subst, arith, append_assoc}
use Rattle.std.specs.Prelude.{flat_map}
use Rattle.std.specs.List.{list_all}
use Rattle.std.proofs.lemmas.Grind.{flat_map-append}
use Rattle.std.proofs.lemmas.List.{append-nil}
use Rattle.clause_base.specs.declared.formula.Formula.{Formula}
use Rattle.clause_base.specs.declared.lit.Lit.{Lit}
use Rattle.step_lines.specs.Lines.{lacks}
use Rattle.step_lines.proofs.Apart.{all_append, both, clash, cons_head, cons_tail, two}
use Rattle.dimacs_text.specs.declared.draft.Draft.{Draft}
use Rattle.dimacs_text.specs.declared.error.CnfError.{CnfError}
use Rattle.dimacs_text.specs.declared.error.CnfError.TheVariants as cnf_error
use Rattle.dimacs_text.specs.CnfDrafts.{Grows, IsDraft, IsFinished, IsStuckIn, IsUnfinished}
use Rattle.dimacs_text.specs.CnfFronts.{IsFront, IsHeading}
use Rattle.dimacs_text.specs.CnfTexts.{CanGoOn, SpellsCnf, SpellsHeader, StopsAt, are_within, body_words, clauses_words, is_inside, is_passed, most_vars, starts_outside, zero_word}
use Rattle.dimacs_text.specs.TextLines.{begins, lines_of}
use Rattle.dimacs_text.specs.Tidy.{IsCnfOf, literals_of}
use Rattle.dimacs_text.proofs.Bodies.{completed, none_pending, stuck_word, unfinished, zero_words}
use Rattle.dimacs_text.proofs.Cuts.{cut_by, stops}
use Rattle.dimacs_text.proofs.Heads.{front_more}
use Rattle.dimacs_text.proofs.Headers.{header_not_passed, header_one}

-- what was read: the lines up to the header, and those behind it
pub record Reads (text rest : List ℕ) (number : ℕ) (d : Draft) : Type 0 where
  pub before : List (List ℕ)
  pub header : List ℕ
  pub body : List (List ℕ)
  pub front : IsFront text rest number (before ++ header ∷ body)
  pub passed : list_all is_passed before ≡ true
  pub headed : SpellsHeader header d.vars d.count
  pub inside : list_all is_inside body ≡ true
  pub words : IsDraft (flat_map body_words body) d

pub reads_none : (text rest : List ℕ) (number v c : ℕ) (d : Draft) → IsHeading text rest number v c → d.vars ≡ v → d.count ≡ c → IsDraft [] d → Reads text rest number d
reads_none text rest number v c d h e f none = record {
  before = h.before;
  header = h.header;
  body = [];
  front = h.front;
  passed = h.passed;
  headed = subst (λ x. SpellsHeader h.header x d.count) (sym e) (subst (λ x. SpellsHeader h.header v x) (sym f) h.headed);
  inside = refl;
  words = none;
}

pub reads_more : (text rest next line : List ℕ) (number : ℕ) (d e : Draft) → Reads text rest number d → lines_of rest ≡ line ∷ lines_of next → length next < length rest → is_inside line ≡ true → Grows d (body_words line) e → Reads text next (number + 1) e
reads_more text rest next line number d e r cut shorter in_body g = record {
  before = r.before;
  header = r.header;
  body = r.body ++ line ∷ [];
  front = subst (IsFront text next (number + 1)) (append_assoc r.before (r.header ∷ r.body) (line ∷ [])) (front_more text rest next line number (r.before ++ r.header ∷ r.body) r.front cut shorter);
  passed = r.passed;
  headed = subst (λ x. SpellsHeader r.header x e.count) (sym g.vars) (subst (λ x. SpellsHeader r.header d.vars x) (sym g.count) r.headed);
  inside = all_append is_inside r.body (line ∷ []) r.inside (two (is_inside line) true in_body refl);
  words = subst (λ t. IsDraft t e) (sym (flat_map-append body_words r.body (line ∷ []) ∙ ap (λ t. flat_map body_words r.body ++ t) (append-nil (body_words line)))) (g.grown (flat_map body_words r.body) r.words);
}

-- lines of the form behind a header that is known
pub record BodyOf (tail : List (List ℕ)) (vars count : ℕ) (clauses : List (List Lit)) : Type 0 where
  pub body : List (List ℕ)
  pub behind : List (List ℕ)
  pub written : tail ≡ body ++ behind
  pub inside : list_all is_inside body ≡ true
  pub outside : starts_outside behind ≡ true
  pub words : flat_map body_words body ≡ clauses_words clauses
  pub within : are_within vars clauses ≡ true
  pub counted : count ≡ length clauses

pub body_of : (before : List (List ℕ)) (header : List ℕ) (tail : List (List ℕ)) (v c w : ℕ) (cs : List (List Lit)) → list_all is_passed before ≡ true → SpellsHeader header v c → SpellsCnf (before ++ header ∷ tail) w cs → BodyOf tail v c cs
body_of before header tail v c w cs h g s =
    let cut = cut_by is_passed before s.before (header ∷ tail) (s.header ∷ (s.body ++ s.behind)) h s.passed (ap not (header_not_passed header v c g)) (ap not (header_not_passed s.header w (length cs) s.headed)) s.written in
    let same = cons_head header s.header tail (s.body ++ s.behind) cut.back in
    let one = header_one header v c w (length cs) g (subst (λ l. SpellsHeader l w (length cs)) (sym same) s.headed) in
    record {
      body = s.body;
      behind = s.behind;
      written = cons_tail header s.header tail (s.body ++ s.behind) cut.back;
      inside = s.inside;
      outside = s.outside;
      words = s.words;
      within = subst (λ x. are_within x cs ≡ true) (sym one.vars) s.within;
      counted = one.count;
    }

pub outside_stops : (lines : List (List ℕ)) → starts_outside lines ≡ true → stops is_inside lines ≡ true
outside_stops [] h = refl
outside_stops (l ∷ ls) h = ap (λ b. not (not b)) h

-- the lines behind the header that were read are all that there are, where the others stop
pub all_of_body : (body rest : List (List ℕ)) (v c : ℕ) (cs : List (List Lit)) → list_all is_inside body ≡ true → stops is_inside rest ≡ true → BodyOf (body ++ rest) v c cs → flat_map body_words body ≡ clauses_words cs
all_of_body body rest v c cs h stop b =
    let cut = cut_by is_inside body b.body rest b.behind h b.inside stop (outside_stops b.behind b.outside) b.written in
    ap (flat_map body_words) cut.front ∙ b.words

-- one line more
pub record Longer (xs ys : List (List ℕ)) (line : List ℕ) : Type 0 where
  pub more : List (List ℕ)
  pub list : ys ≡ xs ++ line ∷ more

longer : (xs ys more zs : List (List ℕ)) (line : List ℕ) → list_all is_inside xs ≡ true → is_inside line ≡ true → starts_outside zs ≡ true → xs ++ line ∷ more ≡ ys ++ zs → Longer xs ys line
longer [] [] more zs line h g o e = absurd (clash (begins 37 line) g (subst (λ t. starts_outside t ≡ true) (sym e) o))
longer [] (y ∷ ys) more zs line h g o e = record { more = ys; list = ap (λ x. x ∷ ys) (sym (cons_head line y more (ys ++ zs) e)) }
longer (x ∷ xs) [] more zs line h g o e = absurd (clash (begins 37 x) (both (is_inside x) (list_all is_inside xs) h).0 (subst (λ t. starts_outside t ≡ true) (sym e) o))
longer (x ∷ xs) (y ∷ ys) more zs line h g o e =
    let r = longer xs ys more zs line (both (is_inside x) (list_all is_inside xs) h).1 g o (cons_tail x y (xs ++ line ∷ more) (ys ++ zs) e) in
    record { more = r.more; list = ap (λ t. t ∷ ys) (sym (cons_head x y (xs ++ line ∷ more) (ys ++ zs) e)) ∙ ap (λ t. x ∷ t) r.list }

-- a line with a word that can't come next
stuck_line : (body more : List (List ℕ)) (line : List ℕ) (d : Draft) (cs : List (List Lit)) → list_all is_inside body ≡ true → is_inside line ≡ true → IsDraft (flat_map body_words body) d → d.vars ≤ most_vars → IsStuckIn d (body_words line) → BodyOf (body ++ line ∷ more) d.vars d.count cs → ⊥
stuck_line body more line d cs h g draft low s b =
    let l = longer body b.body more b.behind line h g b.outside b.written in
    let tail = flat_map body_words l.more in
    let whole = flat_map body_words body in
    let split : flat_map body_words (line ∷ l.more) ≡ s.front ++ (s.word ∷ (s.back ++ tail)) = ap (λ t. t ++ tail) s.cut ∙ append_assoc s.front (s.word ∷ s.back) tail in
    let words : (whole ++ s.front) ++ (s.word ∷ (s.back ++ tail)) ≡ clauses_words cs =
    append_assoc whole s.front (s.word ∷ (s.back ++ tail)) ∙ ap (λ t. whole ++ t) (sym split) ∙ sym (flat_map-append body_words body (line ∷ l.more)) ∙ ap (flat_map body_words) (sym l.list) ∙ b.words in
    stuck_word (whole ++ s.front) (s.back ++ tail) s.word s.last cs (s.grows.grown whole draft) s.stuck
    (subst (λ x. x ≤ most_vars) (sym s.grows.vars) low) (s.grows.count ∙ b.counted)
    (subst (λ x. are_within x cs ≡ true) (sym s.grows.vars) b.within) words

-- the form can go on behind what was read

words_of_zeros : (k : ℕ) → flat_map body_words (zero_words k) ≡ zero_words k
words_of_zeros zero = refl
words_of_zeros (suc k) = ap (λ t. zero_word ∷ t) (words_of_zeros k)

zeros_inside : (k : ℕ) → list_all is_inside (zero_words k) ≡ true
zeros_inside zero = refl
zeros_inside (suc k) = zeros_inside k

zeros_apart : (k : ℕ) → list_all (lacks 10) (zero_words k) ≡ true
zeros_apart zero = refl
zeros_apart (suc k) = zeros_apart k

pub can_go_on : (text rest : List ℕ) (number : ℕ) (d : Draft) (r : Reads text rest number d) → CanGoOn (r.before ++ r.header ∷ r.body)
can_go_on text rest number d r =
    let low = d.room in
    let k = d.count - d.done in
    let c = completed (flat_map body_words r.body) d r.words k (omega arith) in
    record {
      more = zero_words k;
      apart = zeros_apart k;
      vars = d.vars;
      clauses = c.clauses;
      spelled = record {
        before = r.before;
        header = r.header;
        body = r.body ++ zero_words k;
        behind = [];
        written = append_assoc r.before (r.header ∷ r.body) (zero_words k) ∙ ap (λ t. r.before ++ r.header ∷ t) (sym (append-nil (r.body ++ zero_words k)));
        passed = r.passed;
        headed = subst (SpellsHeader r.header d.vars) (sym c.counted) r.headed;
        inside = all_append is_inside r.body (zero_words k) r.inside (zeros_inside k);
        outside = refl;
        words = flat_map-append body_words r.body (zero_words k) ∙ ap (λ t. flat_map body_words r.body ++ t) (words_of_zeros k) ∙ c.written;
        within = c.within;
      };
    }

-- where the reading stops

module _ (text rest : List ℕ) (number : ℕ) (d : Draft) (r : Reads text rest number d) where
  abbrev front : List (List ℕ)
  front = r.before ++ r.header ∷ r.body

  low : d.vars ≤ most_vars
  low = r.headed.few_vars

  flat : (tail : List (List ℕ)) → front ++ tail ≡ r.before ++ r.header ∷ (r.body ++ tail)
  flat tail = append_assoc r.before (r.header ∷ r.body) tail

  body_behind : (tail : List (List ℕ)) (v : ℕ) (cs : List (List Lit)) → SpellsCnf (front ++ tail) v cs → BodyOf (r.body ++ tail) d.vars d.count cs
  body_behind tail v cs s = body_of r.before r.header (r.body ++ tail) d.vars d.count v cs r.passed r.headed (subst (λ t. SpellsCnf t v cs) (flat tail) s)

  -- no text of the form has the next line behind those that were read
  stops_by : ((line : List ℕ) (others more : List (List ℕ)) → lines_of rest ≡ line ∷ others → (v : ℕ) (cs : List (List Lit)) → SpellsCnf (front ++ line ∷ more) v cs → ⊥) → StopsAt text number
  stops_by none = record {
    front = front;
    behind = lines_of rest;
    cut = r.front.cut;
    counted = r.front.counted;
    before = can_go_on text rest number d r;
    here = λ line others e on. none line others on.more e on.vars on.clauses (subst (λ t. SpellsCnf t on.vars on.clauses) (append_assoc front (line ∷ []) on.more) on.spelled);
  }

  -- a line with a word that can't come next
  module _ (line next : List ℕ) (cut : lines_of rest ≡ line ∷ lines_of next) (inside : is_inside line ≡ true) (s : IsStuckIn d (body_words line)) where
    bad_words : (more : List (List ℕ)) (v : ℕ) (cs : List (List Lit)) → SpellsCnf (front ++ line ∷ more) v cs → ⊥
    bad_words more v cs h = stuck_line r.body more line d cs r.inside inside r.words low s (body_behind (line ∷ more) v cs h)

    pub stuck_stops : StopsAt text number
    stuck_stops = stops_by (λ l others more e v cs h. bad_words more v cs (subst (λ x. SpellsCnf (front ++ x ∷ more) v cs) (sym (cons_head line l (lines_of next) others (sym cut ∙ e))) h))

    pub stuck_none : (v : ℕ) (cs : List (List Lit)) → SpellsCnf (lines_of text) v cs → ⊥
    stuck_none v cs h = bad_words (lines_of next) v cs (subst (λ t. SpellsCnf t v cs) (r.front.cut ∙ ap (λ t. front ++ t) cut) h)

  -- an end before enough clauses
  early_end : (tail : List (List ℕ)) → starts_outside tail ≡ true → IsUnfinished d → (v : ℕ) (cs : List (List Lit)) → SpellsCnf (front ++ tail) v cs → ⊥
  early_end tail out u v cs h =
      let b = body_behind tail v cs h in
      unfinished (flat_map body_words r.body) d cs r.words u low b.counted b.within (all_of_body r.body tail d.vars d.count cs r.inside (outside_stops tail out) b)

  -- the lines that were read are all
  module _ (out : starts_outside (lines_of rest) ≡ true) where
    pub end_stops : IsUnfinished d → StopsAt text number
    end_stops u = stops_by (λ line others more e v cs h. early_end (line ∷ more) (sym (ap starts_outside e) ∙ out) u v cs h)

    pub end_none : IsUnfinished d → (v : ℕ) (cs : List (List Lit)) → SpellsCnf (lines_of text) v cs → ⊥
    end_none u v cs h = early_end (lines_of rest) out u v cs (subst (λ t. SpellsCnf t v cs) r.front.cut h)

    pub end_read : (f : Formula) → IsFinished d f → IsCnfOf text f
    end_read f h = record {
      clauses = r.words.whole;
      spelled = record {
        before = r.before;
        header = r.header;
        body = r.body;
        behind = lines_of rest;
        written = r.front.cut ∙ flat (lines_of rest);
        passed = r.passed;
        headed = subst (λ x. SpellsHeader r.header x (length r.words.whole)) (sym h.vars) (subst (SpellsHeader r.header d.vars) (sym h.enough ∙ r.words.counted) r.headed);
        inside = r.inside;
        outside = out;
        words = none_pending (flat_map body_words r.body) d r.words h.ended;
        within = subst (λ x. are_within x r.words.whole ≡ true) (sym h.vars) r.words.within;
      };
      kept = ap literals_of h.clauses ∙ r.words.kept;
    }

-- the line of an error
pub same_line : (m n : ℕ) → ◌≡◌ {A = Result Formula CnfError} (Err (cnf_error.Line m)) (Err (cnf_error.Line n)) → m ≡ n
same_line m n e = cc
