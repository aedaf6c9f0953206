-- What literals, ends and words add to a draft.
use Rattle.std.proofs.Common.{◌≡◌, ℕ, ◌+◌, ◌<◌, true, List, [], ◌∷◌, ◌++◌, map, refl, sym, ap, ◌∙◌, subst, arith, append_assoc, length-append}
use Rattle.std.specs.Prelude.{filter_map}
use Rattle.std.specs.List.{list_all}
use Rattle.std.proofs.lemmas.List.{append-nil, map-append}
use Rattle.std.proofs.lemmas.Grind.{flat_map-append}
use Rattle.std.proofs.lemmas.List.Elements.{filter_map-append}
use Rattle.clause_base.specs.Formulas.{in_range}
use Rattle.clause_base.specs.declared.lit.Lit.{Lit}
use Rattle.step_lines.specs.LineForms.{literal_text}
use Rattle.step_lines.proofs.Apart.{all_append, two}
use Rattle.dimacs_text.specs.declared.draft.Draft.{Draft}
use Rattle.dimacs_text.specs.CnfDrafts.{Grows, IsDraft, IsStuck, IsStuckIn}
use Rattle.dimacs_text.specs.CnfTexts.{are_within, clause_words, clauses_words, zero_word}
use Rattle.dimacs_text.specs.Tidy.{literals_of, tidied}
use Rattle.dimacs_text.specs.TextLines.{words_of}

pub no_draft : (d : Draft) → d.done ≡ 0 → d.clauses ≡ [] → d.pending ≡ [] → IsDraft [] d
no_draft d done clauses pending = record {
  whole = [];
  written = ap (map literal_text) (sym pending);
  within = refl;
  counted = done;
  kept = ap literals_of clauses;
  room = λ some. absurd (some pending);
}

-- what a draft is after a literal
pub record Added (d : Draft) (l : Lit) (e : Draft) : Type 0 where
  pub vars : e.vars ≡ d.vars
  pub count : e.count ≡ d.count
  pub done : e.done ≡ d.done
  pub clauses : e.clauses ≡ d.clauses
  pub pending : e.pending ≡ d.pending ++ l ∷ []

pub literal_grows : (d e : Draft) (l : Lit) → Added d l e → d.done < d.count → Grows d (literal_text l ∷ []) e
literal_grows d e l a more = record { vars = a.vars; count = a.count; grown = grown }
  where
    grown : (words : List (List ℕ)) → IsDraft words d → IsDraft (words ++ literal_text l ∷ []) e
    grown words h = record {
      whole = h.whole;
      written = ap (λ t. t ++ literal_text l ∷ []) h.written ∙ append_assoc (clauses_words h.whole) (map literal_text d.pending) (literal_text l ∷ [])
          ∙ ap (λ t. clauses_words h.whole ++ t) (sym (map-append literal_text d.pending (l ∷ [])))
          ∙ ap (λ t. clauses_words h.whole ++ map literal_text t) (sym a.pending);
      within = subst (λ v. are_within v h.whole ≡ true) (sym a.vars) h.within;
      counted = a.done ∙ h.counted;
      kept = ap literals_of a.clauses ∙ h.kept;
      room = λ some. omega (arith, a.done, a.count, more);
    }

-- what it is after the end of a clause
pub record Ended (d e : Draft) : Type 0 where
  pub vars : e.vars ≡ d.vars
  pub count : e.count ≡ d.count
  pub done : e.done ≡ d.done + 1
  pub pending : e.pending ≡ []
  pub kept : literals_of e.clauses ≡ literals_of d.clauses ++ filter_map tidied (d.pending ∷ [])

pub end_grows : (d e : Draft) → Ended d e → Grows d (zero_word ∷ []) e
end_grows d e a = record { vars = a.vars; count = a.count; grown = grown }
  where
    last_words : (whole : List (List Lit)) (lits : List Lit) → (clauses_words whole ++ map literal_text lits) ++ zero_word ∷ [] ≡ clauses_words (whole ++ lits ∷ [])
    last_words whole lits =
        append_assoc (clauses_words whole) (map literal_text lits) (zero_word ∷ [])
        ∙ ap (λ t. clauses_words whole ++ t) (sym (append-nil (clause_words lits)))
        ∙ sym (flat_map-append clause_words whole (lits ∷ []))

    grown : (words : List (List ℕ)) → IsDraft words d → IsDraft (words ++ zero_word ∷ []) e
    grown words h = record {
      whole = h.whole ++ d.pending ∷ [];
      written = ap (λ t. t ++ zero_word ∷ []) h.written ∙ last_words h.whole d.pending ∙ sym (append-nil (clauses_words (h.whole ++ d.pending ∷ [])))
          ∙ ap (λ t. clauses_words (h.whole ++ d.pending ∷ []) ++ map literal_text t) (sym a.pending);
      within = subst (λ v. are_within v (h.whole ++ d.pending ∷ []) ≡ true) (sym a.vars)
          (all_append (λ (ls : List Lit). list_all (in_range d.vars) ls) h.whole (d.pending ∷ []) h.within (two (list_all (in_range d.vars) d.pending) true d.pending_in_range refl));
      counted = let n = length-append h.whole (d.pending ∷ []) in omega (arith, a.done, h.counted, n);
      kept = a.kept ∙ ap (λ t. t ++ filter_map tidied (d.pending ∷ [])) h.kept ∙ sym (filter_map-append tidied h.whole (d.pending ∷ []));
      room = λ some. absurd (some a.pending);
    }

-- words in turn

pub grows_none : (d : Draft) → Grows d [] d
grows_none d = record {
  vars = refl;
  count = refl;
  grown = λ words h. subst (λ ws. IsDraft ws d) (sym (append-nil words)) h;
}

pub grows_more : (d e f : Draft) (ws vs : List (List ℕ)) → Grows d ws e → Grows e vs f → Grows d (ws ++ vs) f
grows_more d e f ws vs p q = record {
  vars = q.vars ∙ p.vars;
  count = q.count ∙ p.count;
  grown = λ words h. subst (λ t. IsDraft t f) (append_assoc words ws vs) (q.grown (words ++ ws) (p.grown words h));
}

-- what was read of the words of a line
pub record Worded (start : Draft) (line rest : List ℕ) (d : Draft) : Type 0 where
  pub words : List (List ℕ)
  pub cut : words_of line ≡ words ++ words_of rest
  pub grows : Grows start words d

pub worded_none : (d : Draft) (line : List ℕ) → Worded d line line d
worded_none d line = record { words = []; cut = refl; grows = grows_none d }

module _ (start : Draft) (line rest : List ℕ) (d : Draft) (h : Worded start line rest d) where
  pub worded_all : words_of rest ≡ [] → Grows start (words_of line) d
  worded_all e = subst (λ ws. Grows start ws d) (sym (h.cut ∙ ap (λ t. h.words ++ t) e ∙ append-nil h.words)) h.grows

  module _ (word next : List ℕ) (e : words_of rest ≡ word ∷ words_of next) where
    cut_more : words_of line ≡ h.words ++ word ∷ words_of next
    cut_more = h.cut ∙ ap (λ t. h.words ++ t) e

    pub worded_more : (last : Draft) → Grows d (word ∷ []) last → Worded start line next last
    worded_more last g = record {
      words = h.words ++ word ∷ [];
      cut = cut_more ∙ sym (append_assoc h.words (word ∷ []) (words_of next));
      grows = grows_more start d last h.words (word ∷ []) h.grows g;
    }

    pub worded_stuck : IsStuck d word → IsStuckIn start (words_of line)
    worded_stuck s = record { front = h.words; word = word; back = words_of next; cut = cut_more; last = d; grows = h.grows; stuck = s }
