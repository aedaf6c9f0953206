-- Clauses and what is kept of them under truth values.
use Rattle.std.proofs.Common.{if◌then◌else◌, ◌≡◌, Bool, true, false, not, ◌&&◌, ◌||◌, List, [], ◌∷◌, refl, sym, ap, ◌∙◌}
use Rattle.std.specs.Prelude.{filter_map}
use Rattle.clause_base.specs.Literals.{clause_true, literal_true, opposite, value_of}
use Rattle.clause_base.specs.declared.lit.Lit.{Lit}
use Rattle.dimacs_text.specs.CnfLaws.{KeptIsTrue, all_true}
use Rattle.dimacs_text.specs.Tidy.{has_both, once_onto, stands, tidied}
use Rattle.dimacs_text.proofs.Tidying.{any_once, any_there, or_left, or_right}

opposite_true : (values : List Bool) (l : Lit) → literal_true values l ≡ false → literal_true values (opposite l) ≡ true
opposite_true values l h = by_sign l.positive (value_of values l.var) h
  where
    by_sign : (p x : Bool) → (if p then x else not x) ≡ false → (if not p then x else not x) ≡ true
    by_sign true true h = absurd (cc)
    by_sign true false h = refl
    by_sign false true h = refl
    by_sign false false h = absurd (cc)

-- a clause with a variable in both signs is true
both_true : (values : List Bool) (ls : List Lit) → has_both ls ≡ true → clause_true values ls ≡ true
both_true values [] h = absurd (cc)
both_true values (l ∷ ls) h = by_test (stands (opposite l) ls) (literal_true values l) refl refl (λ e. both_true values ls (sym (ap (λ b. b || has_both ls) e) ∙ h))
  where
    by_test : (b t : Bool) → stands (opposite l) ls ≡ b → literal_true values l ≡ t → (stands (opposite l) ls ≡ false → clause_true values ls ≡ true) → clause_true values (l ∷ ls) ≡ true
    by_test b true e f rest = or_left (literal_true values l) (clause_true values ls) f
    by_test true false e f rest = or_right (literal_true values l) (clause_true values ls) (any_there (literal_true values) (opposite l) ls e (opposite_true values l f))
    by_test false false e f rest = or_right (literal_true values l) (clause_true values ls) (rest e)

abbrev kept_by : Bool → List Lit → List (List Lit) → List (List Lit)
kept_by b c rest = if b then rest else once_onto [] c ∷ rest

kept_first : (c : List Lit) (cs : List (List Lit)) (b : Bool) → has_both c ≡ b → filter_map tidied (c ∷ cs) ≡ kept_by b c (filter_map tidied cs)
kept_first c cs true e = rw e refl
kept_first c cs false e = rw e refl

kept_clause : (values : List Bool) (c : List Lit) (rest : List (List Lit)) (b : Bool) → has_both c ≡ b → all_true values (kept_by b c rest) ≡ (clause_true values c && all_true values rest)
kept_clause values c rest true e = sym (ap (λ t. t && all_true values rest) (both_true values c e))
kept_clause values c rest false e = ap (λ t. t && all_true values rest) (any_once (literal_true values) [] c)

pub kept_true : KeptIsTrue
kept_true values [] = refl
kept_true values (c ∷ cs) =
    ap (all_true values) (kept_first c cs (has_both c) refl) ∙ kept_clause values c (filter_map tidied cs) (has_both c) refl
    ∙ ap (λ t. clause_true values c && t) (kept_true values cs)
