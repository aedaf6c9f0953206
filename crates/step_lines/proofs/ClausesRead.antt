-- What the readers of clauses and steps give.
use Rattle.std.proofs.Common.{◌≡◌, ℕ, true, false, not, List, ◌∷◌, ◌++◌, map, codes, refl, sym, ap, ◌∙◌, subst}
use Rattle.std.specs.Fmt.{decimal}
use Rattle.std.specs.List.{list_all}
use Rattle.std.proofs.lemmas.List.{append_cancel_left}
use Rattle.clause_base.specs.Literals.{has_no_variable_twice}
use Rattle.clause_base.specs.declared.clause.Clause.{Clause}
use Rattle.clause_base.specs.declared.lit.Lit.{Lit}
use Rattle.clause_base.specs.declared.log.Step.{Step}
use Rattle.step_lines.specs.Steps.{SpellsStep}
use Rattle.step_lines.specs.Limits.{is_hint, is_literal}
use Rattle.step_lines.specs.LineForms.{list_end, literal_text, literals_text}
use Rattle.step_lines.specs.Lines.{spaced}
use Rattle.step_lines.specs.Words.{SpellsHints, SpellsLiterals}
use Rattle.step_lines.proofs.Apart.{clash, cons_tail}
use Rattle.step_lines.proofs.Rows.{same_list, starts_at}
use Rattle.step_lines.proofs.WordKinds.{literal_words, literals_end}

pub record SameLiterals (ls ms : List Lit) (a b : List ℕ) : Type 0 where
  pub literals : ls ≡ ms
  pub behind : a ≡ b

pub one_literals : (vars : ℕ) (text : List ℕ) (ls ms : List Lit) (a b : List ℕ) → SpellsLiterals vars text ls a → SpellsLiterals vars text ms b → SameLiterals ls ms a b
one_literals vars text ls ms a b s t =
    let same = same_list literal_text (is_literal vars) (literal_words vars) ls ms (list_end ++ a) (list_end ++ b) s.kept t.kept (literals_end vars a s.apart) (literals_end vars b t.apart) (sym s.written ∙ t.written) in
    record { literals = same.0; behind = append_cancel_left list_end a b same.1 }

pub twice : (lits : List Lit) (c : Clause) → lits ≡ c.lits → has_no_variable_twice lits ≡ false → ⊥
twice lits c e same = clash (has_no_variable_twice lits) (ap not same) (ap has_no_variable_twice e ∙ c.distinct)

module _ (vars number : ℕ) (line text : List ℕ) (e : line ≡ codes "l" ++ text) where
  hints_of : List ℕ → List ℕ
  hints_of hs = spaced (map decimal hs) ++ list_end

  step_literals : (s : Step) → SpellsStep vars number line s → SpellsLiterals vars text s.clause.lits (hints_of s.hints)
  unfolding hints_of
  step_literals s h = record {
    written = cons_tail 108 108 text (literals_text s.clause.lits ++ (list_end ++ (spaced (map decimal s.hints) ++ list_end))) (sym e ∙ h.written);
    apart = starts_at decimal (is_hint number) s.hints list_end refl;
    kept = h.kept.literals;
  }

  pub step_none : (s : Step) → SpellsStep vars number line s → ((ls : List Lit) (b : List ℕ) → SpellsLiterals vars text ls b → ⊥) → ⊥
  step_none s h none = none s.clause.lits (hints_of s.hints) (step_literals s h)

  module _ (ls : List Lit) (b : List ℕ) (found : SpellsLiterals vars text ls b) where
    same_step_parts : (s : Step) → SpellsStep vars number line s → SameLiterals ls s.clause.lits b (hints_of s.hints)
    same_step_parts s h = one_literals vars text ls s.clause.lits b (hints_of s.hints) found (step_literals s h)

    pub step_no_hints : (s : Step) → SpellsStep vars number line s → ((hs : List ℕ) → SpellsHints number b hs → ⊥) → ⊥
    unfolding hints_of
    step_no_hints s h none = none s.hints (record { written = (same_step_parts s h).behind; kept = h.kept.hints })

    pub step_twice : (s : Step) → SpellsStep vars number line s → has_no_variable_twice ls ≡ false → ⊥
    step_twice s h both_there = twice ls s.clause (same_step_parts s h).literals both_there

    pub step_read : (hs : List ℕ) (c : Clause) → SpellsHints number b hs → c.lits ≡ ls → SpellsStep vars number line (record { clause = c; hints = hs })
    step_read hs c h same = record {
      written =
          e ∙ ap (λ t. 108 ∷ t) (found.written ∙ ap (λ t. literals_text ls ++ (list_end ++ t)) h.written
          ∙ ap (λ t. literals_text t ++ (list_end ++ (spaced (map decimal hs) ++ list_end))) (sym same));
      kept = record {
        literals = subst (λ x. list_all (is_literal vars) x ≡ true) (sym same) found.kept;
        hints = h.kept;
      };
    }
