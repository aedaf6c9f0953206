-- What the readers of words give.
use Rattle.std.proofs.Common.{◌≡◌, ℕ, true, List, ◌++◌, codes, refl, sym, ◌∙◌, arith}
use Rattle.std.specs.Fmt.{decimal}
use Rattle.choice_tree.specs.declared.selection.Choice.{Choice}
use Rattle.step_lines.proofs.Apart.{Same, cons_tail, cut}
use Rattle.step_lines.proofs.Decimals.{colon_is_other, decimal_lacks, number_one}
use Rattle.step_lines.specs.Lines.{lacks}
use Rattle.step_lines.specs.Words.{SpellsNumber, is_at}
use Rattle.cert_text.specs.Words.{SpellsChoice}
use Rattle.cert_text.proofs.WordKinds.{choice_limits}

module _ (word piece rest : List ℕ) (joined : word ≡ piece ++ rest) (apart : lacks 58 piece ≡ true) (at : is_at 58 rest ≡ true) (x : Choice) (s : SpellsChoice word x) where
  parts : Same piece (decimal x.pick) rest (codes ":" ++ decimal x.member)
  parts =
      cut 58 piece (decimal x.pick) rest (codes ":" ++ decimal x.member) apart
      (decimal_lacks 58 x.pick colon_is_other (choice_limits x s.kept).pick) at refl (sym joined ∙ s.written)

  pub no_pick : ((n : ℕ) → SpellsNumber piece n → ⊥) → ⊥
  no_pick none = none x.pick (record { written = parts.front; kept = (choice_limits x s.kept).pick })

  pub no_colon : ((r : List ℕ) → rest ≡ codes ":" ++ r → ⊥) → ⊥
  no_colon none = none (decimal x.member) parts.back

  pub member_is : (digits : List ℕ) → rest ≡ codes ":" ++ digits → SpellsNumber digits x.member
  member_is digits e = record {
    written = cons_tail 58 58 digits (decimal x.member) (sym e ∙ parts.back);
    kept = (choice_limits x s.kept).member;
  }

  pub no_member : (digits : List ℕ) → rest ≡ codes ":" ++ digits → ((n : ℕ) → SpellsNumber digits n → ⊥) → ⊥
  no_member digits e none = none x.member (member_is digits e)

  pub no_base : (digits : List ℕ) (n : ℕ) → rest ≡ codes ":" ++ digits → SpellsNumber digits n → n ≡ 0 → ⊥
  no_base digits n e h z =
      let same = number_one digits n x.member h (member_is digits e) in
      omega (arith, (choice_limits x s.kept).some)
