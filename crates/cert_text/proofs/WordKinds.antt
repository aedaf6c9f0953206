-- The words of selections, of clauses and of hints.
use Rattle.std.proofs.Common.{◌≡◌, ℕ, ◌≤◌, ◌<◌, true, not, ◌&&◌, ◌==◌, ◌++◌, codes, refl, arith, nat_lt}
use Rattle.std.specs.Fmt.{decimal}
use Rattle.choice_tree.specs.declared.selection.Choice.{Choice}
use Rattle.step_lines.proofs.Apart.{all_append, both, cons_tail, cut, two}
use Rattle.step_lines.proofs.Decimals.{IsOther, colon_is_other, decimal_lacks, decimal_one, space_is_other}
use Rattle.step_lines.proofs.Rows.{IsWord}
use Rattle.step_lines.specs.Limits.{greatest_number, is_number}
use Rattle.step_lines.specs.Lines.{lacks}
use Rattle.step_lines.proofs.WordKinds.{above, number_low}
use Rattle.cert_text.specs.Limits.{is_choice}
use Rattle.cert_text.specs.LineForms.{choice_text}
use Rattle.cert_text.proofs.Values.{same_choice}

pub record ChoiceLimits (c : Choice) : Type 0 where
  pub pick : c.pick ≤ greatest_number
  pub some : 0 < c.member
  pub member : c.member ≤ greatest_number

pub choice_limits : (c : Choice) → is_choice c ≡ true → ChoiceLimits c
choice_limits c h =
    let a = both (is_number c.pick) (nat_lt 0 c.member && is_number c.member) h in
    let b = both (nat_lt 0 c.member) (is_number c.member) a.1 in
    record { pick = number_low c.pick a.0; some = above c.member b.0; member = number_low c.member b.1 }

pub choice_is : (c : Choice) → c.pick ≤ greatest_number → 0 < c.member → c.member ≤ greatest_number → is_choice c ≡ true
choice_is c p s m = grind arith

-- selections

pub choice_parts : (c d : Choice) → is_choice c ≡ true → is_choice d ≡ true → choice_text c ≡ choice_text d → c ≡ d
choice_parts c d h g e =
    let a = choice_limits c h in
    let b = choice_limits d g in
    let s = cut 58 (decimal c.pick) (decimal d.pick) (codes ":" ++ decimal c.member) (codes ":" ++ decimal d.member)
    (decimal_lacks 58 c.pick colon_is_other a.pick) (decimal_lacks 58 d.pick colon_is_other b.pick) refl refl e in
    same_choice c d (decimal_one c.pick d.pick a.pick b.pick s.front)
    (decimal_one c.member d.member a.member b.member (cons_tail 58 58 (decimal c.member) (decimal d.member) s.back))

pub choice_lacks : (b : ℕ) (c : Choice) → IsOther b → not (58 == b) ≡ true → is_choice c ≡ true → lacks b (choice_text c) ≡ true
choice_lacks b c other colon h =
    let a = choice_limits c h in
    all_append (λ x. not (x == b)) (decimal c.pick) (codes ":" ++ decimal c.member)
    (decimal_lacks b c.pick other a.pick)
    (two (not (58 == b)) (lacks b (decimal c.member)) colon (decimal_lacks b c.member other a.member))

pub choice_words : IsWord choice_text is_choice
choice_words = record {
  apart = λ c h. choice_lacks 32 c space_is_other refl h;
  one = choice_parts;
}
