-- The words of selections, of clauses and of hints.
use Rattle.std.proofs.Common.{◌≡◌, ℕ, ◌≤◌, ◌<◌, ◌^◌, Bool, true, false, not, ◌&&◌, ◌==◌, List, [], ◌∷◌, ◌++◌, refl, sym, ◌∙◌, subst, arith, if◌then◌else◌, nat_le, nat_lt}
use Rattle.std.specs.Fmt.{decimal}
use Rattle.std.specs.Str.Parse.{AllDigits}
use Rattle.std.proofs.lemmas.Fmt.{decimal_digit, decimal_is_IsNumeral}
use Rattle.std.proofs.lemmas.Str.Parse.{digit_from_value}
use Rattle.clause_base.specs.declared.lit.Lit.{Lit}
use Rattle.step_lines.specs.Limits.{greatest_number, is_hint, is_literal, is_number}
use Rattle.step_lines.specs.LineForms.{list_end, literal_text}
use Rattle.step_lines.specs.Lines.{lacks}
use Rattle.step_lines.specs.Words.{is_at}
use Rattle.step_lines.proofs.Apart.{both, cons_tail, cut, two, unlike}
use Rattle.step_lines.proofs.Decimals.{IsOther, decimal_lacks, decimal_one, space_is_other}
use Rattle.step_lines.proofs.Rows.{IsWord, Stops}
use Rattle.step_lines.proofs.Values.{same_literal_value}

-- what the tests of numbers say

pub number_low : (n : ℕ) → is_number n ≡ true → n ≤ greatest_number
number_low n h = grind arith

pub number_is : (n : ℕ) → n ≤ greatest_number → is_number n ≡ true
number_is n h = grind arith

pub above : (n : ℕ) → nat_lt 0 n ≡ true → 0 < n
above n h = grind arith

-- literals

pub record LiteralLimits (vars : ℕ) (l : Lit) : Type 0 where
  pub some : 0 < l.var
  pub within : l.var ≤ vars
  pub number : l.var ≤ greatest_number

pub literal_limits : (vars : ℕ) (l : Lit) → is_literal vars l ≡ true → LiteralLimits vars l
literal_limits vars l h =
    let a = both (nat_lt 0 l.var && nat_le l.var vars) (is_number l.var) h in
    let b = both (nat_lt 0 l.var) (nat_le l.var vars) a.0 in
    record { some = above l.var b.0; within = below l.var vars b.1; number = number_low l.var a.1 }
  where
    below : (m n : ℕ) → nat_le m n ≡ true → m ≤ n
    below m n h = grind arith

pub literal_is : (vars : ℕ) (l : Lit) → 0 < l.var → l.var ≤ vars → l.var ≤ greatest_number → is_literal vars l ≡ true
literal_is vars l s w n = grind arith

abbrev pub sign_text : Bool → ℕ → List ℕ
sign_text p v = if p then decimal v else 45 ∷ decimal v

sign_lacks : (b : ℕ) (p : Bool) (v : ℕ) → IsOther b → not (45 == b) ≡ true → v ≤ greatest_number → lacks b (sign_text p v) ≡ true
sign_lacks b true v other minus h = decimal_lacks b v other h
sign_lacks b false v other minus h = two (not (45 == b)) (lacks b (decimal v)) minus (decimal_lacks b v other h)

pub minus_first : (v : ℕ) (digits : List ℕ) → v ≤ greatest_number → decimal v ≡ 45 ∷ digits → ⊥
minus_first v digits h e =
    let small : v < 2 ^ 64 = omega arith in
    let all = subst (AllDigits 10) e (decimal_is_IsNumeral v small).0.1 in
    omega (arith, digit_from_value 45 all.0)

sign_one : (p q : Bool) (v w : ℕ) → v ≤ greatest_number → w ≤ greatest_number → sign_text p v ≡ sign_text q w → (v ≡ w) × (p ≡ q)
sign_one true true v w h g e = (decimal_one v w h g e, refl)
sign_one true false v w h g e = absurd (minus_first v (decimal w) h e)
sign_one false true v w h g e = absurd (minus_first w (decimal v) g (sym e))
sign_one false false v w h g e = (decimal_one v w h g (cons_tail 45 45 (decimal v) (decimal w) e), refl)

pub literal_lacks : (b vars : ℕ) (l : Lit) → IsOther b → not (45 == b) ≡ true → is_literal vars l ≡ true → lacks b (literal_text l) ≡ true
literal_lacks b vars l other minus h = sign_lacks b l.positive l.var other minus (literal_limits vars l h).number

pub literal_words : (vars : ℕ) → IsWord literal_text (is_literal vars)
literal_words vars = record {
  apart = λ l h. literal_lacks 32 vars l space_is_other refl h;
  one = λ l m h g e.
      (let s = sign_one l.positive m.positive l.var m.var (literal_limits vars l h).number (literal_limits vars m g).number e in
      same_literal_value l m s.0 s.1);
}

pub zero_text : decimal 0 ≡ 48 ∷ []
zero_text = decimal_digit 0 (omega arith)

pub zero_sign : (p : Bool) (v : ℕ) → 0 < v → v ≤ greatest_number → sign_text p v ≡ 48 ∷ [] → ⊥
zero_sign true v s h e = let z : v ≡ 0 = decimal_one v 0 h (omega arith) (e ∙ sym zero_text) in absurd (omega arith)
zero_sign false v s h e = unlike 45 48 (decimal v) [] refl e

-- 0 is no literal and no hint, so it ends their lists

pub zero_word : (word more behind : List ℕ) → lacks 32 word ≡ true → is_at 32 more ≡ true → is_at 32 behind ≡ true → list_end ++ behind ≡ 32 ∷ (word ++ more) → word ≡ 48 ∷ []
zero_word word more behind apart i j e =
    sym (cut 32 (48 ∷ []) word behind more refl apart j i (cons_tail 32 32 (48 ∷ behind) (word ++ more) e)).front

pub literals_end : (vars : ℕ) (behind : List ℕ) → is_at 32 behind ≡ true → Stops literal_text (is_literal vars) (list_end ++ behind)
literals_end vars behind j = record {
  apart = refl;
  none = λ l more h i e.
      (let limits = literal_limits vars l h in
      zero_sign l.positive l.var limits.some limits.number
      (zero_word (literal_text l) more behind ((literal_words vars).apart l h) i j e));
}

-- hints

pub record HintLimits (number h : ℕ) : Type 0 where
  pub some : 0 < h
  pub earlier : h < number
  pub low : h ≤ greatest_number

pub hint_limits : (number h : ℕ) → is_hint number h ≡ true → HintLimits number h
hint_limits number h i =
    let a = both (nat_lt 0 h) (nat_lt h number && is_number h) i in
    let b = both (nat_lt h number) (is_number h) a.1 in
    record { some = above h a.0; earlier = before h number b.0; low = number_low h b.1 }
  where
    before : (m n : ℕ) → nat_lt m n ≡ true → m < n
    before m n h = grind arith

pub hint_is : (number h : ℕ) → 0 < h → h < number → h ≤ greatest_number → is_hint number h ≡ true
hint_is number h s e l = grind arith

pub hint_words : (number : ℕ) → IsWord decimal (is_hint number)
hint_words number = record {
  apart = λ h i. decimal_lacks 32 h space_is_other (hint_limits number h i).low;
  one = λ h g i j e. decimal_one h g (hint_limits number h i).low (hint_limits number g j).low e;
}

pub hints_end : (number : ℕ) → Stops decimal (is_hint number) list_end
hints_end number = record {
  apart = refl;
  none = λ h more g i e.
      (let limits = hint_limits number h g in
      zero_sign true h limits.some limits.low
      (zero_word (decimal h) more [] ((hint_words number).apart h g) i refl e));
}
