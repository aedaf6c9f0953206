-- The line of the two numbers: its parts are known from the whole.
use Rattle.std.proofs.Common.{◌≡◌, ◌≢◌, ℕ, ◌<◌, ◌≤◌, ◌^◌, Bool, true, false, not, ◌==◌, List, [], ◌∷◌, ◌++◌, codes, length, take, drop, refl, sym, ap, ◌∙◌, subst, arith}
use Rattle.std.specs.Fmt.{decimal}
use Rattle.std.specs.List.{list_all, prefix_len}
use Rattle.std.specs.Str.Parse.{AllDigits}
use Rattle.std.proofs.lemmas.Fmt.{decimal_is_IsNumeral}
use Rattle.std.proofs.lemmas.List.{append_cancel_left, take-append-drop}
use Rattle.std.proofs.lemmas.Str.Parse.{digit_from_value}
use Rattle.step_lines.specs.Limits.{greatest_number}
use Rattle.step_lines.specs.Words.{SpellsWithin}
use Rattle.step_lines.proofs.Apart.{both, clash, cons_tail, is_nil, is_not_nil, two}
use Rattle.step_lines.proofs.Decimals.{decimal_one}
use Rattle.dimacs_text.specs.CnfTexts.{IsGap, SpellsHeader, is_passed, most_clauses, most_vars}
use Rattle.dimacs_text.specs.HeaderWords.{IsBehindGap, IsNumberIn, is_behind, is_digit}
use Rattle.dimacs_text.specs.TextLines.{is_blank, is_space}
use Rattle.dimacs_text.proofs.Cuts.{back_stops, cut_by, front_passes, stops}

digit_is : (c : ℕ) → 48 ≤ c → c ≤ 57 → is_digit c ≡ true
digit_is c h g = grind arith

digits_all : (ds : List ℕ) → AllDigits 10 ds → list_all is_digit ds ≡ true
digits_all [] h = refl
digits_all (c ∷ cs) h =
    let r = digit_from_value c h.0 in
    two (is_digit c) (list_all is_digit cs) (digit_is c r.0 r.1) (digits_all cs h.1)

pub decimal_digits : (n : ℕ) → n ≤ 3000000 → list_all is_digit (decimal n) ≡ true
decimal_digits n h = let small : n < 2 ^ 64 = omega arith in digits_all (decimal n) (decimal_is_IsNumeral n small).0.1

not_blank : (c : ℕ) → 48 ≤ c → c ≤ 57 → not (is_blank c) ≡ true
not_blank c h g = grind arith

digits_stop : (ds rest : List ℕ) → 0 < length ds → AllDigits 10 ds → stops is_blank (ds ++ rest) ≡ true
digits_stop [] rest some h = absurd (omega arith)
digits_stop (c ∷ cs) rest some h = let r = digit_from_value c h.0 in not_blank c r.0 r.1

decimal_stops : (n : ℕ) (rest : List ℕ) → n ≤ 3000000 → stops is_blank (decimal n ++ rest) ≡ true
decimal_stops n rest h =
    let small : n < 2 ^ 64 = omega arith in
    let d = (decimal_is_IsNumeral n small).0 in
    digits_stop (decimal n) rest d.0 d.1

blank_no_digit : (c : ℕ) → is_blank c ≡ true → not (is_digit c) ≡ true
blank_no_digit c h = grind arith

space_no_digit : (c : ℕ) → is_space c ≡ true → not (is_digit c) ≡ true
space_no_digit c h = grind arith

gap_stops : (gap rest : List ℕ) → gap ≢ [] → list_all is_blank gap ≡ true → stops is_digit (gap ++ rest) ≡ true
gap_stops [] rest some h = absurd (some refl)
gap_stops (c ∷ gap) rest some h = blank_no_digit c (both (is_blank c) (list_all is_blank gap) h).0

spaces_stop : (rest : List ℕ) → list_all is_space rest ≡ true → stops is_digit rest ≡ true
spaces_stop [] h = refl
spaces_stop (c ∷ rest) h = space_no_digit c (both (is_space c) (list_all is_space rest) h).0

-- the two tests of what stands behind a piece
stops_is : (p : ℕ → Bool) (rest : List ℕ) → is_behind p rest ≡ true → stops p rest ≡ true
stops_is p [] h = refl
stops_is p (c ∷ cs) h = h

behind_is : (p : ℕ → Bool) (rest : List ℕ) → stops p rest ≡ true → is_behind p rest ≡ true
behind_is p [] h = refl
behind_is p (c ∷ cs) h = h

-- what stands behind a gap
behind_one : (text u gap rest : List ℕ) → IsBehindGap text u → IsGap gap → text ≡ gap ++ rest → stops is_blank rest ≡ true → u ≡ rest
behind_one text u gap rest h g e s =
    (cut_by is_blank h.gap gap u rest h.is.blank g.blank (stops_is is_blank u h.whole) s (sym h.joined ∙ e)).back

pub record SameNumber (n m : ℕ) (r s : List ℕ) : Type 0 where
  pub number : n ≡ m
  pub rest : r ≡ s

number_one_in : (most n m : ℕ) (text r s : List ℕ) → most ≤ 3000000 → IsNumberIn most text n r → m ≤ most → text ≡ decimal m ++ s → stops is_digit s ≡ true → SameNumber n m r s
number_one_in most n m text r s low h few e stop =
    let a : n ≤ 3000000 = omega (arith, h.few) in
    let b : m ≤ 3000000 = omega arith in
    let c = cut_by is_digit (decimal n) (decimal m) r s (decimal_digits n a) (decimal_digits m b) (stops_is is_digit r h.whole) stop (sym h.written ∙ e) in
    let x : n ≤ greatest_number = omega arith in
    let y : m ≤ greatest_number = omega arith in
    record { number = decimal_one n m x y c.front; rest = c.back }

module _ (line : List ℕ) (v c : ℕ) (s : SpellsHeader line v c) where
  pub behind_count : List ℕ
  behind_count = decimal c ++ s.last

  pub behind_vars : List ℕ
  behind_vars = s.third ++ (decimal c ++ s.last)

  pub numbers_text : List ℕ
  numbers_text = decimal v ++ (s.third ++ (decimal c ++ s.last))

  pub name_text : List ℕ
  name_text = codes "cnf" ++ (s.second ++ (decimal v ++ (s.third ++ (decimal c ++ s.last))))

  low_vars : v ≤ 3000000
  low_vars = omega (arith, s.few_vars)

  p_is : (t : List ℕ) → line ≡ codes "p" ++ t → t ≡ s.first ++ name_text
  unfolding name_text
  p_is t e = cons_tail 112 112 t (s.first ++ (codes "cnf" ++ (s.second ++ (decimal v ++ (s.third ++ (decimal c ++ s.last)))))) (sym e ∙ s.written)

  pub no_p : ((t : List ℕ) → line ≡ codes "p" ++ t → ⊥) → ⊥
  no_p none = none (s.first ++ (codes "cnf" ++ (s.second ++ (decimal v ++ (s.third ++ (decimal c ++ s.last)))))) s.written

  module _ (t : List ℕ) (e : line ≡ codes "p" ++ t) where
    pub no_first : ((gap rest : List ℕ) → IsGap gap → t ≡ gap ++ rest → ⊥) → ⊥
    no_first none = none s.first name_text s.first_gap (p_is t e)

    module _ (u : List ℕ) (h : IsBehindGap t u) where
      name_is : u ≡ name_text
      unfolding name_text
      name_is = behind_one t u s.first name_text h s.first_gap (p_is t e) refl

      pub no_name : ((r : List ℕ) → u ≡ codes "cnf" ++ r → ⊥) → ⊥
      unfolding name_text
      no_name none = none (s.second ++ (decimal v ++ (s.third ++ (decimal c ++ s.last)))) name_is

      module _ (w : List ℕ) (f : u ≡ codes "cnf" ++ w) where
        second_is : w ≡ s.second ++ numbers_text
        unfolding name_text numbers_text
        second_is = append_cancel_left (codes "cnf") w (s.second ++ (decimal v ++ (s.third ++ (decimal c ++ s.last)))) (sym f ∙ name_is)

        pub no_second : ((gap rest : List ℕ) → IsGap gap → w ≡ gap ++ rest → ⊥) → ⊥
        no_second none = none s.second numbers_text s.second_gap second_is

        module _ (x : List ℕ) (g : IsBehindGap w x) where
          numbers_is : x ≡ decimal v ++ behind_vars
          unfolding numbers_text behind_vars
          numbers_is = behind_one w x s.second numbers_text g s.second_gap second_is (decimal_stops v (s.third ++ (decimal c ++ s.last)) low_vars)

          vars_stop : stops is_digit behind_vars ≡ true
          unfolding behind_vars
          vars_stop = gap_stops s.third (decimal c ++ s.last) s.third_gap.some s.third_gap.blank

          pub no_vars : ((n : ℕ) (rest : List ℕ) → IsNumberIn most_vars x n rest → ⊥) → ⊥
          no_vars none = none v behind_vars (record { written = numbers_is; whole = behind_is is_digit behind_vars vars_stop; few = s.few_vars })

          module _ (n : ℕ) (y : List ℕ) (k : IsNumberIn most_vars x n y) where
            pub vars_are : SameNumber n v y behind_vars
            vars_are = number_one_in most_vars n v x y behind_vars (omega arith) k s.few_vars numbers_is vars_stop

            third_is : y ≡ s.third ++ behind_count
            unfolding behind_vars behind_count
            third_is = vars_are.rest

            pub no_third : ((gap rest : List ℕ) → IsGap gap → y ≡ gap ++ rest → ⊥) → ⊥
            no_third none = none s.third behind_count s.third_gap third_is

            module _ (z : List ℕ) (i : IsBehindGap y z) where
              count_is : z ≡ decimal c ++ s.last
              unfolding behind_count
              count_is = behind_one y z s.third behind_count i s.third_gap third_is (decimal_stops c s.last (omega (arith, s.few_clauses)))

              last_stop : stops is_digit s.last ≡ true
              last_stop = spaces_stop s.last s.last_spaces

              pub no_count : ((m : ℕ) (rest : List ℕ) → IsNumberIn most_clauses z m rest → ⊥) → ⊥
              no_count none = none c s.last (record { written = count_is; whole = behind_is is_digit s.last last_stop; few = s.few_clauses })

              module _ (m : ℕ) (q : List ℕ) (j : IsNumberIn most_clauses z m q) where
                pub counts_are : SameNumber m c q s.last
                counts_are = number_one_in most_clauses m c z q s.last (omega arith) j s.few_clauses count_is last_stop

                pub no_last : list_all is_space q ≡ false → ⊥
                no_last h = clash (list_all is_space q) (ap not h) (ap (list_all is_space) counts_are.rest ∙ s.last_spaces)

-- a line that is read so
pub header_is : (line t u w x y z q : List ℕ) (n m : ℕ) → line ≡ codes "p" ++ t → IsBehindGap t u → u ≡ codes "cnf" ++ w → IsBehindGap w x → IsNumberIn most_vars x n y → IsBehindGap y z → IsNumberIn most_clauses z m q → list_all is_space q ≡ true → SpellsHeader line n m
header_is line t u w x y z q n m a b c d e f g h = record {
  first = b.gap;
  second = d.gap;
  third = f.gap;
  last = q;
  written = a ∙ ap (λ k. codes "p" ++ k) (b.joined ∙ ap (λ k. b.gap ++ k) (c ∙ ap (λ k. codes "cnf" ++ k) (d.joined ∙ ap (λ k. d.gap ++ k) (e.written ∙ ap (λ k. decimal n ++ k) (f.joined ∙ ap (λ k. f.gap ++ k) g.written)))));
  first_gap = b.is;
  second_gap = d.is;
  third_gap = f.is;
  last_spaces = h;
  few_vars = e.few;
  few_clauses = g.few;
}

-- a line has one such reading
pub record SameHeaders (v c w d : ℕ) : Type 0 where
  pub vars : v ≡ w
  pub count : c ≡ d

pub header_one : (line : List ℕ) (v c w d : ℕ) → SpellsHeader line v c → SpellsHeader line w d → SameHeaders v c w d
header_one line v c w d a b =
    let n5 = decimal c ++ a.last in
    let n4 = a.third ++ n5 in
    let n3 = decimal v ++ n4 in
    let n2 = a.second ++ n3 in
    let n1 = codes "cnf" ++ n2 in
    let low_v : v ≤ 3000000 = omega (arith, a.few_vars) in
    let low_c : c ≤ 3000000 = omega (arith, a.few_clauses) in
    let g1 : IsBehindGap (a.first ++ n1) n1 = record { gap = a.first; is = a.first_gap; joined = refl; whole = refl } in
    let g2 : IsBehindGap n2 n3 = record { gap = a.second; is = a.second_gap; joined = refl; whole = behind_is is_blank n3 (decimal_stops v n4 low_v) } in
    let k1 : IsNumberIn most_vars n3 v n4 = record { written = refl; whole = behind_is is_digit n4 (gap_stops a.third n5 a.third_gap.some a.third_gap.blank); few = a.few_vars } in
    let g3 : IsBehindGap n4 n5 = record { gap = a.third; is = a.third_gap; joined = refl; whole = behind_is is_blank n5 (decimal_stops c a.last low_c) } in
    let k2 : IsNumberIn most_clauses n5 c a.last = record { written = refl; whole = behind_is is_digit a.last (spaces_stop a.last a.last_spaces); few = a.few_clauses } in
    record {
      vars = (vars_are line w d b (a.first ++ n1) a.written n1 g1 n2 refl n3 g2 v n4 k1).number;
      count = (counts_are line w d b (a.first ++ n1) a.written n1 g1 n2 refl n3 g2 v n4 k1 n5 g3 c a.last k2).number;
    }

-- such a line isn't passed over
pub header_not_passed : (line : List ℕ) (v c : ℕ) → SpellsHeader line v c → is_passed line ≡ false
header_not_passed line v c s = ap is_passed s.written

-- what the readers of gaps and of numbers give

module _ (text head tail : List ℕ) (n : ℕ) (e : n ≡ prefix_len is_blank text) (f : head ≡ take n text) (g : tail ≡ drop n text) where
  blank_split : text ≡ head ++ tail
  blank_split = sym (take-append-drop n text) ∙ ap (λ t. t ++ drop n text) (sym f) ∙ ap (λ t. head ++ t) (sym g)

  head_blank : list_all is_blank head ≡ true
  head_blank = ap (list_all is_blank) (f ∙ ap (λ k. take k text) e) ∙ front_passes is_blank text

  tail_stops : stops is_blank tail ≡ true
  tail_stops = ap (stops is_blank) (g ∙ ap (λ k. drop k text) e) ∙ back_stops is_blank text

  pub no_gap : true ≡ (length head == 0) → (gap rest : List ℕ) → IsGap gap → text ≡ gap ++ rest → ⊥
  no_gap none gap rest h i = begins_blank gap h.some h.blank i
    where
      here : stops is_blank text ≡ true
      here = ap (stops is_blank) (blank_split ∙ ap (λ t. t ++ tail) (is_nil head none)) ∙ tail_stops

      begins_blank : (gap : List ℕ) → gap ≢ [] → list_all is_blank gap ≡ true → text ≡ gap ++ rest → ⊥
      begins_blank [] some h i = some refl
      begins_blank (c ∷ gap) some h i = clash (is_blank c) (subst (λ t. stops is_blank t ≡ true) i here) (both (is_blank c) (list_all is_blank gap) h).0

  pub is_behind_gap : false ≡ (length head == 0) → IsBehindGap text tail
  is_behind_gap some = record {
    gap = head;
    is = record { some = is_not_nil head some; blank = head_blank };
    joined = blank_split;
    whole = behind_is is_blank tail tail_stops;
  }

module _ (text head tail : List ℕ) (n most : ℕ) (low : most ≤ 3000000) (e : n ≡ prefix_len is_digit text) (f : head ≡ take n text) (g : tail ≡ drop n text) where
  digit_split : text ≡ head ++ tail
  digit_split = sym (take-append-drop n text) ∙ ap (λ t. t ++ drop n text) (sym f) ∙ ap (λ t. head ++ t) (sym g)

  head_digits : list_all is_digit head ≡ true
  head_digits = ap (list_all is_digit) (f ∙ ap (λ k. take k text) e) ∙ front_passes is_digit text

  rest_stops : stops is_digit tail ≡ true
  rest_stops = ap (stops is_digit) (g ∙ ap (λ k. drop k text) e) ∙ back_stops is_digit text

  pub no_number : ((k : ℕ) → SpellsWithin 0 most head k → ⊥) → (k : ℕ) (rest : List ℕ) → IsNumberIn most text k rest → ⊥
  no_number none k rest h =
      let few : k ≤ 3000000 = omega (arith, h.few) in
      let c = cut_by is_digit head (decimal k) tail rest head_digits (decimal_digits k few) rest_stops (stops_is is_digit rest h.whole) (sym digit_split ∙ h.written) in
      none k (record { spelled = record { written = c.front; kept = omega arith }; from = omega arith; to = h.few })

  pub number_is_in : (k : ℕ) → SpellsWithin 0 most head k → IsNumberIn most text k tail
  number_is_in k s = record {
    written = digit_split ∙ ap (λ t. t ++ tail) s.spelled.written;
    whole = behind_is is_digit tail rest_stops;
    few = s.to;
  }
