-- A line begins with the word that is read there, and what it begins with is read.
use Rattle.std.proofs.Common.{◌≡◌, ◌<◌, ◌+◌, ℕ, suc, Bool, true, false, cond, List, [], ◌∷◌, ◌++◌, length, take, drop, Option, None, Some, refl, sym, ap, subst, ◌∙◌, append_assoc, append-nil, ◌^◌, ℤ, pos, negsuc, inl, inr, arith}
use Rattle.std.specs.Prelude.{◌==◌, ◌||◌, ◌&&◌, not, codes}
use Rattle.std.specs.Fmt.{signed_decimal}
use Rattle.std.specs.List.{list_all, prefix_len}
use Rattle.std.proofs.lemmas.Bool.{and_parts, and_from, or_parts, or_cases, eqb-true, ne_eqb, not-false, cases_Bool, ltb-true, lt-ltb}
use Rattle.std.proofs.lemmas.List.{take_at, drop_at, take-append-drop}
use Rattle.std.proofs.lemmas.Slice.Eq.{bytes_eq-Decides}
use Rattle.mpy_tree.specs.Values.{same_bytes}
use Rattle.mpy_tree.specs.Operations.{fits_width}
use Rattle.mpy_lexer.specs.Bytes.{is_white, is_quote}
use Rattle.mpy_lexer.specs.Pieces.{closing}
use Rattle.mpy_lexer.specs.TextLiterals.{is_escapable, is_printable, characters, with_character, literal_characters}
use Rattle.bounds_reader.specs.Scanning.{signed_at, closed_at, literal_at}
use Rattle.bounds_reader.specs.Words.{Word, plain, literal, is_plain, are_plain, SpellsWord, ends_word, carries_nothing, BeginsWith}
use Rattle.bounds_reader.specs.Items.{is_short, is_plain_name, number_word, span_word}
use Rattle.bounds_reader.specs.Reading.{behind_space, is_empty, plain_in, plain_at, literal_word_at, behind_word, number_of, number_at, behind_dots, span_of, span_at, name_at}
use Rattle.bounds_reader.proofs.Digits.{Stops, prefix-append, prefix_passes}
use Rattle.bounds_reader.proofs.Numbers.{signed_takes, signed_again}
use Rattle.bounds_reader.proofs.Steps.{bind_some, map_some, when_some, unless_some}

-- white space in front

pub space_skipped : (space rest : List ℕ) → list_all is_white space ≡ true → carries_nothing (space ++ rest) ≡ carries_nothing rest
space_skipped [] rest h = refl
space_skipped (c ∷ space) rest h =
    let both = and_parts (is_white c) (list_all is_white space) h in
    rw both.0 (space_skipped space rest both.1)

behind_again : (space rest : List ℕ) → list_all is_white space ≡ true → Stops is_white rest → behind_space (space ++ rest) ≡ rest
behind_again space rest h stops =
    rw (prefix-append is_white space rest h stops, drop_at space rest (length space) refl) refl

not_either : (a b : Bool) → not (a || b) ≡ true → (a ≡ false) × (b ≡ false)
not_either true b h = absurd cc
not_either false true h = absurd cc
not_either false false h = (refl, refl)

pub record IsCalm (c : ℕ) : Type 0 where
  pub white : is_white c ≡ false
  pub quote : is_quote c ≡ false
  pub hash : (c == 35) ≡ false

plain_calm : (c : ℕ) → is_plain c ≡ true → IsCalm c
plain_calm c h =
    let outer = not_either (is_white c || is_quote c) (c == 35) h in
    let inner = or_parts (is_white c) (is_quote c) outer.0 in
    record { white = inner.0; quote = inner.1; hash = outer.1 }

-- a word ends where no plain byte follows
plain_ends : (rest : List ℕ) → ends_word rest ≡ true → Stops is_plain rest
plain_ends [] h = tt
plain_ends (c ∷ rest) h = elim (or_cases (is_white c) (c == 35) h) [
  | inl white ↦ rw white refl
  | inr hash ↦ rw hash (or_true (is_white c || is_quote c))
]
  where
    or_true : (a : Bool) → not (a || true) ≡ false
    or_true true = refl
    or_true false = refl

are_plain_from : (w : List ℕ) → is_empty w ≡ false → list_all is_plain w ≡ true → are_plain w ≡ true
are_plain_from [] some h = absurd cc
are_plain_from (c ∷ w) some h = h

pub plain_takes : (line : List ℕ) (x : List ℕ × List ℕ) → plain_at line ≡ Some x → BeginsWith line (plain x.0) x.1
unfolding plain_at
plain_takes line x e =
    let text = behind_space line in
    let w = plain_in text in
    let found = unless_some (is_empty w.0 || not (ends_word w.1)) (Some w) x e in
    let tests = or_parts (is_empty w.0) (not (ends_word w.1)) found.0 in
    let is : w ≡ x = cc in
    subst (λ (y : List ℕ × List ℕ). BeginsWith line (plain y.0) y.1) is (record {
      space = take (prefix_len is_white line) line;
      bytes = w.0;
      cut = sym (append_assoc (take (prefix_len is_white line) line) w.0 w.1 ∙ ap (λ t. take (prefix_len is_white line) line ++ t) (take-append-drop (prefix_len is_plain text) text) ∙ take-append-drop (prefix_len is_white line) line);
      white = prefix_passes is_white line;
      spelled = (refl, are_plain_from w.0 tests.0 (prefix_passes is_plain text));
      apart = not-false (ends_word w.1) tests.1;
    })

pub plain_again : (line w rest : List ℕ) → BeginsWith line (plain w) rest → plain_at line ≡ Some (w, rest)
unfolding plain_at
plain_again line w rest b = again w b.spelled.1 (b.cut ∙ append_assoc b.space b.bytes rest ∙ ap (λ (t : List ℕ). b.space ++ (t ++ rest)) b.spelled.0)
  where
    again : (v : List ℕ) → are_plain v ≡ true → line ≡ b.space ++ (v ++ rest) → plain_at line ≡ Some (v, rest)
    again [] none cut = absurd cc
    again (c ∷ v) all cut =
        let first = plain_calm c (and_parts (is_plain c) (list_all is_plain v) all).0 in
        let behind : behind_space line ≡ (c ∷ v) ++ rest = ap behind_space cut ∙ behind_again b.space ((c ∷ v) ++ rest) b.white first.white in
        let len = prefix-append is_plain (c ∷ v) rest all (plain_ends rest b.apart) in
        let some : is_empty (c ∷ v) ≡ false = ne_eqb (length (c ∷ v)) 0 (λ e. omega arith) in
        rw (behind, len, take_at v rest (length v) refl, drop_at v rest (length v) refl, some, b.apart) refl

-- text literals

closed_before : (q : ℕ) (body rest cs : List ℕ) → characters q body ≡ Some cs → closing q false (body ++ rest) ≡ Some (length body)
unfolding characters closing
closed_before q [] rest cs e = absurd cc
closed_before q (c ∷ []) rest cs e = rw (when_some (c == q) (Some []) cs e).0 refl
closed_before q (c ∷ d ∷ body) rest cs e =
    let other = unless_some (c == q) _ cs e in
    elim (cases_Bool (c == 92)) [
      | inl slash ↦ (
          let taken = when_some (is_escapable d) (with_character d (characters q body)) cs (rw slash at other.1) in
          let more = map_some (λ more. d ∷ more) (characters q body) cs taken.1 in
          rw (other.0, slash, closed_before q body rest more.0 more.1) (ap Some (omega arith)))
      | inr unescaped ↦ (
          let taken = when_some (is_printable c) (with_character c (characters q (d ∷ body))) cs (rw unescaped at other.1) in
          let more = map_some (λ more. c ∷ more) (characters q (d ∷ body)) cs taken.1 in
          rw (other.0, unescaped, closed_before q (d ∷ body) rest more.0 more.1) (ap Some (omega arith)))
    ]

pub literal_again : (raw rest cs : List ℕ) → literal_characters raw ≡ Some cs → literal_at (raw ++ rest) ≡ Some (cs, rest)
unfolding literal_at
literal_again [] rest cs e = absurd cc
literal_again (q ∷ body) rest cs e =
    let found = when_some (is_quote q) (characters q body) cs e in
    let len : 1 + length body ≡ suc (length body) = omega arith in
    let raw : take (1 + length body) (q ∷ (body ++ rest)) ≡ q ∷ body = rw len (ap (λ t. q ∷ t) (take_at body rest (length body) refl)) in
    let behind : drop (1 + length body) (q ∷ (body ++ rest)) ≡ rest = rw len (drop_at body rest (length body) refl) in
    rw (found.0, closed_before q body rest cs found.1, raw, behind, found.0, found.1) refl

pub record IsLiteral (text cs rest : List ℕ) : Type 0 where
  pub raw : List ℕ
  pub cut : text ≡ raw ++ rest
  pub spelled : literal_characters raw ≡ Some cs

pub literal_takes : (text : List ℕ) (x : List ℕ × List ℕ) → literal_at text ≡ Some x → IsLiteral text x.0 x.1
unfolding literal_at
literal_takes [] x e = absurd cc
literal_takes (q ∷ body) x e = closed (closing q false body) (when_some (is_quote q) (closed_at (q ∷ body) (closing q false body)) x e).1
  where
    closed : (o : Option ℕ) → closed_at (q ∷ body) o ≡ Some x → IsLiteral (q ∷ body) x.0 x.1
    closed None found = absurd cc
    closed (Some n) found =
        let b = map_some (λ cs. (cs, drop (1 + n) (q ∷ body))) (literal_characters (take (1 + n) (q ∷ body))) x found in
        subst (λ (y : List ℕ × List ℕ). IsLiteral (q ∷ body) y.0 y.1) b.2
        (record { raw = take (1 + n) (q ∷ body); cut = sym (take-append-drop (1 + n) (q ∷ body)); spelled = b.1 })

pub literal_word_takes : (line : List ℕ) (x : List ℕ × List ℕ) → literal_word_at line ≡ Some x → BeginsWith line (literal x.0) x.1
unfolding literal_word_at
literal_word_takes line x e =
    let w = bind_some (literal_at (behind_space line)) (λ w. cond (ends_word w.1) (Some w) None) x e in
    let apart = when_some (ends_word w.0.1) (Some w.0) x w.2 in
    let is : w.0 ≡ x = cc in
    let l = literal_takes (behind_space line) w.0 w.1 in
    let white_part = take (prefix_len is_white line) line in
    subst (λ (y : List ℕ × List ℕ). BeginsWith line (literal y.0) y.1) is (record {
      space = white_part;
      bytes = l.raw;
      cut = sym (append_assoc white_part l.raw w.0.1 ∙ ap (λ t. white_part ++ t) (sym l.cut) ∙ take-append-drop (prefix_len is_white line) line);
      white = prefix_passes is_white line;
      spelled = l.spelled;
      apart = apart.0;
    })

-- a word begins with neither white space nor the sign of a comment
record StartsCalm (bytes : List ℕ) : Type 0 where
  first : ℕ
  rest : List ℕ
  is : bytes ≡ first ∷ rest
  white : is_white first ≡ false
  hash : (first == 35) ≡ false

quote_calm : (q : ℕ) → is_quote q ≡ true → (is_white q ≡ false) × ((q == 35) ≡ false)
quote_calm q h = elim (or_cases (q == 39) (q == 34) h) [
  | inl e ↦ rw (eqb-true q 39 e) (refl, refl)
  | inr e ↦ rw (eqb-true q 34 e) (refl, refl)
]

starts_plain : (w : List ℕ) → are_plain w ≡ true → StartsCalm w
starts_plain [] h = absurd cc
starts_plain (c ∷ w) h =
    let calm = plain_calm c (and_parts (is_plain c) (list_all is_plain w) h).0 in
    record { first = c; rest = w; is = refl; white = calm.white; hash = calm.hash }

starts_literal : (raw cs : List ℕ) → literal_characters raw ≡ Some cs → StartsCalm raw
starts_literal [] cs h = absurd cc
starts_literal (q ∷ body) cs h =
    let calm = quote_calm q (when_some (is_quote q) (characters q body) cs h).0 in
    record { first = q; rest = body; is = refl; white = calm.0; hash = calm.1 }

starts_calm : (bytes : List ℕ) (w : Word) → SpellsWord bytes w → StartsCalm bytes
starts_calm bytes (plain w) h = subst StartsCalm (sym h.0) (starts_plain w h.1)
starts_calm bytes (literal cs) h = starts_literal bytes cs h

-- a line that begins with a word carries something
pub not_nothing : (line : List ℕ) (w : Word) (rest : List ℕ) → BeginsWith line w rest → carries_nothing line ≡ false
not_nothing line w rest b =
    let calm = starts_calm b.bytes w b.spelled in
    ap carries_nothing (b.cut ∙ append_assoc b.space b.bytes rest)
    ∙ space_skipped b.space (b.bytes ++ rest) b.white
    ∙ ap (λ t. carries_nothing (t ++ rest)) calm.is
    ∙ rw (calm.white, calm.hash) refl

pub literal_word_again : (line cs rest : List ℕ) → BeginsWith line (literal cs) rest → literal_word_at line ≡ Some (cs, rest)
unfolding literal_word_at
literal_word_again line cs rest b =
    let calm = starts_literal b.bytes cs b.spelled in
    let stops : Stops is_white (b.bytes ++ rest) = subst (λ t. Stops is_white (t ++ rest)) (sym calm.is) calm.white in
    let behind : behind_space line ≡ b.bytes ++ rest = ap behind_space (b.cut ∙ append_assoc b.space b.bytes rest) ∙ behind_again b.space (b.bytes ++ rest) b.white stops in
    rw (behind, literal_again b.bytes rest cs b.spelled, b.apart) refl

-- words of the form

pub word_takes : (word line rest : List ℕ) → behind_word word line ≡ Some rest → BeginsWith line (plain word) rest
unfolding behind_word
word_takes word line rest e =
    let w = bind_some (plain_at line) (λ w. cond (same_bytes w.0 word) (Some w.1) None) rest e in
    let same = when_some (same_bytes w.0.0 word) (Some w.0.1) rest w.2 in
    let is : w.0.0 ≡ word = (bytes_eq-Decides w.0.0 word).0 same.0 in
    let behind : w.0.1 ≡ rest = cc in
    subst (λ r. BeginsWith line (plain word) r) behind (subst (λ t. BeginsWith line (plain t) w.0.1) is (plain_takes line w.0 w.1))

pub word_again : (word line rest : List ℕ) → BeginsWith line (plain word) rest → behind_word word line ≡ Some rest
unfolding behind_word
word_again word line rest b =
    let same : same_bytes word word ≡ true = (bytes_eq-Decides word word).1 refl in
    rw (plain_again line word rest b, same) refl

empty_is : (xs : List ℕ) → is_empty xs ≡ true → xs ≡ []
empty_is [] h = refl
empty_is (x ∷ xs) h = absurd (let e : suc (length xs) ≡ 0 = eqb-true (length (x ∷ xs)) 0 h in omega arith)

pub number_takes : (word : List ℕ) (z : ℤ) → number_of word ≡ Some z → (word ≡ signed_decimal z) × (is_short z ≡ true)
unfolding number_of
number_takes word z e =
    let n = bind_some (signed_at word) (λ n. cond (is_empty n.1 && is_short n.0) (Some n.0) None) z e in
    let tests = when_some (is_empty n.0.1 && is_short n.0.0) (Some n.0.0) z n.2 in
    let both = and_parts (is_empty n.0.1) (is_short n.0.0) tests.0 in
    let is : n.0.0 ≡ z = cc in
    let none = empty_is n.0.1 both.0 in
    let taken = signed_takes word n.0 n.1 in
    subst (λ y. (word ≡ signed_decimal y) × (is_short y ≡ true)) is (taken.0 ∙ ap (λ t. signed_decimal n.0.0 ++ t) none ∙ append-nil (signed_decimal n.0.0), both.1)

-- a short number is one of 32 bits
short_fits : (z : ℤ) → is_short z ≡ true → fits_width 32 z ≡ true
short_fits (pos n) h = let small : n < 1000000000 = ltb-true n 1000000000 h in lt-ltb n (2 ^ 31) (omega arith)
short_fits (negsuc n) h = let small : suc n < 1000000000 = ltb-true (suc n) 1000000000 h in lt-ltb n (2 ^ 31) (omega arith)

pub number_again : (z : ℤ) → is_short z ≡ true → number_of (signed_decimal z) ≡ Some z
unfolding number_of
number_again z h =
    let found : signed_at (signed_decimal z) ≡ Some (z, []) = ap signed_at (sym (append-nil (signed_decimal z))) ∙ signed_again z [] (short_fits z h) tt in
    rw (found, h) refl

pub number_at_takes : (line : List ℕ) (x : ℤ × List ℕ) → number_at line ≡ Some x → BeginsWith line (number_word x.0) x.1 × (is_short x.0 ≡ true)
unfolding number_at
number_at_takes line x e =
    let w = bind_some (plain_at line) _ x e in
    let z = bind_some (number_of w.0.0) _ x w.2 in
    let is : ◌≡◌ {A = ℤ × List ℕ} (z.0, w.0.1) x = cc in
    let number = number_takes w.0.0 z.0 z.1 in
    subst (λ (y : ℤ × List ℕ). BeginsWith line (number_word y.0) y.1 × (is_short y.0 ≡ true)) is
    (subst (λ t. BeginsWith line (plain t) w.0.1) number.0 (plain_takes line w.0 w.1), number.1)

pub number_at_again : (line : List ℕ) (z : ℤ) (rest : List ℕ) → BeginsWith line (number_word z) rest → is_short z ≡ true → number_at line ≡ Some (z, rest)
unfolding number_at
number_at_again line z rest b h = rw (plain_again line (signed_decimal z) rest b, number_again z h) refl

dots_take : (text rest : List ℕ) → behind_dots text ≡ Some rest → text ≡ codes ".." ++ rest
dots_take [] rest e = absurd cc
dots_take (c ∷ []) rest e = absurd cc
dots_take (c ∷ d ∷ text) rest e =
    let both = when_some (c == 46 && d == 46) (Some text) rest e in
    let tests = and_parts (c == 46) (d == 46) both.0 in
    let is : text ≡ rest = cc in
    rw (eqb-true c 46 tests.0, eqb-true d 46 tests.1, is) refl

pub span_takes : (word : List ℕ) (x : ℤ × ℤ) → span_of word ≡ Some x → (word ≡ signed_decimal x.0 ++ codes ".." ++ signed_decimal x.1) × ((is_short x.0 && is_short x.1) ≡ true)
unfolding span_of
span_takes word x e =
    let low = bind_some (signed_at word) _ x e in
    let dots = bind_some (behind_dots low.0.1) _ x low.2 in
    let high = bind_some (number_of dots.0) _ x dots.2 in
    let short = when_some (is_short low.0.0) (Some (low.0.0, high.0)) x high.2 in
    let is : ◌≡◌ {A = ℤ × ℤ} (low.0.0, high.0) x = cc in
    let first = signed_takes word low.0 low.1 in
    let second = number_takes dots.0 high.0 high.1 in
    let text : word ≡ signed_decimal low.0.0 ++ codes ".." ++ signed_decimal high.0 =
    first.0 ∙ ap (λ t. signed_decimal low.0.0 ++ t) (dots_take low.0.1 dots.0 dots.1 ∙ ap (λ t. codes ".." ++ t) second.0)
    ∙ sym (append_assoc (signed_decimal low.0.0) (codes "..") (signed_decimal high.0)) in
    subst (λ (y : ℤ × ℤ). (word ≡ signed_decimal y.0 ++ codes ".." ++ signed_decimal y.1) × ((is_short y.0 && is_short y.1) ≡ true)) is
    (text, and_from (is_short low.0.0) (is_short high.0) short.0 second.1)

pub span_again : (a b : ℤ) → (is_short a && is_short b) ≡ true → span_of (signed_decimal a ++ codes ".." ++ signed_decimal b) ≡ Some (a, b)
unfolding span_of
span_again a b h =
    let both = and_parts (is_short a) (is_short b) h in
    let low : signed_at (signed_decimal a ++ (codes ".." ++ signed_decimal b)) ≡ Some (a, codes ".." ++ signed_decimal b) =
    signed_again a (codes ".." ++ signed_decimal b) (short_fits a both.0) refl in
    rw (append_assoc (signed_decimal a) (codes "..") (signed_decimal b), low, number_again b both.1, both.0) refl

pub span_at_takes : (line : List ℕ) (x : ℤ × ℤ × List ℕ) → span_at line ≡ Some x → BeginsWith line (span_word x.0 x.1) x.2 × ((is_short x.0 && is_short x.1) ≡ true)
unfolding span_at
span_at_takes line x e =
    let w = bind_some (plain_at line) _ x e in
    let s = bind_some (span_of w.0.0) _ x w.2 in
    let is : ◌≡◌ {A = ℤ × ℤ × List ℕ} (s.0.0, s.0.1, w.0.1) x = cc in
    let span = span_takes w.0.0 s.0 s.1 in
    subst (λ (y : ℤ × ℤ × List ℕ). BeginsWith line (span_word y.0 y.1) y.2 × ((is_short y.0 && is_short y.1) ≡ true)) is
    (subst (λ t. BeginsWith line (plain t) w.0.1) span.0 (plain_takes line w.0 w.1), span.1)

pub span_at_again : (line : List ℕ) (a b : ℤ) (rest : List ℕ) → BeginsWith line (span_word a b) rest → (is_short a && is_short b) ≡ true → span_at line ≡ Some (a, b, rest)
unfolding span_at
span_at_again line a b rest begins h =
    rw (plain_again line (signed_decimal a ++ codes ".." ++ signed_decimal b) rest begins, span_again a b h) refl

pub name_takes : (line : List ℕ) (x : List ℕ × List ℕ) → name_at line ≡ Some x → BeginsWith line (plain x.0) x.1 × (is_plain_name x.0 ≡ true)
unfolding name_at
name_takes line x e =
    let w = bind_some (plain_at line) (λ w. cond (is_plain_name w.0) (Some w) None) x e in
    let named = when_some (is_plain_name w.0.0) (Some w.0) x w.2 in
    let is : w.0 ≡ x = cc in
    subst (λ (y : List ℕ × List ℕ). BeginsWith line (plain y.0) y.1 × (is_plain_name y.0 ≡ true)) is (plain_takes line w.0 w.1, named.0)

pub name_again : (line x rest : List ℕ) → BeginsWith line (plain x) rest → is_plain_name x ≡ true → name_at line ≡ Some (x, rest)
unfolding name_at
name_again line x rest b h = rw (plain_again line x rest b, h) refl
