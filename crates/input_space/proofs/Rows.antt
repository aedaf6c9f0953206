-- Texts with a comma and a space between each two: the first of them, and those that are read so
-- far.
use Rattle.std.proofs.Common.{◌≡◌, ℕ, ◌+◌, ◌<◌, ◌⊎◌, inl, inr, true, false, ◌==◌, List, [], ◌∷◌, ◌++◌, codes, length, take, drop, refl, sym, ap, ◌∙◌, subst, arith, append_assoc, length-append}
use Rattle.std.specs.List.{AllZip}
use Rattle.std.proofs.lemmas.List.{append-nil, append_cancel_left, drop_at, take-append-drop, take_at}
use Rattle.mpy_tree.specs.Printing.{commas}
use Rattle.input_space.specs.Cases.{SpellsEach}

-- what a test for the empty text says
pub has_some : (text : List ℕ) → false ≡ (length text == 0) → 0 < length text
has_some text h = grind arith

pub is_nil : (text : List ℕ) → true ≡ (length text == 0) → text ≡ []
is_nil [] h = refl
is_nil (c ∷ cs) h = absurd (grind arith)

pub is_not_nil : (text : List ℕ) → false ≡ (length text == 0) → text ≡ [] → ⊥
is_not_nil text h e = let some = has_some text h in let n = ap length e in absurd (omega arith)

-- what may stand behind a piece: nothing, or a comma
abbrev pub IsEnd : List ℕ → Type 0
IsEnd more = (more ≡ []) ⊎ ((rest : List ℕ) × (more ≡ 44 ∷ rest))

-- A piece spells one thing at most, and what stands behind it leaves its length as it is.
pub record Cuts {A : Type 0} (Spells : List ℕ → A → Type 0) (len : List ℕ → ℕ) : Type 0 where
  pub some : (piece : List ℕ) (x : A) → Spells piece x → 0 < length piece
  pub cut : (piece more : List ℕ) (x : A) → Spells piece x → IsEnd more → len (piece ++ more) ≡ length piece
  pub one : (piece : List ℕ) (x y : A) → Spells piece x → Spells piece y → x ≡ y

module _ {A : Type 0} (Spells : List ℕ → A → Type 0) where
  -- what stands behind the first piece, where it spells these
  abbrev pub Behind : List ℕ → List A → Type 0
  Behind more [] = more ≡ []
  Behind more (x ∷ xs) = (rest : List ℕ) × (more ≡ codes ", " ++ rest) × SpellsEach Spells rest (x ∷ xs)

  pub record First (text : List ℕ) (x : A) (xs : List A) : Type 0 where
    pub piece : List ℕ
    pub more : List ℕ
    pub parts : text ≡ piece ++ more
    pub spelled : Spells piece x
    pub behind : Behind more xs

  first_of : (ps : List (List ℕ)) (x : A) (xs : List A) → AllZip Spells ps (x ∷ xs) → First (commas ps) x xs
  first_of [] x xs s = absurd s
  first_of (p ∷ []) x [] s = record { piece = p; more = []; parts = sym (append-nil p); spelled = s.0; behind = refl }
  first_of (p ∷ []) x (y ∷ ys) s = absurd s.1
  first_of (p ∷ q ∷ ps) x [] s = absurd s.1
  first_of (p ∷ q ∷ ps) x (y ∷ ys) s =
      record {
        piece = p;
        more = codes ", " ++ commas (q ∷ ps);
        parts = append_assoc p (codes ", ") (commas (q ∷ ps));
        spelled = s.0;
        behind = (commas (q ∷ ps), refl, record { pieces = q ∷ ps; joined = refl; spelled = s.1 });
      }

  first : (text : List ℕ) (x : A) (xs : List A) → SpellsEach Spells text (x ∷ xs) → First text x xs
  first text x xs h = subst (λ t. First t x xs) (sym h.joined) (first_of h.pieces x xs h.spelled)

  -- a piece before what spells the others
  one_before : (piece : List ℕ) (x y : A) (xs : List A) (rest : List ℕ) (ps : List (List ℕ)) → Spells piece x → AllZip Spells ps (y ∷ xs) → rest ≡ commas ps → SpellsEach Spells (piece ++ (codes ", " ++ rest)) (x ∷ y ∷ xs)
  one_before piece x y xs rest [] s h e = absurd h
  one_before piece x y xs rest (p ∷ ps) s h e =
      record {
        pieces = piece ∷ p ∷ ps;
        joined = ap (λ r. piece ++ (codes ", " ++ r)) e ∙ sym (append_assoc piece (codes ", ") (commas (p ∷ ps)));
        spelled = (s, h);
      }

  pub before : (piece more : List ℕ) (x : A) (xs : List A) → Spells piece x → Behind more xs → SpellsEach Spells (piece ++ more) (x ∷ xs)
  before piece more x [] s h = record { pieces = piece ∷ []; joined = ap (λ m. piece ++ m) h ∙ append-nil piece; spelled = (s, tt) }
  before piece more x (y ∷ ys) s h =
      subst (λ m. SpellsEach Spells (piece ++ m) (x ∷ y ∷ ys)) (sym h.1)
      (one_before piece x y ys h.0 h.2.pieces s h.2.spelled h.2.joined)

  is_end : (more : List ℕ) (xs : List A) → Behind more xs → IsEnd more
  is_end more [] h = inl h
  is_end more (x ∷ xs) h = inr (32 ∷ h.0, h.1)

  no_pieces : (ps : List (List ℕ)) → AllZip Spells ps [] → ps ≡ []
  no_pieces [] s = refl
  no_pieces (p ∷ ps) s = absurd s

  pub empty_text : (text : List ℕ) → SpellsEach Spells text [] → text ≡ []
  empty_text text h = h.joined ∙ ap commas (no_pieces h.pieces h.spelled)

  module _ (len : List ℕ → ℕ) (cuts : Cuts Spells len) where
    -- where the first piece ends
    pub record Cut (text : List ℕ) (x : A) (xs : List A) : Type 0 where
      pub spelled : Spells (take (len text) text) x
      pub behind : Behind (drop (len text) text) xs

    pub cut_first : (text : List ℕ) (x : A) (xs : List A) → SpellsEach Spells text (x ∷ xs) → Cut text x xs
    cut_first text x xs h =
        let f = first text x xs h in
        let n : length f.piece ≡ len text = sym (ap len f.parts ∙ cuts.cut f.piece f.more x f.spelled (is_end f.more xs f.behind)) in
        let front : f.piece ≡ take (len text) text = sym (ap (take (len text)) f.parts ∙ take_at f.piece f.more (len text) n) in
        let back : f.more ≡ drop (len text) text = sym (ap (drop (len text)) f.parts ∙ drop_at f.piece f.more (len text) n) in
        record { spelled = subst (λ p. Spells p x) front f.spelled; behind = subst (λ m. Behind m xs) back f.behind }

    -- nothing is spelled by the empty text
    pub none_in_empty : (text : List ℕ) (x : A) (xs : List A) → text ≡ [] → SpellsEach Spells text (x ∷ xs) → ⊥
    none_in_empty text x xs e h =
        let f = first text x xs h in
        let n : length f.piece + length f.more ≡ 0 = sym (length-append f.piece f.more) ∙ ap length (sym f.parts ∙ e) in
        absurd (omega (arith, cuts.some f.piece x f.spelled))

    -- a text spells one list at most
    pub spells_one : (text : List ℕ) (xs ys : List A) → SpellsEach Spells text xs → SpellsEach Spells text ys → xs ≡ ys
    spells_one text [] [] h g = refl
    spells_one text [] (y ∷ ys) h g = absurd (none_in_empty text y ys (empty_text text h) g)
    spells_one text (x ∷ xs) [] h g = absurd (none_in_empty text x xs (empty_text text g) h)
    spells_one text (x ∷ []) (y ∷ []) h g =
        ap (λ z. z ∷ []) (cuts.one (take (len text) text) x y (cut_first text x [] h).spelled (cut_first text y [] g).spelled)
    spells_one text (x ∷ []) (y ∷ z ∷ zs) h g =
        absurd (let e = (cut_first text x [] h).behind in let f = (cut_first text y (z ∷ zs) g).behind.1 in cc (e, f))
    spells_one text (x ∷ z ∷ zs) (y ∷ []) h g =
        absurd (let e = (cut_first text y [] g).behind in let f = (cut_first text x (z ∷ zs) h).behind.1 in cc (e, f))
    spells_one text (x ∷ z ∷ zs) (y ∷ w ∷ ws) h g =
        let a = cut_first text x (z ∷ zs) h in
        let b = cut_first text y (w ∷ ws) g in
        let same : x ≡ y = cuts.one (take (len text) text) x y a.spelled b.spelled in
        let rest : b.behind.0 ≡ a.behind.0 = append_cancel_left (codes ", ") b.behind.0 a.behind.0 (sym b.behind.1 ∙ a.behind.1) in
        let others : z ∷ zs ≡ w ∷ ws = spells_one a.behind.0 (z ∷ zs) (w ∷ ws) a.behind.2 (subst (λ r. SpellsEach Spells r (w ∷ ws)) rest b.behind.2) in
        ap (λ v. v ∷ z ∷ zs) same ∙ ap (λ vs. y ∷ vs) others

    -- The things that a text spells are those found and then those that the rest of it spells, of
    -- which there are some.
    pub record Goes (text : List ℕ) (found : List A) (rest : List ℕ) : Type 0 where
      pub forth : (x : A) (xs : List A) → SpellsEach Spells rest (x ∷ xs) → SpellsEach Spells text (found ++ x ∷ xs)
      pub back : (xs : List A) → SpellsEach Spells text xs → (y : A) × (ys : List A) × (xs ≡ found ++ y ∷ ys) × SpellsEach Spells rest (y ∷ ys)

    starts : (text : List ℕ) (xs : List A) → 0 < length text → SpellsEach Spells text xs → (y : A) × (ys : List A) × (xs ≡ [] ++ y ∷ ys) × SpellsEach Spells text (y ∷ ys)
    starts text [] h s = let n = ap length (empty_text text s) in absurd (omega arith)
    starts text (x ∷ xs) h s = (x, xs, refl, s)

    pub goes_first : (text : List ℕ) → 0 < length text → Goes text [] text
    goes_first text h = record { forth = λ x xs s. s; back = λ xs s. starts text xs h s }

    module _ (text : List ℕ) (found : List A) (rest piece behind : List ℕ) (g : Goes text found rest) (front : piece ≡ take (len rest) rest) (back : behind ≡ drop (len rest) rest) where
      whole : rest ≡ piece ++ behind
      whole = sym (take-append-drop (len rest) rest) ∙ ap (λ p. p ++ drop (len rest) rest) (sym front) ∙ ap (λ b. piece ++ b) (sym back)

      cut_here : (y : A) (ys : List A) → SpellsEach Spells rest (y ∷ ys) → Spells piece y × Behind behind ys
      cut_here y ys h =
          let c = cut_first rest y ys h in
          (subst (λ p. Spells p y) (sym front) c.spelled, subst (λ b. Behind b ys) (sym back) c.behind)

      further : (x : A) → Spells piece x → (xs : List A) → Behind behind xs → SpellsEach Spells text (found ++ x ∷ xs)
      further x s xs b = g.forth x xs (subst (λ r. SpellsEach Spells r (x ∷ xs)) (sym whole) (before piece behind x xs s b))

      pub goes_last : (x : A) → Spells piece x → behind ≡ [] → SpellsEach Spells text (found ++ x ∷ [])
      goes_last x s e = further x s [] e

      pub goes_none : ((y : A) → Spells piece y → ⊥) → (xs : List A) → SpellsEach Spells text xs → ⊥
      goes_none none xs h = let b = g.back xs h in none b.0 (cut_here b.0 b.1 b.3).0

      stuck : (ys : List A) → (behind ≡ [] → ⊥) → ((r : List ℕ) → behind ≡ codes ", " ++ r → ⊥) → Behind behind ys → ⊥
      stuck [] more none b = more b
      stuck (y ∷ ys) more none b = none b.0 b.1

      pub goes_stuck : (behind ≡ [] → ⊥) → ((r : List ℕ) → behind ≡ codes ", " ++ r → ⊥) → (xs : List A) → SpellsEach Spells text xs → ⊥
      goes_stuck more none xs h = let b = g.back xs h in stuck b.1 more none (cut_here b.0 b.1 b.3).1

      goes_back : (x : A) (next : List ℕ) → Spells piece x → behind ≡ codes ", " ++ next → (xs : List A) (y : A) (ys : List A) → xs ≡ found ++ y ∷ ys → Spells piece y → Behind behind ys → (z : A) × (zs : List A) × (xs ≡ (found ++ x ∷ []) ++ z ∷ zs) × SpellsEach Spells next (z ∷ zs)
      goes_back x next s e xs y [] i sy b = absurd (cc (b, e))
      goes_back x next s e xs y (z ∷ zs) i sy b =
          let same : y ≡ x = cuts.one piece y x sy s in
          let r : b.0 ≡ next = append_cancel_left (codes ", ") b.0 next (sym b.1 ∙ e) in
          (z, zs, i ∙ ap (λ w. found ++ w ∷ z ∷ zs) same ∙ sym (append_assoc found (x ∷ []) (z ∷ zs)), subst (λ t. SpellsEach Spells t (z ∷ zs)) r b.2)

      pub goes_next : (x : A) (next : List ℕ) → Spells piece x → behind ≡ codes ", " ++ next → Goes text (found ++ x ∷ []) next
      goes_next x next s e =
          record {
            forth = λ y ys h. subst (SpellsEach Spells text) (sym (append_assoc found (x ∷ []) (y ∷ ys))) (further x s (y ∷ ys) (next, e, h));
            back = λ xs h.
                (let b = g.back xs h in
                let c = cut_here b.0 b.1 b.3 in
                goes_back x next s e xs b.0 b.1 b.2 c.0 c.1);
          }
