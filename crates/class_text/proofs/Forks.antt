-- Two readings of the front of a text.
use Rattle.std.proofs.Common.{◌≡◌, ◌⊎◌, ℕ, suc, ◌+◌, ◌≤◌, true, List, [], ◌∷◌, ◌++◌, length, length-append, append_assoc, append-nil, refl, sym, ap, subst, ◌∙◌, inl, inr, arith}
use Rattle.std.specs.List.{list_all}
use Rattle.step_lines.specs.Lines.{ended}
use Rattle.step_lines.proofs.Apart.{both, all_right, cut, cons_tail}
use Rattle.class_text.specs.Listings.{StopsAt, is_name}
use Rattle.class_text.specs.Laws.{AreApart, IsOneList, IsOneStop}
use Rattle.class_text.proofs.Names.{name_lacks}

pub flat : (l : List ℕ) (ls : List (List ℕ)) (rest : List ℕ) → ended (l ∷ ls) ++ rest ≡ l ++ (10 ∷ (ended ls ++ rest))
flat l ls rest = append_assoc (l ++ 10 ∷ []) (ended ls) rest ∙ append_assoc l (10 ∷ []) (ended ls ++ rest)

pub ended_push : (ls : List (List ℕ)) (l rest : List ℕ) → ended ls ++ (l ++ (10 ∷ rest)) ≡ ended (ls ++ l ∷ []) ++ rest
ended_push [] l rest = sym (flat l [] rest)
ended_push (k ∷ ls) l rest =
    flat k ls (l ++ (10 ∷ rest)) ∙ ap (λ t. k ++ (10 ∷ t)) (ended_push ls l rest) ∙ sym (flat k (ls ++ l ∷ []) rest)

-- the longer one goes on where the shorter one ends
pub record Longer (short long : List (List ℕ)) (behind rest : List ℕ) : Type 0 where
  pub extra : List (List ℕ)
  pub is : long ≡ short ++ extra
  pub behind_is : behind ≡ ended extra ++ rest

longer : (a b : List ℕ) (short long : List (List ℕ)) (behind rest : List ℕ) → a ≡ b → Longer short long behind rest → Longer (a ∷ short) (b ∷ long) behind rest
longer a b short long behind rest same l = record {
  extra = l.extra;
  is = ap (λ x. x ∷ long) (sym same) ∙ ap (λ xs. a ∷ xs) l.is;
  behind_is = l.behind_is;
}

pub fork : (xs ys : List (List ℕ)) (r s : List ℕ) → list_all is_name xs ≡ true → list_all is_name ys ≡ true → ended xs ++ r ≡ ended ys ++ s
    → Longer xs ys r s ⊎ Longer ys xs s r
fork [] ys r s h g e = inl (record { extra = ys; is = refl; behind_is = e })
fork (a ∷ xs) [] r s h g e = inr (record { extra = a ∷ xs; is = refl; behind_is = sym e })
fork (a ∷ xs) (b ∷ ys) r s h g e =
    let first = both (is_name a) (list_all is_name xs) h in
    let other = both (is_name b) (list_all is_name ys) g in
    let same = cut 10 a b (10 ∷ (ended xs ++ r)) (10 ∷ (ended ys ++ s)) (name_lacks a first.0) (name_lacks b other.0) refl refl (sym (flat a xs r) ∙ e ∙ flat b ys s) in
    elim (fork xs ys r s first.1 other.1 (cons_tail 10 10 (ended xs ++ r) (ended ys ++ s) same.back)) [
      | inl l ↦ inl (longer a b xs ys r s same.front l)
      | inr l ↦ inr (longer b a ys xs s r (sym same.front) l)
    ]

-- behind a list that stops, none goes on
record IsNoLonger (names long : List (List ℕ)) (behind rest : List ℕ) : Type 0 where
  same : long ≡ names
  rest_is : behind ≡ rest

no_extra : (text : List ℕ) (line : ℕ) (p : StopsAt text line) (extra long : List (List ℕ)) (rest : List ℕ) → length long ≤ 256 → list_all is_name long ≡ true
    → long ≡ p.names ++ extra → p.rest ≡ ended extra ++ rest → IsNoLonger p.names long p.rest rest
no_extra text line p [] long rest few named is behind = record { same = is ∙ append-nil p.names; rest_is = behind }
no_extra text line p (e ∷ es) long rest few named is behind =
    let all : list_all is_name (p.names ++ e ∷ es) ≡ true = subst (λ xs. list_all is_name xs ≡ true) is named in
    let name = both (is_name e) (list_all is_name es) (all_right is_name p.names (e ∷ es) all) in
    let full : length p.names ≡ 256 = p.no_more e (ended es ++ rest) name.0 (behind ∙ flat e es rest) in
    let more : length long ≡ length p.names + suc (length es) = ap length is ∙ length-append p.names (e ∷ es) in
    absurd (omega (arith, full, more, few))

stops_there : (text : List ℕ) (line : ℕ) (p : StopsAt text line) (long : List (List ℕ)) (rest : List ℕ) → length long ≤ 256 → list_all is_name long ≡ true
    → Longer p.names long p.rest rest → IsNoLonger p.names long p.rest rest
stops_there text line p long rest few named l = no_extra text line p l.extra long rest few named l.is l.behind_is

pub one_stop : IsOneStop
one_stop text line other p q = elim (fork p.names q.names p.rest q.rest p.named q.named (sym p.cut ∙ q.cut)) [
  | inl l ↦ (
      let same = stops_there text line p q.names q.rest q.few q.named l in
      p.line_is ∙ ap (λ xs. length xs + 1) (sym same.same) ∙ sym q.line_is)
  | inr l ↦ (
      let same = stops_there text other q p.names p.rest p.few p.named l in
      p.line_is ∙ ap (λ xs. length xs + 1) same.same ∙ sym q.line_is)
]

nothing_behind : (x y : List ℕ) → [] ≡ x ++ (10 ∷ y) → ⊥
nothing_behind [] y e = cc
nothing_behind (c ∷ x) y e = cc

-- what ends the text has nothing behind it
none_behind : (extra : List (List ℕ)) (rest : List ℕ) → [] ≡ ended extra ++ rest → (extra ≡ []) × (rest ≡ [])
none_behind [] rest e = (refl, sym e)
none_behind (x ∷ xs) rest e = absurd (nothing_behind x (ended xs ++ rest) (e ∙ flat x xs rest))

pub apart : AreApart
apart text names line l p = elim (fork p.names names p.rest [] p.named l.named (sym p.cut ∙ l.written ∙ sym (append-nil (ended names)))) [
  | inl x ↦ p.some (stops_there text line p names [] l.few l.named x).rest_is
  | inr x ↦ p.some (none_behind x.extra p.rest x.behind_is).1
]

same_end : (names others : List (List ℕ)) → Longer names others [] [] → others ≡ names
same_end names others x = x.is ∙ ap (λ xs. names ++ xs) (none_behind x.extra [] x.behind_is).0 ∙ append-nil names

pub one_list : IsOneList
one_list text names others l m =
    let both_are : ended names ++ [] ≡ ended others ++ [] = ap (λ t. t ++ []) (sym l.written ∙ m.written) in
    elim (fork names others [] [] l.named m.named both_are) [
      | inl x ↦ sym (same_end names others x)
      | inr x ↦ same_end others names x
    ]
