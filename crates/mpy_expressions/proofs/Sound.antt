-- What is read is spelled by the terminals before the rest.
use Rattle.std.proofs.Common.{None}
use Rattle.std.proofs.Common.{◌≡◌, ℕ, zero, suc, true, false, List, [], ◌∷◌, ◌++◌, length, Option, Some, IfSome, refl, ap, sym, ◌∙◌, subst, append_assoc}
use Rattle.mpy_tree.specs.declared.operators.ArithOp.TheVariants.{Add, Sub, Mul, Floor, Rem, Power}
use Rattle.mpy_tree.specs.declared.levels.Level.{Level}
use Rattle.mpy_tree.specs.declared.levels.Level.TheVariants as level
use Rattle.mpy_expressions.specs.Forms.{Forms}
use Rattle.mpy_expressions.specs.declared.words.Word.{Word}
use Rattle.mpy_expressions.specs.declared.words.Word.TheVariants as word
use Rattle.mpy_expressions.specs.declared.terminals.Terminal.{Terminal}
use Rattle.mpy_expressions.specs.declared.terminals.Terminal.TheVariants as terminal
use Rattle.mpy_expressions.specs.declared.terms.Bracket.{Bracket}
use Rattle.mpy_expressions.specs.declared.terms.Bracket.TheVariants as bracket
use Rattle.mpy_tree.specs.Levels.{above}
use Rattle.mpy_expressions.specs.Joints.{joint_at}
use Rattle.mpy_expressions.specs.Grammar.{set as set_of, Spells, SpellsEnd, SpellsAll, conditional, disjunction, conjunction, negation, compared, arithmetic, operated, likened, minus, index, slice, number, quoted, truth, name, call, hole, items, parenthesized, higher, missing, given, none, one, more, comparison}
use Rattle.mpy_tree.specs.Options.{◌>>=◌}
use Rattle.mpy_expressions.specs.Reading.{Reader, behind_if, behind_else, behind_not, behind_minus, behind_power, behind_bracket, behind_closing_bracket, behind_paren, behind_closing_paren, behind_closing_brace, behind_colon, behind_comma, comparison_at, operator_at, comparator_at, set, joint_before, joined, conditional_tail, with_conditional_tail, joint_tail, with_joints, comparison_tail, with_comparison, power_tail, with_power, Suffix, by_index, by_ends, suffixed, second_end, last_end, in_brackets, suffix_at, with_suffixes, closed, some_elements, elements, arguments, name_or_call, atom, prefixed, at_level, read_within, reading, steps}
use Rattle.mpy_expressions.specs.Reading.{parenthesized as in_parens}
use Rattle.mpy_expressions.proofs.Shorter.{if_bound, weaker, either_way, with_tail}

-- the terminals begin with such a word
abbrev pub Begins : {X : Type 0} → Word → List (Terminal X) → List (Terminal X) → Type 0
Begins w ts rest = ts ≡ terminal.Word w ∷ rest

begins_if : {X : Type 0} → (ts : List (Terminal X)) → IfSome (behind_if ts) (Begins word.If ts)
begins_if (terminal.Word word.If ∷ ts) = refl
begins_if _ = tt

begins_else : {X : Type 0} → (ts : List (Terminal X)) → IfSome (behind_else ts) (Begins word.Else ts)
begins_else (terminal.Word word.Else ∷ ts) = refl
begins_else _ = tt

begins_not : {X : Type 0} → (ts : List (Terminal X)) → IfSome (behind_not ts) (Begins word.Not ts)
begins_not (terminal.Word word.Not ∷ ts) = refl
begins_not _ = tt

begins_minus : {X : Type 0} → (ts : List (Terminal X)) → IfSome (behind_minus ts) (Begins word.Minus ts)
begins_minus (terminal.Word word.Minus ∷ ts) = refl
begins_minus _ = tt

begins_power : {X : Type 0} → (ts : List (Terminal X)) → IfSome (behind_power ts) (Begins word.DoubleStar ts)
begins_power (terminal.Word word.DoubleStar ∷ ts) = refl
begins_power _ = tt

begins_bracket : {X : Type 0} → (ts : List (Terminal X)) → IfSome (behind_bracket ts) (Begins word.LeftBracket ts)
begins_bracket (terminal.Word word.LeftBracket ∷ ts) = refl
begins_bracket _ = tt

pub begins_closing_bracket : {X : Type 0} → (ts : List (Terminal X)) → IfSome (behind_closing_bracket ts) (Begins word.RightBracket ts)
begins_closing_bracket (terminal.Word word.RightBracket ∷ ts) = refl
begins_closing_bracket _ = tt

pub begins_closing_brace : {X : Type 0} → (ts : List (Terminal X)) → IfSome (behind_closing_brace ts) (Begins word.RightBrace ts)
begins_closing_brace (terminal.Word word.RightBrace ∷ ts) = refl
begins_closing_brace _ = tt

begins_paren : {X : Type 0} → (ts : List (Terminal X)) → IfSome (behind_paren ts) (Begins word.LeftParen ts)
begins_paren (terminal.Word word.LeftParen ∷ ts) = refl
begins_paren _ = tt

pub begins_closing_paren : {X : Type 0} → (ts : List (Terminal X)) → IfSome (behind_closing_paren ts) (Begins word.RightParen ts)
begins_closing_paren (terminal.Word word.RightParen ∷ ts) = refl
begins_closing_paren _ = tt

pub begins_colon : {X : Type 0} → (ts : List (Terminal X)) → IfSome (behind_colon ts) (Begins word.Colon ts)
begins_colon (terminal.Word word.Colon ∷ ts) = refl
begins_colon _ = tt

begins_comma : {X : Type 0} → (ts : List (Terminal X)) → IfSome (behind_comma ts) (Begins word.Comma ts)
begins_comma (terminal.Word word.Comma ∷ ts) = refl
begins_comma _ = tt

-- the word that closes brackets
abbrev pub closing : Bracket → Word
closing bracket.Round = word.RightParen
closing bracket.Square = word.RightBracket
closing bracket.Curly = word.RightBrace

begins_closed : {X : Type 0} → (b : Bracket) (ts : List (Terminal X)) → IfSome (closed b ts) (Begins (closing b) ts)
begins_closed bracket.Round ts = begins_closing_paren ts
begins_closed bracket.Square ts = begins_closing_bracket ts
begins_closed bracket.Curly ts = begins_closing_brace ts

begins_comparison : {X : Type 0} → (ts : List (Terminal X)) → IfSome (comparison_at ts) (λ c. ts ≡ comparison c.0 ++ c.1)
begins_comparison (terminal.Word word.Equal ∷ ts) = refl
begins_comparison (terminal.Word word.NotEqual ∷ ts) = refl
begins_comparison (terminal.Word word.Less ∷ ts) = refl
begins_comparison (terminal.Word word.LessEqual ∷ ts) = refl
begins_comparison (terminal.Word word.Greater ∷ ts) = refl
begins_comparison (terminal.Word word.GreaterEqual ∷ ts) = refl
begins_comparison (terminal.Word word.In ∷ ts) = refl
begins_comparison (terminal.Word word.Not ∷ terminal.Word word.In ∷ ts) = refl
begins_comparison _ = tt

-- a terminal that joins at the level: what stands left and right of it is joined so
abbrev pub Joins : {X T : Type 0} (forms : Forms X T) → Level → Terminal X → (T → T → T) → Type 0
Joins {X} {T} forms k t f = (xs ys : List (Terminal X)) (a b : T) → Spells forms k xs a → Spells forms (above k) ys b → Spells forms k (xs ++ t ∷ ys) (f a b)

joins_disjunction : {X T : Type 0} (forms : Forms X T) → (w : Word) → IfSome (joint_at level.Disjunction w) (λ j. Joins forms level.Disjunction (terminal.Word w) (joined forms j))
joins_disjunction forms word.Or = λ xs ys a b s t. disjunction s t
joins_disjunction forms _ = tt

joins_conjunction : {X T : Type 0} (forms : Forms X T) → (w : Word) → IfSome (joint_at level.Conjunction w) (λ j. Joins forms level.Conjunction (terminal.Word w) (joined forms j))
joins_conjunction forms word.And = λ xs ys a b s t. conjunction s t
joins_conjunction forms _ = tt

joins_sum : {X T : Type 0} (forms : Forms X T) → (w : Word) → IfSome (joint_at level.Sum w) (λ j. Joins forms level.Sum (terminal.Word w) (joined forms j))
joins_sum forms word.Plus = λ xs ys a b s t. arithmetic Add s t
joins_sum forms word.Minus = λ xs ys a b s t. arithmetic Sub s t
joins_sum forms _ = tt

joins_product : {X T : Type 0} (forms : Forms X T) → (w : Word) → IfSome (joint_at level.Product w) (λ j. Joins forms level.Product (terminal.Word w) (joined forms j))
joins_product forms word.Star = λ xs ys a b s t. arithmetic Mul s t
joins_product forms word.DoubleSlash = λ xs ys a b s t. arithmetic Floor s t
joins_product forms word.Percent = λ xs ys a b s t. arithmetic Rem s t
joins_product forms _ = tt

joins : {X T : Type 0} (forms : Forms X T) → (k : Level) (w : Word) → IfSome (joint_at k w) (λ j. Joins forms k (terminal.Word w) (joined forms j))
joins forms level.Disjunction w = joins_disjunction forms w
joins forms level.Conjunction w = joins_conjunction forms w
joins forms level.Sum w = joins_sum forms w
joins forms level.Product w = joins_product forms w
joins forms _ w = tt

-- the expression is spelled before the rest
abbrev pub Fronts : {X T : Type 0} (forms : Forms X T) → Level → List (Terminal X) → T × List (Terminal X) → Type 0
Fronts {X} {T} forms k ts x = (front : List (Terminal X)) × (ts ≡ front ++ x.1) × Spells forms k front x.0

abbrev pub Sound : {X T : Type 0} (forms : Forms X T) → Reader X T → Type 0
Sound {X} {T} forms r = (k : Level) (ts : List (Terminal X)) → IfSome (r k ts) (Fronts forms k ts)

-- the tail of a conditional
abbrev pub IsConditionalTail : {X T : Type 0} (forms : Forms X T) → List (Terminal X) → T × T × List (Terminal X) → Type 0
IsConditionalTail {X} {T} forms ts c = (us : List (Terminal X)) × (vs : List (Terminal X)) × (ts ≡ (terminal.Word word.If ∷ us) ++ ((terminal.Word word.Else ∷ vs) ++ c.2)) × Spells forms level.Disjunction us c.0 × Spells forms level.Conditional vs c.1

conditional_tail_sound : {X T : Type 0} (forms : Forms X T) → (r : Reader X T) → Sound forms r → (ts : List (Terminal X)) → IfSome (conditional_tail r ts) (IsConditionalTail forms ts)
conditional_tail_sound forms r h ts =
    if_bound (behind_if ts) _ (Begins word.If ts) _ (begins_if ts) (λ at_test p.
    if_bound (r level.Disjunction at_test) _ (Fronts forms level.Disjunction at_test) _ (h level.Disjunction at_test) (λ t q.
    if_bound (behind_else t.1) _ (Begins word.Else t.1) _ (begins_else t.1) (λ at_no u.
    if_bound (r level.Conditional at_no) _ (Fronts forms level.Conditional at_no) _ (h level.Conditional at_no) (λ b v.
    (q.0, v.0, p ∙ ap (λ l. terminal.Word word.If ∷ l) (q.1 ∙ ap (λ l. q.0 ++ l) (u ∙ ap (λ l. terminal.Word word.Else ∷ l) v.1)), q.2, v.2)))))

-- two pieces, and then the rest
pub join_two : {X : Type 0} → (ts xs ys rest : List (Terminal X)) (us : List (Terminal X)) → ts ≡ xs ++ us → us ≡ ys ++ rest → ts ≡ (xs ++ ys) ++ rest
join_two ts xs ys rest us p q = p ∙ ap (λ l. xs ++ l) q ∙ sym (append_assoc xs ys rest)

with_conditional_tail_sound : {X T : Type 0} (forms : Forms X T) → (r : Reader X T) → Sound forms r → (ts : List (Terminal X)) (a : T × List (Terminal X)) → Fronts forms level.Disjunction ts a → Fronts forms level.Conditional ts (with_conditional_tail forms r a)
with_conditional_tail_sound forms r h ts a f = with_tail (conditional_tail r a.1) _ a (IsConditionalTail forms a.1) (Fronts forms level.Conditional ts) (conditional_tail_sound forms r h a.1)
    (λ c t. (
      (f.0 ++ (terminal.Word word.If ∷ t.0)) ++ (terminal.Word word.Else ∷ t.1),
      join_two ts (f.0 ++ (terminal.Word word.If ∷ t.0)) (terminal.Word word.Else ∷ t.1) c.2 ((terminal.Word word.Else ∷ t.1) ++ c.2) (join_two ts f.0 (terminal.Word word.If ∷ t.0) ((terminal.Word word.Else ∷ t.1) ++ c.2) a.1 f.1 t.2) refl,
      conditional f.2 t.3 t.4,
    ))
    (f.0, f.1, higher f.2)

-- a joint with what stands right of it
abbrev pub IsJointTail : {X T : Type 0} (forms : Forms X T) → Level → List (Terminal X) → (T → T → T) × T × List (Terminal X) → Type 0
IsJointTail {X} {T} forms k ts j = (t : Terminal X) × (us : List (Terminal X)) × (ts ≡ (t ∷ us) ++ j.2) × Joins forms k t j.0 × Spells forms (above k) us j.1

-- a joint, and what stands behind it
abbrev IsJoint : {X T : Type 0} (forms : Forms X T) → Level → List (Terminal X) → (T → T → T) × List (Terminal X) → Type 0
IsJoint {X} {T} forms k ts j = (t : Terminal X) × (ts ≡ t ∷ j.1) × Joins forms k t j.0

operator_joins : {X T : Type 0} (forms : Forms X T) → (x : X) (ts : List (Terminal X)) (o : Option (T → T → T)) → forms.Operator x ≡ o → IfSome (o >>= λ f. Some (f, ts)) (IsJoint forms level.Sum (terminal.Operator x ∷ ts))
operator_joins forms x ts None h = tt
operator_joins forms x ts (Some f) h = (terminal.Operator x, refl, λ xs ys a b s t. operated x h s t)

operator_sound : {X T : Type 0} (forms : Forms X T) → (k : Level) (x : X) (ts : List (Terminal X)) → IfSome (operator_at forms k x ts) (IsJoint forms k (terminal.Operator x ∷ ts))
operator_sound forms level.Sum x ts = operator_joins forms x ts (forms.Operator x) refl
operator_sound forms _ x ts = tt

joint_before_sound : {X T : Type 0} (forms : Forms X T) → (k : Level) (ts : List (Terminal X)) → IfSome (joint_before forms k ts) (IsJoint forms k ts)
joint_before_sound forms k (terminal.Word w ∷ ts) = if_bound (joint_at k w) _ (λ j. Joins forms k (terminal.Word w) (joined forms j)) _ (joins forms k w) (λ j p. (terminal.Word w, refl, p))
joint_before_sound forms k (terminal.Operator x ∷ ts) = operator_sound forms k x ts
joint_before_sound forms k _ = tt

joint_tail_sound : {X T : Type 0} (forms : Forms X T) → (r : Reader X T) → Sound forms r → (k : Level) (ts : List (Terminal X)) → IfSome (joint_tail forms r k ts) (IsJointTail forms k ts)
joint_tail_sound forms r h k ts =
    if_bound (joint_before forms k ts) _ (IsJoint forms k ts) _ (joint_before_sound forms k ts) (λ j p.
    if_bound (r (above k) j.1) _ (Fronts forms (above k) j.1) _ (h (above k) j.1) (λ b q.
    (p.0, q.0, p.1 ∙ ap (λ l. p.0 ∷ l) q.1, p.2, q.2)))

with_joints_sound : {X T : Type 0} (forms : Forms X T) → (r : Reader X T) → Sound forms r → (k : Level) (n : ℕ) (ts : List (Terminal X)) (a : T × List (Terminal X)) → Fronts forms k ts a → Fronts forms k ts (with_joints forms r k n a)
with_joints_sound forms r h k zero ts a f = f
with_joints_sound forms r h k (suc n) ts a f = with_tail (joint_tail forms r k a.1) _ a (IsJointTail forms k a.1) (Fronts forms k ts) (joint_tail_sound forms r h k a.1)
    (λ j t. with_joints_sound forms r h k n ts (j.0 a.0 j.1, j.2) (f.0 ++ (t.0 ∷ t.1), join_two ts f.0 (t.0 ∷ t.1) j.2 a.1 f.1 t.2, t.3 f.0 t.1 a.0 j.1 f.2 t.4))
    f

-- terminals that compare what stands left and right of them so
abbrev pub Compares : {X T : Type 0} (forms : Forms X T) → List (Terminal X) → (T → T → T) → Type 0
Compares {X} {T} forms os f = (xs ys : List (Terminal X)) (a b : T) → Spells forms level.Sum xs a → Spells forms level.Sum ys b → Spells forms level.Comparison ((xs ++ os) ++ ys) (f a b)

-- what compares, and what stands behind it
abbrev pub IsComparator : {X T : Type 0} (forms : Forms X T) → List (Terminal X) → (T → T → T) × List (Terminal X) → Type 0
IsComparator {X} {T} forms ts c = (os : List (Terminal X)) × (ts ≡ os ++ c.1) × Compares forms os c.0

comparator_compares : {X T : Type 0} (forms : Forms X T) → (x : X) (ts : List (Terminal X)) (o : Option (T → T → T)) → forms.Comparator x ≡ o → IfSome (o >>= λ f. Some (f, ts)) (IsComparator forms (terminal.Comparator x ∷ ts))
comparator_compares forms x ts None h = tt
comparator_compares forms x ts (Some f) h = (terminal.Comparator x ∷ [], refl, λ xs ys a b s t. subst (λ l. Spells forms level.Comparison l (f a b)) (sym (append_assoc xs (terminal.Comparator x ∷ []) ys)) (likened x h s t))

comparator_sound : {X T : Type 0} (forms : Forms X T) → (ts : List (Terminal X)) → IfSome (comparator_at forms ts) (IsComparator forms ts)
comparator_sound forms (terminal.Comparator x ∷ ts) = comparator_compares forms x ts (forms.Comparator x) refl
comparator_sound forms (terminal.Word w ∷ ts) = if_bound (comparison_at (terminal.Word w ∷ ts)) _ (λ c. (terminal.Word w ∷ ts) ≡ comparison c.0 ++ c.1) _ (begins_comparison (terminal.Word w ∷ ts)) (λ c p. (comparison c.0, p, λ xs ys a b s t. compared c.0 s t))
comparator_sound forms [] = tt
comparator_sound forms (terminal.Name x ∷ ts) = tt
comparator_sound forms (terminal.Number n ∷ ts) = tt
comparator_sound forms (terminal.Text cs ∷ ts) = tt
comparator_sound forms (terminal.Special x ∷ ts) = tt
comparator_sound forms (terminal.Operator x ∷ ts) = tt
comparator_sound forms (terminal.Other ∷ ts) = tt

abbrev pub IsComparisonTail : {X T : Type 0} (forms : Forms X T) → List (Terminal X) → (T → T → T) × T × List (Terminal X) → Type 0
IsComparisonTail {X} {T} forms ts c = (os : List (Terminal X)) × (us : List (Terminal X)) × (ts ≡ (os ++ us) ++ c.2) × Compares forms os c.0 × Spells forms level.Sum us c.1

comparison_tail_sound : {X T : Type 0} (forms : Forms X T) → (r : Reader X T) → Sound forms r → (ts : List (Terminal X)) → IfSome (comparison_tail forms r ts) (IsComparisonTail forms ts)
comparison_tail_sound forms r h ts =
    if_bound (comparator_at forms ts) _ (IsComparator forms ts) _ (comparator_sound forms ts) (λ c p.
    if_bound (r level.Sum c.1) _ (Fronts forms level.Sum c.1) _ (h level.Sum c.1) (λ b q. (p.0, q.0, join_two ts p.0 q.0 b.1 c.1 p.1 q.1, p.2, q.2)))

with_comparison_sound : {X T : Type 0} (forms : Forms X T) → (r : Reader X T) → Sound forms r → (ts : List (Terminal X)) (a : T × List (Terminal X)) → Fronts forms level.Sum ts a → Fronts forms level.Comparison ts (with_comparison forms r a)
with_comparison_sound forms r h ts a f = with_tail (comparison_tail forms r a.1) _ a (IsComparisonTail forms a.1) (Fronts forms level.Comparison ts) (comparison_tail_sound forms r h a.1)
    (λ c t. ((f.0 ++ t.0) ++ t.1, join_two ts f.0 (t.0 ++ t.1) c.2 a.1 f.1 t.2 ∙ ap (λ l. l ++ c.2) (sym (append_assoc f.0 t.0 t.1)), t.3 f.0 t.1 a.0 c.1 f.2 t.4))
    (f.0, f.1, higher f.2)

power_tail_sound : {X T : Type 0} (forms : Forms X T) → (r : Reader X T) → Sound forms r → (ts : List (Terminal X)) → IfSome (power_tail r ts) (λ b. (us : List (Terminal X)) × (ts ≡ (terminal.Word word.DoubleStar ∷ us) ++ b.1) × Spells forms level.Unary us b.0)
power_tail_sound forms r h ts = if_bound (behind_power ts) _ (Begins word.DoubleStar ts) _ (begins_power ts) (λ rest p. weaker (r level.Unary rest) (Fronts forms level.Unary rest) _ (h level.Unary rest) (λ b q. (q.0, p ∙ ap (λ l. terminal.Word word.DoubleStar ∷ l) q.1, q.2)))

with_power_sound : {X T : Type 0} (forms : Forms X T) → (r : Reader X T) → Sound forms r → (ts : List (Terminal X)) (a : T × List (Terminal X)) → Fronts forms level.Postfix ts a → Fronts forms level.Power ts (with_power forms r a)
with_power_sound {X} {T} forms r h ts a f = with_tail (power_tail r a.1) _ a (λ b. (us : List (Terminal X)) × (a.1 ≡ (terminal.Word word.DoubleStar ∷ us) ++ b.1) × Spells forms level.Unary us b.0) (Fronts forms level.Power ts) (power_tail_sound forms r h a.1)
    (λ b t. (f.0 ++ (terminal.Word word.DoubleStar ∷ t.0), join_two ts f.0 (terminal.Word word.DoubleStar ∷ t.0) b.1 a.1 f.1 t.1, arithmetic Power f.2 t.2))
    (f.0, f.1, higher f.2)

-- what stands in brackets, with its end
pub data SpellsSuffix {X T : Type 0} (forms : Forms X T) : List (Terminal X) → (Suffix T) → Type 0 where
  indexed : {ys : List (Terminal X)} {i : T} → Spells forms level.Conditional ys i → SpellsSuffix forms (ys ++ terminal.Word word.RightBracket ∷ []) (by_index i)
  sliced : {ys zs : List (Terminal X)} {from to : Option T} → SpellsEnd forms ys from → SpellsEnd forms zs to → SpellsSuffix forms (ys ++ terminal.Word word.Colon ∷ zs ++ terminal.Word word.RightBracket ∷ []) (by_ends from to)

abbrev pub FrontsSuffix : {X T : Type 0} (forms : Forms X T) → List (Terminal X) → (Suffix T) × List (Terminal X) → Type 0
FrontsSuffix {X} {T} forms ts s = (front : List (Terminal X)) × (ts ≡ front ++ s.1) × SpellsSuffix forms front s.0

-- the second end of a slice and its bracket
abbrev pub IsSecondEnd : {X T : Type 0} (forms : Forms X T) → List (Terminal X) → Option T × List (Terminal X) → Type 0
IsSecondEnd {X} {T} forms ts to = (zs : List (Terminal X)) × (ts ≡ (zs ++ (terminal.Word word.RightBracket ∷ [])) ++ to.1) × SpellsEnd forms zs to.0

second_end_sound : {X T : Type 0} (forms : Forms X T) → (r : Reader X T) → Sound forms r → (ts : List (Terminal X)) → IfSome (second_end r ts) (IsSecondEnd forms ts)
second_end_sound forms r h ts = either_way (behind_closing_bracket ts) _ _ (Begins word.RightBracket ts) _ (begins_closing_bracket ts) (λ rest p. ([], p, missing))
    (if_bound (r level.Conditional ts) _ (Fronts forms level.Conditional ts) _ (h level.Conditional ts) (λ e q.
    if_bound (behind_closing_bracket e.1) _ (Begins word.RightBracket e.1) _ (begins_closing_bracket e.1) (λ rest p.
    (q.0, join_two ts q.0 (terminal.Word word.RightBracket ∷ []) rest e.1 q.1 p, given q.2))))

abbrev pub IsLastEnd : {X T : Type 0} (forms : Forms X T) → Option T → List (Terminal X) → (Suffix T) × List (Terminal X) → Type 0
IsLastEnd {X} {T} forms from ts s = (zs : List (Terminal X)) × (to : Option T) × (ts ≡ (zs ++ (terminal.Word word.RightBracket ∷ [])) ++ s.1) × (s.0 ≡ by_ends from to) × SpellsEnd forms zs to

last_end_sound : {X T : Type 0} (forms : Forms X T) → (r : Reader X T) → Sound forms r → (from : Option T) (ts : List (Terminal X)) → IfSome (last_end r from ts) (IsLastEnd forms from ts)
last_end_sound forms r h from ts = if_bound (second_end r ts) _ (IsSecondEnd forms ts) _ (second_end_sound forms r h ts) (λ to q. (q.0, to.0, q.1, refl, q.2))

-- behind the colon of a slice
sliced_at : {X T : Type 0} (forms : Forms X T) → (ts ys us : List (Terminal X)) (from : Option T) (s : (Suffix T) × List (Terminal X)) → ts ≡ ys ++ (terminal.Word word.Colon ∷ us) → SpellsEnd forms ys from → IsLastEnd forms from us s → FrontsSuffix forms ts s
sliced_at forms ts ys us from s p f l = (
  (ys ++ (terminal.Word word.Colon ∷ l.0)) ++ (terminal.Word word.RightBracket ∷ []),
  p ∙ ap (λ x. ys ++ (terminal.Word word.Colon ∷ x)) (l.2 ∙ append_assoc l.0 (terminal.Word word.RightBracket ∷ []) s.1) ∙ sym (append_assoc ys (terminal.Word word.Colon ∷ l.0) (terminal.Word word.RightBracket ∷ s.1)) ∙ sym (append_assoc (ys ++ (terminal.Word word.Colon ∷ l.0)) (terminal.Word word.RightBracket ∷ []) s.1),
  subst (SpellsSuffix forms ((ys ++ (terminal.Word word.Colon ∷ l.0)) ++ (terminal.Word word.RightBracket ∷ []))) (sym l.3) (sliced f l.4),
)

in_brackets_sound : {X T : Type 0} (forms : Forms X T) → (r : Reader X T) → Sound forms r → (ts : List (Terminal X)) → IfSome (in_brackets r ts) (FrontsSuffix forms ts)
in_brackets_sound forms r h ts = either_way (behind_colon ts) _ _ (Begins word.Colon ts) _ (begins_colon ts)
    (λ rest p. weaker (last_end r None rest) (IsLastEnd forms None rest) _ (last_end_sound forms r h None rest) (λ s l. sliced_at forms ts [] rest None s p missing l))
    (if_bound (r level.Conditional ts) _ (Fronts forms level.Conditional ts) _ (h level.Conditional ts) (λ i q.
    either_way (behind_closing_bracket i.1) _ _ (Begins word.RightBracket i.1) _ (begins_closing_bracket i.1)
    (λ rest p. (q.0 ++ (terminal.Word word.RightBracket ∷ []), join_two ts q.0 (terminal.Word word.RightBracket ∷ []) rest i.1 q.1 p, indexed q.2))
    (if_bound (behind_colon i.1) _ (Begins word.Colon i.1) _ (begins_colon i.1) (λ rest p.
    weaker (last_end r ((Some i.0)) rest) (IsLastEnd forms ((Some i.0)) rest) _ (last_end_sound forms r h ((Some i.0)) rest) (λ s l. sliced_at forms ts q.0 rest ((Some i.0)) s (q.1 ∙ ap (λ x. q.0 ++ x) p) (given q.2) l)))))

suffix_at_sound : {X T : Type 0} (forms : Forms X T) → (r : Reader X T) → Sound forms r → (ts : List (Terminal X)) → IfSome (suffix_at r ts) (λ s. (us : List (Terminal X)) × (ts ≡ (terminal.Word word.LeftBracket ∷ us) ++ s.1) × SpellsSuffix forms us s.0)
suffix_at_sound forms r h ts = if_bound (behind_bracket ts) _ (Begins word.LeftBracket ts) _ (begins_bracket ts) (λ rest p. weaker (in_brackets r rest) (FrontsSuffix forms rest) _ (in_brackets_sound forms r h rest) (λ s f. (f.0, p ∙ ap (λ l. terminal.Word word.LeftBracket ∷ l) f.1, f.2)))

-- a value with its suffix
suffixes : {X T : Type 0} (forms : Forms X T) → (xs us : List (Terminal X)) (v : T) (s : (Suffix T)) → Spells forms level.Postfix xs v → SpellsSuffix forms us s → Spells forms level.Postfix (xs ++ (terminal.Word word.LeftBracket ∷ us)) (suffixed forms v s)
suffixes forms xs us v (by_index i) h (indexed {ys} k) = subst (λ l. Spells forms level.Postfix l (suffixed forms v (by_index i))) (append_assoc xs (terminal.Word word.LeftBracket ∷ ys) (terminal.Word word.RightBracket ∷ [])) (index h k)
suffixes forms xs us v (by_ends from to) h (sliced {ys} {zs} f t) = subst (λ l. Spells forms level.Postfix l (suffixed forms v (by_ends from to)))
    (append_assoc (xs ++ (terminal.Word word.LeftBracket ∷ ys)) (terminal.Word word.Colon ∷ zs) (terminal.Word word.RightBracket ∷ []) ∙ append_assoc xs (terminal.Word word.LeftBracket ∷ ys) ((terminal.Word word.Colon ∷ zs) ++ (terminal.Word word.RightBracket ∷ [])) ∙ ap (λ l. xs ++ (terminal.Word word.LeftBracket ∷ l)) (sym (append_assoc ys (terminal.Word word.Colon ∷ zs) (terminal.Word word.RightBracket ∷ []))))
    (slice h f t)

with_suffixes_sound : {X T : Type 0} (forms : Forms X T) → (r : Reader X T) → Sound forms r → (n : ℕ) (ts : List (Terminal X)) (v : T × List (Terminal X)) → Fronts forms level.Postfix ts v → Fronts forms level.Postfix ts (with_suffixes forms r n v)
with_suffixes_sound {X} {T} forms r h zero ts v f = f
with_suffixes_sound {X} {T} forms r h (suc n) ts v f = with_tail (suffix_at r v.1) _ v (λ s. (us : List (Terminal X)) × (v.1 ≡ (terminal.Word word.LeftBracket ∷ us) ++ s.1) × SpellsSuffix forms us s.0) (Fronts forms level.Postfix ts) (suffix_at_sound forms r h v.1)
    (λ s t. with_suffixes_sound forms r h n ts (suffixed forms v.0 s.0, s.1) (f.0 ++ (terminal.Word word.LeftBracket ∷ t.0), join_two ts f.0 (terminal.Word word.LeftBracket ∷ t.0) s.1 v.1 f.1 t.1, (suffixes forms) f.0 t.0 v.0 s.0 f.2 t.2))
    f

-- elements, and what closes them
abbrev pub AreElements : {X T : Type 0} (forms : Forms X T) → Bracket → List (Terminal X) → List T × List (Terminal X) → Type 0
AreElements {X} {T} forms b ts es = (us : List (Terminal X)) × (ts ≡ (us ++ (terminal.Word (closing b) ∷ [])) ++ es.1) × SpellsAll forms us es.0

abbrev pub IsSome_terms : {T : Type 0} → List T → Type 0
IsSome_terms [] = ⊥
IsSome_terms ((e ∷ es)) = Unit {0}

prepend : {X T : Type 0} (forms : Forms X T) → (us vs : List (Terminal X)) (e : T) (es : List T) → IsSome_terms es → Spells forms level.Conditional us e → SpellsAll forms vs es → SpellsAll forms (us ++ (terminal.Word word.Comma ∷ vs)) ((e ∷ es))
prepend forms us vs e [] h s t = absurd h
prepend forms us vs e ((f ∷ es)) h s t = more s t

some_elements_sound : {X T : Type 0} (forms : Forms X T) → (r : Reader X T) → Sound forms r → (b : Bracket) (n : ℕ) (ts : List (Terminal X)) → IfSome (some_elements r b n ts) (λ es. IsSome_terms es.0 × AreElements forms b ts es)
some_elements_sound forms r h b zero ts = tt
some_elements_sound forms r h b (suc n) ts =
    if_bound (r level.Conditional ts) _ (Fronts forms level.Conditional ts) _ (h level.Conditional ts) (λ e q.
    either_way (closed b e.1) _ _ (Begins (closing b) e.1) _ (begins_closed b e.1) (λ rest p. (tt, (q.0, join_two ts q.0 (terminal.Word (closing b) ∷ []) rest e.1 q.1 p, one q.2)))
    (if_bound (behind_comma e.1) _ (Begins word.Comma e.1) _ (begins_comma e.1) (λ next p.
    if_bound (some_elements r b n next) _ (λ es. IsSome_terms es.0 × AreElements forms b next es) _ (some_elements_sound forms r h b n next) (λ es t. (
      tt,
      (
        q.0 ++ (terminal.Word word.Comma ∷ t.1.0),
        q.1 ∙ ap (λ l. q.0 ++ l) (p ∙ ap (λ l. terminal.Word word.Comma ∷ l) (t.1.1 ∙ append_assoc t.1.0 (terminal.Word (closing b) ∷ []) es.1)) ∙ sym (append_assoc q.0 (terminal.Word word.Comma ∷ t.1.0) (terminal.Word (closing b) ∷ es.1)) ∙ sym (append_assoc (q.0 ++ (terminal.Word word.Comma ∷ t.1.0)) (terminal.Word (closing b) ∷ []) es.1),
        (prepend forms) q.0 t.1.0 e.0 es.0 t.0 q.2 t.1.2,
      ),
    )))))

elements_sound : {X T : Type 0} (forms : Forms X T) → (r : Reader X T) → Sound forms r → (b : Bracket) (ts : List (Terminal X)) → IfSome (elements r b ts) (AreElements forms b ts)
elements_sound forms r h b ts = either_way (closed b ts) _ _ (Begins (closing b) ts) _ (begins_closed b ts) (λ rest p. ([], p, none))
    (weaker (some_elements r b (length ts) ts) (λ es. IsSome_terms es.0 × AreElements forms b ts es) _ (some_elements_sound forms r h b (length ts) ts) (λ es t. t.1))

abbrev pub AreArguments : {X T : Type 0} (forms : Forms X T) → List (Terminal X) → List T × List (Terminal X) → Type 0
AreArguments {X} {T} forms ts es = (us : List (Terminal X)) × (ts ≡ ((terminal.Word word.LeftParen ∷ us) ++ (terminal.Word word.RightParen ∷ [])) ++ es.1) × SpellsAll forms us es.0

arguments_sound : {X T : Type 0} (forms : Forms X T) → (r : Reader X T) → Sound forms r → (ts : List (Terminal X)) → IfSome (arguments r ts) (AreArguments forms ts)
arguments_sound forms r h ts = if_bound (behind_paren ts) _ (Begins word.LeftParen ts) _ (begins_paren ts) (λ rest p.
    weaker (elements r bracket.Round rest) (AreElements forms bracket.Round rest) _ (elements_sound forms r h bracket.Round rest) (λ es t. (t.0, p ∙ ap (λ l. terminal.Word word.LeftParen ∷ l) t.1, t.2)))

name_or_call_sound : {X T : Type 0} (forms : Forms X T) → (r : Reader X T) → Sound forms r → (x : List ℕ) (ts : List (Terminal X)) → Fronts forms level.Atom (terminal.Name x ∷ ts) (name_or_call forms r x ts)
name_or_call_sound {X} {T} forms r h x ts = let a : T × List (Terminal X) = (forms.Name x, ts) in with_tail (arguments r ts) _ a (AreArguments forms ts) (Fronts forms level.Atom (terminal.Name x ∷ ts)) (arguments_sound forms r h ts)
    (λ es t. (terminal.Name x ∷ ((terminal.Word word.LeftParen ∷ t.0) ++ (terminal.Word word.RightParen ∷ [])), ap (λ l. terminal.Name x ∷ l) t.1, call x t.2))
    (terminal.Name x ∷ [], refl, name x)

in_parens_sound : {X T : Type 0} (forms : Forms X T) → (r : Reader X T) → Sound forms r → (ts : List (Terminal X)) → IfSome (in_parens r ts) (Fronts forms level.Atom (terminal.Word word.LeftParen ∷ ts))
in_parens_sound forms r h ts =
    if_bound (r level.Conditional ts) _ (Fronts forms level.Conditional ts) _ (h level.Conditional ts) (λ e q.
    if_bound (behind_closing_paren e.1) _ (Begins word.RightParen e.1) _ (begins_closing_paren e.1) (λ rest p.
    (terminal.Word word.LeftParen ∷ (q.0 ++ (terminal.Word word.RightParen ∷ [])), ap (λ l. terminal.Word word.LeftParen ∷ l) (join_two ts q.0 (terminal.Word word.RightParen ∷ []) rest e.1 q.1 p), parenthesized q.2)))

special_sound : {X T : Type 0} (forms : Forms X T) → (x : X) (ts : List (Terminal X)) (o : Option T) → forms.Hole x ≡ o → IfSome (o >>= λ e. Some (e, ts)) (Fronts forms level.Atom (terminal.Special x ∷ ts))
special_sound forms x ts None h = tt
special_sound forms x ts (Some e) h = (terminal.Special x ∷ [], refl, hole x h)

set_spelled : {X T : Type 0} (forms : Forms X T) → (ts : List (Terminal X)) (es : List T × List (Terminal X)) → AreElements forms bracket.Curly ts es → (o : Option T) → forms.Set es.0 ≡ o → IfSome (o >>= λ e. Some (e, es.1)) (Fronts forms level.Atom (terminal.Word word.LeftBrace ∷ ts))
set_spelled forms ts es t None h = tt
set_spelled forms ts es t (Some e) h = (terminal.Word word.LeftBrace ∷ (t.0 ++ (terminal.Word word.RightBrace ∷ [])), ap (λ l. terminal.Word word.LeftBrace ∷ l) t.1, set_of h t.2)

set_sound : {X T : Type 0} (forms : Forms X T) → (r : Reader X T) → Sound forms r → (ts : List (Terminal X)) → IfSome (set forms r ts) (Fronts forms level.Atom (terminal.Word word.LeftBrace ∷ ts))
set_sound forms r h ts = if_bound (elements r bracket.Curly ts) _ (AreElements forms bracket.Curly ts) _ (elements_sound forms r h bracket.Curly ts) (λ es t. set_spelled forms ts es t (forms.Set es.0) refl)

atom_sound : {X T : Type 0} (forms : Forms X T) → (r : Reader X T) → Sound forms r → (ts : List (Terminal X)) → IfSome (atom forms r ts) (Fronts forms level.Atom ts)
atom_sound forms r h (terminal.Number n ∷ ts) = (terminal.Number n ∷ [], refl, number n)
atom_sound forms r h (terminal.Text cs ∷ ts) = (terminal.Text cs ∷ [], refl, quoted cs)
atom_sound forms r h (terminal.Word word.True ∷ ts) = (terminal.Word word.True ∷ [], refl, truth true)
atom_sound forms r h (terminal.Word word.False ∷ ts) = (terminal.Word word.False ∷ [], refl, truth false)
atom_sound forms r h (terminal.Special x ∷ ts) = special_sound forms x ts (forms.Hole x) refl
atom_sound forms r h (terminal.Name x ∷ ts) = name_or_call_sound forms r h x ts
atom_sound forms r h (terminal.Word word.LeftBracket ∷ ts) = if_bound (elements r bracket.Square ts) _ (AreElements forms bracket.Square ts) _ (elements_sound forms r h bracket.Square ts)
    (λ es t. (terminal.Word word.LeftBracket ∷ (t.0 ++ (terminal.Word word.RightBracket ∷ [])), ap (λ l. terminal.Word word.LeftBracket ∷ l) t.1, items t.2))
atom_sound forms r h (terminal.Word word.LeftBrace ∷ ts) = set_sound forms r h ts
atom_sound forms r h (terminal.Word word.LeftParen ∷ ts) = in_parens_sound forms r h ts
atom_sound forms r h _ = tt

prefixed_sound : {X T : Type 0} (forms : Forms X T) → (r : Reader X T) → Sound forms r → (k : Level) (w : Word) (b : List (Terminal X) → Option (List (Terminal X))) (f : T → T) → ((ts : List (Terminal X)) → IfSome (b ts) (Begins w ts)) → ((xs : List (Terminal X)) (e : T) → Spells forms k xs e → Spells forms k (terminal.Word w ∷ xs) (f e)) → (ts : List (Terminal X)) → IfSome (prefixed r k b f ts) (Fronts forms k ts)
prefixed_sound forms r h k w b f begins spells ts = either_way (b ts) _ _ (Begins w ts) _ (begins ts)
    (λ rest p. if_bound (r k rest) _ (Fronts forms k rest) _ (h k rest) (λ e q. (terminal.Word w ∷ q.0, p ∙ ap (λ l. terminal.Word w ∷ l) q.1, spells q.0 e.0 q.2)))
    (weaker (r (above k) ts) (Fronts forms (above k) ts) _ (h (above k) ts) (λ e q. (q.0, q.1, higher q.2)))

chain_sound : {X T : Type 0} (forms : Forms X T) → (r : Reader X T) → Sound forms r → (k : Level) (ts : List (Terminal X)) → IfSome (r (above k) ts >>= λ a. Some (with_joints forms r k (length a.1) a)) (Fronts forms k ts)
chain_sound forms r h k ts = if_bound (r (above k) ts) _ (Fronts forms (above k) ts) _ (h (above k) ts) (λ a f. with_joints_sound forms r h k (length a.1) ts a (f.0, f.1, higher f.2))

at_level_sound : {X T : Type 0} (forms : Forms X T) → (r : Reader X T) → Sound forms r → Sound forms (at_level forms r)
at_level_sound forms r h level.Conditional ts = if_bound (r level.Disjunction ts) _ (Fronts forms level.Disjunction ts) _ (h level.Disjunction ts) (λ a f. with_conditional_tail_sound forms r h ts a f)
at_level_sound forms r h level.Disjunction ts = chain_sound forms r h level.Disjunction ts
at_level_sound forms r h level.Conjunction ts = chain_sound forms r h level.Conjunction ts
at_level_sound forms r h level.Negation ts = prefixed_sound forms r h level.Negation word.Not behind_not forms.Not begins_not (λ xs e s. negation s) ts
at_level_sound forms r h level.Comparison ts = if_bound (r level.Sum ts) _ (Fronts forms level.Sum ts) _ (h level.Sum ts) (λ a f. with_comparison_sound forms r h ts a f)
at_level_sound forms r h level.Sum ts = chain_sound forms r h level.Sum ts
at_level_sound forms r h level.Product ts = chain_sound forms r h level.Product ts
at_level_sound forms r h level.Unary ts = prefixed_sound forms r h level.Unary word.Minus behind_minus forms.Neg begins_minus (λ xs e s. minus s) ts
at_level_sound forms r h level.Power ts = if_bound (r level.Postfix ts) _ (Fronts forms level.Postfix ts) _ (h level.Postfix ts) (λ a f. with_power_sound forms r h ts a f)
at_level_sound forms r h level.Postfix ts = if_bound (r level.Atom ts) _ (Fronts forms level.Atom ts) _ (h level.Atom ts) (λ a f. with_suffixes_sound forms r h (length a.1) ts a (f.0, f.1, higher f.2))
at_level_sound forms r h level.Atom ts = atom_sound forms r h ts

read_within_sound : {X T : Type 0} (forms : Forms X T) → (n : ℕ) → Sound forms (read_within forms n)
read_within_sound forms zero k ts = tt
read_within_sound forms (suc n) k ts = at_level_sound forms (read_within forms n) (read_within_sound forms n) k ts

-- what is read is spelled before the rest
pub reading_sound : {X T : Type 0} (forms : Forms X T) → Sound forms (reading forms)
unfolding reading
reading_sound forms k ts = read_within_sound forms (steps k ts) k ts
