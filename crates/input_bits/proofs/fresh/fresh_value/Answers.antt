use Rattle.std.proofs.Common.{◌≡◌, ◌∙◌, ◌+◌, ℕ, Bool, List, sym, subst}
use Rattle.mpy_tree.specs.declared.limits.Limits.{Limits}
use Rattle.mpy_tree.specs.declared.typing.Ty.{Ty}
use Rattle.mpy_tree.specs.declared.typing.Ty.TheVariants as ty
use Rattle.bit_words.specs.Later.{read_later, values_from}
use Rattle.sym_values.specs.declared.value.SymValue.TheVariants as value
use Rattle.input_space.specs.ValueBits.{words_from}
use Rattle.input_bits.specs.Layout.{laid_out}
use Rattle.input_bits.proofs.fresh.fresh_value.Goals as goal

list_laid : (l : Limits) (t : Ty) (vs : List Bool) (start : ℕ) (len : List Bool) (items : List (List Bool)) → t ≡ ty.List
    → len ≡ values_from vs start 5 → items ≡ words_from vs (start + 5) l.width l.cap → value.List len items ≡ laid_out l t vs start
list_laid l t vs start len items e p q =
    let same : value.List len items ≡ value.List (values_from vs start 5) (words_from vs (start + 5) l.width l.cap) = cc in
    subst (λ u. value.List len items ≡ laid_out l u vs start) (sym e) same

text_laid : (l : Limits) (t : Ty) (vs : List Bool) (start : ℕ) (len : List Bool) (items : List (List Bool)) → t ≡ ty.Text
    → len ≡ values_from vs start 5 → items ≡ words_from vs (start + 5) 7 l.cap → value.Text len items ≡ laid_out l t vs start
text_laid l t vs start len items e p q =
    let same : value.Text len items ≡ value.Text (values_from vs start 5) (words_from vs (start + 5) 7 l.cap) = cc in
    subst (λ u. value.Text len items ≡ laid_out l u vs start) (sym e) same

pub returns-in_ok-items-in-List-clause-value : goal.returns-in_ok-items-in-List-clause-value
returns-in_ok-items-in-List-clause-value g c vs =
    let place = c.in_ok-len-in-List.ensures.adds.variables in
    list_laid c.args.limits.now c.args.ty vs (g.V.Logic.count c.args.g.now) _ _ c.in-List.is
    (read_later c.fresh_words.ensures.keeps c.in_ok-len-in-List.ensures.made.owned vs ∙ c.in_ok-len-in-List.ensures.value vs)
    (rw place at (c.in_ok-items-in-List.ensures.value vs))

pub returns-in_ok-items-in-Text-clause-value : goal.returns-in_ok-items-in-Text-clause-value
returns-in_ok-items-in-Text-clause-value g c vs =
    let place = c.in_ok-len-in-Text.ensures.adds.variables in
    text_laid c.args.limits.now c.args.ty vs (g.V.Logic.count c.args.g.now) _ _ c.in-Text.is
    (read_later c.fresh_words-in-Text.ensures.keeps c.in_ok-len-in-Text.ensures.made.owned vs ∙ c.in_ok-len-in-Text.ensures.value vs)
    (rw place at (c.in_ok-items-in-Text.ensures.value vs))
