use Rattle.std.proofs.Common.{◌≡◌, ◌+◌, ◌++◌, ◌∷◌, [], ℕ, get_or, map, take, ap, ◌∙◌, subst, sym, arith}
use Rattle.std.proofs.lemmas.List.{map_push, take_more}
use Rattle.mpy_tree.specs.declared.typing.Ty.TheVariants.{Int}
use Rattle.bit_words.specs.Later.{AddsVariables, adds_trans, owned_later}
use Rattle.sym_values.specs.Forms.{bits_of, form_for, form_of}
use Rattle.sym_values.specs.Later.{values_later}
use Rattle.sym_values.specs.Owned.{owns_one_more}
use Rattle.sym_values.specs.Reading.{map_bits}
use Rattle.sym_values.proofs.Held.{pushed_read}
use Rattle.input_space.specs.ValueBits.{all_bits_for}
use Rattle.input_bits.specs.Layout.{all_laid_out}
use Rattle.input_bits.proofs.LaidOut.{all_bits_more, all_laid_more}
use Rattle.input_bits.proofs.fresh.fresh_values.Goals as goal

pub loop-ty-preserved : goal.loop-ty-preserved
loop-ty-preserved g c =
    let v = g.V.Logic in
    let l = c.args.limits.now in
    let before = c.loop-ty.invariant in
    let keeps = c.fresh_value.ensures.keeps in
    let made = c.in_ok-value.ensures.made in
    let ts = c.args.types.now in
    let i = c.loop-ty.ty-index in
    let t = get_or ts i Int in
    let start = v.count c.args.g.now in
    let next : take (i + 1) ts ≡ take i ts ++ t ∷ [] = take_more ts i Int (omega arith) in
    let pushed = c.in_ok-push.ensures.ok in
    let many : all_bits_for l (take i ts ++ t ∷ []) ≡ all_bits_for l (take i ts) + _ = all_bits_more l (take i ts) t in
    let place : v.count c.loop-ty.g ≡ start + all_bits_for l (take i ts) = before.adds.variables in
    record {
      adds = subst (λ (k : ℕ). AddsVariables v.owns v.reads v.count k c.args.g.now c.fresh_value.new.g)
          (sym many ∙ ap (all_bits_for l) (sym next)) (adds_trans before.adds c.in_ok-value.ensures.adds);
      owned = owns_one_more bits_of c.loop-ty.values _ c.in_ok-value.value (owned_later keeps before.owned) made.owned pushed;
      forms = ap (map form_of) pushed ∙ map_push form_of c.loop-ty.values c.in_ok-value.value
          ∙ ap (λ fs. fs ++ form_of c.in_ok-value.value ∷ []) before.forms ∙ ap (λ f. map (form_for l) (take i ts) ++ f ∷ []) made.form
          ∙ sym (map_push (form_for l) (take i ts) t) ∙ ap (map (form_for l)) (sym next);
      value = λ vs.
          pushed_read (map_bits (v.reads c.loop-ty.g vs)) (map_bits (v.reads c.fresh_value.new.g vs)) c.loop-ty.values _ c.in_ok-value.value _ _
          (values_later keeps c.loop-ty.values before.owned vs) (before.value vs) (rw place at (c.in_ok-value.ensures.value vs)) pushed
          ∙ sym (all_laid_more l (take i ts) t vs start) ∙ ap (λ xs. all_laid_out l xs vs start) (sym next);
    }
