use Rattle.std.proofs.Common.{◌≡◌, ◌∙◌, ◌+◌, ◌*◌, ◌/◌, ◌≤◌, ◌++◌, ◌∷◌, [], ap, arith, get_or, length, subst, sym, take}
use Rattle.std.specs.List.{AllZip}
use Rattle.std.proofs.Math.Nat.{mul-le-mul_left, mul-le-mul_right}
use Rattle.std.proofs.lemmas.List.{take_more}
use Rattle.input_bits.specs.Cases.{Covers, cases}
use Rattle.input_bits.proofs.CaseLaws.{cases_more, zip_more}
use Rattle.input_bits.proofs.splitting.splits.Goals as goal

pub loop-param-preserved : goal.loop-param-preserved
loop-param-preserved c =
    let before = c.loop-param.invariant in
    let params = c.args.bounds.now.params in
    let i = c.loop-param.param-index in
    let split = c.split-split.result in
    let items = c.items-param-items.ensures in
    let many = ap length items in
    let next : take (i + 1) params ≡ take i params ++ c.param-item.result ∷ [] = take_more params i c.param-item.result (omega arith)
    ∙ ap (λ y. take i params ++ y ∷ []) (sym (c.param-item.is ∙ ap (λ xs. get_or xs i c.param-item.result) items)) in
    let pushed = c.in_ok-push.ensures.items in
    let few : c.loop-param.count * split.parts ≤ c.loop-param.count * (64 / c.loop-param.count) = mul-le-mul_left c.loop-param.count c.split-split.ensures.few in
    let some : 1 * split.parts ≤ c.loop-param.count * split.parts = mul-le-mul_right split.parts before.some in
    record {
      covers = subst (λ ss. AllZip Covers ss (take (i + 1) params)) (sym pushed)
          (subst (AllZip Covers (c.loop-param.found.items ++ split ∷ [])) (sym next) (zip_more Covers c.loop-param.found.items (take i params) split c.param-item.result before.covers c.split-split.ensures.covers));
      count = ap (λ k. k * split.parts) before.count ∙ sym (cases_more c.loop-param.found.items split) ∙ ap cases (sym pushed);
      some = omega arith;
      few = omega arith;
    }
