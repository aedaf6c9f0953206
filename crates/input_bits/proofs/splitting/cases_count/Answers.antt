use Rattle.std.proofs.Common.{◌≡◌, ◌∙◌, ◌+◌, ◌*◌, ◌++◌, ◌∷◌, [], ap, arith, sym, take}
use Rattle.std.proofs.lemmas.List.{take_more}
use Rattle.input_bits.specs.Cases.{cases}
use Rattle.input_bits.proofs.CaseLaws.{cases_more, cases_taken}
use Rattle.input_bits.proofs.splitting.cases_count.Goals as goal

one_more : (c : goal.After-split-item) → c.loop-split.count * c.split-item.result.parts ≡ cases (take (c.loop-split.split-index + 1) c.args.splits.now)
one_more c =
    let splits = c.args.splits.now in
    let i = c.loop-split.split-index in
    let split = c.split-item.result in
    let next : take (i + 1) splits ≡ take i splits ++ split ∷ [] = take_more splits i split (omega arith) ∙ ap (λ y. take i splits ++ y ∷ []) (sym c.split-item.is) in
    ap (λ k. k * split.parts) c.loop-split.invariant ∙ sym (ap cases next ∙ cases_more (take i splits) split)

pub overflow_mul-count : goal.overflow_mul-count
overflow_mul-count c =
    let same = one_more c in
    let most = cases_taken c.args.splits.now (c.loop-split.split-index + 1) in
    omega (arith, c.requires)

pub loop-split-preserved : goal.loop-split-preserved
loop-split-preserved c = one_more c
