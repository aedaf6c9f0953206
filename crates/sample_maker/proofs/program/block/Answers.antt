use Rattle.std.specs.Prelude.{◌≡◌}
use Rattle.std.specs.Fmt.{decimal, signed_decimal}
use Rattle.std.proofs.Common.{◌∙◌, ap, w32, to_z, of_z}
use Rattle.std.proofs.lemmas.Int.{to_z-of_z}
use Rattle.sample_maker.specs.Samples.{limit_at}
use Rattle.sample_maker.proofs.Blocks.{regrouped, lines_of}
use Rattle.sample_maker.proofs.program.block.Goals as goal

pub returns : goal.returns
returns c =
    let limit : to_z w32 (of_z w32 c.limit_at-limit.result) ≡ limit_at c.args.number c.args.place = to_z-of_z w32 c.limit_at-limit.result (record { sfits = c.limit_at-limit.type_inv }) ∙ c.limit_at-limit.ensures in
    let made = c.in_ok-text.ensures.ok ∙ regrouped c.args.operator.now (signed_decimal (to_z w32 (of_z w32 c.limit_at-limit.result))) (decimal c.amount_at-amount.result) in
    ap (λ v. v.items) c.into_bytes.ensures.value ∙ made ∙ lines_of c.args.operator.now limit c.amount_at-amount.ensures
