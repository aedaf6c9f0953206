use Rattle.std.proofs.Common.{ℕ, ◌<◌, length, Option, IfSome, sym, ◌∙◌, subst}
use Rattle.mpy_scopes.proofs.Positions.{place_within}
use Rattle.mpy_scopes.proofs.index.Index.find.Goals as goal

pub returns-clause-within : goal.returns-clause-within
returns-clause-within c =
    let P : Option ℕ → Type 0 = λ o. IfSome o (λ k. k < length c.args.self.now.names.items) in
    subst P (sym (c.copied.ensures ∙ c.get.ensures.value ∙ c.args.self.now.linked c.bytes.result)) (place_within c.args.self.now.names.items c.bytes.result.now)
