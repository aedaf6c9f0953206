use Rattle.std.proofs.Common.{◌∙◌, ◌&&◌, ap, is_some, sym}
use Rattle.std.specs.List.{list_all}
use Rattle.test_picker.proofs.search.Found.is_settled.Goals as goal

pub returns-then-self : goal.returns-then-self
returns-then-self c =
    c.all_failed-failed.ensures ∙ ap (list_all is_some) c.deref.ensures.value
    ∙ sym (ap (λ t. t && list_all is_some c.args.self.now.firsts.items) c.if-self.true)
