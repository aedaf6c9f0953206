use Rattle.std.proofs.Common.{ap, sym, ◌∙◌, ◌&&◌}
use Rattle.std.specs.List.{list_any}
use Rattle.choice_tree.specs.RuleViews.{template_of}
use Rattle.choice_tree.specs.Templates.{has_prime}
use Rattle.eml_faults.specs.Walks.{is_primed_hole}
use Rattle.eml_faults.proofs.Walks.{primes_by_nodes}
use Rattle.eml_faults.proofs.meanings.has_stray_prime.Goals as goal

pub returns-then-is_bare : goal.returns-then-is_bare
returns-then-is_bare c =
    let p = template_of c.args.rule.now.right.term in
    c.is_any_primed_hole.ensures
    ∙ ap (list_any is_primed_hole) c.requires
    ∙ primes_by_nodes p
    ∙ ap (λ b. b && has_prime p) (sym c.if-is_bare.true ∙ c.is_bare.ensures)
