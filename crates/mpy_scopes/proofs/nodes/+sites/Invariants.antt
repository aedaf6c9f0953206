use Rattle.std.proofs.Common.{◌≡◌, ◌++◌, map, drop}
use Rattle.mpy_tree.specs.View.{statement_of, branch_of, block, branches, block_of, branches_of}
use Rattle.mpy_tree.specs.Sites.{sites, in_arms}
use Rattle.mpy_scopes.specs.Seen.{site_of}
use Rattle.mpy_scopes.proofs.nodes.+sites.Given as goal

-- with the statements that are left, those so far are all
abbrev pub invariant-push_sites-loop-s : goal.invariant-push_sites-loop-s
invariant-push_sites-loop-s l =
    map site_of l.fn.out.items ++ sites (block_of l.b)
    ≡ map site_of l.out.items ++ sites (block (map statement_of (drop l.s-index l.s-items)))

abbrev pub invariant-push_arms-loop-arm : goal.invariant-push_arms-loop-arm
invariant-push_arms-loop-arm l =
    map site_of l.fn.out.items ++ in_arms (branches_of l.arms)
    ≡ map site_of l.out.items ++ in_arms (branches (map branch_of (drop l.arm-index l.arm-items)))
