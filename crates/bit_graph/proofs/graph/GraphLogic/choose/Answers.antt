use Rattle.std.proofs.Common.{◌≡◌, subst}
use Rattle.bit_graph.specs.Rules.{GainsXor}
use Rattle.bit_graph.proofs.graph.GraphLogic.choose.Goals as goal

pub and-requires-clause-left : goal.and-requires-clause-left
and-requires-clause-left c = record { below = (c.in-Both.ensures.below _ _ c.requires.test.below c.requires.yes.below c.requires.no.below).0 }

pub and-requires-clause-right : goal.and-requires-clause-right
and-requires-clause-right c = record { below = (c.in-Both.ensures.below _ _ c.requires.test.below c.requires.yes.below c.requires.no.below).1 }

pub and-requires-in-NotBoth-clause-left : goal.and-requires-in-NotBoth-clause-left
and-requires-in-NotBoth-clause-left c = record { below = (c.in-NotBoth.ensures.below _ _ c.requires.test.below c.requires.yes.below c.requires.no.below).0 }

pub and-requires-in-NotBoth-clause-right : goal.and-requires-in-NotBoth-clause-right
and-requires-in-NotBoth-clause-right c = record { below = (c.in-NotBoth.ensures.below _ _ c.requires.test.below c.requires.yes.below c.requires.no.below).1 }

pub xor-requires-clause-left : goal.xor-requires-clause-left
xor-requires-clause-left c = record { below = (c.in-Alike.ensures.below _ _ c.requires.test.below c.requires.yes.below c.requires.no.below).0 }

pub xor-requires-clause-right : goal.xor-requires-clause-right
xor-requires-clause-right c = record { below = (c.in-Alike.ensures.below _ _ c.requires.test.below c.requires.yes.below c.requires.no.below).1 }

pub join-requires-clause-test : goal.join-requires-clause-test
join-requires-clause-test c = record { below = (c.in-Join.ensures.below _ _ c.requires.test.below c.requires.yes.below c.requires.no.below).0 }

pub join-requires-clause-yes : goal.join-requires-clause-yes
join-requires-clause-yes c = record { below = (c.in-Join.ensures.below _ _ c.requires.test.below c.requires.yes.below c.requires.no.below).1 }

pub join-requires-clause-no : goal.join-requires-clause-no
join-requires-clause-no c = record { below = (c.in-Join.ensures.below _ _ c.requires.test.below c.requires.yes.below c.requires.no.below).2 }

pub returns-in-Is-clause-owned : goal.returns-in-Is-clause-owned
returns-in-Is-clause-owned c = record { below = c.in-Is.ensures.below _ _ c.requires.test.below c.requires.yes.below c.requires.no.below }

pub returns-in_ok-one-in-Alike-clause-opposite_arms : goal.returns-in_ok-one-in-Alike-clause-opposite_arms
returns-in_ok-one-in-Alike-clause-opposite_arms c h =
    let e = c.in-Alike.ensures.opposite_arms h in
    let test : c.in-Alike.a ≡ c.args.c = cc in
    let arm : c.in-Alike.b ≡ c.args.yes = cc in
    let g = c.args.self.now in
    let new = c.xor.new.self in
    subst (λ x. GainsXor g x c.args.yes new) test (subst (λ y. GainsXor g c.in-Alike.a y new) arm c.in_ok-one-in-Alike.ensures.gains)
