use Rattle.std.proofs.Common.{inl, inr, arith}
use Rattle.cegis_loop.proofs.Ending.{found_whole, closes, closing_spent}
use Rattle.cegis_loop.proofs.closing.close.Goals as goal
use Rattle.cegis_loop.proofs.closing.close.Goals.{then-cost-eq0-via-then-cost-eq0, then-cost-eq0-via-else-cost-eq0+then-kept-ruled}

pub returns-then-cost-eq0-clause-answer : goal.returns-then-cost-eq0-clause-answer
returns-then-cost-eq0-clause-answer g c =
    let topic = g.Q.Questions.topic c.args.q.now in
    let r = c.requires in
    found_whole (g.Q.Questions.space topic) (g.Q.Questions.seen c.args.q.now) c.args.choice c.args.cost c.args.ruled r.answer
    (elim c.then-cost-eq0.branch [
      | then-cost-eq0-via-then-cost-eq0 w ↦ inl w.if-cost-eq0.true
      | then-cost-eq0-via-else-cost-eq0+then-kept-ruled w ↦ inr (let p = w.if-kept-ruled.true in let q = r.kept in omega arith)
    ]) r.ruled

pub returns-in-Nothing-clause-answer : goal.returns-in-Nothing-clause-answer
returns-in-Nothing-clause-answer g c =
    let topic = g.Q.Questions.topic c.args.q.now in
    let r = c.requires in
    let f = c.in-Nothing.ensures in
    closes (g.Q.Questions.space topic) (g.Q.Questions.seen c.args.q.now) (g.Q.Questions.seen c.propose.new.self) c.args.choice c.args.cost c.args.ruled r.answer
    (let p = c.if-cost-eq0.false in omega arith) (let p = c.if-kept-ruled.false in let q = r.kept in omega arith) r.ruled f.kept f.asked

pub returns-in-Spent-clause-answer : goal.returns-in-Spent-clause-answer
returns-in-Spent-clause-answer g c =
    let topic = g.Q.Questions.topic c.args.q.now in
    let r = c.requires in
    let f = c.in-Spent.ensures in
    closing_spent (g.Q.Questions.space topic) (g.Q.Questions.seen c.args.q.now) (g.Q.Questions.seen c.propose.new.self) c.args.choice c.args.cost c.args.ruled r.answer
    (let p = c.if-cost-eq0.false in omega arith) (let p = c.if-kept-ruled.false in let q = r.kept in omega arith) r.ruled f.kept f.asked
