use Rattle.std.proofs.Common.{◌≡◌, ◌∷◌, [], ◌++◌, ◌<◌, ◌^◌, length, suc, subst, sym, arith}
use Rattle.cost_levels.specs.Plans.{at_pick}
use Rattle.cost_levels.specs.Rows.{Shows}
use Rattle.cost_levels.proofs.Tables.{shows_row}
use Rattle.cost_levels.proofs.rows.push_row.Goals as goal

pub returns-clause-shown : goal.returns-clause-shown
returns-clause-shown c base ws shows ways =
    let rows = c.args.rows.now.items in
    let row = c.args.row in
    let all : c.push.new.self.items ≡ rows ++ row ∷ [] = c.in_ok-push.ensures.items in
    let few : length row.others.items < 2 ^ 32 =
    let most = c.if-len.false in let long = c.len.ensures in omega (arith, most, long) in
    let entry : c.len-2.result ≡ suc (length rows) =
    let len = c.len-2.ensures in let pushed = c.in_ok-push.ensures.len in omega (arith, len, pushed) in
    subst (λ n. Shows c.push.new.self.items n (at_pick row.number base ws)) (sym entry)
    (subst (λ rs. Shows rs (suc (length rows)) (at_pick row.number base ws)) (sym all)
    (shows_row rows row base ws few shows ways))
