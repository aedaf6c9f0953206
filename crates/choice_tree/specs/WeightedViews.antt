-- What the code's weighted trees are as mathematics: one step for each kind of node.
use Rattle.std.specs.Prelude.{ℕ, Bool, true, false, List, [], ◌∷◌, Option, Some, None}
use Rattle.choice_tree.specs.declared.tree.WExpr.{WExpr}
use Rattle.choice_tree.specs.declared.tree.WExprs.{WExprs}
use Rattle.choice_tree.specs.declared.tree.Other.{Other}
use Rattle.choice_tree.specs.declared.tree.Others.{Others}
use Rattle.choice_tree.specs.declared.tree.WExpr.TheOpen as F
use Rattle.choice_tree.specs.declared.tree.WExpr.TheFolds.{fold-WExpr, fold-WExprs, fold-Other}
use Rattle.choice_tree.specs.declared.tree.WExpr.TheFolds.{fold-Others}
use Rattle.mpy_tree.specs.Trees as kind
use Rattle.choice_tree.specs.WeightedTrees as W
use Rattle.choice_tree.specs.WeightedTrees.{Weighted, Weighteds, plainly, no_weighted, weighted_and}
use Rattle.choice_tree.specs.WeightedTrees.{no_others, other_and}

-- a member besides the base
pub record Member : Type 0 where
  pub rule : ℕ
  pub cost : ℕ
  pub tree : Weighted

abbrev pub weighteds : List Weighted → Weighteds
weighteds [] = no_weighted
weighteds (w ∷ ws) = weighted_and w (weighteds ws)

abbrev pub members : List Member → W.Others
members [] = no_others
members (m ∷ ms) = other_and m.rule m.cost m.tree (members ms)

abbrev pub one : Weighted → Weighteds
one w = weighted_and w no_weighted

abbrev pub two : Weighted → Weighted → Weighteds
two a b = weighted_and a (one b)

-- an end of a slice, which may be missing, before other parts
abbrev pub end_and : {B : Type 0} → (B → Weighted) → Option B → Weighteds → Weighteds
end_and f None ws = ws
end_and f (Some b) ws = weighted_and (f b) ws

abbrev pub has_end : {B : Type 0} → Option B → Bool
has_end None = false
has_end (Some b) = true

abbrev pub wexpr_step : F.WExpr-F Weighted Member W.Others Weighteds → Weighted
wexpr_step (F.Int n) = plainly (kind.Int n) no_weighted
wexpr_step (F.Bool b) = plainly (kind.Bool b) no_weighted
wexpr_step (F.Text t) = plainly (kind.Text t) no_weighted
wexpr_step (F.Name x) = plainly (kind.Name x) no_weighted
wexpr_step (F.List es) = plainly kind.List es
wexpr_step (F.Neg e) = plainly kind.Neg (one e.value)
wexpr_step (F.Not e) = plainly kind.Not (one e.value)
wexpr_step (F.Arith op a b) = plainly (kind.Arith op) (two a.value b.value)
wexpr_step (F.Cmp op a b) = plainly (kind.Cmp op) (two a.value b.value)
wexpr_step (F.And a b) = plainly kind.And (two a.value b.value)
wexpr_step (F.Or a b) = plainly kind.Or (two a.value b.value)
wexpr_step (F.Cond t y n) = plainly kind.Cond (weighted_and y.value (two t.value n.value))
wexpr_step (F.Index a b) = plainly kind.Index (two a.value b.value)
wexpr_step (F.Slice a f t) =
    plainly (kind.Slice (has_end f) (has_end t))
    (weighted_and a.value (end_and (λ b. b.value) f (end_and (λ b. b.value) t no_weighted)))
wexpr_step (F.Call x es) = plainly (kind.Call x) es
wexpr_step (F.Pick number base others) = W.pick number base.value others

abbrev pub wexprs_step : F.WExprs-F Weighted Member W.Others Weighteds → Weighteds
wexprs_step es = weighteds es.items.items

abbrev pub other_step : F.Other-F Weighted Member W.Others Weighteds → Member
other_step o = record { rule = o.rule; cost = o.cost; tree = o.tree }

abbrev pub others_step : F.Others-F Weighted Member W.Others Weighteds → W.Others
others_step os = members os.items.items

abbrev pub weighted_of : WExpr → Weighted
weighted_of =
    fold-WExpr Weighted Member W.Others Weighteds wexpr_step other_step others_step wexprs_step

abbrev pub weighteds_of : WExprs → Weighteds
weighteds_of =
    fold-WExprs Weighted Member W.Others Weighteds wexpr_step other_step others_step wexprs_step

abbrev pub member_seen : Other → Member
member_seen =
    fold-Other Weighted Member W.Others Weighteds wexpr_step other_step others_step wexprs_step

abbrev pub others_of : Others → W.Others
others_of =
    fold-Others Weighted Member W.Others Weighteds wexpr_step other_step others_step wexprs_step
