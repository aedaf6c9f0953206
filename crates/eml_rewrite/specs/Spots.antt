-- What the code's places are as mathematics.
use Rattle.std.specs.Prelude.{map}
use Rattle.mpy_tree.specs.View.{routine_of}
use Rattle.mpy_tree.specs.Rules.{single}
use Rattle.mpy_types.specs.declared.known.Known as known
use Rattle.choice_tree.specs.Contexts as context
use Rattle.choice_tree.specs.Contexts.{Setting, Context, apart, shared, copied, setting_with}
use Rattle.choice_tree.specs.RuleViews.{corrections_of}
use Rattle.eml_instances.specs.Scopes.{scope_of}
use Rattle.eml_rewrite.specs.declared.sharing.Sharing.{Sharing}
use Rattle.eml_rewrite.specs.declared.sharing.Sharing.TheVariants as sharing
use Rattle.eml_rewrite.specs.declared.spot.Spot.{Spot}

abbrev pub sharing_of : Sharing → context.Sharing
sharing_of sharing.Apart = apart
sharing_of sharing.Shared = shared
sharing_of sharing.Copied = copied

-- the rules, the program and the facts of a place
abbrev pub setting_at : {K : Type 0} {G : known.Ghosts K} → Spot K G → Setting
setting_at {G = G} s =
    setting_with (corrections_of s.rules.now) (map routine_of s.scope.now.scopes.now.funcs.now)
    (single (G.gives s.scope.now.known.now))

abbrev pub context_at : {K : Type 0} {G : known.Ghosts K} → Spot K G → Context
context_at {G = G} s =
    record {
      scope =
          scope_of (G.gives s.scope.now.known.now) s.scope.now.scopes.now.funcs.now
          s.scope.now.number;
      sharing = sharing_of s.sharing;
    }
