use Rattle.std.proofs.Common.{◌≡◌, ◌∷◌, [], length, map, sym, ap, ◌∙◌, arith}
use Rattle.std.proofs.lemmas.List.{length-map, map-append}
use Rattle.mpy_scopes.specs.Seen.{name_of}
use Rattle.mpy_scopes.proofs.Positions.{place_more}
use Rattle.mpy_scopes.proofs.index.Index.and.Goals as goal

pub invariant_of-result : goal.invariant_of-result
invariant_of-result c =
    let items = c.args.self.names.items in
    let count : c.len.result ≡ length items = omega arith in
    record {
      linked = λ q. place_more (map name_of items) (map name_of c.push.new.self.items) c.args.x.now c.bytes.result.now q.now c.len.result _ _
          (c.in_ok-insert.ensures.updates.0 q) c.bytes.ensures (count ∙ sym (length-map items name_of)) (c.args.self.linked q) c.requires
          (ap (map name_of) c.in_ok-push.ensures.items ∙ map-append name_of items (c.args.x ∷ []));
    }
