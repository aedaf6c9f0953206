use Rattle.eml_instances.proofs.listing.add_typed.Goals as goal

pub add_side-requires-clause-search : goal.add_side-requires-clause-search
add_side-requires-clause-search g c =
    record { bindings = c.in_ok-all.ensures.bindings; locals = c.in_ok-all.ensures.locals }
