-- How a list and a text are repeated, or are too long for it.
use Rattle.mpy_tree.proofs.Copies.{list_repeated, list_too_long, text_repeated, text_too_long}

pub ruleset lists = (list_repeated, list_too_long)

pub ruleset texts = (text_repeated, text_too_long)
