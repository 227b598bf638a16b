-- How long a list is whose elements are made of another's.
use Rattle.std.proofs.lemmas.List.{length-map}

pub ruleset sizes = (length-map)
