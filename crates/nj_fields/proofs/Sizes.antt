-- How many values a list has.
use Rattle.std.proofs.lemmas.List.{length-map}
use Rattle.serde_json.proofs.Views.{items_len-items_view}

pub ruleset sizes = (items_len-items_view, length-map)
