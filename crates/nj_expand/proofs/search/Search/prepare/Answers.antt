-- What the keys of the fresh rows make of the table.
use Rattle.std.proofs.Common.{◌≡◌, ◌+◌, ℕ, List, length, refl, sym, ap, ◌∙◌, subst, arith}
use Rattle.std.specs.List.Sorted.{IsPermutation}
use Rattle.std.proofs.lemmas.List.{length-map}
use Rattle.std.proofs.lemmas.List.Sorted.{IsPermutation-map, IsPermutation-sym}
use Rattle.nj_search_defs.specs.Order.{in_order}
use Rattle.nj_rows.specs.declared.Row.{Row}
use Rattle.nj_rows.specs.Order.{is_row_before}
use Rattle.nj_seen.specs.Held.{keys_in_rows}
use Rattle.nj_expand.specs.Held.{Held}
use Rattle.nj_expand.specs.Ending.{fresh_rows_in}
use Rattle.nj_expand.proofs.Filed.{next_keys}
use Rattle.nj_expand.proofs.search.Search.prepare.Goals as goal

pub overflow_add-count : goal.overflow_add-count
overflow_add-count c =
    let few = c.requires.left.few in
    let long = c.len.ensures in
    let within = c.in_ok-keys.keys.ok in
    let small = c.in_ok-keys.keys.small in
    omega (arith, few, long, within.1, small)

pub new_table-requires-clause-keys : goal.new_table-requires-clause-keys
new_table-requires-clause-keys c =
    let now : Held = c.args.self.now in
    let keys : c.in_ok-keys.keys.items ≡ keys_in_rows c.args.fresh.items =
    c.in_ok-keys.ensures ∙ ap keys_in_rows c.as_slice.ensures.value in
    subst (λ (keys : List ℕ). IsPermutation (keys_in_rows (fresh_rows_in now)) keys) (sym keys)
    (IsPermutation-map (λ (row : Row). row.key) (fresh_rows_in now) c.args.fresh.items
    (IsPermutation-sym c.args.fresh.items (fresh_rows_in now) c.requires.fresh))

pub returns : goal.returns
returns c =
    let now : Held = c.args.self.now in
    let order : in_order is_row_before c.args.fresh.items ≡ in_order is_row_before (fresh_rows_in now) =
    c.any_order_is_one.ensures c.args.fresh.items (fresh_rows_in now) c.requires.fresh in
    let many : c.len.result ≡ length c.args.fresh.items =
    c.len.ensures ∙ c.in_ok-keys.keys.ok.0 ∙ ap length c.in_ok-keys.ensures
    ∙ length-map c.as_slice.result.now (λ (row : Row). row.key) ∙ ap length c.as_slice.ensures.value in
    record {
      fresh = order;
      table = c.in_ok-table.ensures;
      keys = next_keys now c.args.left _ c.args.fresh.items c.requires.left order refl
          (ap (λ n. c.args.left.count + n) many);
    }
