-- `write_form` meets its contract: the usual words fill the front, and the key words what is behind it.
use Prim.Native.Nat.{ℕ, ◌≤◌}
use mathlib.Core.Path.{◌≡◌, sym, subst, ◌∙◌}
use mathlib.Core.List.{List, ◌++◌}
use native.Mathlib.Nat.{le_refl}
use native.Mathlib.Omega.{arith}
use lib.ListN.{length, take, drop}
use lib.Seq.{length-take-le}
use Rattle.run_table.specs.Finish.{NodesFit}
use Rattle.run_table.proofs.Stages.{whole_long, rest_long, form_written}
use Rattle.run_table.proofs.write_form.Goals as goal

pub table_length-front-requires : goal.table_length-front-requires
table_length-front-requires c = c.requires.nodes.few

pub overflow_sub-arcs : goal.overflow_sub-arcs
overflow_sub-arcs c =
    let front : ℕ = c.table_length-front.result in
    let lent : List ℕ = c.args.table.now in
    let room : front ≤ length lent = omega (arith, c.table_length-front.ensures, c.requires.room) in
    room

pub slice_bounds-write_nodes-end : goal.slice_bounds-write_nodes-end
slice_bounds-write_nodes-end c =
    let front : ℕ = c.table_length-front.result in
    let lent : List ℕ = c.args.table.now in
    let room : front ≤ length lent = omega (arith, c.table_length-front.ensures, c.requires.room) in
    room

pub slice_bounds-write_nodes-end-2 : goal.slice_bounds-write_nodes-end-2
slice_bounds-write_nodes-end-2 c =
    let front : ℕ = c.table_length-front.result in
    let lent : List ℕ = c.args.table.now in
    let room : front ≤ length lent = omega (arith, c.table_length-front.ensures, c.requires.room) in
    sym (length-take-le _ _ room)

pub write_nodes-requires : goal.write_nodes-requires
write_nodes-requires c =
    let front : ℕ = c.table_length-front.result in
    let lent : List ℕ = c.args.table.now in
    let room : front ≤ length lent = omega (arith, c.table_length-front.ensures, c.requires.room) in
    let a = c.args in
    let long = length-take-le front lent room ∙ c.table_length-front.ensures in
    subst (λ (words : ℕ). NodesFit a.run.now a.n words) (sym long) c.requires.nodes

pub own_keys_of-requires : goal.own_keys_of-requires
own_keys_of-requires c = omega (arith, c.table_length-front.ensures, c.requires.few)

pub offset_bounds-table-front : goal.offset_bounds-table-front
offset_bounds-table-front c = omega (arith, c.table_length-front.ensures, c.requires.nodes.few)

pub slice_bounds-write_keys-count : goal.slice_bounds-write_keys-count
slice_bounds-write_keys-count c =
    let front : ℕ = c.table_length-front.result in
    let lent : List ℕ = c.args.table.now in
    let room : front ≤ length lent = omega (arith, c.table_length-front.ensures, c.requires.room) in
    let usual : List ℕ = c.write_nodes.new.table in
    let as_many : length usual ≡ length (take front lent) = c.write_nodes.auto.table in
    let behind : front ≤ length (usual ++ drop front lent) = omega (arith, room, whole_long front lent usual room as_many) in
    behind

pub slice_bounds-write_keys-start : goal.slice_bounds-write_keys-start
slice_bounds-write_keys-start c =
    let front : ℕ = c.table_length-front.result in
    let lent : List ℕ = c.args.table.now in
    let room : front ≤ length lent = omega (arith, c.table_length-front.ensures, c.requires.room) in
    let usual : List ℕ = c.write_nodes.new.table in
    let as_many : length usual ≡ length (take front lent) = c.write_nodes.auto.table in
    let behind : front ≤ length (usual ++ drop front lent) = omega (arith, room, whole_long front lent usual room as_many) in
    behind

pub slice_bounds-write_keys-end : goal.slice_bounds-write_keys-end
slice_bounds-write_keys-end c = le_refl _

pub write_keys-requires : goal.write_keys-requires
write_keys-requires c =
    let front : ℕ = c.table_length-front.result in
    let lent : List ℕ = c.args.table.now in
    let room : front ≤ length lent = omega (arith, c.table_length-front.ensures, c.requires.room) in
    let usual : List ℕ = c.write_nodes.new.table in
    let as_many : length usual ≡ length (take front lent) = c.write_nodes.auto.table in
    omega (arith, rest_long front lent usual room as_many, c.own_keys_of.ensures.1)

-- THE WHOLE
pub returns : goal.returns
returns c =
    let front : ℕ = c.table_length-front.result in
    let lent : List ℕ = c.args.table.now in
    let room : front ≤ length lent = omega (arith, c.table_length-front.ensures, c.requires.room) in
    let usual : List ℕ = c.write_nodes.new.table in
    let as_many : length usual ≡ length (take front lent) = c.write_nodes.auto.table in
    form_written front lent usual room as_many c.args.run.now.keys.own
    c.table_length-front.ensures c.write_nodes.ensures c.write_keys.ensures c.own_keys_of.ensures.0
