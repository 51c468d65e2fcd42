-- What the root of a tree tells in valid queues: the first-chosen child and the smallest key.
use Prim.Native.Nat.{ℕ, ◌+◌, ◌<◌}
use mathlib.Core.Path.{◌≡◌, sym, ◌∙◌}
use mathlib.Core.Logic.{◌≢◌}
use mathlib.Core.List.{List}
use native.Mathlib.Omega.{arith}
use lib.ListN.{length}
use Rattle.indices.specs.Columns.{at}
use Rattle.sheet.specs.Words.{top}
use Rattle.procedure.specs.Division.{Division, regions}
use Rattle.procedure.specs.Queues.{min_item}
use Rattle.procedure.proofs.Choice.{min_key_item, min_key_none}
use Rattle.theory.proofs.Chosen.{Child}
use Rattle.run_arrays.specs.Rows.{field}
use Rattle.run_arrays.specs.Trees.{entry_of, entry, child_count, Numbered, QueuesOk}
use Rattle.run_arrays.proofs.trees.Seats.{tree_room}
use Rattle.run_queue.specs.First.{FirstEntry}
use Rattle.run_queue.proofs.Entries.{key_in, region_in}
use Rattle.run_queue.proofs.Trees.{min_item_place, min_item_childless}

module _ {d : Division} {rows keys winners : List ℕ} (Q : QueuesOk d rows keys winners) {r : ℕ} (inside : r < regions d) where
  -- its row says that r has no child: key none and region 0
  pub first_none : field rows r 1 ≡ 0 → {e : ℕ} → e ≡ entry_of top 0 → FirstEntry d keys r e
  unfolding top
  first_none none is = record {
    item = rw is (sym no_item);
    key = λ inner own updates. rw is (sym (min_key_none d (record { own = own; keys = keys; updates = updates }) r inner no_item));
  }
    where
      no_item : min_item d keys r ≡ 0
      no_item = min_item_childless Q r (sym (Q.seated.laid.planned.counted.counts r inside) ∙ none)

  -- it says that r has some, and where r's tree begins
  module _ (some : field rows r 1 ≢ 0) {start : ℕ} (row : start ≡ field rows r 2) where
    count_some : 0 < child_count d r
    count_some = omega (arith, Q.seated.laid.planned.counted.counts r inside)

    -- the first-chosen child stands at place 1
    pub first_in : start + 1 < length winners
    first_in = omega (arith, row, Q.seated.laid.planned.starts r inside, count_some, tree_room d r, Q.seated.laid.room)

    child : Child d r (min_item d keys r)
    child = (min_item_place Q r count_some).0

    held : at winners (start + 1) ≡ entry d keys (min_item d keys r)
    held = rw (row, Q.seated.laid.planned.starts r inside) (min_item_place Q r count_some).1

    abbrev N : Numbered d
    N = Q.seated.laid.planned.counted.numbered

    pub first_some : FirstEntry d keys r (at winners (start + 1))
    first_some = record {
      item = region_in N keys _ child.in_range held;
      key =
          λ inner own updates.
          key_in N keys _ child.in_range held ∙ min_key_item d (record { own = own; keys = keys; updates = updates }) r inner child.positive;
    }
